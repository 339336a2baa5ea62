-- Document 01: "one call, outside event or clock tick in; the new table, the answer and the wakes out". What a call does, with its wakes as a list;
-- `outcome_of` says how that lies in the code's result.
use Rattle.std.specs.Prelude.{◌≡◌, List, [], ℕ}
use Rattle.inputs.specs.declared.InputSet.{InputSet}
use Rattle.process.specs.declared.buffers.Message.{Message}
use Rattle.table.specs.declared.answers.Answer.{Answer}
use Rattle.table.specs.declared.wakes.Wake.{Wake}
use Rattle.table.specs.declared.Said.{Said}
use Rattle.table.specs.declared.Shown.{Shown}
use Rattle.table.specs.declared.Outcome.{Outcome}
use Rattle.table.specs.declared.Table.{Table}
use Rattle.table.specs.Wakes.{wakes_of}

-- what an answer carries besides its number
pub data Carried : Type 0 where
  nothing : Carried
  message : Message → Carried
  inputs : InputSet → Carried
  number : ℕ → Carried
  -- so many bytes of the pool
  bytes : ℕ → Carried

pub record Effect : Type 0 where
  pub answer : Answer
  pub carried : Carried
  -- who wakes, in order
  pub wakes : List Wake
  -- the table afterwards
  pub table : Table

-- an answer that carries nothing, and who wakes
abbrev pub waking : Answer → List Wake → Table → Effect
waking answer wakes t = record { answer = answer; carried = nothing; wakes = wakes; table = t }

-- "every other refusal changes nothing. A refusal carries no message .., no inputs and .. no wakes": the table as it was
abbrev pub refuse : Table → Answer → Effect
refuse t answer = waking answer [] t

-- document 02, §3: "37 NOTHOLDER with the holder's level, or 255 if free", the one refusal that carries something: the table as it was
abbrev pub refuse_telling : Table → ℕ → Effect
refuse_telling t holder = record { answer = Answer.NotHolder; carried = number holder; wakes = []; table = t }

-- 0 OK, and this table
abbrev pub done : Table → Effect
done t = waking Answer.Ok [] t

-- 32 SUSPENDED: the caller now waits
abbrev pub suspended : Table → Effect
suspended t = waking Answer.Suspended [] t

-- an answer that carries a message, inputs, a number or bytes of the pool, where nobody wakes
abbrev pub carrying : Answer → Carried → Table → Effect
carrying answer carried t = record { answer = answer; carried = carried; wakes = []; table = t }

-- how it lies in the code's result
abbrev pub shown_by : Carried → Shown
shown_by nothing = Shown.Nothing
shown_by (message m) = Shown.Message m
shown_by (inputs set) = Shown.Inputs set
shown_by (number n) = Shown.Number n
shown_by (bytes n) = Shown.Data n

-- the number that is carried; 0 where none is
abbrev pub number_by : Carried → ℕ
number_by nothing = 0
number_by (message m) = 0
number_by (inputs set) = 0
number_by (number n) = n
number_by (bytes n) = n

unfoldable pub outcome_of : Effect → Outcome
outcome_of e = record {
  answer = e.answer;
  shown = shown_by e.carried;
  wakes = wakes_of e.wakes;
  table = e.table;
}

-- what it says, without the table
abbrev pub said_by : Effect → Said
said_by e = record { answer = e.answer; shown = shown_by e.carried; wakes = wakes_of e.wakes }

-- an effect on a table that is changed in place: what is said, and the table that is left
pub record Has (e : Effect) (said : Said) (left : Table) : Type 0 where
  pub says : said ≡ said_by e
  pub leaves : left ≡ e.table
