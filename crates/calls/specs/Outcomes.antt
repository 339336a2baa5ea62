-- The code's results, each by the effect that it is.
use Rattle.std.specs.Prelude.{ℕ}
use Rattle.table.specs.declared.answers.Answer.{Answer}
use Rattle.table.specs.declared.answers.Answer.TheVariants.{Ok}
use Rattle.table.specs.declared.Said.{Said}
use Rattle.table.specs.declared.Shown.{Shown}
use Rattle.table.specs.declared.Outcome.{Outcome}
use Rattle.table.specs.declared.Table.{Table}
use Rattle.table.specs.Wakes.{Wakes}

-- the number and the wakes, and nothing else
unfoldable pub answered_of : Table → Answer → Wakes → Outcome
answered_of t answer wakes = record { answer = answer; shown = Shown.Nothing; wakes = wakes; table = t }

-- the same, without the table
abbrev pub saying : Answer → Wakes → Said
saying answer wakes = record { answer = answer; shown = Shown.Nothing; wakes = wakes }

-- an answer, what it carries, and the wakes
abbrev pub replied_of : Table → Answer → Shown → Wakes → Outcome
replied_of t answer shown wakes = record { answer = answer; shown = shown; wakes = wakes; table = t }

-- 0 with a number, and the wakes
unfoldable pub carries_number : Table → ℕ → Wakes → Outcome
carries_number t n wakes = replied_of t Ok (Shown.Number n) wakes
