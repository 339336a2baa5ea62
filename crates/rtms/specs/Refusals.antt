-- Document 01, "Answer numbers": "Number 3 sets the receiver's overflow mark; every other refusal changes nothing. A refusal carries no message
-- (sixteen zeros), no inputs and, but for a broadcast's 3, no wakes." Document 02, §3: 37 tells the holder's level. So every refusal is the number and nothing
-- else (`Plain`) but two, and each of these is the answer of one call alone: 3 (`Overflowed`) and 37 (`TellsHolder`).
use Rattle.std.specs.Prelude.{◌≡◌, true, ℕ}
use Rattle.process.specs.declared.buffers.Message.{Message}
use Rattle.process.specs.declared.Condition.TheVariants.{Always}
use Rattle.semaphores.specs.Semaphores.{usable_of, holder_of}
use Rattle.posting.specs.Posting.{Posted}
use Rattle.messages.specs.Sending.{send_posted}
use Rattle.table.specs.declared.answers.Answer.TheVariants.{ReceiverBufferOverflow}
use Rattle.table.specs.declared.Outcome.{Outcome}
use Rattle.table.specs.declared.Table.{Table}
use Rattle.table.specs.Answers.{number_of, refusal_of}
use Rattle.table.specs.Configuration.{receiver_of}
use Rattle.calls.specs.Effects.{Effect, refuse, refuse_telling, waking}
use Rattle.calls.specs.Levels.{with_processes}
use Rattle.rtms.specs.Calls.{Call, SEND, RELSEMA, done_by, answer_of}

-- "every other refusal changes nothing": where an effect is a refusal, and neither 3 nor 37, it is the number and nothing else, and the table as it was
unfoldable pub Plain : Table → Effect → Type 0
Plain t effect =
    refusal_of effect.answer ≡ true → (number_of effect.answer ≡ 3 → ⊥) → (number_of effect.answer ≡ 37 → ⊥)
    → effect ≡ refuse t effect.answer

-- what a message that is sent with ALWAYS becomes at its receivers
abbrev pub always : Table → ℕ → Message → Posted
always t receiver m = send_posted t.config (receiver_of t.config receiver) Always m t.processes

-- "Number 3 sets the receiver's overflow mark": it is the answer of a SEND with ALWAYS and of no other call, and the processes afterwards are what
-- the message made of them, with every other part of the table as it was
pub record Overflowed (call : Call) (t : Table) : Type 0 where
  pub caller : ℕ
  pub receiver : ℕ
  pub message : Message
  pub is_send : call ≡ SEND caller receiver Always message
  pub exactly : done_by call t ≡ waking ReceiverBufferOverflow (always t receiver message).wakes (with_processes t (always t receiver message).processes)

-- document 02, §3: "A usable one that the caller doesn't hold gets an answer that tells the holder's level": 37 is the answer of a RELSEMA of a usable number
-- that the caller does not hold and of no other call, it carries the level that holds the number, "or 255 if free", and the table is as it was
pub record TellsHolder (call : Call) (t : Table) : Type 0 where
  pub caller : ℕ
  pub number : ℕ
  pub is_relsema : call ≡ RELSEMA caller number
  pub usable : usable_of number ≡ true
  pub not_its_own : holder_of t.semaphores number ≡ caller → ⊥
  pub exactly : done_by call t ≡ refuse_telling t (holder_of t.semaphores number)

-- an outcome is the result of a call: the promise of every public function
abbrev pub Answers : Call → Table → Outcome → Type 0
Answers call t r = r ≡ answer_of call t
