-- Document 01, "States" and "Messages": one process's record, and how a message reaches it.
use Rattle.std.specs.Prelude.{Bool, true, false, ℕ, Option, Some, None}
use Rattle.process.specs.States.{next_of}
use Rattle.process.specs.Messages.{empty_of, put_of, oldest_of, rest_of}
use Rattle.process.specs.Marks.{marks_of, tell_of}
use Rattle.process.specs.declared.states.State.{State}
use Rattle.process.specs.declared.states.State.TheVariants.{Inactive}
use Rattle.process.specs.declared.states.Cause.{Cause}
use Rattle.process.specs.declared.buffers.Message.{Message}
use Rattle.process.specs.declared.buffers.Buffer.{Buffer}
use Rattle.process.specs.declared.marking.Marks.{Marks}
use Rattle.process.specs.declared.Process.{Process}
use Rattle.process.specs.declared.Condition.{Condition}
use Rattle.process.specs.declared.Condition.TheVariants.{Always, Waiting}
use Rattle.process.specs.declared.Fate.{Fate}
use Rattle.process.specs.declared.Fate.TheVariants.{Handed, Stored, NotWaiting, Full}
use Rattle.process.specs.declared.Taken.{Taken}
use Rattle.process.specs.declared.Target.{Target}
use Rattle.process.specs.declared.Target.TheVariants.{All, Level, Unknown}

abbrev pub process_of : State → ℕ → Marks → Buffer → Process
process_of state priority marks buffer = record { state = state; priority = priority; marks = marks; buffer = buffer }

-- "Fresh: every process INACT, priority 32, buffers .. empty, .. marks .. clear"
abbrev pub fresh_of : Process
fresh_of = process_of Inactive 32 (marks_of false false) empty_of

-- in the next state, if there is one
abbrev pub moved_to : Option State → Process → Process
moved_to None p = p
moved_to (Some state) p = process_of state p.priority p.marks p.buffer

unfoldable pub moved_of : Process → Cause → Process
moved_of p cause = moved_to (next_of p.state cause) p

-- "SETPRIORITY changes the caller's priority, .., and nothing more in its record"
abbrev pub with_priority_of : Process → ℕ → Process
with_priority_of p priority = process_of p.state priority p.marks p.buffer

-- "CLEARMESSAGE: .. empties buffers, leaves marks"
abbrev pub cleared_of : Process → Process
cleared_of p = process_of p.state p.priority p.marks empty_of

-- "Number 3 sets the receiver's overflow mark"
abbrev pub overflow_marked_of : Process → Process
overflow_marked_of p = process_of p.state p.priority (marks_of true p.marks.time) p.buffer

-- "sets the receiver's time mark"
abbrev pub time_marked_of : Process → Process
time_marked_of p = process_of p.state p.priority (marks_of p.marks.overflow true) p.buffer

-- a message at a process: what became of it, and the process afterwards
pub record Delivery : Type 0 where
  pub fate : Fate
  pub process : Process

abbrev pub delivery : Fate → Process → Delivery
delivery fate p = record { fate = fate; process = p }

-- "handed to it at once and wakes it", and "with each message handed over, also at a wake, one mark is told and cleared"
unfoldable pub handed_of : Process → State → Delivery
handed_of p state = record {
  fate = Handed (tell_of p.marks).told;
  process = process_of state p.priority (tell_of p.marks).marks p.buffer;
}

-- with the buffer that keeps the message, if a place was left for it
abbrev pub stored_as : Process → Option Buffer → Delivery
stored_as p (Some kept) = record { fate = Stored; process = process_of p.state p.priority p.marks kept }
stored_as p None = record { fate = Full; process = p }

-- "handed, or stored, or 3"
unfoldable pub stored_of : Process → ℕ → Message → Delivery
stored_of p places m = stored_as p (put_of p.buffer places m)

-- a message for a process that does not wait for one: "WAITING and not in WM gives 2"
abbrev pub kept_of : Process → Condition → ℕ → Message → Delivery
kept_of p Always places m = stored_of p places m
kept_of p Waiting places m = record { fate = NotWaiting; process = p }

abbrev pub deliver_to : Option State → Process → Condition → ℕ → Message → Delivery
deliver_to (Some state) p condition places m = handed_of p state
deliver_to None p condition places m = kept_of p condition places m

-- "A message for a process in WM is handed to it at once and wakes it; a buffer is never filled while its owner is in WM."
unfoldable pub deliver_of : Process → Condition → ℕ → Message → Delivery
deliver_of p condition places m = deliver_to (next_of p.state Cause.Message) p condition places m

-- "RECEIVE: oldest message", and "with each message handed over .. one mark is told and cleared"
unfoldable pub taken_of : Process → Taken
taken_of p = record {
  told = (tell_of p.marks).told;
  message = oldest_of p.buffer;
  process = process_of p.state p.priority (tell_of p.marks).marks (rest_of p.buffer);
}

-- somebody is named: all, or one level
abbrev pub is_known : Target → Bool
is_known All = true
is_known (Level level) = true
is_known Unknown = false
