-- Document 01, "Messages" and "Timer orders": messages on their way to their receivers, one after the other.
use Rattle.std.specs.Prelude.{Bool, true, false, ◌||◌, List, [], ◌∷◌, ◌++◌, ℕ, set}
use Rattle.common.specs.Choice.{pick}
use Rattle.common.specs.Fold.{fold_of}
use Rattle.process.specs.declared.Condition.{Condition}
use Rattle.process.specs.Process.{Delivery}
use Rattle.process.specs.declared.Fate.{Fate}
use Rattle.process.specs.declared.Fate.TheVariants.{Handed, Stored, NotWaiting, Full}
use Rattle.process.specs.declared.Process.{Process}
use Rattle.process.specs.declared.buffers.Message.{Message}
use Rattle.process.specs.declared.marking.Told.{Told}
use Rattle.process.specs.Process.{overflow_marked_of, time_marked_of, deliver_of}
use Rattle.table.specs.declared.wakes.Wake.{Wake}
use Rattle.table.specs.declared.wakes.Woken.TheVariants.{ByMessage}
use Rattle.table.specs.Wakes.{Wakes, wakes_of, no_wakes_of, wake_push_of}
use Rattle.calls.specs.Levels.{process_at}
use Rattle.posting.specs.declared.Origin.{Origin}
use Rattle.posting.specs.declared.Origin.TheVariants.{Sent, Timed}
use Rattle.posting.specs.declared.Posting.{Posting}

-- a message and whom it is for
pub record Letter : Type 0 where
  pub receiver : ℕ
  pub condition : Condition
  pub message : Message

abbrev pub letter : ℕ → Condition → Message → Letter
letter receiver condition message = record { receiver = receiver; condition = condition; message = message }

-- what became of messages: the processes afterwards, who wakes, in order, and whether a full buffer lost one
pub record Posted : Type 0 where
  pub processes : List Process
  pub wakes : List Wake
  pub full : Bool

abbrev pub is_handed : Fate → Bool
is_handed (Handed told) = true
is_handed Stored = false
is_handed NotWaiting = false
is_handed Full = false

abbrev pub is_full : Fate → Bool
is_full (Handed told) = false
is_full Stored = false
is_full NotWaiting = false
is_full Full = true

abbrev pub is_lost : Fate → Bool
is_lost (Handed told) = false
is_lost Stored = false
is_lost NotWaiting = true
is_lost Full = true

-- "Number 3 sets the receiver's overflow mark"; "ALWAYS hands over or stores, or if full sets the receiver's time mark; WAITING hands over, or if
-- not in WM sets the time mark"
unfoldable pub marked_by : Origin → Fate → Process → Process
marked_by Sent fate p = pick (is_full fate) (overflow_marked_of p) p
marked_by Timed fate p = pick (is_lost fate) (time_marked_of p) p

-- a message at its receiver, with that mark
unfoldable pub delivered_to : Origin → ℕ → Condition → Message → Process → Delivery
delivered_to origin places condition m p = record {
  fate = (deliver_of p condition places m).fate;
  process = marked_by origin (deliver_of p condition places m).fate (deliver_of p condition places m).process;
}

-- a receiver's wake: its message, and what is told with it
abbrev pub message_wake : ℕ → Told → Message → Wake
message_wake level told m = record { level = level; woken = ByMessage told m }

-- "A message for a process in WM is handed to it at once and wakes it"
abbrev pub wake_by : ℕ → Fate → Message → List Wake
wake_by level (Handed told) m = message_wake level told m ∷ []
wake_by level Stored m = []
wake_by level NotWaiting m = []
wake_by level Full m = []

-- a letter at its receiver, who has so many places
abbrev pub delivery_of : ℕ → Letter → List Process → Delivery
delivery_of places x processes = deliver_of (process_at processes x.receiver) x.condition places x.message

-- one letter
unfoldable pub one_of : Origin → ℕ → Letter → List Process → Posted
one_of origin places x processes = record {
  processes = set processes x.receiver (marked_by origin (delivery_of places x processes).fate (delivery_of places x processes).process);
  wakes = wake_by x.receiver (delivery_of places x processes).fate x.message;
  full = is_full (delivery_of places x processes).fate;
}

-- what became of some, and then of others
abbrev pub joined : Posted → Posted → Posted
joined first then = record { processes = then.processes; wakes = first.wakes ++ then.wakes; full = first.full || then.full }

-- letters, one after the other
unfoldable pub all_of : Origin → ℕ → List Letter → List Process → Posted
all_of origin places [] processes = record { processes = processes; wakes = []; full = false }
all_of origin places (x ∷ letters) processes =
    joined (one_of origin places x processes) (all_of origin places letters (one_of origin places x processes).processes)

-- how that lies in the code's arrays: the processes, and beside them what the code keeps of the messages
pub record Delivered : Type 0 where
  pub processes : List Process
  pub wakes : Wakes
  pub full : Bool

abbrev pub delivered_in : List Process → Posting → Delivered
delivered_in processes posting = record { processes = processes; wakes = posting.wakes; full = posting.full }

unfoldable pub posting_of : Posted → Delivered
posting_of posted = record { processes = posted.processes; wakes = wakes_of posted.wakes; full = posted.full }

unfoldable pub begin_of : List Process → Delivered
begin_of processes = record { processes = processes; wakes = no_wakes_of; full = false }

abbrev pub pushed_for : Wakes → ℕ → Fate → Message → Wakes
pushed_for wakes level fate m = fold_of wake_push_of wakes (wake_by level fate m)

-- what became of more messages, after those that were delivered before
unfoldable pub added_of : Delivered → Posted → Delivered
added_of so_far posted = record {
  processes = posted.processes;
  wakes = fold_of wake_push_of so_far.wakes posted.wakes;
  full = so_far.full || posted.full;
}

-- one letter more
unfoldable pub step_of : Origin → ℕ → Delivered → Letter → Delivered
step_of origin places so_far x = added_of so_far (one_of origin places x so_far.processes)
