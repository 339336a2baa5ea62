-- Document 01, "Messages": RECEIVE, AWAITMESSAGE and CLEARMESSAGE.
use Rattle.std.specs.Prelude.{not, List, [], ◌∷◌, ℕ, eqb}
use Rattle.common.specs.Choice.{pick}
use Rattle.common.specs.Fold.{fold_of}
use Rattle.process.specs.declared.Process.{Process}
use Rattle.process.specs.declared.Target.{Target}
use Rattle.process.specs.declared.Taken.{Taken}
use Rattle.process.specs.declared.states.Cause.TheVariants.{WaitForMessage}
use Rattle.process.specs.Process.{moved_of, taken_of, is_known}
use Rattle.table.specs.declared.answers.Answer.TheVariants.{ReceiverUnknown, BufferEmpty, Suspended}
use Rattle.table.specs.declared.configs.Config.{Config}
use Rattle.table.specs.declared.Table.{Table}
use Rattle.table.specs.Configuration.{receiver_of}
use Rattle.calls.specs.declared.Decided.{Decided}
use Rattle.calls.specs.Decisions.{decided, decided_by}
use Rattle.calls.specs.Effects.{Effect, nothing, message, done, suspended, carrying}
use Rattle.calls.specs.Levels.{process_of, with_process, with_processes, moving}
use Rattle.table.specs.Answers.{told_as}
use Rattle.calls.specs.Verdicts.{Checked, Check, check, after, by_caller, called}
use Rattle.messages.specs.Receivers.{receivers_of, cleared_at}

-- "With each message handed over, .., one mark is told and cleared"
abbrev pub taken : Table → ℕ → Taken → Effect
taken t caller x = carrying (told_as x.told) (message x.message) (with_process t caller x.process)

unfoldable pub taking_of : Table → ℕ → Effect
taking_of t caller = taken t caller (taken_of (process_of t caller))

-- of RECEIVE, on the caller's record: 4
abbrev pub receive_checks : Process → List Check
receive_checks p = check (not (eqb p.buffer.list.count 0)) BufferEmpty ∷ []

-- "RECEIVE: oldest message, or 4." "Number 4 clears no mark."
unfoldable pub receive_of : Table → ℕ → Effect
receive_of t caller = called t caller (receive_checks (process_of t caller)) (taking_of t caller)

-- "AWAITMESSAGE: oldest message, or 32 and WM."
unfoldable pub await_message_of : Table → ℕ → Effect
await_message_of t caller =
    called t caller []
    (pick (eqb (process_of t caller).buffer.list.count 0) (suspended (moving t caller WaitForMessage)) (taking_of t caller))

-- whoever is named, one after the other
unfoldable pub cleared_for : Config → Target → List Process → List Process
cleared_for c target processes = fold_of cleared_at processes (receivers_of c target)

-- "CLEARMESSAGE: -1 or a level, else 1; empties buffers, leaves marks."
unfoldable pub clear_message_of : Table → ℕ → ℕ → Effect
clear_message_of t caller receiver =
    called t caller
    (check (is_known (receiver_of t.config receiver)) ReceiverUnknown
    ∷ [])
    (done (with_processes t (cleared_for t.config (receiver_of t.config receiver) t.processes)))

-- ---- how the code comes to that

-- 10, 33, 1: the checks of SEND and CLEARMESSAGE, which name receivers
abbrev pub named_checked : Config → Process → ℕ → Target → Checked
named_checked c p caller target = after (by_caller c p caller) (check (is_known target) ReceiverUnknown ∷ [])

-- RECEIVE and AWAITMESSAGE change the caller's record alone: what they come to is decided on it

abbrev pub took_of : Process → Decided Process
took_of p = decided (told_as (taken_of p).told) (message (taken_of p).message) (taken_of p).process

unfoldable pub received_of : Config → Process → ℕ → Decided Process
received_of c p caller = decided_by (after (by_caller c p caller) (receive_checks p)) p (took_of p)

unfoldable pub awaited_of : Config → Process → ℕ → Decided Process
awaited_of c p caller =
    decided_by (by_caller c p caller) p
    (pick (eqb p.buffer.list.count 0) (decided Suspended nothing (moved_of p WaitForMessage)) (took_of p))
