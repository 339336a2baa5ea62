-- Document 01, "Messages": SEND.
use Rattle.std.specs.Prelude.{List, [], ◌∷◌, map, ℕ, eqb, length}
use Rattle.common.specs.Choice.{pick}
use Rattle.process.specs.declared.buffers.Message.{Message}
use Rattle.process.specs.declared.Condition.{Condition}
use Rattle.process.specs.declared.Condition.TheVariants.{Always, Waiting}
use Rattle.process.specs.declared.Fate.{Fate}
use Rattle.process.specs.declared.Process.{Process}
use Rattle.process.specs.declared.Target.{Target}
use Rattle.process.specs.declared.Target.TheVariants.{All}
use Rattle.process.specs.Process.{is_known}
use Rattle.table.specs.declared.answers.Answer.{Answer}
use Rattle.table.specs.declared.answers.Answer.TheVariants.{Ok, ReceiverUnknown, ReceiverNotReady, ReceiverBufferOverflow}
use Rattle.table.specs.declared.configs.Config.{Config}
use Rattle.table.specs.declared.Table.{Table}
use Rattle.table.specs.Configuration.{receiver_of}
use Rattle.calls.specs.Effects.{Effect, refuse, waking}
use Rattle.calls.specs.Levels.{with_processes}
use Rattle.calls.specs.Verdicts.{check, called}
use Rattle.posting.specs.declared.Origin.TheVariants.{Sent}
use Rattle.posting.specs.Posting.{Letter, letter, Posted, is_handed, is_full, all_of}
use Rattle.messages.specs.Receivers.{receivers_of}

-- the same message for each receiver
abbrev pub letters_of : Config → Target → Condition → Message → List Letter
letters_of c target condition m = map (λ level. letter level condition m) (receivers_of c target)

-- what becomes of them, NP places in each buffer
unfoldable pub send_posted : Config → Target → Condition → Message → List Process → Posted
send_posted c target condition m processes = all_of Sent c.places (letters_of c target condition m) processes

abbrev pub broadcast_posted : Config → Condition → Message → List Process → Posted
broadcast_posted c condition m processes = send_posted c All condition m processes

-- "WAITING serves those in WM and answers 2 if there was none; ALWAYS serves each, and answers 3 if at least one was full (each is marked), the
-- others served all the same", and so for one receiver: "WAITING and not in WM gives 2; otherwise handed, or stored, or 3"
abbrev pub sent_by : Condition → Table → Posted → Effect
sent_by Waiting t posted =
    pick (eqb (length posted.wakes) 0)
    (refuse t ReceiverNotReady)
    (waking Ok posted.wakes (with_processes t posted.processes))
sent_by Always t posted = waking (pick posted.full ReceiverBufferOverflow Ok) posted.wakes (with_processes t posted.processes)

unfoldable pub sent_of : Table → Target → Condition → Message → Effect
sent_of t target condition m = sent_by condition t (send_posted t.config target condition m t.processes)

-- "SEND: receiver -1 or configured, else 1."
unfoldable pub send_of : Table → ℕ → ℕ → Condition → Message → Effect
send_of t caller receiver condition m =
    called t caller
    (check (is_known (receiver_of t.config receiver)) ReceiverUnknown
    ∷ [])
    (sent_of t (receiver_of t.config receiver) condition m)

-- ---- one receiver

-- by what became of its message
abbrev pub sent_answer : Condition → Fate → Answer
sent_answer Waiting fate = pick (is_handed fate) Ok ReceiverNotReady
sent_answer Always fate = pick (is_full fate) ReceiverBufferOverflow Ok
