-- Document 01, "Inputs".
use Rattle.std.specs.Prelude.{Bool, false, ◌&&◌, [], ◌∷◌, ℕ, eqb, leb, ltb, Option, Some, None}
use Rattle.common.specs.Choice.{pick}
use Rattle.inputs.specs.declared.InputSet.{InputSet}
use Rattle.inputs.specs.InputSet.{has_of, insert_of, remove_of, both_of, run_of, count_of}
use Rattle.process.specs.declared.Process.{Process}
use Rattle.process.specs.Process.{moved_of}
use Rattle.process.specs.States.{is_of}
use Rattle.process.specs.declared.states.State.TheVariants.{WaitingForEvent}
use Rattle.process.specs.declared.states.Cause.TheVariants.{WaitForEvent, Event}
use Rattle.table.specs.declared.answers.Answer.TheVariants.{Ok, CommandPrivileged, IllegalInput, Suspended}
use Rattle.table.specs.declared.configs.Config.{Config}
use Rattle.table.specs.declared.configs.Privileged.{Privileged}
use Rattle.table.specs.declared.wakes.Wake.{Wake}
use Rattle.table.specs.declared.wakes.Woken.TheVariants.{ByEvent}
use Rattle.table.specs.declared.Table.{Table}
use Rattle.table.specs.Configuration.{inputs_of, privilege_of, owner_of}
use Rattle.table.specs.Wakes.{no_wakes_of, wakes_of}
use Rattle.calls.specs.declared.Decided.{Decided}
use Rattle.calls.specs.Decisions.{decided, decided_by}
use Rattle.calls.specs.Effects.{Effect, nothing, inputs, refuse, done, suspended, carrying, waking}
use Rattle.calls.specs.Levels.{process_of, with_mask, with_latch, moving}
use Rattle.calls.specs.Verdicts.{Checked, check, after, by_caller, checked, called}
use Rattle.interrupts.specs.declared.AfterEvent.{AfterEvent}

-- "11 ILLIOADDRESS: no such input"
abbrev pub is_input : Table → ℕ → Bool
is_input t input = ltb input (inputs_of t.config)

-- the input is in the run of a privileged place
abbrev pub in_run : Option Privileged → ℕ → Bool
in_run (Some place) input = leb place.first input && leb input place.last
in_run None input = false

-- "the caller owns the input"
abbrev pub owns_input : Config → ℕ → ℕ → Bool
owns_input c level input = in_run (privilege_of c level) input

-- "ENABLE: 11, then 9 unless the caller owns the input; sets its mask bit."
unfoldable pub enable_of : Table → ℕ → ℕ → Effect
enable_of t caller input =
    called t caller
    (check (is_input t input) IllegalInput
    ∷ check (owns_input t.config caller input) CommandPrivileged
    ∷ [])
    (done (with_mask t (insert_of t.mask input)))

-- "DISABLE and RESETINT, by any process: 11; clear the mask bit, clear the latch."
unfoldable pub disable_of : Table → ℕ → ℕ → Effect
disable_of t caller input =
    called t caller
    (check (is_input t input) IllegalInput
    ∷ [])
    (done (with_mask t (remove_of t.mask input)))

unfoldable pub reset_interrupt_of : Table → ℕ → ℕ → Effect
reset_interrupt_of t caller input =
    called t caller
    (check (is_input t input) IllegalInput
    ∷ [])
    (done (with_latch t (remove_of t.latch input)))

-- the inputs of a place with mask bit and latch set
abbrev pub came_with : InputSet → InputSet → Privileged → InputSet
came_with mask latch place = both_of (both_of (run_of place.first place.last) mask) latch

abbrev pub came_of : Table → Privileged → InputSet
came_of t place = came_with t.mask t.latch place

-- "if some own input has mask bit and latch set, answers with all such; otherwise 32 and WE"
unfoldable pub awaiting_of : Table → ℕ → Privileged → Effect
awaiting_of t caller place =
    pick (eqb (count_of (came_of t place)) 0)
    (suspended (moving t caller WaitForEvent))
    (carrying Ok (inputs (came_of t place)) t)

-- "9 unless privileged"
abbrev pub awaiting_by : Option Privileged → Table → ℕ → Effect
awaiting_by (Some place) t caller = awaiting_of t caller place
awaiting_by None t caller = refuse t CommandPrivileged

-- "AWAITINTERRUPT: 9 unless privileged; .."
unfoldable pub await_interrupt_of : Table → ℕ → Effect
await_interrupt_of t caller = called t caller [] (awaiting_by (privilege_of t.config caller) t caller)

-- "An input is open exactly when its owner is in WE and its mask bit is set."
abbrev pub open_of : Table → ℕ → Privileged → Bool
open_of t input place = is_of (process_of t place.level).state WaitingForEvent && has_of t.mask input

-- the owner's wake: "0 1 n", the one input
abbrev pub event_wake : ℕ → ℕ → Wake
event_wake level input = record { level = level; woken = ByEvent (run_of input input) }

-- "An event on an open input wakes the owner with it." The latch stays: "Latches stay until reset."
unfoldable pub opened_of : Table → ℕ → Privileged → Effect
opened_of t input place =
    pick (open_of t input place)
    (waking Ok (event_wake place.level input ∷ []) (moving t place.level Event))
    (done t)

abbrev pub opened_by : Option Privileged → Table → ℕ → Effect
opened_by (Some place) t input = opened_of t input place
opened_by None t input = done t

-- "sets the input's latch"
unfoldable pub latched_of : Table → ℕ → Effect
latched_of t input = opened_by (owner_of t.config input) (with_latch t (insert_of t.latch input)) input

-- "An event (11, else 0) sets the input's latch."
unfoldable pub event_of : Table → ℕ → Effect
event_of t input = checked t (check (is_input t input) IllegalInput ∷ []) (latched_of t input)

-- ---- how the code comes to that: what a call or an event does is decided on the parts that it needs

-- 10, 33, 11: the checks of every call that names an input, of a caller with this record
abbrev pub input_verdict : Config → Process → ℕ → ℕ → Checked
input_verdict c p caller input = after (by_caller c p caller) (check (ltb input (inputs_of c)) IllegalInput ∷ [])

-- 10, 33, 11, 9: those of ENABLE
abbrev pub enable_verdict : Config → Process → ℕ → ℕ → Checked
enable_verdict c p caller input =
    after (by_caller c p caller)
    (check (ltb input (inputs_of c)) IllegalInput
    ∷ check (owns_input c caller input) CommandPrivileged
    ∷ [])

-- AWAITINTERRUPT changes the caller's record alone

unfoldable pub awaiting_for : Process → InputSet → InputSet → Privileged → Decided Process
awaiting_for p mask latch place =
    pick (eqb (count_of (came_with mask latch place)) 0)
    (decided Suspended nothing (moved_of p WaitForEvent))
    (decided Ok (inputs (came_with mask latch place)) p)

abbrev pub awaited_by : Option Privileged → Process → InputSet → InputSet → Decided Process
awaited_by (Some place) p mask latch = awaiting_for p mask latch place
awaited_by None p mask latch = decided CommandPrivileged nothing p

unfoldable pub awaited_of : Config → Process → InputSet → InputSet → ℕ → Decided Process
awaited_of c p mask latch caller = decided_by (by_caller c p caller) p (awaited_by (privilege_of c caller) p mask latch)

-- an event changes the record of the input's owner, besides the latch: where that is a level above 11, the code looks at another's record, and nobody wakes
unfoldable pub opened_for : Process → InputSet → ℕ → ℕ → AfterEvent
opened_for p mask input owner =
    pick (is_of p.state WaitingForEvent && has_of mask input && ltb owner 12)
    (record { process = moved_of p Event; wakes = wakes_of (event_wake owner input ∷ []) })
    (record { process = p; wakes = no_wakes_of })
