-- Every call but REQSEMA and RELSEMA leaves the semaphores as they were, and hands none over. Assumes nothing.
use mathlib.Core.Path.{◌≡◌, ◌∙◌, refl, ap}
use mathlib.Core.List.{List, [], ◌∷◌, ◌++◌, map, map-append}
use Prim.Native.Nat.{ℕ, zero, suc}
use native.Mathlib.Omega.{arith}
use lib.Dec.{eqb}
use lib.ListN.{length}
use Rattle.std.specs.Prelude.{Ok, Err}
use Rattle.std.specs.Prelude.{Option, Some, None}
use Rattle.common.specs.Keep.{keep_of}
use Rattle.common.proofs.Cases.{by_pick}
use Rattle.common.proofs.Keep.{keep_append}
use Rattle.inputs.specs.InputSet.{count_of}
use Rattle.orders.specs.declared.Order.{Order}
use Rattle.orders.specs.Orders.{accept_of}
use Rattle.process.specs.declared.Condition.{Condition}
use Rattle.process.specs.declared.Condition.TheVariants.{Always, Waiting}
use Rattle.process.specs.declared.Fate.{Fate}
use Rattle.process.specs.declared.Fate.TheVariants.{Handed, Stored, NotWaiting, Full}
use Rattle.process.specs.declared.Process.{Process}
use Rattle.process.specs.declared.Target.{Target}
use Rattle.process.specs.declared.buffers.Message.{Message}
use Rattle.table.specs.declared.answers.Answer.{Answer}
use Rattle.table.specs.declared.configs.Privileged.{Privileged}
use Rattle.table.specs.declared.Table.{Table}
use Rattle.table.specs.declared.wakes.Wake.{Wake}
use Rattle.table.specs.Configuration.{receiver_of, privilege_of, owner_of}
use Rattle.calls.specs.Effects.{Carried, Effect, waking}
use Rattle.calls.specs.Levels.{process_of}
use Rattle.calls.specs.Verdicts.{Checked, obeyed}
use Rattle.posting.specs.declared.Origin.{Origin}
use Rattle.posting.specs.declared.Origin.TheVariants.{Sent, Timed}
use Rattle.posting.specs.Posting.{Letter, wake_by, delivery_of, one_of, all_of}
use Rattle.starting.specs.Starting.{start_of, set_priority_of}
use Rattle.messages.specs.Sending.{letters_of, send_posted, sent_by, sent_of, send_of}
use Rattle.messages.specs.Receiving.{taking_of, receive_of, await_message_of, clear_message_of}
use Rattle.timers.specs.Timers.{ordered, schedule_of, cancelled_of, cancel_schedule_of, shutdown_of, start_scheduler_of, read_time_of}
use Rattle.timers.proofs.Cancels.{by_entry}
use Rattle.ticking.specs.Ticking.{Run, letter_of, carried_out, due_now, carrying_out, stopping, passing, tick_at, tick_of, run_effect, ticks_of}
use Rattle.interrupts.specs.Interrupts.{enable_of, disable_of, came_of, open_of, awaiting_of, awaiting_by, await_interrupt_of, reset_interrupt_of, opened_of, opened_by, latched_of, event_of}
use Rattle.holding.specs.Holding.{handover_wake}
use Rattle.pooling.specs.Pooling.{init_pool_of, pool_check_of, get_pool_of, put_pool_of}
use Rattle.rtms.specs.Calls.{Call, START, SETPRIORITY, SEND, RECEIVE, AWAITMESSAGE, CLEARMESSAGE, SCHEDULE, CANCELSCHEDULE, SHUTDOWN, STARTSCHEDULER, READTIME, ENABLE, DISABLE, AWAITINTERRUPT, RESETINT, EVENT, REQSEMA, RELSEMA, INITPOOL, POOLCHECK, GETPOOL, PUTPOOL, TICK, TICKS, effect_of}
use Rattle.runs.specs.Sight.{requests, releases, neither, act_of, by_handover, handed_levels}

-- ---- the levels that a handover wakes

-- of no wakes none
pub handed_none : handed_levels [] ≡ []
unfolding handed_levels keep_of
handed_none = refl

-- of wakes by handovers all
pub handed_all : (levels : List ℕ) → handed_levels (map handover_wake levels) ≡ levels
unfolding handed_levels keep_of
handed_all [] = refl
handed_all (level ∷ levels) = ap (◌∷◌ level) (handed_all levels)

-- of some wakes and then others those of the first, then those of the others
handed_append : (l m : List Wake) → handed_levels (l ++ m) ≡ handed_levels l ++ handed_levels m
unfolding handed_levels
handed_append l m = rw (keep_append (λ w. by_handover w.woken) l m, map-append)

-- whatever becomes of a message, it hands over no semaphore
handed_fate : (level : ℕ) (fate : Fate) (m : Message) → handed_levels (wake_by level fate m) ≡ []
unfolding handed_levels keep_of
handed_fate level (Handed told) m = refl
handed_fate level Stored m = refl
handed_fate level NotWaiting m = refl
handed_fate level Full m = refl

-- nor do many
handed_letters : (origin : Origin) (places : ℕ) (letters : List Letter) (processes : List Process)
    → handed_levels (all_of origin places letters processes).wakes ≡ []
unfolding all_of one_of
handed_letters origin places [] processes = handed_none
handed_letters origin places (x ∷ letters) processes =
    let after : List Process = (one_of origin places x processes).processes in
    let fate : Fate = (delivery_of places x processes).fate in
    rw (handed_append (wake_by x.receiver fate x.message) (all_of origin places letters after).wakes, handed_fate x.receiver fate x.message)
    (handed_letters origin places letters after)

-- ---- effects that leave semaphores alone

-- the semaphores are as they were, and none was handed over
unfoldable Still : Table → Effect → Type 0
Still t e = (e.table.semaphores ≡ t.semaphores) × (handed_levels e.wakes ≡ [])

-- so it is where nobody wakes
still_none : (t : Table) (answer : Answer) (carried : Carried) (then : Table) → then.semaphores ≡ t.semaphores
    → Still t (record { answer = answer; carried = carried; wakes = []; table = then })
unfolding Still
still_none t answer carried then same = (same, handed_none)

-- after checks too, whatever they say
still_obeyed : (v : Checked) (t : Table) (effect : Effect) → Still t effect → Still t (obeyed v t effect)
unfolding obeyed
still_obeyed (Ok tt) t effect still = still
still_obeyed (Err answer) t effect still = still_none t _ _ t refl

-- messages that are sent
still_posted : (t : Table) (target : Target) (condition : Condition) (m : Message) (answer : Answer) (then : Table) → then.semaphores ≡ t.semaphores
    → Still t (waking answer (send_posted t.config target condition m t.processes).wakes then)
unfolding Still send_posted
still_posted t target condition m answer then same = (same, handed_letters Sent t.config.places (letters_of t.config target condition m) t.processes)

-- under either condition
still_sent : (condition : Condition) (t : Table) (target : Target) (m : Message)
    → Still t (sent_by condition t (send_posted t.config target condition m t.processes))
still_sent Always t target m = still_posted t target Always m _ _ refl
still_sent Waiting t target m =
    by_pick (Still t) (eqb (length (send_posted t.config target Waiting m t.processes).wakes) 0) _ _
    (still_none t _ _ _ refl)
    (still_posted t target Waiting m _ _ refl)

-- a message that is handed over to its receiver's own call
still_taking : (t : Table) (caller : ℕ) → Still t (taking_of t caller)
unfolding taking_of
still_taking t caller = still_none t _ _ _ refl

-- an order that is entered, or finds no place
still_ordered : (t : Table) (order : Order) → Still t (ordered t order)
unfolding ordered
still_ordered t order =
    by_entry (Still t) t (accept_of t.orders t.config.orders order) (λ orders. still_none t _ _ _ refl) (still_none t _ _ _ refl)

-- waiting for an input
still_awaiting : (p : Option Privileged) (t : Table) (caller : ℕ) → Still t (awaiting_by p t caller)
unfolding awaiting_of
still_awaiting (Some place) t caller = by_pick (Still t) (eqb (count_of (came_of t place)) 0) _ _ (still_none t _ _ _ refl) (still_none t _ _ _ refl)
still_awaiting None t caller = still_none t _ _ _ refl

-- an input that wakes its owner
still_opened : (p : Option Privileged) (t then : Table) (input : ℕ) → then.semaphores ≡ t.semaphores → Still t (opened_by p then input)
unfolding opened_of Still handed_levels keep_of
still_opened (Some place) t then input same = by_pick (Still t) (open_of then input place) _ _ (same, refl) (same, refl)
still_opened None t then input same = (same, refl)

-- a tick
still_tick : (t : Table) → Still t (run_effect (tick_of t))
unfolding Still tick_of tick_at stopping carrying_out passing carried_out
still_tick t =
    by_pick (λ (x : Run). Still t (run_effect x)) t.scheduler.running _ _
    (by_pick (λ (x : Run). Still t (run_effect x)) t.scheduler.switch _ _
    (refl, handed_none)
    (refl, handed_letters Timed t.config.places (map letter_of (due_now _ t)) t.processes))
    (refl, handed_none)

-- so many ticks
still_ticks : (n : ℕ) (t : Table) → Still t (run_effect (ticks_of n t))
unfolding Still ticks_of
still_ticks zero t = (refl, handed_none)
still_ticks (suc n) t =
    let first = still_tick t in
    let later = still_ticks n (tick_of t).table in
    (later.0 ∙ first.0, rw (handed_append (tick_of t).wakes (ticks_of n (tick_of t).table).wakes, first.1) later.1)

-- ---- every call but two

-- a request and a release have to do with semaphores
not_neither : {P : Type 0} (caller number : ℕ) → (requests caller number ≡ neither → P) × (releases caller number ≡ neither → P)
not_neither caller number = (
  (λ same. let z : ◌≡◌ {A = ℕ} 0 1 = cc in absurd (omega arith)),
  (λ same. let z : ◌≡◌ {A = ℕ} 0 1 = cc in absurd (omega arith)),
)

-- every other call leaves them alone
still_of : (call : Call) (t : Table) → act_of call ≡ neither → Still t (effect_of call t)
unfolding act_of start_of set_priority_of send_of sent_of receive_of await_message_of clear_message_of schedule_of cancel_schedule_of cancelled_of shutdown_of start_scheduler_of read_time_of enable_of disable_of await_interrupt_of reset_interrupt_of event_of latched_of init_pool_of pool_check_of get_pool_of put_pool_of
still_of (START level priority) t none = still_obeyed _ t _ (still_none t _ _ _ refl)
still_of (SETPRIORITY caller priority) t none = still_obeyed _ t _ (still_none t _ _ _ refl)
still_of (SEND caller receiver condition m) t none = still_obeyed _ t _ (still_sent condition t (receiver_of t.config receiver) m)
still_of (RECEIVE caller) t none = still_obeyed _ t _ (still_taking t caller)
still_of (AWAITMESSAGE caller) t none =
    still_obeyed _ t _ (by_pick (Still t) (eqb (process_of t caller).buffer.list.count 0) _ _ (still_none t _ _ _ refl) (still_taking t caller))
still_of (CLEARMESSAGE caller receiver) t none = still_obeyed _ t _ (still_none t _ _ _ refl)
still_of (SCHEDULE caller new) t none = still_obeyed _ t _ (still_ordered t _)
still_of (CANCELSCHEDULE caller sender receiver) t none = still_obeyed _ t _ (still_none t _ _ _ refl)
still_of (SHUTDOWN caller) t none = still_obeyed _ t _ (still_none t _ _ _ refl)
still_of STARTSCHEDULER t none = still_none t _ _ _ refl
still_of (READTIME caller) t none = still_obeyed _ t _ (still_none t _ _ _ refl)
still_of (ENABLE caller input) t none = still_obeyed _ t _ (still_none t _ _ _ refl)
still_of (DISABLE caller input) t none = still_obeyed _ t _ (still_none t _ _ _ refl)
still_of (AWAITINTERRUPT caller) t none = still_obeyed _ t _ (still_awaiting (privilege_of t.config caller) t caller)
still_of (RESETINT caller input) t none = still_obeyed _ t _ (still_none t _ _ _ refl)
still_of (EVENT input) t none = still_obeyed _ t _ (still_opened (owner_of t.config input) t _ input refl)
still_of (REQSEMA caller asked) t none = (not_neither caller asked).0 none
still_of (RELSEMA caller given) t none = (not_neither caller given).1 none
still_of (INITPOOL caller) t none = still_obeyed _ t _ (still_none t _ _ _ refl)
still_of (POOLCHECK caller stated) t none = still_obeyed _ t _ (still_none t _ _ _ refl)
still_of (GETPOOL caller offset count own) t none = still_obeyed _ t _ (still_none t _ _ _ refl)
still_of (PUTPOOL caller offset count given) t none = still_obeyed _ t _ (still_none t _ _ _ refl)
still_of TICK t none = still_tick t
still_of (TICKS n) t none = still_ticks n t

module _ (call : Call) (t : Table) (none : act_of call ≡ neither) where
  -- the semaphores are as they were
  pub still_semaphores : (effect_of call t).table.semaphores ≡ t.semaphores
  unfolding Still
  still_semaphores = (still_of call t none).0

  -- and none was handed over
  pub still_handed : handed_levels (effect_of call t).wakes ≡ []
  unfolding Still
  still_handed = (still_of call t none).1
