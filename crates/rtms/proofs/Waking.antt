-- Whom a call, an event or ticks wake: each process at most once, and nobody is left out of the twelve places. Assumes nothing.
use mathlib.Core.Path.{◌≡◌, refl, ap, subst, sym}
use mathlib.Core.Bool.{Bool, true, false}
use Rattle.std.specs.Prelude.{Option, Some, None, Result, Ok, Err}
use mathlib.Core.List.{List, [], ◌∷◌, map}
use Prim.Native.Nat.{ℕ, ◌≤◌, min}
use native.Mathlib.Omega.{arith}
use lib.Dec.{eqb}
use lib.ListN.{length, take, length-map}
use Rattle.std.specs.Prelude.{Ok, Err}
use Rattle.std.specs.Prelude.{Option, Some, None}
use Rattle.common.specs.Choice.{pick}
use Rattle.common.specs.Filled.{filled_of}
use Rattle.common.specs.Stands.{stands_in, Once}
use Rattle.common.proofs.Cases.{by_pick}
use Rattle.common.proofs.Packing.{take_packed}
use Rattle.process.specs.declared.buffers.Message.{Message}
use Rattle.process.specs.declared.Condition.{Condition}
use Rattle.process.specs.declared.Condition.TheVariants.{Always, Waiting}
use Rattle.process.specs.declared.Target.{Target}
use Rattle.inputs.specs.InputSet.{count_of}
use Rattle.orders.specs.declared.Order.{Order}
use Rattle.orders.specs.Orders.{accept_of}
use Rattle.semaphores.specs.declared.Unusable.{Unusable}
use Rattle.semaphores.specs.declared.Requested.{Requested}
use Rattle.semaphores.specs.declared.Requested.TheVariants.{Held, Waits}
use Rattle.semaphores.specs.declared.NotReleased.{NotReleased}
use Rattle.semaphores.specs.declared.NotReleased.TheVariants.{NotHolder}
use Rattle.semaphores.specs.declared.Semaphores.{Semaphores}
use Rattle.semaphores.specs.Semaphores.{requested_in, released_in, request_of as requests_of, release_of as releases_of, woken_from}
use Rattle.semaphores.proofs.Waking.{all_woken, woken_once as releases_once}
use Rattle.table.specs.declared.answers.Answer.{Answer}
use Rattle.table.specs.declared.answers.Answer.TheVariants.{BadConfig}
use Rattle.table.specs.declared.configs.Privileged.{Privileged}
use Rattle.table.specs.declared.Table.{Table}
use Rattle.table.specs.declared.wakes.Wake.{Wake}
use Rattle.table.specs.Configuration.{receiver_of, privilege_of, owner_of}
use Rattle.table.specs.Sound.{sound_of}
use Rattle.table.specs.Wakes.{nobody, wakes_of}
use Rattle.table.specs.Words.{minus_one}
use Rattle.table.proofs.Queued.{waiting_once}
use Rattle.calls.specs.Effects.{Carried, Effect, refuse, waking, outcome_of}
use Rattle.calls.specs.Levels.{process_of}
use Rattle.calls.specs.Verdicts.{Checked, obeyed}
use Rattle.posting.specs.declared.Origin.TheVariants.{Sent}
use Rattle.posting.proofs.Waking.{woken_once, woken_few}
use Rattle.starting.specs.Starting.{start_of, set_priority_of}
use Rattle.messages.specs.Sending.{letters_of, send_posted, sent_by, sent_of, send_of}
use Rattle.messages.specs.Receiving.{taking_of, receive_of, await_message_of, clear_message_of}
use Rattle.timers.specs.Timers.{ordered, schedule_of, cancelled_of, cancel_schedule_of, shutdown_of, start_scheduler_of, read_time_of}
use Rattle.timers.proofs.Cancels.{by_entry}
use Rattle.ticking.specs.Ticking.{run_effect, tick_of, ticks_of}
use Rattle.ticking.proofs.Waking.{tick_once, tick_fits, ticks_once, ticks_fit}
use Rattle.interrupts.specs.Interrupts.{enable_of, disable_of, came_of, open_of, awaiting_of, awaiting_by, await_interrupt_of, reset_interrupt_of, opened_of, opened_by, latched_of, event_of}
use Rattle.holding.specs.Holding.{requested_by, requested_of, request_of, handover_wake, released_by, released_of, released_all_of, release_of}
use Rattle.pooling.specs.Pooling.{init_pool_of, pool_check_of, get_pool_of, put_pool_of}
use Rattle.rtms.specs.Calls.{Call, START, SETPRIORITY, SEND, RECEIVE, AWAITMESSAGE, CLEARMESSAGE, SCHEDULE, CANCELSCHEDULE, SHUTDOWN, STARTSCHEDULER, READTIME, ENABLE, DISABLE, AWAITINTERRUPT, RESETINT, EVENT, REQSEMA, RELSEMA, INITPOOL, POOLCHECK, GETPOOL, PUTPOOL, TICK, TICKS, effect_of, guarded_of, done_by, answer_of}

-- ---- effects

-- an effect wakes each level at most once, and of twelve processes no more than twelve
unfoldable Fine : Table → Effect → Type 0
Fine t effect = Once (map (λ w. w.level) effect.wakes) × (length t.processes ≡ 12 → length effect.wakes ≤ 12)

-- one that wakes nobody, whatever else it does
fine_none : (t : Table) (answer : Answer) (carried : Carried) (then : Table) → Fine t (record { answer = answer; carried = carried; wakes = []; table = then })
unfolding Fine Once
fine_none t answer carried then = (tt, (λ twelve. omega arith))

-- one that wakes one
fine_one : (t : Table) (answer : Answer) (carried : Carried) (w : Wake) (then : Table) → Fine t (record { answer = answer; carried = carried; wakes = w ∷ []; table = then })
unfolding Fine Once stands_in
fine_one t answer carried w then = ((refl, tt), (λ twelve. omega arith))

-- one after checks, whatever they say
fine_obeyed : (v : Checked) (t : Table) (effect : Effect) → Fine t effect → Fine t (obeyed v t effect)
unfolding obeyed
fine_obeyed (Ok tt) t effect fine = fine
fine_obeyed (Err answer) t effect fine = fine_none t _ _ _

-- ---- call by call

-- one that wakes those that a message wakes
fine_posted : (t : Table) (target : Target) (condition : Condition) (m : Message) (answer : Answer) (then : Table)
    → Fine t (waking answer (send_posted t.config target condition m t.processes).wakes then)
unfolding Fine send_posted
fine_posted t target condition m answer then =
    let letters = letters_of t.config target condition m in
    (woken_once Sent t.config.places letters t.processes, woken_few Sent t.config.places letters t.processes)

-- what SEND makes of that, under either condition
fine_sent : (condition : Condition) (t : Table) (target : Target) (m : Message) → Fine t (sent_by condition t (send_posted t.config target condition m t.processes))
fine_sent Always t target m = fine_posted t target Always m _ _
fine_sent Waiting t target m =
    by_pick (Fine t) (eqb (length (send_posted t.config target Waiting m t.processes).wakes) 0) _ _
    (fine_none t _ _ _)
    (fine_posted t target Waiting m _ _)

-- and so for every receiver
fine_send : (t : Table) (target : Target) (condition : Condition) (m : Message) → Fine t (sent_of t target condition m)
unfolding sent_of
fine_send t target condition m = fine_sent condition t target m

-- a message that is handed over to its receiver's own call wakes nobody
fine_taking : (t : Table) (caller : ℕ) → Fine t (taking_of t caller)
unfolding taking_of
fine_taking t caller = fine_none t _ _ _

-- an order that is entered, or finds no place, wakes nobody
fine_ordered : (t : Table) (order : Order) → Fine t (ordered t order)
unfolding ordered
fine_ordered t order = by_entry (Fine t) t (accept_of t.orders t.config.orders order) (λ orders. fine_none t _ _ _) (fine_none t _ _ _)

-- nor do orders that leave
fine_cancel : (t : Table) (sender receiver : ℕ) → Fine t (cancelled_of t sender receiver)
unfolding cancelled_of
fine_cancel t sender receiver = fine_none t _ _ _

-- waiting for an input wakes nobody
fine_awaiting : (p : Option Privileged) (t : Table) (caller : ℕ) → Fine t (awaiting_by p t caller)
unfolding awaiting_of
fine_awaiting (Some place) t caller = by_pick (Fine t) (eqb (count_of (came_of t place)) 0) _ _ (fine_none t _ _ _) (fine_none t _ _ _)
fine_awaiting None t caller = fine_none t _ _ _

-- an input wakes its owner at most
fine_opened : (p : Option Privileged) (t then : Table) (input : ℕ) → Fine t (opened_by p then input)
unfolding opened_of
fine_opened (Some place) t then input = by_pick (Fine t) (open_of then input place) _ _ (fine_one t _ _ _ _) (fine_none t _ _ _)
fine_opened None t then input = fine_none t _ _ _

-- and so an event
fine_latched : (t : Table) (input : ℕ) → Fine t (latched_of t input)
unfolding latched_of
fine_latched t input = fine_opened (owner_of t.config input) t _ input

-- none of the ways of a request wakes anybody
fine_requested : (r : Result Requested Unusable) (t : Table) (s : Semaphores) (caller : ℕ) → Fine t (requested_by r t s caller)
fine_requested (Err why) t s caller = fine_none t _ _ _
fine_requested (Ok Held) t s caller = fine_none t _ _ _
fine_requested (Ok Waits) t s caller = fine_none t _ _ _

-- so no request does
fine_request : (t : Table) (caller number : ℕ) → Fine t (requested_of t caller number)
unfolding requested_of
fine_request t caller number = fine_requested (requested_in (requests_of t.semaphores caller number)) t _ caller

-- each of the ways of a release wakes one at most
fine_released : (r : Result (Option ℕ) NotReleased) (t : Table) (s : Semaphores) → Fine t (released_by r t s)
fine_released (Err NotReleased.Unusable) t s = fine_none t _ _ _
fine_released (Err (NotHolder level)) t s = fine_none t _ _ _
fine_released (Ok None) t s = fine_none t _ _ _
fine_released (Ok (Some level)) t s = fine_one t _ _ _ _

-- so a release of one number does
fine_release : (t : Table) (caller number : ℕ) → Fine t (released_of t caller number)
unfolding released_of
fine_release t caller number = fine_released (released_in (releases_of t.semaphores caller number)) t _

-- levels that are handed a semaphore wake as these levels
handover_levels : (levels : List ℕ) → map (λ w. w.level) (map handover_wake levels) ≡ levels
handover_levels [] = refl
handover_levels (level ∷ levels) = ap (◌∷◌ level) (handover_levels levels)

-- a release of all wakes each that waits once at most, since in a sound table it waits once
fine_all : (t : Table) (caller : ℕ) → sound_of t ≡ true → Fine t (released_all_of t caller)
unfolding Fine released_all_of
fine_all t caller sound = (
  subst Once (sym (handover_levels (woken_from 96 0 caller t.semaphores))) (releases_once 96 0 caller t.semaphores (waiting_once t sound)),
  (λ twelve. rw length-map (all_woken caller t.semaphores)),
)

-- a tick
fine_tick : (t : Table) → Fine t (run_effect (tick_of t))
unfolding Fine tick_of
fine_tick t = (tick_once _ t, tick_fits _ t)

-- so many ticks
fine_ticks : (n : ℕ) (t : Table) → Fine t (run_effect (ticks_of n t))
unfolding Fine
fine_ticks n t = (ticks_once n t, ticks_fit n t)

-- ---- every call

-- each call of a table that shows no break
fine_of : (call : Call) (t : Table) → sound_of t ≡ true → Fine t (effect_of call t)
unfolding start_of set_priority_of send_of receive_of await_message_of clear_message_of schedule_of cancel_schedule_of shutdown_of start_scheduler_of read_time_of enable_of disable_of await_interrupt_of reset_interrupt_of event_of request_of release_of init_pool_of pool_check_of get_pool_of put_pool_of
fine_of (START level priority) t sound = fine_obeyed _ t _ (fine_none t _ _ _)
fine_of (SETPRIORITY caller priority) t sound = fine_obeyed _ t _ (fine_none t _ _ _)
fine_of (SEND caller receiver condition m) t sound = fine_obeyed _ t _ (fine_send t (receiver_of t.config receiver) condition m)
fine_of (RECEIVE caller) t sound = fine_obeyed _ t _ (fine_taking t caller)
fine_of (AWAITMESSAGE caller) t sound =
    fine_obeyed _ t _ (by_pick (Fine t) (eqb (process_of t caller).buffer.list.count 0) _ _ (fine_none t _ _ _) (fine_taking t caller))
fine_of (CLEARMESSAGE caller receiver) t sound = fine_obeyed _ t _ (fine_none t _ _ _)
fine_of (SCHEDULE caller new) t sound = fine_obeyed _ t _ (fine_ordered t _)
fine_of (CANCELSCHEDULE caller sender receiver) t sound = fine_obeyed _ t _ (fine_cancel t sender receiver)
fine_of (SHUTDOWN caller) t sound = fine_obeyed _ t _ (fine_none t _ _ _)
fine_of STARTSCHEDULER t sound = fine_none t _ _ _
fine_of (READTIME caller) t sound = fine_obeyed _ t _ (fine_none t _ _ _)
fine_of (ENABLE caller input) t sound = fine_obeyed _ t _ (fine_none t _ _ _)
fine_of (DISABLE caller input) t sound = fine_obeyed _ t _ (fine_none t _ _ _)
fine_of (AWAITINTERRUPT caller) t sound = fine_obeyed _ t _ (fine_awaiting (privilege_of t.config caller) t caller)
fine_of (RESETINT caller input) t sound = fine_obeyed _ t _ (fine_none t _ _ _)
fine_of (EVENT input) t sound = fine_obeyed _ t _ (fine_latched t input)
fine_of (REQSEMA caller number) t sound = fine_obeyed _ t _ (fine_request t caller number)
fine_of (RELSEMA caller number) t sound = fine_obeyed _ t _ (by_pick (Fine t) (eqb number minus_one) _ _ (fine_all t caller sound) (fine_release t caller number))
fine_of (INITPOOL caller) t sound = fine_obeyed _ t _ (fine_none t _ _ _)
fine_of (POOLCHECK caller stated) t sound = fine_obeyed _ t _ (fine_none t _ _ _)
fine_of (GETPOOL caller offset count own) t sound = fine_obeyed _ t _ (fine_none t _ _ _)
fine_of (PUTPOOL caller offset count given) t sound = fine_obeyed _ t _ (fine_none t _ _ _)
fine_of TICK t sound = fine_tick t
fine_of (TICKS n) t sound = fine_ticks n t

-- a table that is not sound is refused, which wakes nobody
fine_guarded : (b : Bool) (t : Table) (effect : Effect) → (b ≡ true → Fine t effect) → Fine t (pick b effect (refuse t BadConfig))
fine_guarded true t effect fine = fine refl
fine_guarded false t effect fine = fine_none t _ _ _

-- and so each call of any table
fine_done : (call : Call) (t : Table) → Fine t (done_by call t)
unfolding guarded_of
fine_done call t = fine_guarded (sound_of t) t (effect_of call t) (fine_of call t)

-- ---- what is promised

-- in one call, event or run of ticks a process wakes at most once
pub wakes_once : (call : Call) (t : Table) → Once (map (λ w. w.level) (done_by call t).wakes)
unfolding Fine
wakes_once call t = (fine_done call t).0

-- so that twelve places are enough
pub wakes_fit : (call : Call) (t : Table) → length t.processes ≡ 12 → length (done_by call t).wakes ≤ 12
unfolding Fine
wakes_fit call t = (fine_done call t).1

-- wakes that fit are found again in their places
taken_again : (l : List Wake) → length l ≤ 12 → take (wakes_of l).count (wakes_of l).items ≡ l
unfolding filled_of
taken_again l fits = let all : min (length l) 12 ≡ length l = omega arith in rw all (take_packed nobody 12 l fits)

-- and the array of twelve wakes never drops one: all that a call wakes stand in its result, in order
pub none_dropped : (call : Call) (t : Table) → length t.processes ≡ 12 → take (answer_of call t).wakes.count (answer_of call t).wakes.items ≡ (done_by call t).wakes
unfolding answer_of outcome_of
none_dropped call t twelve = taken_again (done_by call t).wakes (wakes_fit call t twelve)
