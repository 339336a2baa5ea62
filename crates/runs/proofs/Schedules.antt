-- Timer orders keep time along every run, ticks deliver what is due, and where the scheduler is stopped due moments pass unused. Assumes nothing.
use mathlib.Core.Path.{◌≡◌, ◌∙◌, refl, sym, ap, subst}
use mathlib.Core.Bool.{Bool, true}
use mathlib.Core.List.{List, [], ◌∷◌}
use Prim.Native.Nat.{ℕ, zero, suc, ◌+◌, ◌%◌, ◌<◌}
use native.Mathlib.Omega.{arith}
use lib.ListN.{length, get_or, take}
use borrow.Author.Tests.{eqb-true, eq-eqb, ne_eqb, ltb-true}
use Rattle.common.specs.Choice.{pick}
use Rattle.common.specs.Keep.{keep_of}
use Rattle.common.proofs.Cases.{by_test}
use Rattle.day.specs.declared.TimeOfDay.{TimeOfDay}
use Rattle.day.specs.TimeOfDay.{day, forward_of}
use Rattle.orders.specs.declared.Order.{Order}
use Rattle.orders.specs.Advance.{due_at, due_of}
use Rattle.orders.specs.Orders.{no_order, standing_of}
use Rattle.orders.specs.Timer.{Timed, accepts, step_of, after_of as steps_after, ticks_of as ticks_among, Place, followed, KeepsTime}
use Rattle.orders.proofs.Schedule.{interval_range, delay_range}
use Rattle.orders.proofs.Timer.{timer}
use Rattle.table.specs.declared.Table.{Table}
use Rattle.table.specs.Answers.{number_of}
use Rattle.calls.specs.Effects.{Effect, number}
use Rattle.calls.proofs.Keeping.{Steady}
use Rattle.timers.specs.declared.NewOrder.{NewOrder}
use Rattle.timers.specs.Timers.{moment_of, first_by}
use Rattle.ticking.specs.Ticking.{Run, carrying_out, stopping, passing, tick_of, run_effect}
use Rattle.ticking.proofs.Quieting.{tick_stops, tick_stopped}
use Rattle.rtms.specs.Calls.{Call, SCHEDULE, TICK, done_by}
use Rattle.runs.specs.Runs.{leaves, after_of, run_of}
use Rattle.runs.specs.Schedules.{order_by, first_delay, Running, Undisturbed, timed_of, followed_on, ticks_in, OrdersKeepTime, Delivers, TicksDeliver, PassesUnused, WaitsADay, StoppedTicksPass, MissedMomentsReturn}
use Rattle.runs.proofs.Following.{steps_in, later_timed, later_followed, later_spares, later_ticks}
use Rattle.runs.proofs.Ordering.{Does, schedule_does, tick_carries}
use Rattle.runs.proofs.Steady.{steady_done, step_steady, run_steady}

-- ---- orders keep time

-- an order that is accepted stands behind all others
accepted_timed : (t : Table) (caller : ℕ) (new : NewOrder) → Steady t → number_of (done_by (SCHEDULE caller new) t).answer ≡ 0
    → timed_of (leaves (SCHEDULE caller new) t) ≡ step_of (accepts (order_by t caller new)) (timed_of t)
unfolding Does
accepted_timed t caller new steady answered =
    let does : Does (accepts (order_by t caller new)) t (done_by (SCHEDULE caller new) t) =
    subst (Does (accepts (order_by t caller new)) t) (sym (steady_done (SCHEDULE caller new) t steady)) (schedule_does t caller new steady) in
    does
    ∙ ap (λ b. steps_after (pick b (accepts (order_by t caller new) ∷ []) []) (timed_of t)) (eq-eqb (number_of (done_by (SCHEDULE caller new) t).answer) 0 answered)

-- what keeps time through the steps of the order table keeps time through the steps of the run
keeps_later : (x : Order) (d : ℕ) (later : List Call) (t : Table) (s : Timed) (p : Place) → Steady t → Undisturbed x later t → timed_of t ≡ s
    → KeepsTime x d (ticks_among (steps_in later t)) (steps_after (steps_in later t) s) (followed (steps_in later t) s p)
    → KeepsTime x d (ticks_in later) (timed_of (after_of later t)) (followed_on later t p)
keeps_later x d later t s p steady undisturbed here keeps =
    let there : timed_of (after_of later t) ≡ steps_after (steps_in later t) s =
    later_timed x later t steady undisturbed ∙ ap (steps_after (steps_in later t)) here in
    let place : followed_on later t p ≡ followed (steps_in later t) s p =
    later_followed x later t p steady undisturbed ∙ ap (λ u. followed (steps_in later t) u p) here in
    subst (λ k. KeepsTime x d k (timed_of (after_of later t)) (followed_on later t p)) (later_ticks later t)
    (subst (λ u. KeepsTime x d (ticks_among (steps_in later t)) u (followed_on later t p)) (sym there)
    (subst (KeepsTime x d (ticks_among (steps_in later t)) (steps_after (steps_in later t) s)) (sym place) keeps))

-- "a timer order accepted with a first delay d, an interval e and a count n is carried out on ticks d, d+e, d+2e and so on"
pub orders_keep_time : OrdersKeepTime
orders_keep_time c before caller new accepted later undisturbed =
    let t : Table = run_of c before in
    let steady : Steady t = run_steady c accepted.good before in
    let x : Order = order_by t caller new in
    let then : Table = leaves (SCHEDULE caller new) t in
    let delay = delay_range t.clock new.to (first_by (moment_of new.absolute new.time)) in
    let interval = interval_range new.to in
    keeps_later x (first_delay t new) later then (step_of (accepts x) (timed_of t)) _
    (step_steady (SCHEDULE caller new) t steady) undisturbed (accepted_timed t caller new steady accepted.answered_0)
    (timer (timed_of t) x (first_delay t new) refl delay.0 delay.1 interval.0 interval.1 (steps_in later then) (later_spares x later then undisturbed))

-- ---- ticks deliver

-- what passes a test is kept behind those before it that pass
kept_at : {A : Type 0} (test : A → Bool) (l : List A) (i : ℕ) (d : A) → i < length l → test (get_or l i d) ≡ true
    → get_or (keep_of test l) (length (keep_of test (take i l))) d ≡ get_or l i d
unfolding keep_of
kept_at test [] i d less holds = absurd (omega arith)
kept_at test (x ∷ l) zero d less holds = rw holds
kept_at test (x ∷ l) (suc i) d less holds =
    by_test (test x)
    (λ passes. rw passes (kept_at test l i d (omega arith) holds))
    (λ fails. rw fails (kept_at test l i d (omega arith) holds))

module _ (t : Table) (steady : Steady t) (runs : Running t) where
  -- a tick of a scheduler that runs
  tick_done : done_by TICK t ≡ run_effect (carrying_out (forward_of t.clock 1) t)
  tick_done = steady_done TICK t steady ∙ ap run_effect (tick_carries t runs)

  -- delivers the messages of the orders that are due
  steady_delivers : Delivers t
  unfolding carrying_out due_of
  steady_delivers = record {
    wakes = ap (λ e. e.wakes) tick_done;
    processes = ap (λ e. e.table.processes) tick_done;
    report = ap (λ e. e.carried) tick_done;
    among = λ i less carried. kept_at (due_at (forward_of t.clock 1)) (standing_of t.orders) i no_order less carried;
  }

-- a tick delivers the messages of the orders that are due, in order of acceptance, and reports how many these are
pub ticks_deliver : TicksDeliver
ticks_deliver c good steps runs = steady_delivers (run_of c steps) (run_steady c good steps) runs

-- ---- a scheduler that is stopped, or to stop

-- an effect that moves the clock by one tick and does no more to orders and processes, wakes nobody and reports none
unfoldable Unused : Table → Effect → Type 0
Unused t e =
    (e.table.clock ≡ forward_of t.clock 1)
    × (e.table.orders ≡ t.orders)
    × (e.table.processes ≡ t.processes)
    × (e.wakes ≡ [])
    × (e.carried ≡ number 0)

-- such is a tick at which the scheduler stops, or is stopped
tick_unused : (t : Table) → pick t.scheduler.running t.scheduler.switch true ≡ true → Unused t (run_effect (tick_of t))
unfolding Unused tick_of stopping passing
tick_unused t stops =
    let unused : Run → Type 0 = (λ r. Unused t (run_effect r)) in
    by_test t.scheduler.running
    (λ runs. let switched : t.scheduler.switch ≡ true = rw runs at stops in
    subst unused (sym (tick_stops (forward_of t.clock 1) t runs switched)) (refl, refl, refl, refl, refl))
    (λ rests. subst unused (sym (tick_stopped (forward_of t.clock 1) t rests)) (refl, refl, refl, refl, refl))

-- so a due moment passes unused
steady_passes : (t : Table) → Steady t → pick t.scheduler.running t.scheduler.switch true ≡ true → PassesUnused t
unfolding Unused
steady_passes t steady stops =
    let unused : Unused t (done_by TICK t) = subst (Unused t) (sym (steady_done TICK t steady)) (tick_unused t stops) in
    record { clock = unused.0; orders = unused.1; processes = unused.2; wakes = unused.3; report = unused.4 }

-- "While it is stopped the clock runs, .., and a due moment passes unused"
pub stopped_ticks_pass : StoppedTicksPass
stopped_ticks_pass c good steps stops = steady_passes (run_of c steps) (run_steady c good steps) stops

-- an order that is due at the clock's time is next due a day later
due_again : (x : Order) (clock : TimeOfDay) → clock.milliseconds < day → due_at clock x ≡ true → WaitsADay x clock
unfolding forward_of
due_again x clock within due =
    let now : x.due.milliseconds ≡ clock.milliseconds = eqb-true _ _ due in
    record {
      not_before = λ k some less. ne_eqb x.due.milliseconds ((clock.milliseconds + k) % day) (omega arith);
      a_day_later = eq-eqb x.due.milliseconds ((clock.milliseconds + day) % day) (omega arith);
    }

-- "the order waits until the clock next reads that time of day"
pub missed_moments_return : MissedMomentsReturn
missed_moments_return c good steps x due = due_again x (run_of c steps).clock (ltb-true _ _ (run_steady c good steps).parts.clock) due
