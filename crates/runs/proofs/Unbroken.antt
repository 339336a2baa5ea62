-- No table of a run shows a break, so no call of a run is answered 35; and ticks in one record are as many single ticks. Assumes nothing.
use mathlib.Core.Path.{◌≡◌, ◌∙◌, refl, sym, ap, ap₂, subst}
use mathlib.Core.List.{◌++◌}
use Prim.Native.Nat.{ℕ, zero, suc, ◌+◌}
use lib.ListN.{replicate}
use borrow.Author.Tests.{eqb-false}
use Rattle.orders.specs.declared.NotCancelled.{NotCancelled}
use Rattle.orders.specs.declared.NotCancelled.TheVariants.{BadSender, UnknownReceiver, NoOrder, NotFound, NotTheirs}
use Rattle.orders.specs.declared.Order.{Order}
use Rattle.orders.specs.Cancel.{cancel_of as orders_cancelled}
use Rattle.orders.specs.Orders.{accept_of}
use Rattle.table.specs.declared.Table.{Table}
use Rattle.table.specs.declared.wakes.Wake.{Wake}
use Rattle.table.specs.Configuration.{receiver_of, sender_of}
use Rattle.calls.specs.Effects.{Effect, number_by, number}
use Rattle.calls.specs.Levels.{process_of}
use Rattle.calls.proofs.Keeping.{Steady}
use Rattle.timers.specs.declared.NewOrder.{NewOrder}
use Rattle.timers.specs.Timers.{ordered, schedule_of, cancelled_of, cancel_schedule_of}
use Rattle.table.specs.Answers.{cancel_answer}
use Rattle.timers.proofs.Cancels.{by_cancel, by_entry}
use Rattle.ticking.specs.Ticking.{tick_of, ticks_of}
use Rattle.ticking.proofs.Keeping.{tick_keeps}
use Rattle.rtms.specs.Calls.{Call, TICK, TICKS, effect_of, done_by}
use Rattle.runs.specs.Runs.{leaves, after_of, run_of, seen_of, Unbroken, NeverBroken, wakes_in, reported_in, AsSingleTicks, TicksAreTicks}
use Rattle.runs.proofs.Answering.{Unlike, avoids_more, avoids_caller, by_obeyed}
use Rattle.runs.proofs.Calm.{Mild, Kind, calm, schedule, cancel, tick, many, kind_of}
use Rattle.runs.proofs.Steady.{steady_sound, steady_done, run_steady}

-- ---- no call of a sound table is answered 35

-- an effect is not answered 35
unfoldable Not35 : Effect → Type 0
Not35 effect = Unlike 35 effect.answer

-- an order that is taken in, or for which there is no place, is not answered 35
ordered_not_35 : (t : Table) (x : Order) → Not35 (ordered t x)
unfolding ordered Not35
ordered_not_35 t x = by_entry Not35 t (accept_of t.orders t.config.orders x) (λ orders. refl) refl

-- SCHEDULE is not answered 35
schedule_not_35 : (t : Table) (caller : ℕ) (new : NewOrder) → Not35 (schedule_of t caller new)
unfolding schedule_of Not35
schedule_not_35 t caller new =
    by_obeyed Not35 35 _ t _
    (avoids_more 35 _ _ _ (avoids_more 35 _ _ _ (avoids_more 35 _ _ _ (avoids_more 35 _ _ _
    (avoids_caller 35 t.config (process_of t caller) caller refl refl) refl) refl) refl) refl)
    (λ answer other. other)
    (ordered_not_35 t _)

-- nor is a cancel, whatever it is refused for
cancelled_not_35 : (why : NotCancelled) → Unlike 35 (cancel_answer why)
cancelled_not_35 BadSender = refl
cancelled_not_35 UnknownReceiver = refl
cancelled_not_35 NoOrder = refl
cancelled_not_35 NotFound = refl
cancelled_not_35 NotTheirs = refl

-- nor is CANCELSCHEDULE
cancel_not_35 : (t : Table) (caller sender receiver : ℕ) → Not35 (cancel_schedule_of t caller sender receiver)
unfolding cancel_schedule_of cancelled_of Not35
cancel_not_35 t caller sender receiver =
    by_obeyed Not35 35 _ t _
    (avoids_caller 35 t.config (process_of t caller) caller refl refl)
    (λ answer other. other)
    (by_cancel Not35 t (orders_cancelled (sender_of sender) (receiver_of t.config receiver) t.orders) (λ left. refl) cancelled_not_35)

-- nor is any call, whichever kind it is
kind_not_35 : (call : Call) (t : Table) → Kind t call → Not35 (effect_of call t)
unfolding Not35 Mild
kind_not_35 call t (calm calmly) = calmly.mildly.0
kind_not_35 call t (schedule caller new) = schedule_not_35 t caller new
kind_not_35 call t (cancel caller sender receiver) = cancel_not_35 t caller sender receiver
kind_not_35 call t tick = refl
kind_not_35 call t (many n) = refl

-- a steady table is sound, and no call of it is answered 35
steady_unbroken : (call : Call) (t : Table) → Steady t → Unbroken call t
unfolding Not35
steady_unbroken call t steady = record {
  sound = steady_sound t steady;
  not_35 = eqb-false _ _ (subst Not35 (sym (steady_done call t steady)) (kind_not_35 call t (kind_of call t)));
  agree = steady_done call t steady;
}

-- "a table .. that shows one of these breaks .. is refused before all else with 35": no table of a run does
pub never_broken : NeverBroken
never_broken c good steps call = steady_unbroken call (run_of c steps) (run_steady c good steps)

-- ---- ticks in one record

module _ (t : Table) (steady : Steady t) where
  -- what a tick leaves
  tick_leaves : leaves TICK t ≡ (tick_of t).table
  tick_leaves = ap (λ e. e.table) (steady_done TICK t steady)

  -- whom it wakes
  tick_wakes : (done_by TICK t).wakes ≡ (tick_of t).wakes
  tick_wakes = ap (λ e. e.wakes) (steady_done TICK t steady)

  -- and how many orders it reports
  tick_reports : number_by (done_by TICK t).carried ≡ (tick_of t).count
  tick_reports = ap (λ e. number_by e.carried) (steady_done TICK t steady)

-- single ticks leave what as many in one record leave
ticks_after : (n : ℕ) (t : Table) → Steady t → after_of (replicate n TICK) t ≡ (ticks_of n t).table
unfolding after_of ticks_of
ticks_after zero t steady = refl
ticks_after (suc n) t steady = ap (after_of (replicate n TICK)) (tick_leaves t steady) ∙ ticks_after n (tick_of t).table (tick_keeps t steady)

-- they wake whom these wake, in the same order
ticks_wake : (n : ℕ) (t : Table) → Steady t → wakes_in (seen_of (replicate n TICK) t) ≡ (ticks_of n t).wakes
unfolding wakes_in seen_of ticks_of
ticks_wake zero t steady = refl
ticks_wake (suc n) t steady =
    ap₂ (◌++◌ {A = Wake}) (tick_wakes t steady)
    (ap (λ s. wakes_in (seen_of (replicate n TICK) s)) (tick_leaves t steady) ∙ ticks_wake n (tick_of t).table (tick_keeps t steady))

-- and report as many orders, all together
ticks_report : (n : ℕ) (t : Table) → Steady t → reported_in n t ≡ (ticks_of n t).count
unfolding reported_in ticks_of
ticks_report zero t steady = refl
ticks_report (suc n) t steady =
    ap₂ ◌+◌ (tick_reports t steady)
    (ap (reported_in n) (tick_leaves t steady) ∙ ticks_report n (tick_of t).table (tick_keeps t steady))

-- so ticks of a steady table in one record are as many single ticks
steady_ticks : (n : ℕ) (t : Table) → Steady t → AsSingleTicks n t
steady_ticks n t steady = record {
  table = ap (λ e. e.table) (steady_done (TICKS n) t steady) ∙ sym (ticks_after n t steady);
  wakes = ap (λ e. e.wakes) (steady_done (TICKS n) t steady) ∙ sym (ticks_wake n t steady);
  reports = ap (λ e. e.carried) (steady_done (TICKS n) t steady) ∙ sym (ap number (ticks_report n t steady));
}

-- and along every run they are
pub ticks_are_ticks : TicksAreTicks
ticks_are_ticks c good steps n = steady_ticks n (run_of c steps) (run_steady c good steps)
