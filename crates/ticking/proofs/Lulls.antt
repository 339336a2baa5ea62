-- Lulls: so many ticks that carry out no order change the clock, and a scheduler that stops, and nothing else. Assumes nothing.
use mathlib.Core.Path.{◌≡◌, ◌∙◌, ap, ap₂, sym}
use mathlib.Core.Bool.{true, false, not, ◌||◌}
use mathlib.Core.List.{[]}
use Prim.Native.Nat.{ℕ, min}
use native.Mathlib.Omega.{arith}
use lib.Dec.{eqb}
use lib.ListN.{take}
use borrow.Author.Tests.{eqb-true, eqb-false, ltb-true, not-true, not-false}
use Rattle.std.specs.Prelude.{Some, None}
use Rattle.common.specs.Filled.{items_of}
use Rattle.common.specs.Keep.{keep_of}
use Rattle.common.proofs.Cases.{by_test, both_true, either_true}
use Rattle.day.specs.TimeOfDay.{forward_of}
use Rattle.day.specs.declared.TimeOfDay.{TimeOfDay}
use Rattle.orders.specs.declared.Orders.{Orders}
use Rattle.orders.specs.Advance.{due_of, next_due_of}
use Rattle.table.specs.declared.Scheduler.{Scheduler}
use Rattle.table.specs.declared.Table.{Table}
use Rattle.calls.specs.Levels.{with_clock, with_scheduler}
use Rattle.ticking.specs.declared.Lull.{Lull}
use Rattle.ticking.specs.Ticking.{Run, run, ticks_of, runs_on, none_due, clock_after, scheduler_after, is_lull, lull_of}
use Rattle.ticking.proofs.Quieting.{ticks_none, Undue, undue_before, clock_none, clock_some, quiet_run, resting_run}

-- ---- no order is due

-- where none stands, none is due
undue_none : (n : ℕ) (t : Table) → t.orders.list.count ≡ 0 → Undue n t
unfolding items_of due_of keep_of
undue_none n t none k some within = ap (λ m. due_of (forward_of t.clock k) (take (min m 64) t.orders.list.items)) none

-- the code's test says no more than that
undue_tested : (n : ℕ) (t : Table) → none_due t.orders t.clock n ≡ true → Undue n t
unfolding none_due
undue_tested n t holds =
    by_test (eqb t.orders.list.count 0)
    (λ none. undue_none n t (eqb-true t.orders.list.count 0 none))
    (λ some. undue_before n t (ltb-true n (next_due_of t.clock t.orders) (rw some at holds)))

-- ---- the scheduler

module _ (s : Scheduler) (n : ℕ) where
  -- one that runs on, and any at no tick, stays as it is
  pub scheduler_same : runs_on s || eqb n 0 ≡ true → scheduler_after s n ≡ s
  unfolding scheduler_after
  scheduler_same same = rw same

  -- any other is stopped
  pub scheduler_stops : runs_on s || eqb n 0 ≡ false → scheduler_after s n ≡ record { running = false; switch = s.switch }
  unfolding scheduler_after
  scheduler_stops stops = rw stops

module _ (s : Scheduler) where
  -- one that runs on runs, and its switch is not set
  runs_both : runs_on s ≡ true → (s.running ≡ true) × (s.switch ≡ false)
  runs_both on = let parts = both_true s.running (not s.switch) on in (parts.0, not-true s.switch parts.1)

  -- any other is to stop where it runs
  stops_both : runs_on s ≡ false → s.running ≡ true → s.switch ≡ true
  stops_both off runs = not-false s.switch (rw runs at off)

-- where it is no lull, the scheduler runs on
pub no_lull_runs : (s : Scheduler) (o : Orders) (clock : TimeOfDay) (n : ℕ) → lull_of s o clock n ≡ None → (s.running ≡ true) × (s.switch ≡ false)
unfolding lull_of is_lull
no_lull_runs s o clock n none =
    by_test (runs_on s) (runs_both s)
    (λ off. let some = rw off at none in let z : ◌≡◌ {A = ℕ} 0 1 = cc in absurd (omega arith))

-- ---- a lull

-- the ticks of a lull, one after the other, come to that
lull_held : (t : Table) (n : ℕ) → is_lull t.scheduler t.orders t.clock n ≡ true
    → ticks_of n t ≡ run 0 [] (with_scheduler (with_clock t (clock_after t.clock n)) (scheduler_after t.scheduler n))
unfolding is_lull
lull_held t n holds =
    let s = t.scheduler in
    let ended : TimeOfDay → Scheduler → Run = (λ clock scheduler. run 0 [] (with_scheduler (with_clock t clock) scheduler)) in
    by_test (runs_on s)
    (λ on. quiet_run t (runs_both s on).0 (runs_both s on).1 n (undue_tested n t (rw on at holds))
    ∙ ap (ended (clock_after t.clock n)) (sym (scheduler_same s n (rw on))))
    (λ off. by_test (eqb n 0)
    (λ none. ticks_none n t (omega (arith, eqb-true n 0 none))
    ∙ sym (ap₂ ended (clock_none t.clock n (eqb-true n 0 none)) (scheduler_same s n (either_true (runs_on s) (eqb n 0) none))))
    (λ some. resting_run t (stops_both s off) n (omega (arith, eqb-false n 0 some))
    ∙ sym (ap₂ ended (clock_some t.clock n (eqb-false n 0 some)) (scheduler_stops s n (rw (off, some))))))

-- so they come to the lull that is found
pub lull_run : (t : Table) (n : ℕ) (lull : Lull) → lull_of t.scheduler t.orders t.clock n ≡ Some lull
    → ticks_of n t ≡ run 0 [] (with_scheduler (with_clock t lull.clock) lull.scheduler)
unfolding lull_of
lull_run t n lull found =
    by_test (is_lull t.scheduler t.orders t.clock n)
    (λ holds. let some = rw holds at found in
    let same : ◌≡◌ {A = Lull} (record { clock = clock_after t.clock n; scheduler = scheduler_after t.scheduler n }) lull = cc in
    lull_held t n holds ∙ ap (λ (l : Lull). run 0 [] (with_scheduler (with_clock t l.clock) l.scheduler)) same)
    (λ fails. let none = rw fails at found in let z : ◌≡◌ {A = ℕ} 0 1 = cc in absurd (omega arith))
