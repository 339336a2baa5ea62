-- Ticks leave a table that stands as tables stand along a run. Assumes nothing.
use mathlib.Core.Path.{◌≡◌, refl}
use mathlib.Core.Bool.{true, ◌&&◌}
use mathlib.Core.List.{List, [], ◌∷◌, map}
use Prim.Native.Nat.{ℕ, zero, suc, ◌-◌, ◌<◌, ◌≤◌}
use native.Mathlib.Omega.{arith}
use lib.Dec.{eqb, leb, ltb}
use lib.ListN.{length, length-append}
use borrow.Author.Tests.{leb-true, lt-ltb, le-leb}
use Rattle.std.specs.Prelude.{Option}
use Rattle.common.specs.Every.{every}
use Rattle.common.proofs.Cases.{by_pick, both, both_true}
use Rattle.common.proofs.Filling.{standing_short}
use Rattle.day.specs.declared.TimeOfDay.{TimeOfDay}
use Rattle.day.specs.TimeOfDay.{day, forward_of}
use Rattle.day.proofs.Forward.{forward_within}
use Rattle.orders.specs.declared.Order.{Order}
use Rattle.orders.specs.declared.Orders.{Orders}
use Rattle.orders.specs.Advance.{due_at, due_count_of, again_of, onward_of, left_of, lefts_of, advancing, advance_of}
use Rattle.orders.specs.Orders.{standing_of}
use Rattle.posting.specs.declared.Origin.TheVariants.{Timed}
use Rattle.posting.proofs.Keeping.{letters_keep, letters_whole}
use Rattle.table.specs.declared.configs.Config.{Config}
use Rattle.table.specs.declared.Table.{Table}
use Rattle.table.specs.Sound.{order_names, order_sound, orders_sound}
use Rattle.table.proofs.Ordered.{every_append, orders_count, orders_standing, standing_few, made_places, made_sound}
use Rattle.calls.specs.Levels.{with_clock}
use Rattle.calls.proofs.Keeping.{Steady, steady_scheduler, steady_clock, steady_orders, steady_processes}
use Rattle.ticking.proofs.Quieting.{by_tick}
use Rattle.ticking.specs.Ticking.{letter_of, carried_out, due_now, carrying_out, stopping, passing, tick_at, tick_of, ticks_of}

-- ---- what is left of orders after a moment

module _ (c : Config) (now : TimeOfDay) where
  -- what a sound order is next is sound
  again_sound : (x : Order) → order_sound c x ≡ true → order_sound c (again_of x) ≡ true
  unfolding order_sound
  again_sound x sound =
      let parts = both_true (order_names c x) _ sound in
      let counted = both_true (ltb x.due.milliseconds day && leb 1 x.every && leb x.every day) (leb x.left 32767) parts.1 in
      let most = both_true (ltb x.due.milliseconds day && leb 1 x.every) (leb x.every day) counted.0 in
      let least = both_true (ltb x.due.milliseconds day) (leb 1 x.every) most.0 in
      let few : x.left ≤ 32767 = leb-true x.left 32767 counted.1 in
      rw (parts.0, lt-ltb _ day (forward_within x.due x.every), least.1, most.1) (le-leb (x.left - 1) 32767 (omega arith))

  -- one at most is left of an order, and that is sound
  left_good : (x : Order) → order_sound c x ≡ true → (length (left_of (onward_of now x)) ≤ 1) × (every (order_sound c) (left_of (onward_of now x)) ≡ true)
  unfolding onward_of
  left_good x sound =
      let good : Option Order → Type 0 = (λ left. (length (left_of left) ≤ 1) × (every (order_sound c) (left_of left) ≡ true)) in
      by_pick good (due_at now x) _ _
      (by_pick good (eqb x.left 1) _ _ (omega arith, refl) (omega arith, rw (again_sound x sound)))
      (omega arith, rw sound)

  -- so no more are left of all of them than there were, and each is sound
  lefts_good : (l : List Order) → every (order_sound c) l ≡ true → (length (advancing now l) ≤ length l) × (every (order_sound c) (advancing now l) ≡ true)
  unfolding lefts_of
  lefts_good [] all = (omega arith, refl)
  lefts_good (x ∷ l) all =
      let parts = both (order_sound c x) (every (order_sound c) l) all in
      let here = left_good x parts.0 in
      let later = lefts_good l parts.1 in (
        rw length-append (omega (arith, here.0, later.0)),
        every_append (order_sound c) (left_of (onward_of now x)) (advancing now l) here.1 later.1,
      )

  -- sound orders are sound after a moment, in as many places
  advance_good : (o : Orders) → length o.list.items ≡ 64 → orders_sound c o ≡ true
      → (length (advance_of now o).list.items ≡ 64) × (orders_sound c (advance_of now o) ≡ true)
  unfolding advance_of
  advance_good o places sound =
      let lefts = lefts_good (standing_of o) (orders_standing c o sound) in
      let fewer : length (advancing now (standing_of o)) ≤ length (standing_of o) = lefts.0 in
      by_pick (λ (after : Orders). (length after.list.items ≡ 64) × (orders_sound c after ≡ true)) (eqb (due_count_of now o) 0) o _
      (places, sound) (
        made_places (advancing now (standing_of o)),
        made_sound c (advancing now (standing_of o)) (omega (arith, standing_short 64 o.list)) (omega (arith, standing_few o, orders_count c o sound)) lefts.1,
      )

-- ---- ticks

-- the tick at which the clock reads a time of day
at_keeps : (now : TimeOfDay) (t : Table) → now.milliseconds < day → Steady t → Steady (tick_at now t).table
unfolding stopping passing carrying_out carried_out
at_keeps now t within steady =
    let clocked : Steady (with_clock t now) = steady_clock t now steady (lt-ltb now.milliseconds day within) in
    let good = advance_good t.config now t.orders steady.places steady.parts.orders in
    let letters = map letter_of (due_now now t) in
    by_tick (λ x. Steady x.table) now t
    (steady_scheduler (with_clock t now) _ clocked)
    (steady_orders _ (advance_of now t.orders)
    (steady_processes (with_clock t now) _ clocked
    (letters_whole Timed t.config.places letters t.processes steady.processes)
    (letters_keep t Timed letters t.processes steady.processes steady.parts.levels))
    good.0 good.1)
    clocked

-- a tick leaves a steady table
pub tick_keeps : (t : Table) → Steady t → Steady (tick_of t).table
unfolding tick_of
tick_keeps t steady = at_keeps (forward_of t.clock 1) t (forward_within t.clock 1) steady

-- and so do many
pub ticks_keeps : (n : ℕ) (t : Table) → Steady t → Steady (ticks_of n t).table
unfolding ticks_of
ticks_keeps zero t steady = steady
ticks_keeps (suc n) t steady = ticks_keeps n (tick_of t).table (tick_keeps t steady)
