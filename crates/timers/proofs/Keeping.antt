-- The timer calls leave a table that stands as tables stand along a run. Assumes nothing.
use mathlib.Core.Path.{◌≡◌, ◌∙◌, sym, subst}
use mathlib.Core.Bool.{true, not}
use mathlib.Core.List.{List, [], ◌∷◌, ◌++◌}
use Prim.Native.Nat.{ℕ, ◌<◌, ◌≤◌, min}
use native.Mathlib.Omega.{arith}
use lib.Dec.{eqb, ltb}
use lib.ListN.{length}
use borrow.Author.Tests.{leb-false, ltb-true, lt-ltb, le-leb, not-true}
use Rattle.std.specs.Prelude.{Ok}
use Rattle.std.specs.Prelude.{Result}
use Rattle.common.specs.Every.{every}
use Rattle.common.specs.Keep.{keep_of}
use Rattle.common.proofs.Cases.{by_test, by_pick}
use Rattle.common.proofs.Filling.{standing_short, standing_push, push_count, push_places}
use Rattle.common.proofs.Keep.{length_keep}
use Rattle.common.proofs.Parts.{part_keep}
use Rattle.day.specs.declared.TimeOfDay.{TimeOfDay}
use Rattle.day.specs.TimeOfDay.{day, forward_of}
use Rattle.day.proofs.Forward.{forward_within}
use Rattle.orders.specs.declared.NotCancelled.{NotCancelled}
use Rattle.orders.specs.declared.Order.{Order}
use Rattle.orders.specs.declared.Orders.{Orders}
use Rattle.orders.specs.Cancel.{how_many_of, without_of, removed_of, after_cancel, cancel_of as orders_cancelled}
use Rattle.orders.specs.Moments.{interval_of, delay_of}
use Rattle.orders.specs.Orders.{standing_of, push_of, accept_of}
use Rattle.orders.specs.Timer.{stays_after}
use Rattle.orders.proofs.Schedule.{interval_range}
use Rattle.process.specs.declared.Target.{Target}
use Rattle.process.specs.declared.Target.TheVariants.{All, Level, Unknown}
use Rattle.table.specs.declared.configs.Config.{Config}
use Rattle.table.specs.declared.Table.{Table}
use Rattle.table.specs.Configuration.{configured_of, receiver_of, sender_of}
use Rattle.table.specs.Sound.{order_sound, orders_sound}
use Rattle.table.specs.Words.{negative16}
use Rattle.table.proofs.Ordered.{every_append, every_part, orders_count, orders_standing, standing_few, standing_sound, made_places, made_sound}
use Rattle.calls.specs.Levels.{process_at}
use Rattle.calls.proofs.Keeping.{Steady, Keeps, keeps_obeyed, passed_caller, steady_orders, steady_scheduler}
use Rattle.calls.proofs.Obeying.{last_passed}
use Rattle.timers.specs.declared.NewOrder.{NewOrder}
use Rattle.timers.specs.Timers.{Moment, moment_of, first_by, order_of, ordered, schedule_verdict, schedule_of, cancelled_of, cancel_schedule_of, shutdown_of, start_scheduler_of, read_time_of}

-- ---- orders that are sound stay so

-- orders in whole places, and sound
abbrev Good : Config → Orders → Type 0
Good c o = (length o.list.items ≡ 64) × (orders_sound c o ≡ true)

module _ (c : Config) (o : Orders) (good : Good c o) where
  -- a sound order that is pushed where a place is left
  push_good : (x : Order) → o.list.count < min c.orders 64 → order_sound c x ≡ true → Good c (push_of o x)
  push_good x free sound =
      let below : o.list.count < 64 = omega arith in
      let whole : length (push_of o x).list.items ≡ 64 = push_places 64 o.list x ∙ good.0 in
      let all : every (order_sound c) (standing_of o ++ (x ∷ [])) ≡ true =
      every_append (order_sound c) (standing_of o) (x ∷ []) (orders_standing c o good.1) (rw sound) in (
        whole,
        standing_sound c (push_of o x) whole (omega (arith, push_count 64 o.list x below))
            (subst (λ (l : List Order). every (order_sound c) l ≡ true) (sym (standing_push 64 o.list x good.0 below)) all),
      )

  -- the orders that a cancel leaves
  without_good : (sender : Target) (receiver : ℕ) → Good c (without_of sender receiver o)
  unfolding without_of
  without_good sender receiver =
      let stay : List Order = keep_of (stays_after sender receiver) (standing_of o) in
      let fewer : length stay ≤ length (standing_of o) = length_keep (stays_after sender receiver) (standing_of o) in (
        made_places stay,
        made_sound c stay (omega (arith, standing_short 64 o.list)) (omega (arith, standing_few o, orders_count c o good.1))
            (every_part (order_sound c) (part_keep (stays_after sender receiver) (standing_of o)) (orders_standing c o good.1)),
      )

  -- a cancel that is done, or refused
  removed_good : (sender : Target) (receiver : ℕ) → Good c (after_cancel o (removed_of sender receiver o))
  unfolding removed_of
  removed_good sender receiver =
      let kept : Result Orders NotCancelled → Type 0 = (λ cancelled. Good c (after_cancel o cancelled)) in
      by_pick kept (eqb o.list.count 0) _ _ good
      (by_pick kept (eqb (how_many_of All receiver o) 0) _ _ good
      (by_pick kept (eqb (how_many_of sender receiver o) 0) _ _ good (without_good sender receiver)))

  -- whomever it names
  cancel_good : (sender receiver : Target) → Good c (after_cancel o (orders_cancelled sender receiver o))
  unfolding orders_cancelled
  cancel_good All All = good
  cancel_good All (Level receiver) = removed_good All receiver
  cancel_good All Unknown = good
  cancel_good (Level level) All = good
  cancel_good (Level level) (Level receiver) = removed_good (Level level) receiver
  cancel_good (Level level) Unknown = good
  cancel_good Unknown receiver = good

-- ---- SCHEDULE

-- an order of a configured sender for a configured receiver, with a count that is not below 0, is sound
order_sound_lem : (c : Config) (clock : TimeOfDay) (caller : ℕ) (moment : Moment) (new : NewOrder)
    → configured_of c caller ≡ true → configured_of c new.receiver ≡ true → not (negative16 new.count) ≡ true
    → order_sound c (order_of clock caller new.receiver moment new) ≡ true
unfolding order_sound
order_sound_lem c clock caller moment new sender receiver count =
    let due : ltb (forward_of clock (delay_of clock (interval_of new.to) (first_by moment))).milliseconds day ≡ true =
    lt-ltb _ _ (forward_within clock (delay_of clock (interval_of new.to) (first_by moment))) in
    let few : new.count < 32768 = leb-false 32768 new.count (not-true _ count) in
    rw (sender, receiver, due, le-leb 1 (interval_of new.to) (interval_range new.to).0, le-leb (interval_of new.to) day (interval_range new.to).1)
    (le-leb new.count 32767 (omega arith))

-- a sound order is taken in, or there is no place for it
ordered_keeps : (t : Table) (x : Order) → Steady t → order_sound t.config x ≡ true → Keeps (ordered t x)
unfolding ordered accept_of Keeps
ordered_keeps t x steady sound =
    by_test (ltb t.orders.list.count (min t.config.orders 64))
    (λ free. let good = push_good t.config t.orders (steady.places, steady.parts.orders) x (ltb-true _ _ free) sound in
    rw free (steady_orders t (push_of t.orders x) steady good.0 good.1))
    (λ full. rw full steady)

-- a new order whose checks passed is sound
new_sound : (t : Table) (caller : ℕ) (new : NewOrder) (moment : Moment) → schedule_verdict t.config t.processes caller new moment ≡ Ok tt
    → order_sound t.config (order_of t.clock caller new.receiver moment new) ≡ true
new_sound t caller new moment passed =
    let starts = last_passed _ _ _ passed in
    let counts = last_passed _ _ _ starts.0 in
    let lasts = last_passed _ _ _ counts.0 in
    let receives = last_passed _ _ _ lasts.0 in
    let calls = passed_caller t.config (process_at t.processes caller) caller [] receives.0 in
    order_sound_lem t.config t.clock caller moment new calls.0 receives.1 counts.1

-- SCHEDULE leaves a steady table
pub schedule_keeps : (t : Table) (caller : ℕ) (new : NewOrder) → Steady t → Keeps (schedule_of t caller new)
unfolding schedule_of
schedule_keeps t caller new steady =
    keeps_obeyed _ t _ steady (λ passed. ordered_keeps t _ steady (new_sound t caller new (moment_of new.absolute new.time) passed))

-- ---- the other calls

-- CANCELSCHEDULE leaves a steady table
pub cancel_schedule_keeps : (t : Table) (caller sender receiver : ℕ) → Steady t → Keeps (cancel_schedule_of t caller sender receiver)
unfolding cancel_schedule_of cancelled_of Keeps
cancel_schedule_keeps t caller sender receiver steady =
    let good = cancel_good t.config t.orders (steady.places, steady.parts.orders) (sender_of sender) (receiver_of t.config receiver) in
    keeps_obeyed _ t _ steady (λ passed. steady_orders t _ steady good.0 good.1)

-- SHUTDOWN leaves a steady table
pub shutdown_keeps : (t : Table) (caller : ℕ) → Steady t → Keeps (shutdown_of t caller)
unfolding shutdown_of Keeps
shutdown_keeps t caller steady = keeps_obeyed _ t _ steady (λ passed. steady_scheduler t _ steady)

-- a start of the scheduler leaves a steady table
pub start_scheduler_keeps : (t : Table) → Steady t → Keeps (start_scheduler_of t)
unfolding start_scheduler_of Keeps
start_scheduler_keeps t steady = steady_scheduler t _ steady

-- READTIME leaves a steady table
pub read_time_keeps : (t : Table) (caller : ℕ) → Steady t → Keeps (read_time_of t caller)
unfolding read_time_of Keeps
read_time_keeps t caller steady = keeps_obeyed _ t _ steady (λ passed. steady)
