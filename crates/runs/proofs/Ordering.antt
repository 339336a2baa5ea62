-- What a step of a run does to the clock and the orders that stand is what its steps of the order table do. Assumes nothing.
use mathlib.Core.Path.{◌≡◌, ◌∙◌, refl, sym, ap, subst}
use mathlib.Core.Bool.{Bool, true, false, ◌||◌}
use mathlib.Core.List.{[], ◌∷◌}
use Prim.Native.Nat.{ℕ, zero, suc, ◌<◌, min}
use native.Mathlib.Omega.{arith}
use lib.Dec.{eqb, leb, ltb}
use lib.ListN.{replicate}
use borrow.Author.Tests.{eqb-true, eq-eqb, ltb-true}
use Rattle.std.specs.Prelude.{Result}
use Rattle.common.specs.Choice.{pick}
use Rattle.common.proofs.Cases.{by_test, by_pick, never_both, both_true}
use Rattle.common.proofs.Filling.{standing_push}
use Rattle.day.specs.TimeOfDay.{forward_of}
use Rattle.orders.specs.declared.NotCancelled.{NotCancelled}
use Rattle.orders.specs.declared.Order.{Order}
use Rattle.orders.specs.declared.Orders.{Orders}
use Rattle.orders.specs.Cancel.{is_from, matches_of, how_many_of, removed_of, cancel_of}
use Rattle.orders.specs.Orders.{accept_of}
use Rattle.orders.specs.Timer.{timed, Step, ticks, accepts, cancels, stays_after, after_of as steps_after, ticks_of as ticks_among, Spared}
use Rattle.orders.proofs.Tables.{standing_advance, standing_without}
use Rattle.process.specs.declared.Target.{Target}
use Rattle.process.specs.declared.Target.TheVariants.{All, Level, Unknown}
use Rattle.table.specs.declared.answers.Answer.{Answer}
use Rattle.table.specs.declared.Table.{Table}
use Rattle.table.specs.Answers.{number_of}
use Rattle.table.specs.Configuration.{configured_of, receiver_of, sender_of}
use Rattle.table.specs.Words.{minus_one}
use Rattle.calls.specs.Effects.{Effect, refuse}
use Rattle.calls.specs.Levels.{process_of}
use Rattle.calls.specs.Verdicts.{Checked, obeyed}
use Rattle.calls.proofs.Keeping.{Steady}
use Rattle.timers.specs.declared.NewOrder.{NewOrder}
use Rattle.timers.specs.Timers.{ordered, schedule_of, cancelling, cancelled_of, cancel_schedule_of}
use Rattle.ticking.specs.Ticking.{carrying_out, tick_of, ticks_of}
use Rattle.ticking.proofs.Quieting.{tick_running}
use Rattle.rtms.specs.Calls.{Call, SCHEDULE, CANCELSCHEDULE, TICKS, effect_of, done_by}
use Rattle.runs.specs.Runs.{leaves}
use Rattle.runs.specs.Schedules.{deed_of, order_by, Running, is_for, Lets, order_steps, timed_of, ticks_by}
use Rattle.runs.proofs.Answering.{Unlike, Avoids, avoids_more, avoids_caller, by_obeyed}
use Rattle.runs.proofs.Calm.{Mild, Kind, calm, schedule, cancel, tick, many, kind_of}
use Rattle.runs.proofs.Steady.{steady_done}

-- ---- a call that enters an order, or takes some, where it is answered 0

-- the clock and the orders after an effect: after the step where it is answered 0, and as they were where not
unfoldable pub Does : Step → Table → Effect → Type 0
Does step t effect = timed_of effect.table ≡ steps_after (pick (eqb (number_of effect.answer) 0) (step ∷ []) []) (timed_of t)

module _ (step : Step) (t : Table) where
  -- a refusal does nothing
  does_refused : (answer : Answer) → Unlike 0 answer → Does step t (refuse t answer)
  unfolding Does
  does_refused answer other = rw other

  -- so checks that do not answer 0 may come before it
  does_obeyed : (v : Checked) (effect : Effect) → Avoids 0 v → Does step t effect → Does step t (obeyed v t effect)
  does_obeyed v effect avoids does = by_obeyed (Does step t) 0 v t effect avoids does_refused does

-- an order that is taken in stands behind all others
ordered_does : (t : Table) (x : Order) → Steady t → Does (accepts x) t (ordered t x)
unfolding Does ordered accept_of
ordered_does t x steady =
    by_test (ltb t.orders.list.count (min t.config.orders 64))
    (λ free. let room : t.orders.list.count < min t.config.orders 64 = ltb-true _ _ free in
    rw free (ap (timed t.clock) (standing_push 64 t.orders.list x steady.places (omega arith))))
    (λ full. rw full)

-- SCHEDULE enters the order where it is answered 0
pub schedule_does : (t : Table) (caller : ℕ) (new : NewOrder) → Steady t → Does (accepts (order_by t caller new)) t (schedule_of t caller new)
unfolding schedule_of
schedule_does t caller new steady =
    does_obeyed _ t _ _
    (avoids_more 0 _ _ _ (avoids_more 0 _ _ _ (avoids_more 0 _ _ _ (avoids_more 0 _ _ _
    (avoids_caller 0 t.config (process_of t caller) caller refl refl) refl) refl) refl) refl)
    (ordered_does t _ steady)

-- a cancel takes the orders that match
removed_does : (sender : Target) (receiver : ℕ) (t : Table) → Does (cancels sender receiver) t (cancelling (removed_of sender receiver t.orders) t)
unfolding Does removed_of
removed_does sender receiver t =
    let does : Result Orders NotCancelled → Type 0 = (λ c. Does (cancels sender receiver) t (cancelling c t)) in
    by_pick does (eqb t.orders.list.count 0) _ _ refl
    (by_pick does (eqb (how_many_of All receiver t.orders) 0) _ _ refl
    (by_pick does (eqb (how_many_of sender receiver t.orders) 0) _ _ refl (ap (timed t.clock) (standing_without sender receiver t.orders))))

-- whomever it names
cancelled_does : (sender : Target) (receiver : ℕ) (t : Table)
    → Does (cancels sender receiver) t (cancelling (cancel_of sender (receiver_of t.config receiver) t.orders) t)
unfolding Does receiver_of cancel_of
cancelled_does All receiver t =
    let does : Target → Type 0 = (λ target. Does (cancels All receiver) t (cancelling (cancel_of All target t.orders) t)) in
    by_pick does (eqb receiver minus_one) All _ refl (by_pick does (configured_of t.config receiver) (Level receiver) Unknown (removed_does All receiver t) refl)
cancelled_does (Level level) receiver t =
    let does : Target → Type 0 = (λ target. Does (cancels (Level level) receiver) t (cancelling (cancel_of (Level level) target t.orders) t)) in
    by_pick does (eqb receiver minus_one) All _ refl
    (by_pick does (configured_of t.config receiver) (Level receiver) Unknown (removed_does (Level level) receiver t) refl)
cancelled_does Unknown receiver t = refl

-- CANCELSCHEDULE takes the orders that match where it is answered 0
cancel_does : (t : Table) (caller sender receiver : ℕ) → Does (cancels (sender_of sender) receiver) t (cancel_schedule_of t caller sender receiver)
unfolding cancel_schedule_of cancelled_of
cancel_does t caller sender receiver =
    does_obeyed _ t _ _ (avoids_caller 0 t.config (process_of t caller) caller refl refl) (cancelled_does (sender_of sender) receiver t)

-- ---- ticks of a scheduler that runs

module _ (t : Table) (runs : Running t) where
  -- a tick carries out what is due
  pub tick_carries : tick_of t ≡ carrying_out (forward_of t.clock 1) t
  unfolding tick_of
  tick_carries = tick_running (forward_of t.clock 1) t runs.running runs.no_switch

  -- it is a step of the order table
  tick_timed : timed_of (tick_of t).table ≡ steps_after (ticks ∷ []) (timed_of t)
  unfolding carrying_out
  tick_timed =
      ap (λ r. timed_of r.table) tick_carries
      ∙ ap (timed (forward_of t.clock 1)) (standing_advance (forward_of t.clock 1) t.orders)

  -- and the scheduler runs on
  tick_runs : Running (tick_of t).table
  unfolding carrying_out
  tick_runs = subst (λ r. Running r.table) (sym tick_carries) (record { running = runs.running; no_switch = runs.no_switch })

-- many ticks are as many steps
ticks_timed : (n : ℕ) (t : Table) → Running t → timed_of (ticks_of n t).table ≡ steps_after (replicate n ticks) (timed_of t)
unfolding ticks_of
ticks_timed zero t runs = refl
ticks_timed (suc n) t runs = ticks_timed n (tick_of t).table (tick_runs t runs) ∙ ap (steps_after (replicate n ticks)) (tick_timed t runs)

-- none at all too, whether it runs or not
let_ticks_timed : (x : Order) (n : ℕ) (t : Table) → Lets x (TICKS n) t → timed_of (ticks_of n t).table ≡ steps_after (replicate n ticks) (timed_of t)
unfolding deed_of Lets ticks_of
let_ticks_timed x zero t lets = refl
let_ticks_timed x (suc n) t lets = ticks_timed (suc n) t lets

-- ---- every step

-- a call is answered 0
abbrev answered : Call → Table → Bool
answered call t = eqb (number_of (done_by call t).answer) 0

-- a call of a steady table that does a step where it is answered 0
does_answered : (step : Step) (call : Call) (t : Table) → Steady t → Does step t (effect_of call t)
    → timed_of (effect_of call t).table ≡ steps_after (pick (answered call t) (step ∷ []) []) (timed_of t)
unfolding Does
does_answered step call t steady does =
    subst (λ e. timed_of (effect_of call t).table ≡ steps_after (pick (eqb (number_of e.answer) 0) (step ∷ []) []) (timed_of t))
    (sym (steady_done call t steady)) does

-- the clock and the orders after a call of a steady table, by its kind
kind_timed : (x : Order) (call : Call) (t : Table) → Steady t → Lets x call t → Kind t call
    → timed_of (effect_of call t).table ≡ steps_after (order_steps call t) (timed_of t)
unfolding deed_of Mild Lets order_steps
kind_timed x call t steady lets (calm calmly) = calmly.mildly.1 ∙ sym (ap (λ steps. steps_after steps (timed_of t)) calmly.no_steps)
kind_timed x call t steady lets (schedule caller new) =
    does_answered (accepts (order_by t caller new)) (SCHEDULE caller new) t steady (schedule_does t caller new steady)
kind_timed x call t steady lets (cancel caller sender receiver) =
    does_answered (cancels (sender_of sender) receiver) (CANCELSCHEDULE caller sender receiver) t steady (cancel_does t caller sender receiver)
kind_timed x call t steady lets tick = tick_timed t lets
kind_timed x call t steady lets (many n) = let_ticks_timed x n t lets

-- a step that leaves an order to the clock does to the clock and the orders what its steps of the order table do
pub step_timed : (x : Order) (call : Call) (t : Table) → Steady t → Lets x call t → timed_of (leaves call t) ≡ steps_after (order_steps call t) (timed_of t)
step_timed x call t steady lets = ap (λ e. timed_of e.table) (steady_done call t steady) ∙ kind_timed x call t steady lets (kind_of call t)

-- ---- what it spares

-- who is meant by the sender's word is everybody, or the sender of that number
from_named : (x : Order) (sender : ℕ) → is_from (sender_of sender) x ≡ true → eqb sender minus_one || eqb sender x.sender ≡ true
unfolding sender_of is_from
from_named x sender =
    by_test (eqb sender minus_one)
    (λ all from. rw all)
    (λ named. by_test (leb sender 11)
    (λ level from.
    let same : eqb x.sender sender ≡ true = rw (named, level) at from in
    rw (named, eq-eqb sender x.sender (sym (eqb-true _ _ same))))
    (λ unknown from. let never : false ≡ true = rw (named, unknown) at from in absurd (never_both never refl)))

-- a cancel is for every order that it matches
matches_for : (x : Order) (sender receiver : ℕ) → matches_of (sender_of sender) receiver x ≡ true → is_for x sender receiver ≡ true
unfolding matches_of is_for
matches_for x sender receiver matches =
    let parts = both_true (eqb x.receiver receiver) (is_from (sender_of sender) x) matches in
    rw (eq-eqb receiver x.receiver (sym (eqb-true _ _ parts.0)), from_named x sender parts.1)

-- an order that a cancel is not for stays
spared_by : (x : Order) (sender receiver : ℕ) → is_for x sender receiver ≡ false → stays_after (sender_of sender) receiver x ≡ true
spared_by x sender receiver other =
    by_test (matches_of (sender_of sender) receiver x)
    (λ matches. absurd (never_both (matches_for x sender receiver matches) other))
    (λ none. rw none)

-- so it is spared
spared_cancel : (x : Order) (b : Bool) (sender : Target) (receiver : ℕ) → (b ≡ true → stays_after sender receiver x ≡ true)
    → Spared x (pick b (cancels sender receiver ∷ []) [])
spared_cancel x true sender receiver stays = (stays refl, tt)
spared_cancel x false sender receiver stays = tt

-- an order that is entered takes none
spared_accept : (x y : Order) (b : Bool) → Spared x (pick b (accepts y ∷ []) [])
spared_accept x y true = tt
spared_accept x y false = tt

-- nor do ticks
spared_ticks : (x : Order) (n : ℕ) → Spared x (replicate n ticks)
spared_ticks x zero = tt
spared_ticks x (suc n) = spared_ticks x n

-- a step that leaves an order to the clock cancels it not
pub step_spares : (x : Order) (call : Call) (t : Table) → Lets x call t → Kind t call → Spared x (order_steps call t)
unfolding deed_of Lets order_steps
step_spares x call t lets (calm calmly) = subst (Spared x) (sym calmly.no_steps) tt
step_spares x call t lets (schedule caller new) = spared_accept x (order_by t caller new) (answered (SCHEDULE caller new) t)
step_spares x call t lets (cancel caller sender receiver) =
    spared_cancel x (answered (CANCELSCHEDULE caller sender receiver) t) (sender_of sender) receiver (λ done. spared_by x sender receiver (lets (eqb-true _ _ done)))
step_spares x call t lets tick = tt
step_spares x call t lets (many n) = spared_ticks x n

-- ---- how many ticks it is

-- no ticks among what is none, or one step that is no tick
one_no_tick : (b : Bool) (step : Step) → ticks_among (step ∷ []) ≡ 0 → ticks_among (pick b (step ∷ []) []) ≡ 0
one_no_tick true step none = none
one_no_tick false step none = refl

-- so many among so many
many_ticks : (n : ℕ) → ticks_among (replicate n ticks) ≡ n
many_ticks zero = refl
many_ticks (suc n) = ap suc (many_ticks n)

-- a step is as many ticks as there are among its steps of the order table
pub step_ticks : (call : Call) (t : Table) → Kind t call → ticks_among (order_steps call t) ≡ ticks_by call
unfolding deed_of order_steps ticks_by
step_ticks call t (calm calmly) = ap ticks_among calmly.no_steps ∙ sym calmly.no_ticks
step_ticks call t (schedule caller new) = one_no_tick (answered (SCHEDULE caller new) t) (accepts (order_by t caller new)) refl
step_ticks call t (cancel caller sender receiver) = one_no_tick (answered (CANCELSCHEDULE caller sender receiver) t) (cancels (sender_of sender) receiver) refl
step_ticks call t tick = refl
step_ticks call t (many n) = many_ticks n
