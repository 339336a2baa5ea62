-- The timer law: an order is carried out on the ticks of its schedule and on no other, and stands in the table exactly until its last.
-- Assumes nothing.
use mathlib.Core.Path.{◌≡◌, ◌∙◌, refl, ap, ap₂, sym, subst}
use mathlib.Core.Bool.{true, false}
use mathlib.Core.List.{List, [], ◌∷◌, ◌++◌, append_assoc}
use Prim.Native.Nat.{ℕ, zero, suc, ◌+◌, ◌-◌, ◌%◌, ◌<◌, ◌≤◌}
use native.Mathlib.Omega.{arith}
use native.Mathlib.Numerals.{one-add}
use lib.ListN.{length, get_or, take}
use lib.Seq.{get_or_at, take_at}
use borrow.Author.Tests.{eq-eqb, ne_eqb}
use Rattle.std.specs.Prelude.{Option, Some, None}
use Rattle.common.specs.Keep.{keep_of}
use Rattle.common.proofs.Keep.{keep_append}
use Rattle.day.specs.declared.TimeOfDay.{TimeOfDay}
use Rattle.day.specs.TimeOfDay.{day, forward_of}
use Rattle.day.proofs.Forward.{forward_forward}
use Rattle.orders.specs.declared.Order.{Order}
use Rattle.orders.specs.Orders.{no_order}
use Rattle.orders.specs.Advance.{due_at, onward_of, left_of, lefts_of, advancing}
use Rattle.orders.specs.Cancel.{matches_of, is_from}
use Rattle.process.specs.declared.Target.{Target}
use Rattle.process.specs.declared.Target.TheVariants.{All, Level, Unknown}
use Rattle.orders.specs.Timer.{Timed, Step, ticks, accepts, cancels, soon, stays_after, step_of, after_of, ticks_of, Place, place, gone, order_at, place_after, followed, Spared, CarriedOut, Gone, KeepsTime, aged_of}
use Rattle.orders.proofs.Life.{Life, standing, over, tick_life, lives, DueNext, Over, due_fires, fires_due, over_finished, finished_over}

lefts_append : (onward : Order → Option Order) (l m : List Order) → lefts_of onward (l ++ m) ≡ lefts_of onward l ++ lefts_of onward m
unfolding lefts_of
lefts_append onward [] m = refl
lefts_append onward (x ∷ l) m = ap (◌++◌ (left_of (onward x))) (lefts_append onward l m) ∙ sym (append_assoc (left_of (onward x)) _ _)

-- ---- one order at one tick

module _ (clock : TimeOfDay) (x : Order) (r m : ℕ) where
  -- an order that is due in so many ticks and one
  abbrev next_of : Order
  next_of = aged_of x (forward_of clock (suc r)) m

-- it is due at the next tick exactly where that is all
due_now_lem : (clock : TimeOfDay) (x : Order) (m : ℕ) → due_at (forward_of clock 1) (next_of clock x 0 m) ≡ true
due_now_lem clock x m = eq-eqb (forward_of clock 1).milliseconds (forward_of clock 1).milliseconds refl

due_later : (clock : TimeOfDay) (x : Order) (r m : ℕ) → suc (suc r) ≤ day → due_at (forward_of clock 1) (next_of clock x (suc r) m) ≡ false
unfolding forward_of
due_later clock x r m within = ne_eqb ((clock.milliseconds + suc (suc r)) % day) ((clock.milliseconds + 1) % day) (omega arith)

abbrev stayed : Order → Option Order
stayed x = Some x

module _ (clock : TimeOfDay) (x : Order) where
  -- not due: it counts down by this tick
  onward_later : (r m : ℕ) → suc (suc r) ≤ day → onward_of (forward_of clock 1) (next_of clock x (suc r) m) ≡ stayed (next_of (forward_of clock 1) x r m)
  unfolding onward_of
  onward_later r m within =
      rw (due_later clock x r m within)
      (ap (λ due. stayed (aged_of x due m)) (ap (forward_of clock) (sym (one-add (suc r))) ∙ sym (forward_forward clock 1 (suc r))))

  -- due without end: it counts from its interval again
  onward_endless : (e : ℕ) → x.every ≡ suc e → onward_of (forward_of clock 1) (next_of clock x 0 0) ≡ stayed (next_of (forward_of clock 1) x e 0)
  unfolding onward_of
  onward_endless e every = rw (due_now_lem clock x 0) (ap (λ by. stayed (aged_of x (forward_of (forward_of clock 1) by) 0)) every)

  -- due for the last time: it leaves
  onward_last : onward_of (forward_of clock 1) (next_of clock x 0 1) ≡ None
  unfolding onward_of
  onward_last = rw (due_now_lem clock x 1)

  -- due with firings left: one less, and from its interval again
  onward_again : (e m : ℕ) → x.every ≡ suc e → onward_of (forward_of clock 1) (next_of clock x 0 (suc (suc m))) ≡ stayed (next_of (forward_of clock 1) x e (suc m))
  unfolding onward_of
  onward_again e m every =
      let fewer : suc (suc m) - 1 ≡ suc m = omega arith in
      rw (due_now_lem clock x (suc (suc m)), ne_eqb (suc (suc m)) 1 (omega arith))
      (ap₂ (λ by left. stayed (aged_of x (forward_of (forward_of clock 1) by) left)) every fewer)

-- whom an order is from and for never changes
aged_matches : (sender : Target) (receiver : ℕ) (x : Order) (due : TimeOfDay) (left : ℕ)
    → stays_after sender receiver (aged_of x due left) ≡ stays_after sender receiver x
unfolding matches_of is_from
aged_matches All receiver x due left = refl
aged_matches (Level level) receiver x due left = refl
aged_matches Unknown receiver x due left = refl

-- ---- one order among others

-- it stands at a place, due in so many ticks and one
record StandsAt (t : Timed) (i : ℕ) (x : Order) (r m : ℕ) : Type 0 where
  before : List Order
  behind : List Order
  split : t.orders ≡ before ++ (next_of t.clock x r m ∷ behind)
  here : length before ≡ i
  within : suc r ≤ day

abbrev Tracks : Timed → Place → Order → Life → Type 0
Tracks t (place i) x (standing r m) = StandsAt t i x r m
Tracks t (place i) x over = ⊥
Tracks t gone x (standing r m) = ⊥
Tracks t gone x over = Unit

module _ (t : Timed) (i : ℕ) (x : Order) (r m : ℕ) (st : StandsAt t i x r m) where
  order_here : order_at t i ≡ next_of t.clock x r m
  order_here = ap (λ l. get_or l i no_order) st.split ∙ get_or_at st.before _ st.behind no_order i st.here

  before_here : take i t.orders ≡ st.before
  before_here = ap (take i) st.split ∙ take_at st.before _ i st.here

  tick_on : (r' m' : ℕ) → onward_of (soon t) (next_of t.clock x r m) ≡ stayed (next_of (soon t) x r' m') → suc r' ≤ day
      → Tracks (step_of ticks t) (place_after ticks t (place i)) x (standing r' m')
  unfolding lefts_of
  tick_on r' m' onward within =
      rw (order_here, onward, before_here)
      (record {
        before = advancing (soon t) st.before;
        behind = advancing (soon t) st.behind;
        split = ap (advancing (soon t)) st.split ∙ lefts_append (onward_of (soon t)) st.before _ ∙ rw onward;
        here = refl;
        within = within;
      })

  tick_off : onward_of (soon t) (next_of t.clock x r m) ≡ None → Tracks (step_of ticks t) (place_after ticks t (place i)) x over
  tick_off leaves = rw (order_here, leaves) tt

  -- an order that is accepted later stands behind it
  accept_on : (y : Order) → Tracks (step_of (accepts y) t) (place i) x (standing r m)
  accept_on y = record {
    before = st.before;
    behind = st.behind ++ (y ∷ []);
    split = ap (λ l. l ++ (y ∷ [])) st.split ∙ append_assoc st.before _ (y ∷ []);
    here = st.here;
    within = st.within;
  }

  -- a cancel that does not match it leaves it in the table
  cancel_on : (sender : Target) (receiver : ℕ) → stays_after sender receiver x ≡ true
      → Tracks (step_of (cancels sender receiver) t) (place_after (cancels sender receiver) t (place i)) x (standing r m)
  unfolding keep_of
  cancel_on sender receiver spared =
      let kept : stays_after sender receiver (next_of t.clock x r m) ≡ true = aged_matches sender receiver x _ m ∙ spared in
      rw (order_here, kept, before_here)
      (record {
        before = keep_of (stays_after sender receiver) st.before;
        behind = keep_of (stays_after sender receiver) st.behind;
        split = ap (keep_of (stays_after sender receiver)) st.split ∙ keep_append (stays_after sender receiver) st.before _ ∙ rw kept;
        here = refl;
        within = st.within;
      })

-- ---- any sequence of steps

module _ (x : Order) (e : ℕ) (every : x.every ≡ suc e) (most : suc e ≤ day) where
  abbrev life_after : Step → Life → Life
  life_after ticks l = tick_life e l
  life_after (accepts y) l = l
  life_after (cancels sender receiver) l = l

  -- a tick takes the order's life one tick on
  tracks_tick : (t : Timed) (i r m : ℕ) → StandsAt t i x r m → Tracks (step_of ticks t) (place_after ticks t (place i)) x (tick_life e (standing r m))
  tracks_tick t i (suc r) m st = tick_on t i x (suc r) m st r m (onward_later t.clock x r m st.within) (omega (arith, st.within))
  tracks_tick t i zero zero st = tick_on t i x zero zero st e zero (onward_endless t.clock x e every) most
  tracks_tick t i zero (suc zero) st = tick_off t i x zero 1 st (onward_last t.clock x)
  tracks_tick t i zero (suc (suc m)) st = tick_on t i x zero (suc (suc m)) st e (suc m) (onward_again t.clock x e m every) most

  tracks_step : (s : Step) (steps : List Step) (t : Timed) (p : Place) (l : Life) → Spared x (s ∷ steps) → Tracks t p x l
      → Tracks (step_of s t) (place_after s t p) x (life_after s l) × Spared x steps
  tracks_step ticks steps t (place i) (standing r m) spared st = (tracks_tick t i r m st, spared)
  tracks_step (accepts y) steps t (place i) (standing r m) spared st = (accept_on t i x r m st y, spared)
  tracks_step (cancels sender receiver) steps t (place i) (standing r m) spared st = (cancel_on t i x r m st sender receiver spared.0, spared.1)
  tracks_step ticks steps t gone over spared st = (tt, spared)
  tracks_step (accepts y) steps t gone over spared st = (tt, spared)
  tracks_step (cancels sender receiver) steps t gone over spared st = (tt, spared.1)
  tracks_step s steps t (place i) over spared st = absurd st
  tracks_step s steps t gone (standing r m) spared st = absurd st

  tracks_all : (steps : List Step) (t : Timed) (p : Place) (l : Life) → Spared x steps → Tracks t p x l
      → Tracks (after_of steps t) (followed steps t p) x (lives e (ticks_of steps) l)
  tracks_all [] t p l spared st = st
  tracks_all (ticks ∷ steps) t p l spared st =
      let now = tracks_step ticks steps t p l spared st in tracks_all steps (step_of ticks t) (place_after ticks t p) (tick_life e l) now.1 now.0
  tracks_all (accepts y ∷ steps) t p l spared st =
      let now = tracks_step (accepts y) steps t p l spared st in tracks_all steps (step_of (accepts y) t) (place_after (accepts y) t p) l now.1 now.0
  tracks_all (cancels sender receiver ∷ steps) t p l spared st =
      let now = tracks_step (cancels sender receiver) steps t p l spared st in
      tracks_all steps (step_of (cancels sender receiver) t) (place_after (cancels sender receiver) t p) l now.1 now.0

-- ---- what following an order tells of it

module _ (x : Order) where
  carried_due : (t : Timed) (p : Place) (l : Life) → Tracks t p x l → CarriedOut t p → DueNext l
  carried_due t (place i) (standing zero m) st carried = tt
  carried_due t (place i) (standing (suc r) m) st carried =
      let due : due_at (soon t) (next_of t.clock x (suc r) m) ≡ true = rw (order_here t i x (suc r) m st) at carried in
      let z : ◌≡◌ {A = ℕ} 0 1 = cc (due_later t.clock x r m st.within) in absurd (omega arith)
  carried_due t (place i) over st carried = absurd st
  carried_due t gone l st carried = absurd carried

  due_carried : (t : Timed) (p : Place) (l : Life) → Tracks t p x l → DueNext l → CarriedOut t p
  due_carried t (place i) (standing zero m) st due = rw (order_here t i x zero m st) (due_now_lem t.clock x m)
  due_carried t (place i) (standing (suc r) m) st due = absurd due
  due_carried t (place i) over st due = absurd due
  due_carried t gone (standing r m) st due = absurd st
  due_carried t gone over st due = absurd due

  gone_over : (t : Timed) (p : Place) (l : Life) → Tracks t p x l → Gone p → Over l
  gone_over t (place i) l st left = absurd left
  gone_over t gone (standing r m) st left = absurd st
  gone_over t gone over st left = tt

  over_gone : (t : Timed) (p : Place) (l : Life) → Tracks t p x l → Over l → Gone p
  over_gone t (place i) (standing r m) st past = absurd past
  over_gone t (place i) over st past = absurd st
  over_gone t gone l st past = tt

  own_order : (t : Timed) (l : Life) (i : ℕ) → Tracks t (place i) x l → order_at t i ≡ aged_of x (order_at t i).due (order_at t i).left
  own_order t (standing r m) i st = rw (order_here t i x r m st)
  own_order t over i st = absurd st

-- an order accepted with a first delay of 1 to a day and an interval of 1 to a day keeps time, whatever is done before it is looked at
pub timer : (t : Timed) (x : Order) (d : ℕ) → x.due ≡ forward_of t.clock d → 0 < d → d ≤ day → 0 < x.every → x.every ≤ day
    → (steps : List Step) → Spared x steps
    → KeepsTime x d (ticks_of steps) (after_of steps (step_of (accepts x) t)) (followed steps (step_of (accepts x) t) (place (length t.orders)))
timer t x zero due some most some-interval most-interval steps spared = absurd (omega arith)
timer t x (suc r) due some most some-interval most-interval steps spared =
    let e : ℕ = x.every - 1 in
    let every : x.every ≡ suc e = omega arith in
    let start : StandsAt (step_of (accepts x) t) (length t.orders) x r x.left = record {
      before = t.orders;
      behind = [];
      split = ap (λ moment. t.orders ++ (aged_of x moment x.left ∷ [])) due;
      here = refl;
      within = most;
    } in
    let k : ℕ = ticks_of steps in
    let after = after_of steps (step_of (accepts x) t) in
    let p = followed steps (step_of (accepts x) t) (place (length t.orders)) in
    let life = lives e k (standing r x.left) in
    let tracks : Tracks after p x life = tracks_all x e every (omega arith) steps _ _ _ spared start in
    record {
      carried_scheduled = λ carried. rw every (due_fires e k r x.left (carried_due x after p life tracks carried));
      scheduled_carried = λ fires. due_carried x after p life tracks (fires_due e k r x.left (rw every at fires));
      gone_finished = λ left. rw every (over_finished e k r x.left (gone_over x after p life tracks left));
      finished_gone = λ past. over_gone x after p life tracks (finished_over e k r x.left (rw every at past));
      its_own = λ i here. own_order x after life i (subst (λ q. Tracks after q x life) here tracks);
    }
