-- What the operations on the order table do to the list of orders that stand: they are the steps of the timer law. Assumes nothing.
use mathlib.Core.Path.{◌≡◌, ◌∙◌, refl, ap, sym}
use mathlib.Core.List.{List, [], ◌∷◌}
use Prim.Native.Nat.{ℕ, ◌<◌, ◌≤◌, min}
use native.Mathlib.Omega.{arith}
use lib.Dec.{eqb}
use lib.ListN.{length, length-append}
use borrow.Author.Tests.{eqb-true, eqb-false, lt-ltb, le-ltb, eq-eqb, ne_eqb}
use Rattle.std.specs.Prelude.{Option, Some, None}
use Rattle.common.specs.Keep.{keep_of}
use Rattle.common.proofs.Cases.{by_test}
use Rattle.common.proofs.Filling.{standing_short, standing_filled}
use Rattle.common.proofs.Keep.{length_keep}
use Rattle.day.specs.declared.TimeOfDay.{TimeOfDay}
use Rattle.process.specs.declared.Target.{Target}
use Rattle.orders.specs.declared.Order.{Order}
use Rattle.orders.specs.declared.Orders.{Orders}
use Rattle.orders.specs.Orders.{no_order, standing_of, orders_of, push_of, accept_of}
use Rattle.orders.specs.Advance.{due_at, due_of, due_count_of, onward_of, left_of, lefts_of, advancing, advance_of}
use Rattle.orders.specs.Cancel.{without_of}
use Rattle.orders.specs.Timer.{stays_after}

length_left : (left : Option Order) → length (left_of left) ≤ 1
length_left None = omega arith
length_left (Some x) = omega arith

length_lefts : (onward : Order → Option Order) (l : List Order) → length (lefts_of onward l) ≤ length l
unfolding lefts_of
length_lefts onward [] = omega arith
length_lefts onward (x ∷ l) = rw length-append (omega (arith, length_left (onward x), length_lefts onward l))

-- a moment at which none is due changes no order
pub undue_same : (now : TimeOfDay) (l : List Order) → length (due_of now l) ≡ 0 → advancing now l ≡ l
unfolding due_of keep_of lefts_of onward_of
undue_same now [] none = refl
undue_same now (x ∷ l) none =
    by_test (due_at now x)
    (λ due. absurd (omega (arith, rw due at none)))
    (λ later. rw later (ap (◌∷◌ x) (undue_same now l (rw later at none))))

module _ (now : TimeOfDay) (o : Orders) where
  -- as many are counted as are due
  pub due_counted : due_count_of now o ≡ length (due_of now (standing_of o))
  unfolding due_count_of
  due_counted = refl

  -- where none is, not even a free place changes
  pub advance_none : due_count_of now o ≡ 0 → advance_of now o ≡ o
  unfolding advance_of
  advance_none none = rw (eq-eqb (due_count_of now o) 0 none)

  -- any other moment leaves what is left of each order
  pub advance_some : (due_count_of now o ≡ 0 → ⊥) → advance_of now o ≡ orders_of (advancing now (standing_of o))
  unfolding advance_of
  advance_some some = rw (ne_eqb (due_count_of now o) 0 some)

-- where the free places are written anew, so they are after any moment
pub advance_orders : (now : TimeOfDay) (l : List Order) → length l ≤ 64 → advance_of now (orders_of l) ≡ orders_of (advancing now l)
advance_orders now l fits =
    let stands = standing_filled 64 no_order l fits in
    by_test (eqb (due_count_of now (orders_of l)) 0)
    (λ none. let zero = eqb-true (due_count_of now (orders_of l)) 0 none in
    advance_none now (orders_of l) zero
    ∙ ap orders_of (sym (undue_same now l (ap (λ k. length (due_of now k)) (sym stands) ∙ sym (due_counted now (orders_of l)) ∙ zero))))
    (λ some. advance_some now (orders_of l) (eqb-false (due_count_of now (orders_of l)) 0 some) ∙ ap (λ k. orders_of (advancing now k)) stands)

-- a tick's step
pub standing_advance : (now : TimeOfDay) (o : Orders) → standing_of (advance_of now o) ≡ advancing now (standing_of o)
standing_advance now o =
    by_test (eqb (due_count_of now o) 0)
    (λ none. let zero = eqb-true (due_count_of now o) 0 none in
    ap standing_of (advance_none now o zero) ∙ sym (undue_same now (standing_of o) (sym (due_counted now o) ∙ zero)))
    (λ some. ap standing_of (advance_some now o (eqb-false (due_count_of now o) 0 some))
    ∙ standing_filled 64 no_order _ (omega (arith, length_lefts (onward_of now) (standing_of o), standing_short 64 o.list)))

-- a cancel's step
pub standing_without : (sender : Target) (receiver : ℕ) (o : Orders) → standing_of (without_of sender receiver o) ≡ keep_of (stays_after sender receiver) (standing_of o)
unfolding without_of
standing_without sender receiver o = standing_filled 64 no_order _ (omega (arith, length_keep (stays_after sender receiver) (standing_of o), standing_short 64 o.list))

module _ (o : Orders) (places : ℕ) (x : Order) where
  pub accept_room : o.list.count < min places 64 → accept_of o places x ≡ Some (push_of o x)
  unfolding accept_of
  accept_room room = rw (lt-ltb o.list.count (min places 64) room)

  pub accept_full : min places 64 ≤ o.list.count → accept_of o places x ≡ None
  unfolding accept_of
  accept_full full = rw (le-ltb o.list.count (min places 64) full)
