-- The orders of a sound table, seen as the list of those that stand. Assumes nothing.
use mathlib.Core.Path.{◌≡◌, refl, sym, subst}
use mathlib.Core.Bool.{Bool, true}
use mathlib.Core.List.{List, [], ◌∷◌, ◌++◌}
use Prim.Native.Nat.{ℕ, zero, suc, ◌<◌, ◌≤◌, min}
use native.Mathlib.Omega.{arith}
use lib.Dec.{leb}
use lib.ListN.{length, get_or, take, length-take}
use lib.Seq.{get_or-take}
use borrow.Author.Tests.{leb-true, le-leb}
use Rattle.common.specs.Every.{every, every_below}
use Rattle.common.specs.Filled.{items_of, filled_of}
use Rattle.common.proofs.Cases.{both, both_true}
use Rattle.common.proofs.Every.{every_at, every_below_lem, below_every}
use Rattle.common.proofs.Filling.{standing_filled}
use Rattle.common.proofs.Packing.{length_packed}
use Rattle.common.proofs.Parts.{Part, nothing, taken, left}
use Rattle.orders.specs.declared.Order.{Order}
use Rattle.orders.specs.declared.Orders.{Orders}
use Rattle.orders.specs.Orders.{no_order as free_place, standing_of, orders_of}
use Rattle.table.specs.declared.configs.Config.{Config}
use Rattle.table.specs.Sound.{order_sound, no_order, orders_sound}

-- ---- a test on all of a list

module _ {A : Type 0} (test : A → Bool) where
  -- what passes at the first places of an array passes in the list of these
  every_taken : (count : ℕ) (l : List A) (d : A) → ((i : ℕ) → i < count → test (get_or l i d) ≡ true) → every test (take count l) ≡ true
  every_taken zero l d holds = refl
  every_taken (suc count) [] d holds = refl
  every_taken (suc count) (x ∷ l) d holds = rw (holds 0 (omega arith)) (every_taken count l d (λ i less. holds (suc i) (omega arith)))

  -- what all of two lists pass, all of both together pass
  pub every_append : (l m : List A) → every test l ≡ true → every test m ≡ true → every test (l ++ m) ≡ true
  every_append [] m first second = second
  every_append (x ∷ l) m first second =
      let parts = both (test x) (every test l) first in rw parts.0 (every_append l m parts.1 second)

  -- and all of a part
  pub every_part : {l m : List A} → Part l m → every test m ≡ true → every test l ≡ true
  every_part nothing all = refl
  every_part (taken {x = x} {m = m} part) all =
      let parts = both (test x) (every test m) all in rw parts.0 (every_part part parts.1)
  every_part (left {x = x} {m = m} part) all = every_part part (both (test x) (every test m) all).1

-- ---- the orders that stand

-- as many stand as the count says, or fewer
pub standing_few : (o : Orders) → length (standing_of o) ≤ o.list.count
unfolding items_of
standing_few o = simp length-take (omega arith)

module _ (c : Config) (o : Orders) where
  -- of sound orders there are no more than places
  pub orders_count : orders_sound c o ≡ true → o.list.count ≤ c.orders
  unfolding orders_sound
  orders_count sound = leb-true _ _ (both_true (leb o.list.count c.orders) _ sound).0

  -- and each that stands is sound
  pub orders_standing : orders_sound c o ≡ true → every (order_sound c) (standing_of o) ≡ true
  unfolding orders_sound items_of
  orders_standing sound =
      let all = (both_true (leb o.list.count c.orders) (every_below (min o.list.count 64) (λ i. order_sound c (get_or o.list.items i no_order))) sound).1 in
      every_taken (order_sound c) (min o.list.count 64) o.list.items no_order (every_below_lem (min o.list.count 64) (λ i. order_sound c (get_or o.list.items i no_order)) all)

  -- orders are sound where there are no more than places, and each that stands is sound
  pub standing_sound : length o.list.items ≡ 64 → o.list.count ≤ c.orders → every (order_sound c) (standing_of o) ≡ true → orders_sound c o ≡ true
  unfolding orders_sound items_of
  standing_sound whole few all =
      let long : length (take (min o.list.count 64) o.list.items) ≡ min o.list.count 64 = simp length-take (omega arith) in
      rw (le-leb o.list.count c.orders few)
      (below_every (min o.list.count 64) _
      (λ i less. subst (λ (x : Order). order_sound c x ≡ true) (get_or-take (min o.list.count 64) o.list.items i no_order less)
      (every_at (order_sound c) (take (min o.list.count 64) o.list.items) no_order all i (omega arith))))

-- ---- a table of orders made of a list

-- it has its 64 places
pub made_places : (l : List Order) → length (orders_of l).list.items ≡ 64
unfolding filled_of
made_places l = length_packed free_place 64 l

-- and no more in them than the list has
made_count : (l : List Order) → (orders_of l).list.count ≤ length l
unfolding filled_of
made_count l = omega arith

-- it is sound where each of the list is, and the list is no longer than the places
pub made_sound : (c : Config) (l : List Order) → length l ≤ 64 → length l ≤ c.orders → every (order_sound c) l ≡ true → orders_sound c (orders_of l) ≡ true
made_sound c l fits few all =
    standing_sound c (orders_of l) (made_places l) (omega (arith, made_count l, few))
    (subst (λ (m : List Order). every (order_sound c) m ≡ true) (sym (standing_filled 64 free_place l fits)) all)
