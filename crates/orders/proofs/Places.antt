-- The order at one place becomes another, or leaves. Assumes nothing.
use mathlib.Core.Path.{◌≡◌, ◌∙◌, refl, ap}
use mathlib.Core.List.{List, [], ◌∷◌, ◌++◌}
use Prim.Native.Nat.{ℕ, zero, suc, ◌+◌, ◌-◌, ◌<◌, ◌≤◌, min}
use native.Mathlib.Omega.{arith}
use native.Mathlib.Numerals.{add-one}
use lib.ListN.{length, get_or, take, drop, set}
use lib.Seq.{take-suc-set, take-set-lt, drop-cons, drop-set-lt, length-take-le, get_or-take}
use Rattle.common.specs.Filled.{items_of, filled_of}
use Rattle.common.proofs.Filling.{standing_short, standing_filled}
use Rattle.common.proofs.Packing.{length_packed}
use Rattle.orders.specs.declared.Order.{Order}
use Rattle.orders.specs.declared.Orders.{Orders}
use Rattle.orders.specs.Orders.{no_order, standing_of, orders_of}
use Rattle.orders.specs.Advance.{without_at, without_place_of}

-- those before it stay where they are
pub take_without : (place : ℕ) (l : List Order) → take place (without_at place l) ≡ take place l
unfolding without_at
take_without zero l = refl
take_without (suc place) [] = refl
take_without (suc place) (x ∷ l) = ap (◌∷◌ x) (take_without place l)

-- and those behind it move up
pub drop_without : (place : ℕ) (l : List Order) → drop place (without_at place l) ≡ drop (suc place) l
unfolding without_at
drop_without zero [] = refl
drop_without zero (x ∷ l) = refl
drop_without (suc place) [] = refl
drop_without (suc place) (x ∷ l) = drop_without place l

-- one less
pub length_without : (place : ℕ) (l : List Order) → place < length l → suc (length (without_at place l)) ≡ length l
unfolding without_at
length_without place [] within = absurd (omega arith)
length_without zero (x ∷ l) within = refl
length_without (suc place) (x ∷ l) within = ap suc (length_without place l (omega arith))

length_few : (place : ℕ) (l : List Order) → length (without_at place l) ≤ length l
unfolding without_at
length_few place [] = omega arith
length_few zero (x ∷ l) = omega arith
length_few (suc place) (x ∷ l) = omega (arith, length_few place l)

-- where none stands at the place, none leaves
pub without_none : (place : ℕ) (l : List Order) → length l ≤ place → without_at place l ≡ l
unfolding without_at
without_none place [] beyond = refl
without_none zero (x ∷ l) beyond = absurd (omega arith)
without_none (suc place) (x ∷ l) beyond = ap (◌∷◌ x) (without_none place l (omega arith))

-- ---- in the order table

-- the standing orders lose one
pub standing_without_place : (place : ℕ) (o : Orders) → standing_of (without_place_of place o) ≡ without_at place (standing_of o)
unfolding without_place_of
standing_without_place place o = standing_filled 64 no_order _ (omega (arith, length_few place (standing_of o), standing_short 64 o.list))

-- past the last place none leaves, and the free places are written anew
pub without_beyond : (o : Orders) → without_place_of 64 o ≡ orders_of (standing_of o)
unfolding without_place_of
without_beyond o = ap orders_of (without_none 64 (standing_of o) (standing_short 64 o.list))

-- the table keeps its places
pub length_without_place : (place : ℕ) (o : Orders) → length (without_place_of place o).list.items ≡ 64
unfolding without_place_of filled_of
length_without_place place o = length_packed no_order 64 _

module _ (o : Orders) (at : ℕ) (long : length o.list.items ≡ 64) (stands : at < min o.list.count 64) where
  -- as many stand as are counted
  length_standing : length (standing_of o) ≡ min o.list.count 64
  unfolding items_of
  length_standing = length-take-le (min o.list.count 64) o.list.items (omega arith)

  -- those before a place, the one there, and those behind it
  pub standing_split : (d : Order) → drop at (standing_of o) ≡ get_or o.list.items at d ∷ drop (suc at) (standing_of o)
  unfolding items_of
  standing_split d =
      drop-cons (standing_of o) at d (omega (arith, length_standing))
      ∙ ap (λ (x : Order). x ∷ drop (suc at) (standing_of o)) (get_or-take (min o.list.count 64) o.list.items at d stands)

  -- the order there becomes another
  abbrev pub changed_to : Order → Orders
  changed_to x = record { list = record { items = set o.list.items at x; count = o.list.count } }

  standing_changed : (x : Order) → standing_of (changed_to x) ≡ set (standing_of o) at x
  unfolding items_of
  standing_changed x = take-set-lt (min o.list.count 64) o.list.items at x stands

  pub changed_before : (x : Order) → take (at + 1) (standing_of (changed_to x)) ≡ take at (standing_of o) ++ (x ∷ [])
  changed_before x = rw (add-one, standing_changed x) (take-suc-set (standing_of o) at x (omega (arith, length_standing)))

  pub changed_behind : (x : Order) → drop (at + 1) (standing_of (changed_to x)) ≡ drop (suc at) (standing_of o)
  changed_behind x = rw (add-one, standing_changed x) (drop-set-lt (suc at) (standing_of o) at x (omega arith))

  -- it leaves
  pub left_before : take at (standing_of (without_place_of at o)) ≡ take at (standing_of o)
  left_before = rw (standing_without_place at o) (take_without at (standing_of o))

  pub left_behind : drop at (standing_of (without_place_of at o)) ≡ drop (suc at) (standing_of o)
  left_behind = rw (standing_without_place at o) (drop_without at (standing_of o))

  pub left_fewer : min (without_place_of at o).list.count 64 ≡ min o.list.count 64 - 1
  unfolding without_place_of filled_of
  left_fewer = omega (arith, length_without at (standing_of o) (omega (arith, length_standing)), length_standing)
