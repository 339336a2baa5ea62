-- How a list lies in an array. Assumes nothing.
use mathlib.Core.Path.{◌≡◌, refl, ap, ap₂}
use mathlib.Core.List.{List, [], ◌∷◌, ◌++◌}
use Prim.Native.Nat.{ℕ, zero, suc, ◌+◌, ◌<◌, ◌≤◌, min}
use native.Mathlib.Nat.{le_of_suc-le-suc, not-suc-le-zero}
use native.Mathlib.Omega.{arith}
use lib.Dec.{ltb}
use lib.ListN.{length, take, set, length-append}
use borrow.Author.Tests.{ltb-true, ltb-false}
use Rattle.common.specs.Choice.{pick}
use Rattle.common.specs.Packing.{packed_of}
use Rattle.common.proofs.Cases.{by_test}

module _ {A : Type 0} (filler : A) where
  pub length_packed : (places : ℕ) (l : List A) → length (packed_of places filler l) ≡ places
  unfolding packed_of
  length_packed zero l = refl
  length_packed (suc places) [] = ap suc (length_packed places [])
  length_packed (suc places) (x ∷ l) = ap suc (length_packed places l)

  -- a list that fits is found again
  pub take_packed : (places : ℕ) (l : List A) → length l ≤ places → take (length l) (packed_of places filler l) ≡ l
  unfolding packed_of
  take_packed places [] h = refl
  take_packed zero (x ∷ l) h = absurd (not-suc-le-zero h)
  take_packed (suc places) (x ∷ l) h = ap (◌∷◌ x) (take_packed places l (le_of_suc-le-suc h))

  -- the next element goes behind the others
  pub packed_push : (places : ℕ) (l : List A) (x : A) → set (packed_of places filler l) (length l) x ≡ packed_of places filler (l ++ (x ∷ []))
  unfolding packed_of
  packed_push zero [] x = refl
  packed_push zero (y ∷ l) x = refl
  packed_push (suc places) [] x = refl
  packed_push (suc places) (y ∷ l) x = ap (◌∷◌ y) (packed_push places l x)

  -- and is left out where there is no place
  pub packed_full : (places : ℕ) (l : List A) (x : A) → places ≤ length l → packed_of places filler (l ++ (x ∷ [])) ≡ packed_of places filler l
  unfolding packed_of
  packed_full zero l x h = refl
  packed_full (suc places) [] x h = absurd (not-suc-le-zero h)
  packed_full (suc places) (y ∷ l) x h = ap (◌∷◌ y) (packed_full places l x (le_of_suc-le-suc h))

-- a list in an array of so many places with a count: one element more goes behind the others, or is left out where there is no place
module _ {A R : Type 0} (places : ℕ) (filler : A) (made : List A → ℕ → R) where
  pub packed_behind : (l : List A) (x : A)
      → pick (ltb (min (length l) places) places)
      (made (set (packed_of places filler l) (min (length l) places) x) (min (length l) places + 1))
      (made (packed_of places filler l) (min (length l) places))
      ≡ made (packed_of places filler (l ++ (x ∷ []))) (min (length (l ++ (x ∷ []))) places)
  packed_behind l x =
      by_test (ltb (min (length l) places) places)
      (λ e. let room : min (length l) places < places = ltb-true _ _ e in
      let all : min (length l) places ≡ length l = omega arith in
      let more : length l + 1 ≡ min (length (l ++ (x ∷ []))) places = simp length-append (omega arith) in
      rw (e, all) (ap₂ made (packed_push filler places l x) more))
      (λ e. let full : places ≤ min (length l) places = ltb-false _ _ e in
      let same : min (length l) places ≡ min (length (l ++ (x ∷ []))) places = simp length-append (omega arith) in
      rw (e, packed_full filler places l x (omega arith)) (ap (made (packed_of places filler l)) same))
