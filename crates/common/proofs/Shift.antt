-- A loop that moves each element of an array one place down, from the front on. Assumes nothing.
use mathlib.Core.Path.{◌≡◌, refl, ap}
use mathlib.Core.List.{List, [], ◌∷◌, ◌++◌}
use Prim.Native.Nat.{ℕ, zero, suc, ◌<◌}
use native.Mathlib.Nat.{le_of_suc-le-suc, not-suc-le-zero}
use native.Mathlib.Omega.{arith}
use lib.ListN.{length, get_or, set, drop}

module _ {A : Type 0} where
  -- the list after so many turns: those places hold what stood one further
  unfoldable pub shifted : ℕ → List A → List A
  shifted zero l = l
  shifted (suc i) [] = []
  shifted (suc i) (x ∷ []) = x ∷ []
  shifted (suc i) (x ∷ y ∷ l) = y ∷ shifted i (y ∷ l)

  -- one turn more
  pub shifted_suc : (i : ℕ) (l : List A) (d : A) → suc i < length l → set (shifted i l) i (get_or (shifted i l) (suc i) d) ≡ shifted (suc i) l
  unfolding shifted
  shifted_suc i [] d h = absurd (not-suc-le-zero h)
  shifted_suc zero (x ∷ []) d h = absurd (not-suc-le-zero (le_of_suc-le-suc h))
  shifted_suc (suc i) (x ∷ []) d h = absurd (not-suc-le-zero (le_of_suc-le-suc h))
  shifted_suc zero (x ∷ y ∷ l) d h = refl
  shifted_suc (suc i) (x ∷ y ∷ l) d h = ap (◌∷◌ y) (shifted_suc i (y ∷ l) d (le_of_suc-le-suc h))

  -- after the last turn, and with the last place given anew: all but the first, and the new one behind them
  pub shifted_all : (n : ℕ) (l : List A) (z : A) → length l ≡ suc n → set (shifted n l) n z ≡ drop 1 l ++ (z ∷ [])
  unfolding shifted
  shifted_all n [] z h = absurd (omega arith)
  shifted_all zero (x ∷ []) z h = refl
  shifted_all (suc n) (x ∷ []) z h = absurd (omega arith)
  shifted_all zero (x ∷ y ∷ l) z h = absurd (omega arith)
  shifted_all (suc n) (x ∷ y ∷ l) z h = ap (◌∷◌ y) (shifted_all n (y ∷ l) z (omega arith))
