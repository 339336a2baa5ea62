-- Whether a number stands in a list, and whether each of a list stands in it once. Assumes nothing.
use Rattle.std.specs.Prelude.{◌≡◌, Bool, true, false, List, [], ◌∷◌, ℕ, eqb}
use Rattle.common.specs.Choice.{pick}

unfoldable pub stands_in : ℕ → List ℕ → Bool
stands_in n [] = false
stands_in n (x ∷ l) = pick (eqb x n) true (stands_in n l)

-- each of a list's numbers once
unfoldable pub Once : List ℕ → Type 0
Once [] = Unit
Once (x ∷ l) = (stands_in x l ≡ false) × Once l
