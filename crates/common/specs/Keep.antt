-- The elements of a list that pass a test, in their order. Assumes nothing.
use Rattle.std.specs.Prelude.{Bool, List, [], ◌∷◌}
use Rattle.common.specs.Choice.{pick}

unfoldable pub keep_of : {A : Type 0} → (A → Bool) → List A → List A
keep_of test [] = []
keep_of test (x ∷ l) = pick (test x) (x ∷ keep_of test l) (keep_of test l)
