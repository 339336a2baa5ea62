-- What a loop over a list does. Assumes nothing.
use Rattle.std.specs.Prelude.{List, [], ◌∷◌}

-- a state that takes in one element after the other
abbrev pub fold_of : {S A : Type 0} → (S → A → S) → S → List A → S
fold_of step s [] = s
fold_of step s (x ∷ l) = fold_of step (step s x) l
