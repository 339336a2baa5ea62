-- How a list lies in an array of so many places: at its front, with a filler in the places behind it. Assumes nothing.
use Rattle.std.specs.Prelude.{List, [], ◌∷◌, ℕ, zero, suc}

-- what does not fit is left out
unfoldable pub packed_of : {A : Type 0} → ℕ → A → List A → List A
packed_of zero filler l = []
packed_of (suc places) filler [] = filler ∷ packed_of places filler []
packed_of (suc places) filler (x ∷ l) = x ∷ packed_of places filler l
