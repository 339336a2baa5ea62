-- Going by cases on a test. Assumes nothing.
use mathlib.Core.Path.{◌≡◌, ◌∙◌, refl, sym}
use mathlib.Core.Bool.{Bool, true, false, true≢false, ◌&&◌, ◌||◌}
use Rattle.common.specs.Choice.{pick}

-- either way
pub by_test : {P : Type 0} (b : Bool) → (b ≡ true → P) → (b ≡ false → P) → P
by_test true f g = f refl
by_test false f g = g refl

-- what holds of both holds of the one that a test picks
pub by_pick : {A : Type 0} (P : A → Type 0) (b : Bool) (x y : A) → P x → P y → P (pick b x y)
by_pick P true x y first second = first
by_pick P false x y first second = second

-- a test does not both hold and fail
pub never_both : {b : Bool} → b ≡ true → b ≡ false → ⊥
never_both holds fails = true≢false (sym holds ∙ fails)

-- both of two tests that hold together
pub both : (a b : Bool) → pick a b false ≡ true → (a ≡ true) × (b ≡ true)
both true b holds = (refl, holds)
both false b holds = absurd (never_both holds refl)

-- the same of tests that are joined by an operator
pub both_true : (a b : Bool) → a && b ≡ true → (a ≡ true) × (b ≡ true)
both_true true b holds = (refl, holds)
both_true false b holds = absurd (never_both holds refl)

-- a test that holds in any case may have another before it
pub either_true : (a b : Bool) → b ≡ true → a || b ≡ true
either_true true b holds = refl
either_true false b holds = holds
