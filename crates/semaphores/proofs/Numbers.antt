-- Which numbers are usable. Assumes nothing.
use mathlib.Core.Path.{◌≡◌, sym, ◌∙◌}
use Rattle.std.specs.Prelude.{Ok, Err}
use mathlib.Core.Bool.{true, false, and-false, or-false}
use Prim.Native.Nat.{ℕ, ◌<◌}
use native.Mathlib.Omega.{arith}
use lib.Dec.{leb, eqb}
use borrow.Author.Tests.{leb-true, leb-false}
use Rattle.common.proofs.Cases.{by_test, both}
use Rattle.semaphores.specs.declared.Semaphores.{Semaphores}
use Rattle.semaphores.specs.declared.Unusable.{Unusable}
use Rattle.semaphores.specs.Semaphores.{usable_of, checked_of, holder_of, holds_of}

-- above 95 only the first run is left
first_alone : (number : ℕ) → leb number 95 ≡ false → usable_of number ≡ leb number 31
unfolding usable_of
first_alone number above = simp (above, and-false, or-false)

-- each usable number has its place among the holders
pub usable_below : (number : ℕ) → usable_of number ≡ true → number < 96
usable_below number usable =
    by_test (leb number 95)
    (λ e. omega (arith, leb-true))
    (λ e. let low : leb number 31 ≡ true = sym (first_alone number e) ∙ usable in omega (arith, leb-true, leb-false))

-- what a level holds is usable
pub holds_usable : (s : Semaphores) (level number : ℕ) → holds_of s level number ≡ true → usable_of number ≡ true
unfolding holds_of
holds_usable s level number holds = (both (usable_of number) (eqb (holder_of s number) level) holds).0

-- a number that was let through is usable, and the same
pub checked_usable : (number given : ℕ) → Ok given ≡ checked_of number → (usable_of number ≡ true) × (given ≡ number)
unfolding checked_of
checked_usable number given passed =
    by_test (usable_of number)
    (λ usable. let same = rw usable at passed in (usable, cc))
    (λ not_usable. let never = rw not_usable at passed in let z : ⊥ = cc in absurd z)

-- and one that was not is not
pub checked_unusable : (number : ℕ) (why : Unusable) → Err why ≡ checked_of number → usable_of number ≡ false
unfolding checked_of
checked_unusable number why failed =
    by_test (usable_of number)
    (λ usable. let never = rw usable at failed in let z : ⊥ = cc in absurd z)
    (λ not_usable. not_usable)
