-- What holds of every element of a list. Assumes nothing.
use mathlib.Core.Path.{◌≡◌, refl, sym, ap₂}
use mathlib.Core.Bool.{Bool, true, false, ◌&&◌}
use mathlib.Core.List.{List, [], ◌∷◌}
use Prim.Native.Nat.{ℕ, zero, suc, ◌+◌, ◌<◌}
use native.Mathlib.Numerals.{add-one}
use native.Mathlib.Nat.{le_of_suc-le-suc, not-suc-le-zero}
use native.Mathlib.Omega.{arith}
use lib.Dec.{eqb}
use borrow.Author.Tests.{eqb-true, eqb-false}
use lib.ListN.{length, get_or}
use Rattle.common.specs.Every.{every, every_below}
use Rattle.common.proofs.Cases.{by_test, both, both_true}

-- a test of all, computed once, holds at each place
pub every_at : {A : Type 0} (test : A → Bool) (l : List A) (d : A) → every test l ≡ true → (i : ℕ) → i < length l → test (get_or l i d) ≡ true
every_at test [] d all i h = absurd (not-suc-le-zero h)
every_at test (x ∷ l) d all zero h = (both (test x) (every test l) all).0
every_at test (x ∷ l) d all (suc i) h = every_at test l d (both (test x) (every test l) all).1 i (le_of_suc-le-suc h)

-- what holds of every number below a limit passes the test of all
pub below_every : (limit : ℕ) (test : ℕ → Bool) → ((i : ℕ) → i < limit → test i ≡ true) → every_below limit test ≡ true
unfolding every_below
below_every zero test holds = refl
below_every (suc limit) test holds = rw (below_every limit test (λ i h. holds i (omega arith)), holds limit (omega arith))

-- and the other way round
pub every_below_lem : (limit : ℕ) (test : ℕ → Bool) → every_below limit test ≡ true → (i : ℕ) → i < limit → test i ≡ true
unfolding every_below
every_below_lem zero test all i h = absurd (omega arith)
every_below_lem (suc limit) test all i h =
    let parts = both_true (every_below limit test) (test limit) all in
    by_test (eqb i limit)
    (λ e. rw (eqb-true i limit e) parts.1)
    (λ e. every_below_lem limit test parts.0 i (omega (arith, eqb-false i limit e)))

-- two tests that agree below a limit
pub every_same : (limit : ℕ) (test other : ℕ → Bool) → ((i : ℕ) → i < limit → test i ≡ other i) → every_below limit test ≡ every_below limit other
unfolding every_below
every_same zero test other same = refl
every_same (suc limit) test other same = ap₂ ◌&&◌ (every_same limit test other (λ i h. same i (omega arith))) (same limit (omega arith))

-- one turn of a loop that tests all
pub every_turn : (i : ℕ) (test : ℕ → Bool) → every_below (i + 1) test ≡ every_below i test && test i
unfolding every_below
every_turn i test = rw add-one

-- a loop that tests all, with another test before: before its first turn
pub first_alone : (first : Bool) → first ≡ first && true
first_alone true = refl
first_alone false = refl

-- and at each turn
pub first_turn : (first : Bool) (i : ℕ) (test : ℕ → Bool) → first && every_below i test && test i ≡ first && every_below (i + 1) test
first_turn true i test = sym (every_turn i test)
first_turn false i test = refl
