-- What rising numbers that pass a test are, and what a loop over them comes to. Assumes nothing.
use mathlib.Core.Path.{◌≡◌, ◌∙◌, refl, ap, sym}
use mathlib.Core.Bool.{Bool, true}
use mathlib.Core.List.{List, [], ◌∷◌}
use Prim.Native.Nat.{ℕ, zero, suc, ◌+◌, ◌-◌, ◌<◌, ◌≤◌}
use native.Mathlib.Omega.{arith}
use native.Mathlib.Numerals.{add-one}
use Rattle.common.specs.Choice.{pick}
use Rattle.common.specs.Fold.{fold_of}
use Rattle.common.specs.Stands.{stands_in, Once}
use Rattle.common.proofs.Cases.{by_test, never_both}
use Rattle.common.proofs.Once.{stands_cases}
use Rattle.inputs.specs.InputSet.{rising_of}
use Rattle.inputs.proofs.Walk.{Rising, rising_rises, stands_not_below, rising_stands}

-- ---- which numbers they are

-- of numbers that rise each stands there once
rises_once : (from limit : ℕ) (l : List ℕ) → Rising from limit l → Once l
unfolding Rising Once
rises_once from limit [] rises = tt
rises_once from limit (n ∷ l) rises = (stands_not_below n (suc n) limit l rises.2 (omega arith), rises_once (suc n) limit l rises.2)

-- each number that passes the test stands there once
pub rising_once : (many from : ℕ) (test : ℕ → Bool) → Once (rising_of many from test)
rising_once many from test = rises_once from (from + many) _ (rising_rises many from (from + many) test (omega arith))

-- what stands there passes the test
pub stands_rising : (many from : ℕ) (test : ℕ → Bool) (n : ℕ) → stands_in n (rising_of many from test) ≡ true → test n ≡ true
unfolding rising_of stands_in
stands_rising zero from test n stands = absurd (never_both stands refl)
stands_rising (suc many) from test n stands =
    by_test (test from)
    (λ e. stands_cases n from (rising_of many (suc from) test) (rw e at stands) (λ here. rw here at e) (stands_rising many (suc from) test n))
    (λ e. stands_rising many (suc from) test n (rw e at stands))

-- and what passes the test, and is one of those that are tested, stands there
pub passes_rising : (many from : ℕ) (test : ℕ → Bool) (n : ℕ) → from ≤ n → n < from + many → test n ≡ true → stands_in n (rising_of many from test) ≡ true
passes_rising many from test n above below passes = rising_stands many from test n above below ∙ passes

-- ---- a loop over them

module _ {S : Type 0} (step : S → ℕ → S) (test : ℕ → Bool) where
  -- the first of so many numbers is taken in where it passes the test, and those behind it are left
  first_turn : (s : S) (many from : ℕ) → fold_of step s (rising_of (suc many) from test) ≡ fold_of step (pick (test from) (step s from) s) (rising_of many (suc from) test)
  unfolding rising_of
  first_turn s many from = by_test (test from) (λ e. rw e) (λ e. rw e)

  -- one turn of the loop, at a number below the limit
  pub rising_turn : (s : S) (limit at : ℕ) → at < limit
      → fold_of step s (rising_of (limit - at) at test) ≡ fold_of step (pick (test at) (step s at) s) (rising_of (limit - (at + 1)) (at + 1) test)
  rising_turn s limit at h =
      let left : limit - at ≡ suc (limit - (at + 1)) = omega arith in
      ap (λ (many : ℕ). fold_of step s (rising_of many at test)) left
      ∙ first_turn s (limit - (at + 1)) at
      ∙ ap (λ (next : ℕ). fold_of step (pick (test at) (step s at) s) (rising_of (limit - (at + 1)) next test)) (sym (add-one at))

  -- at the limit nothing is left to take in: what was to come is there
  pub rising_end : (s r : S) (limit at : ℕ) → limit ≤ at → fold_of step s (rising_of (limit - at) at test) ≡ r → s ≡ r
  unfolding rising_of
  rising_end s r limit at h e =
      let left : limit - at ≡ 0 = omega arith in
      sym (ap (λ (many : ℕ). fold_of step s (rising_of many at test)) left) ∙ e
