-- The elements of a list that pass a test. Assumes nothing.
use mathlib.Core.Path.{◌≡◌, ◌∙◌, refl, sym}
use mathlib.Core.Bool.{Bool, true, false}
use mathlib.Core.List.{List, [], ◌∷◌, ◌++◌}
use Prim.Native.Nat.{ℕ, ◌+◌, ◌≤◌}
use native.Mathlib.Nat.{add-zero}
use native.Mathlib.Omega.{arith}
use lib.ListN.{length}
use Rattle.common.specs.Choice.{pick}
use Rattle.common.specs.Fold.{fold_of}
use Rattle.common.specs.Keep.{keep_of}
use Rattle.common.proofs.Cases.{by_test}

module _ {A : Type 0} (test : A → Bool) where
  pub keep_append : (l m : List A) → keep_of test (l ++ m) ≡ keep_of test l ++ keep_of test m
  unfolding keep_of
  keep_append [] m = refl
  keep_append (x ∷ l) m = by_test (test x) (λ e. rw (e, keep_append l m)) (λ e. rw (e, keep_append l m))

  pub length_keep : (l : List A) → length (keep_of test l) ≤ length l
  unfolding keep_of
  length_keep [] = omega arith
  length_keep (x ∷ l) = let less = length_keep l in by_test (test x) (λ e. rw e (omega (arith, less))) (λ e. rw e (omega (arith, less)))

  -- a loop that counts the elements that pass
  pub count_keep : (n : ℕ) (l : List A) → fold_of (λ m x. m + pick (test x) 1 0) n l ≡ n + length (keep_of test l)
  unfolding keep_of
  count_keep n [] = sym (add-zero n)
  count_keep n (x ∷ l) =
      count_keep (n + pick (test x) 1 0) l
      ∙ by_test (test x)
      (λ e. rw e (omega arith))
      (λ e. rw e (omega arith))

-- what a test keeps is the same after another that keeps all of it
pub keep_keep : {A : Type 0} (test wider : A → Bool) → ((x : A) → test x ≡ true → wider x ≡ true) → (l : List A) → keep_of test (keep_of wider l) ≡ keep_of test l
unfolding keep_of
keep_keep test wider holds [] = refl
keep_keep test wider holds (x ∷ l) =
    by_test (test x)
    (λ kept. rw (holds x kept, kept, keep_keep test wider holds l))
    (λ left. by_test (wider x) (λ e. rw (e, left, keep_keep test wider holds l)) (λ e. rw (e, left, keep_keep test wider holds l)))

-- a test counts at most once
pub one_at_most : (b : Bool) → pick b 1 0 ≤ 1
one_at_most true = omega arith
one_at_most false = omega arith
