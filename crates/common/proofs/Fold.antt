-- Loops that take in the elements of a list one after the other. Assumes nothing.
use mathlib.Core.Path.{◌≡◌, ◌∙◌, refl, ap, sym}
use mathlib.Core.Bool.{Bool}
use mathlib.Core.List.{List, [], ◌∷◌, ◌++◌, map}
use Prim.Native.Nat.{ℕ, ◌+◌, ◌<◌, ◌≤◌}
use native.Mathlib.Omega.{arith}
use native.Mathlib.Numerals.{add-one}
use lib.ListN.{length, get_or, take, drop, length-take, drop_of_length-le}
use lib.Seq.{drop-cons, length-take-le, get_or-take}
use Rattle.common.specs.Choice.{pick}
use Rattle.common.specs.Fold.{fold_of}
use Rattle.common.specs.Keep.{keep_of}
use Rattle.common.proofs.Cases.{by_test}

module _ {S A : Type 0} (step : S → A → S) where
  -- one turn of such a loop: the element at i is taken in, and those behind it are left
  pub fold_turn : (s : S) (l : List A) (i : ℕ) (d : A) → i < length l → fold_of step s (drop i l) ≡ fold_of step (step s (get_or l i d)) (drop (i + 1) l)
  fold_turn s l i d h = rw add-one (ap (fold_of step s) (drop-cons l i d h))

  -- the same for a loop over the first elements of an array
  pub walk_turn : (s : S) (array : List A) (count i : ℕ) (d : A) → i < count → count ≤ length array
      → fold_of step s (drop i (take count array)) ≡ fold_of step (step s (get_or array i d)) (drop (i + 1) (take count array))
  walk_turn s array count i d h within =
      fold_turn s (take count array) i d (rw (length-take-le count array within) h)
      ∙ ap (λ x. fold_of step (step s x) (drop (i + 1) (take count array))) (get_or-take count array i d h)

  -- after the last of them nothing is left to take in: what was to come is there
  pub walk_end : (s r : S) (array : List A) (count i : ℕ) → count ≤ i → fold_of step s (drop i (take count array)) ≡ r → s ≡ r
  walk_end s r array count i h e = sym (ap (fold_of step s) (drop_of_length-le (take count array) {i = i} (simp length-take (omega arith)))) ∙ e

-- a fold over two lists, one after the other
pub fold_append : {S A : Type 0} (step : S → A → S) (s : S) (l m : List A) → fold_of step s (l ++ m) ≡ fold_of step (fold_of step s l) m
fold_append step s [] m = refl
fold_append step s (x ∷ l) m = fold_append step (step s x) l m

-- a loop that passes over what fails a test takes in what passes it
pub fold_keep : {S A : Type 0} (step : S → A → S) (test : A → Bool) (s : S) (l : List A)
    → fold_of (λ t x. pick (test x) (step t x) t) s l ≡ fold_of step s (keep_of test l)
unfolding keep_of
fold_keep step test s [] = refl
fold_keep step test s (x ∷ l) = by_test (test x) (λ e. rw e (fold_keep step test (step s x) l)) (λ e. rw e (fold_keep step test s l))

-- a loop over the images of a list
pub fold_map : {S A B : Type 0} (step : S → B → S) (f : A → B) (s : S) (l : List A) → fold_of step s (map f l) ≡ fold_of (λ t x. step t (f x)) s l
fold_map step f s [] = refl
fold_map step f s (x ∷ l) = fold_map step f (step s (f x)) l
