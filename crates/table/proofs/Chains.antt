-- What a chain over the elements of a list comes to, in the words of the definitions. Assumes nothing.
use Rattle.std.proofs.Common.{◌≡◌, ◌∙◌, refl, sym, ap, Bool, ◌&&◌, ℕ, zero, suc, ◌+◌, min, List, [], ◌∷◌, length, get_or, take, arith, length-take}
use Rattle.std.proofs.lemmas.List.{get_or-take}
use Rattle.std.specs.List.{filter, list_all, range_with_len, zip}
use Rattle.common.specs.Every.{every_below}
use Rattle.common.specs.Keep.{keep_of}
use Rattle.common.proofs.Cases.{by_test}
use Rattle.common.proofs.Every.{every_same}

-- a test of all numbers below a limit, the first of them apart
every_front : (limit : ℕ) (test : ℕ → Bool) → every_below (suc limit) test ≡ test 0 && every_below limit (λ i. test (suc i))
unfolding every_below
every_front zero test = by_test (test 0) (λ e. rw e) (λ e. rw e)
every_front (suc limit) test =
    ap (λ b. b && test (suc limit)) (every_front limit test)
    ∙ by_test (test 0) (λ e. rw e) (λ e. rw e)

module _ {A : Type 0} where
  -- all of a list pass: what stands at each place passes
  pub all_of : (test : A → Bool) (d : A) (l : List A) → list_all test l ≡ every_below (length l) (λ i. test (get_or l i d))
  unfolding every_below
  all_of test d [] = refl
  all_of test d (x ∷ l) = ap (λ b. test x && b) (all_of test d l) ∙ sym (every_front (length l) (λ i. test (get_or (x ∷ l) i d)))

  -- the same of the first so many
  pub all_first : (test : A → Bool) (d : A) (l : List A) (count : ℕ) → list_all test (take count l) ≡ every_below (min count (length l)) (λ i. test (get_or l i d))
  all_first test d l count =
      let long : length (take count l) ≡ min count (length l) = length-take count l in
      all_of test d (take count l)
      ∙ rw long (every_same (min count (length l)) _ _ (λ i h. ap test (get_or-take count l i d (omega arith))))

  -- and of each with the number of its place
  pub all_numbered : (test : ℕ → A → Bool) (d : A) (l : List A) (from : ℕ)
      → list_all (λ p. test p.0 p.1) (zip (range_with_len from (length l)) l) ≡ every_below (length l) (λ i. test (from + i) (get_or l i d))
  unfolding every_below
  all_numbered test d [] from = refl
  all_numbered test d (x ∷ l) from =
      let rest : ℕ → Bool = λ i. test (from + suc i) (get_or l i d) in
      let first : from ≡ from + 0 = omega arith in
      ap (λ b. test from x && b)
      (all_numbered test d l (from + 1) ∙ every_same (length l) _ rest (λ i h. ap (λ n. test n (get_or l i d)) (omega arith)))
      ∙ ap (λ n. test n x && every_below (length l) rest) first
      ∙ sym (every_front (length l) (λ i. test (from + i) (get_or (x ∷ l) i d)))

  -- beginning with 0, of a list of a known length
  pub all_numbered_from_none : (test : ℕ → A → Bool) (d : A) (l : List A) (limit : ℕ) → length l ≡ limit
      → list_all (λ p. test p.0 p.1) (zip (range_with_len 0 limit) l) ≡ every_below limit (λ i. test i (get_or l i d))
  all_numbered_from_none test d l limit long =
      rw (← long) (all_numbered test d l 0 ∙ every_same (length l) _ _ (λ i h. ap (λ n. test n (get_or l i d)) (omega arith)))

  -- what a filter passes on
  pub filter_keeps : (test : A → Bool) (l : List A) → filter test l ≡ keep_of test l
  unfolding keep_of
  filter_keeps test [] = refl
  filter_keeps test (x ∷ l) = by_test (test x) (λ e. rw (e, filter_keeps test l)) (λ e. rw (e, filter_keeps test l))
