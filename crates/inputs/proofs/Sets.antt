-- Sets by the inputs that they hold: a set is known by them, and the laws of what each operation's result holds. Assumes nothing.
use mathlib.Core.Path.{◌≡◌, refl, sym, ap, ap₂, ◌∙◌}
use mathlib.Core.Bool.{Bool, true, false, not}
use Prim.Native.Nat.{ℕ, zero, suc, ◌+◌, ◌*◌, ◌/◌, ◌%◌, ◌<◌}
use native.Mathlib.Nat.{zero-add}
use native.Mathlib.Omega.{arith}
use lib.Dec.{eqb, leb, ltb}
use lib.ListN.{length, get_or}
use lib.Seq.{ext_get_or}
use mir.Syntax.{w64}
use mir.Val.{Fits}
use borrow.Author.Tests.{eq-eqb, ne_eqb, leb-true, leb-false, le-leb, lt-leb, ltb-true, ltb-false}
use Rattle.common.specs.Choice.{pick}
use Rattle.common.proofs.Cases.{by_test}
use Rattle.inputs.specs.declared.InputSet.{InputSet}
use Rattle.inputs.specs.InputSet.{bit_of, word_of, has_of, set_of, empty_of, single_of, below_of, insert_of, remove_of, either_of, both_of, except_of, run_of}
use Rattle.inputs.proofs.Bits.{Bitwise, same_bit, by_bits, word_of_bits, word_small, bit_of_word}

-- what holds of each of the four words holds of all
pub by_four : (P : ℕ → Type 0) → P 0 → P 1 → P 2 → P 3 → (i : ℕ) → i < 4 → P i
by_four P p q r s zero h = p
by_four P p q r s (suc zero) h = q
by_four P p q r s (suc (suc zero)) h = r
by_four P p q r s (suc (suc (suc zero))) h = s
by_four P p q r s (suc (suc (suc (suc i)))) h = absurd (omega arith)

-- ---- the set of a test

-- word i is that of the 64 inputs from 64 * i on
word_at : (test : ℕ → Bool) (i : ℕ) → i < 4 → get_or (set_of test).words i 0 ≡ word_of 64 (λ k. test (64 * i + k))
unfolding set_of
word_at test = by_four _ (simp zero-add) refl refl refl

-- the set holds the inputs that pass
pub has_set : (test : ℕ → Bool) (n : ℕ) → n < 256 → has_of (set_of test) n ≡ test n
unfolding has_of
has_set test n h =
    ap (λ w. bit_of w (n % 64)) (word_at test (n / 64) (omega arith))
    ∙ bit_of_word 64 (λ k. test (64 * (n / 64) + k)) (n % 64) (omega arith)
    ∙ ap test (omega arith)

-- what the type of a set tells: four words of 64 bits
pub record FourWords (set : InputSet) : Type 0 where
  pub four : length set.words ≡ 4
  pub small : (i : ℕ) → i < 4 → Fits w64 (get_or set.words i 0)

-- and so it is with the set of a test
set_words : (test : ℕ → Bool) → FourWords (set_of test)
unfolding set_of
set_words test = record { four = refl; small = λ i h. record { fits = rw (word_at test i h) (word_small 64 (λ k. test (64 * i + k))) } }

-- the set of a test is known by its words
pub set_by_words : (set : InputSet) (test : ℕ → Bool) → length set.words ≡ 4
    → ((i : ℕ) → i < 4 → get_or set.words i 0 ≡ word_of 64 (λ k. test (64 * i + k))) → set ≡ set_of test
unfolding set_of
set_by_words set test four made =
    ap (λ ws. record { words = ws })
    (ext_get_or 0 set.words (set_of test).words four
    (λ i h. let within : i < 4 = omega (arith, four) in made i within ∙ sym (word_at test i within)))

-- ---- a set is known by its inputs

-- bit k of word i is input 64 * i + k
has_at : (set : InputSet) (i k : ℕ) → k < 64 → has_of set (64 * i + k) ≡ bit_of (get_or set.words i 0) k
unfolding has_of
has_at set i k h = ap₂ (λ at bit. bit_of (get_or set.words at 0) bit) (omega arith) (omega arith)

module _ (set : InputSet) (test : ℕ → Bool) (words : FourWords set) (same : (n : ℕ) → n < 256 → has_of set n ≡ test n) where
  -- a set whose inputs are those that pass a test has the words of the test
  pub word_known : (i : ℕ) → i < 4 → get_or set.words i 0 ≡ word_of 64 (λ k. test (64 * i + k))
  word_known i h =
      word_of_bits 64 _ (λ k. test (64 * i + k)) (words.small i h).fits
      (λ k less. sym (has_at set i k less) ∙ same (64 * i + k) (omega arith))

  -- and is the set of the test
  pub set_known : set ≡ set_of test
  set_known = set_by_words set test words.four word_known

-- tests that agree on the inputs make the same set
pub set_same : (f g : ℕ → Bool) → ((n : ℕ) → n < 256 → f n ≡ g n) → set_of f ≡ set_of g
set_same f g agree = set_known (set_of f) g (set_words f) (λ n h. has_set f n h ∙ agree n h)

-- ---- an operator of words, on all four words of two sets

-- a set whose words the operator makes of the words of the two: what is said of bits holds of inputs
pub combined_set : {operator : ℕ → ℕ → ℕ} {said : Bool → Bool → Bool} → Bitwise operator said → (a b result : InputSet) → FourWords result
    → ((i : ℕ) → i < 4 → get_or result.words i 0 ≡ operator (get_or a.words i 0) (get_or b.words i 0))
    → result ≡ set_of (λ n. said (has_of a n) (has_of b n))
unfolding has_of
combined_set by a b result words made =
    set_known result _ words (λ n h. ap (λ w. bit_of w (n % 64)) (made (n / 64) (omega arith)) ∙ by.bit _ _ (n % 64))

-- ---- the operations that are made of others

-- to insert is to join with one
pub either_single : (set : InputSet) (input : ℕ) → either_of set (single_of input) ≡ insert_of set input
unfolding either_of single_of insert_of
either_single set input =
    set_same _ _ (λ n h. ap (λ x. pick (has_of set n) true x) (has_set (λ m. eqb m input) n h)
    ∙ by_bits (λ x y. pick x true y ≡ pick y true x) refl refl refl refl (has_of set n) (eqb n input))

-- to remove is to except one
pub except_single : (set : InputSet) (input : ℕ) → except_of set (single_of input) ≡ remove_of set input
unfolding except_of single_of remove_of
except_single set input =
    set_same _ _ (λ n h. ap (λ x. pick (has_of set n) (not x) false) (has_set (λ m. eqb m input) n h)
    ∙ by_bits (λ x y. pick x (not y) false ≡ pick y false x) refl refl refl refl (has_of set n) (eqb n input))

-- what is not below a limit is from it on
not_below : (n limit : ℕ) → not (ltb n limit) ≡ leb limit n
not_below n limit =
    by_test (ltb n limit) (λ e. rw e (sym (lt-leb limit n (ltb-true n limit e)))) (λ e. rw e (sym (le-leb limit n (ltb-false n limit e))))

-- a run is what is below its end but not below its start
pub except_below : (first last : ℕ) → except_of (below_of (last + 1)) (below_of first) ≡ run_of first last
unfolding except_of below_of run_of
except_below first last =
    set_same _ _ (λ n h.
    ap₂ (λ x y. pick x y false)
    (has_set (λ m. ltb m (last + 1)) n h ∙ same_bit _ (leb n last) (λ e. omega (arith, ltb-true, le-leb)) (λ e. omega (arith, ltb-false, lt-leb)))
    (ap not (has_set (λ m. ltb m first) n h) ∙ not_below n first)
    ∙ by_bits (λ x y. pick x y false ≡ pick y x false) refl refl refl refl (leb n last) (leb first n))

-- one input is a run that ends where it starts
pub run_single : (input : ℕ) → run_of input input ≡ single_of input
unfolding run_of single_of
run_single input =
    set_same _ _ (λ n h.
    by_test (leb input n)
    (λ e. rw e (same_bit _ _ (λ f. omega (arith, leb-true, eq-eqb)) (λ f. omega (arith, leb-false, ne_eqb))))
    (λ e. rw e (sym (ne_eqb n input (omega (arith, leb-false))))))

-- ---- which inputs a result holds

module _ (n : ℕ) (input : n < 256) where
  -- the empty set holds none
  pub has_empty : has_of empty_of n ≡ false
  unfolding empty_of
  has_empty = has_set _ n input

  -- after an insertion the set holds what was inserted, and what it held
  pub has_insert : (set : InputSet) (i : ℕ) → has_of (insert_of set i) n ≡ pick (eqb n i) true (has_of set n)
  unfolding insert_of
  has_insert set i = has_set _ n input

  -- after a removal the set holds what it held, but what was removed
  pub has_remove : (set : InputSet) (i : ℕ) → has_of (remove_of set i) n ≡ pick (eqb n i) false (has_of set n)
  unfolding remove_of
  has_remove set i = has_set _ n input

  -- either: what one set holds or the other
  pub has_either : (set other : InputSet) → has_of (either_of set other) n ≡ pick (has_of set n) true (has_of other n)
  unfolding either_of
  has_either set other = has_set _ n input

  -- both: what one set holds and the other
  pub has_both : (set other : InputSet) → has_of (both_of set other) n ≡ pick (has_of set n) (has_of other n) false
  unfolding both_of
  has_both set other = has_set _ n input

  -- except: what the one set holds and not the other
  pub has_except : (set other : InputSet) → has_of (except_of set other) n ≡ pick (has_of set n) (not (has_of other n)) false
  unfolding except_of
  has_except set other = has_set _ n input

  -- a run holds what is from its first on and up to its last
  pub has_run : (first last : ℕ) → has_of (run_of first last) n ≡ pick (leb first n) (leb n last) false
  unfolding run_of
  has_run first last = has_set _ n input
