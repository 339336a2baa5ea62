-- The members of a set in rising order, word by word: as many as a word has ones, and the first at its trailing zeros. Assumes nothing.
use mathlib.Core.Path.{◌≡◌, refl, sym, ap, ◌∙◌}
use mathlib.Core.Bool.{Bool, true, false}
use mathlib.Core.List.{List, [], ◌∷◌, ◌++◌}
use Prim.Native.Nat.{ℕ, zero, suc, ◌+◌, ◌-◌, ◌*◌, ◌/◌, ◌%◌, ◌^◌, ◌<◌, zero-le, suc-le-suc}
use native.Mathlib.Nat.{add-zero, add-suc, suc-add, zero-add}
use native.Mathlib.Numerals.{one-add}
use native.Mathlib.Omega.{arith}
use lib.Arith.{lt-one}
use lib.Count.{ones, ones_step, ones-ones, count_trailing_zeros, under}
use lib.Dec.{eqb, eqb-suc-zero, lit<}
use lib.ListN.{length, get_or, length-append}
use borrow.Author.Tests.{ne_eqb}
use Rattle.std.specs.Prelude.{Option, Some}
use Rattle.std.specs.List.{sum_by}
use Rattle.common.specs.Choice.{pick}
use Rattle.inputs.specs.declared.InputSet.{InputSet}
use Rattle.inputs.specs.InputSet.{word_of, has_of, rising_of, members_of, count_of, first_of}
use Rattle.inputs.proofs.Bits.{lowest_digit, other_digits}
use Rattle.inputs.proofs.Sets.{FourWords, word_known}

-- ---- the numbers that pass a test

-- to append to a choice is to append to each that may be chosen
pick_append : (bit : Bool) (x y l : List ℕ) → pick bit x y ++ l ≡ pick bit (x ++ l) (y ++ l)
pick_append true x y l = refl
pick_append false x y l = refl

-- those among a + b numbers are those among the first a, and then those among the other b
rising_append : (a b from : ℕ) (test : ℕ → Bool) → rising_of (a + b) from test ≡ rising_of a from test ++ rising_of b (from + a) test
unfolding rising_of
rising_append zero b from test = simp (zero-add, add-zero)
rising_append (suc a) b from test = simp (suc-add, add-suc, rising_append a b (suc from) test, pick_append)

-- the word of a test of the numbers from a first one on: the first is its lowest digit
word_from : (bits from : ℕ) (test : ℕ → Bool) → word_of (suc bits) (λ k. test (from + k)) ≡ pick (test from) 1 0 + 2 * word_of bits (λ k. test (suc from + k))
unfolding word_of
word_from bits from test = simp (add-zero, add-suc, suc-add)

-- the ones of a word are its lowest digit and the ones of the others
ones_more : (bit : Bool) (word : ℕ) → ones (pick bit 1 0 + 2 * word) ≡ pick bit 1 0 + ones word
ones_more bit word = rw (ones_step (pick bit 1 0 + 2 * word), lowest_digit, other_digits)

-- the length of a list that may have one number more
length_more : (bit : Bool) (n : ℕ) (l : List ℕ) → length (pick bit (n ∷ l) l) ≡ pick bit 1 0 + length l
length_more true n l = sym (one-add (length l))
length_more false n l = sym (zero-add (length l))

-- as many pass as the word has ones
rising_ones : (bits from : ℕ) (test : ℕ → Bool) → length (rising_of bits from test) ≡ ones (word_of bits (λ k. test (from + k)))
unfolding rising_of word_of
rising_ones zero from test = sym (ones-ones 0)
rising_ones (suc bits) from test =
    length_more (test from) from (rising_of bits (suc from) test)
    ∙ ap (λ n. pick (test from) 1 0 + n) (rising_ones bits (suc from) test)
    ∙ sym (ap ones (word_from bits from test) ∙ ones_more (test from) (word_of bits (λ k. test (suc from + k))))

-- the first of the numbers that a word tells and of others after them: at the word's trailing zeros, unless the word is 0
abbrev first_at : ℕ → ℕ → ℕ → List ℕ → Option ℕ
first_at bits from word others = pick (eqb word 0) (first_of others) (Some (from + count_trailing_zeros bits word))

-- what is so of a word's other digits is so of the word
first_more : (bit : Bool) (bits from word : ℕ) (l others : List ℕ) → first_of (l ++ others) ≡ first_at bits (suc from) word others
    → first_of (pick bit (from ∷ l) l ++ others) ≡ first_at (suc bits) from (pick bit 1 0 + 2 * word) others
unfolding count_trailing_zeros
first_more true bits from word l others h = simp (ne_eqb (1 + 2 * word) 0 (omega arith), lowest_digit true, add-zero)
first_more false bits from zero l others h = h
first_more false bits from (suc word) l others h =
    h ∙ simp (eqb-suc-zero, ne_eqb (0 + 2 * suc word) 0 (omega arith), lowest_digit false, other_digits false, add-suc, suc-add)

-- the first that passes is at the word's trailing zeros
rising_first : (bits from : ℕ) (test : ℕ → Bool) (others : List ℕ)
    → first_of (rising_of bits from test ++ others) ≡ first_at bits from (word_of bits (λ k. test (from + k))) others
unfolding rising_of word_of
rising_first zero from test others = refl
rising_first (suc bits) from test others =
    first_more (test from) bits from _ _ others (rising_first bits (suc from) test others)
    ∙ ap (λ word. first_at (suc bits) from word others) (sym (word_from bits from test))

-- ---- the members of a set from word `at` on

abbrev pub rest_of : InputSet → ℕ → List ℕ
rest_of set at = rising_of (256 - 64 * at) (64 * at) (has_of set)

-- after the last word there are none
rest_none : (set : InputSet) → rest_of set 4 ≡ []
unfolding rising_of
rest_none set = refl

-- first those of the word, and then those of the words after it
rest_step : (set : InputSet) (at : ℕ) → at < 4 → rest_of set at ≡ rising_of 64 (64 * at) (has_of set) ++ rest_of set (at + 1)
rest_step set at h =
    ap (λ many. rising_of many (64 * at) (has_of set)) (omega arith)
    ∙ rising_append 64 (256 - 64 * (at + 1)) (64 * at) (has_of set)
    ∙ ap (λ from. rising_of 64 (64 * at) (has_of set) ++ rising_of (256 - 64 * (at + 1)) from (has_of set)) (omega arith)

module _ (set : InputSet) (words : FourWords set) (at : ℕ) (h : at < 4) where
  -- the word of the members among its 64 inputs is the set's own
  own_word : word_of 64 (λ k. has_of set (64 * at + k)) ≡ get_or set.words at 0
  own_word = sym (word_known set (has_of set) words (λ n less. refl) at h)

  -- the members from the word on are as many as its ones, and those after it
  rest_ones : length (rest_of set at) ≡ ones (get_or set.words at 0) + length (rest_of set (at + 1))
  rest_ones = rw (rest_step set at h, length-append, rising_ones 64 (64 * at), own_word)

  -- the first of them is at the word's trailing zeros, unless the word is 0
  rest_first : first_of (rest_of set at) ≡ first_at 64 (64 * at) (get_or set.words at 0) (rest_of set (at + 1))
  rest_first = rw (rest_step set at h, rising_first, own_word)

  -- the lowest input, from a word on that is not 0
  pub next_here : (get_or set.words at 0 ≡ 0 → ⊥) → first_of (rest_of set at) ≡ Some (64 * at + count_trailing_zeros 64 (get_or set.words at 0))
  next_here some = rest_first ∙ rw (ne_eqb (get_or set.words at 0) 0 some)

  -- and from a word on that is 0
  pub next_later : get_or set.words at 0 ≡ 0 → first_of (rest_of set at) ≡ first_of (rest_of set (at + 1))
  next_later none = rest_first ∙ rw none

-- a set holds as many inputs as its words have ones
pub count_ones : (set : InputSet) → FourWords set
    → count_of set ≡ ones (get_or set.words 0 0) + ones (get_or set.words 1 0) + ones (get_or set.words 2 0) + ones (get_or set.words 3 0)
unfolding count_of members_of
count_ones set words =
    omega (
      arith,
      rest_ones set words 0 (lit< tt),
      rest_ones set words 1 (lit< tt),
      rest_ones set words 2 (lit< tt),
      rest_ones set words 3 (lit< tt),
      ap length (rest_none set),
    )

-- the ones of four words, summed
ones_four : (words : List ℕ) → length words ≡ 4
    → sum_by ones words ≡ ones (get_or words 0 0) + ones (get_or words 1 0) + ones (get_or words 2 0) + ones (get_or words 3 0)
ones_four [] h = cc
ones_four (a ∷ []) h = cc
ones_four (a ∷ b ∷ []) h = cc
ones_four (a ∷ b ∷ c ∷ []) h = cc
ones_four (a ∷ b ∷ c ∷ d ∷ []) h = omega arith
ones_four (a ∷ b ∷ c ∷ d ∷ e ∷ l) h = absurd (omega arith)

-- and so the sum of a set's is how many inputs it holds
pub count_sum : (set : InputSet) → FourWords set → count_of set ≡ sum_by ones set.words
count_sum set words = count_ones set words ∙ sym (ones_four set.words words.four)

-- the zeros below a digit 0 and those above it are within one bit more
under_within : (digit below bits : ℕ) → (digit ≡ 0 → below < bits) → under digit below < suc bits
under_within zero below bits h = suc-le-suc (h refl)
under_within (suc digit) below bits h = suc-le-suc zero-le

-- a word that is not 0 has fewer trailing zeros than bits
pub trailing_within : (bits word : ℕ) → word < 2 ^ bits → (word ≡ 0 → ⊥) → count_trailing_zeros bits word < bits
unfolding count_trailing_zeros
trailing_within zero word small some = absurd (some (lt-one small))
trailing_within (suc bits) word small some =
    under_within (word % 2) (count_trailing_zeros bits (word / 2)) bits (λ even. trailing_within bits (word / 2) (omega arith) (omega arith))
