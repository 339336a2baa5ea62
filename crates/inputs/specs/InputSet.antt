-- Document 01, "Inputs". A set of inputs 0..255 is four words of 64 bits, and each operation is said by the inputs that its result holds.
use Rattle.std.specs.Prelude.{Bool, true, false, not, Option, Some, None, List, [], ◌∷◌, ℕ, zero, suc, ◌+◌, ◌*◌, ◌/◌, ◌%◌, eqb, leb, ltb, length, get_or}
use Rattle.common.specs.Choice.{pick}
use Rattle.inputs.specs.declared.InputSet.{InputSet}

-- bit k of a word: the lowest is the word's remainder by 2, and the others are those of its half
unfoldable pub bit_of : ℕ → ℕ → Bool
bit_of word zero = eqb (word % 2) 1
bit_of word (suc k) = bit_of (word / 2) k

-- the word of so many bits whose bit k is told by the test at k
unfoldable pub word_of : ℕ → (ℕ → Bool) → ℕ
word_of zero test = 0
word_of (suc bits) test = pick (test 0) 1 0 + 2 * word_of bits (λ k. test (suc k))

-- input n is bit n mod 64 of word n / 64
unfoldable pub has_of : InputSet → ℕ → Bool
has_of set input = bit_of (get_or set.words (input / 64) 0) (input % 64)

-- the set of the inputs 0..255 that pass a test
unfoldable pub set_of : (ℕ → Bool) → InputSet
set_of test = record {
  words = word_of 64 test ∷ word_of 64 (λ k. test (64 + k)) ∷ word_of 64 (λ k. test (128 + k)) ∷ word_of 64 (λ k. test (192 + k)) ∷ [];
}

-- no input
unfoldable pub empty_of : InputSet
empty_of = set_of (λ n. false)

-- one input
unfoldable pub single_of : ℕ → InputSet
single_of input = set_of (λ n. eqb n input)

-- the inputs below a limit
unfoldable pub below_of : ℕ → InputSet
below_of limit = set_of (λ n. ltb n limit)

-- the inputs of a set, and one more
unfoldable pub insert_of : InputSet → ℕ → InputSet
insert_of set input = set_of (λ n. pick (eqb n input) true (has_of set n))

-- the inputs of a set but one
unfoldable pub remove_of : InputSet → ℕ → InputSet
remove_of set input = set_of (λ n. pick (eqb n input) false (has_of set n))

-- the inputs that are in one set or the other
unfoldable pub either_of : InputSet → InputSet → InputSet
either_of set other = set_of (λ n. pick (has_of set n) true (has_of other n))

-- the inputs that are in both sets
unfoldable pub both_of : InputSet → InputSet → InputSet
both_of set other = set_of (λ n. pick (has_of set n) (has_of other n) false)

-- the inputs of a set that are not in another
unfoldable pub except_of : InputSet → InputSet → InputSet
except_of set other = set_of (λ n. pick (has_of set n) (not (has_of other n)) false)

-- "each owning one run of inputs, first <= last": the inputs first to last
unfoldable pub run_of : ℕ → ℕ → InputSet
run_of first last = set_of (λ n. pick (leb first n) (leb n last) false)

-- the numbers that pass a test, among so many from a first one on, rising
unfoldable pub rising_of : ℕ → ℕ → (ℕ → Bool) → List ℕ
rising_of zero from test = []
rising_of (suc many) from test = pick (test from) (from ∷ rising_of many (suc from) test) (rising_of many (suc from) test)

-- "their numbers in rising order"
unfoldable pub members_of : InputSet → List ℕ
members_of set = rising_of 256 0 (has_of set)

-- "how many inputs the set holds"
unfoldable pub count_of : InputSet → ℕ
count_of set = length (members_of set)

-- the first of a list of inputs, if there is one
abbrev pub first_of : List ℕ → Option ℕ
first_of [] = None
first_of (n ∷ l) = Some n

-- the lowest input of a set, if there is one
unfoldable pub next_of : InputSet → Option ℕ
next_of set = first_of (members_of set)

-- an input that was told, and what its teller goes on with
abbrev pub told_then : Option ℕ → (ℕ → List ℕ) → List ℕ
told_then None rest = []
told_then (Some n) rest = n ∷ rest n

-- a host's walk of a set: so many times, the next input is told and taken out
unfoldable pub walk_of : ℕ → InputSet → List ℕ
walk_of zero set = []
walk_of (suc times) set = told_then (next_of set) (λ n. walk_of times (remove_of set n))
