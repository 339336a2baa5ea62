-- The bits of a word: where a shift finds them, what an operator does to them, and that a word is known by them. Assumes nothing.
use mathlib.Core.Path.{◌≡◌, refl, sym, ap, ap₂, ◌∙◌}
use mathlib.Core.Bool.{Bool, true, false, not}
use Prim.Native.Nat.{ℕ, zero, suc, ◌+◌, ◌-◌, ◌*◌, ◌/◌, ◌%◌, ◌^◌, ◌<◌, ◌≤◌, min, suc-le-suc}
use native.Mathlib.Nat.{div-one, one-mul}
use native.Mathlib.Numerals.{one-add}
use native.Mathlib.Omega.{arith}
use lib.Arith.{lt-one}
use lib.Bits.{bit_and, bit_or, bit_xor, and_shr, or_shr, xor_shr, and_mod, or_mod, xor_mod}
use lib.Dec.{eqb, ltb, lit<, leb-zero, leb-suc-zero, leb-suc-suc}
use lib.Pow.{pow_pos, pow_mono, ones_lt, shr-shr, shl_exact}
use borrow.Author.Tests.{ltb-true, ltb-false, lt-ltb, le-ltb}
use Rattle.common.specs.Choice.{pick}
use Rattle.inputs.specs.InputSet.{bit_of, word_of}

-- bit k is the lowest of what a shift by k leaves
pub bit_shifted : (word k : ℕ) → bit_of word k ≡ eqb (word / 2 ^ k % 2) 1
unfolding bit_of
bit_shifted word zero = ap (λ w. eqb (w % 2) 1) (sym (div-one word))
bit_shifted word (suc k) = bit_shifted (word / 2) k ∙ ap (λ w. eqb (w % 2) 1) (shr-shr word 1 k ∙ ap (λ j. word / 2 ^ j) (one-add k))

-- two bits are the same if the second is true where the first is, and false where the first is
pub same_bit : (x y : Bool) → (x ≡ true → y ≡ true) → (x ≡ false → y ≡ false) → x ≡ y
same_bit true y f g = sym (f refl)
same_bit false y f g = sym (g refl)

-- what holds of each two bits that can be written holds of any two
pub by_bits : (P : Bool → Bool → Type 0) → P true true → P true false → P false true → P false false → (x y : Bool) → P x y
by_bits P p q r s true true = p
by_bits P p q r s true false = q
by_bits P p q r s false true = r
by_bits P p q r s false false = s

-- ---- bits as digits

-- a bit is a digit
digit_small : (bit : Bool) → pick bit 1 0 < 2
digit_small true = lit< tt
digit_small false = lit< tt

-- from a bit to its digit and back
bit_of_digit : (bit : Bool) → eqb (pick bit 1 0) 1 ≡ bit
bit_of_digit true = refl
bit_of_digit false = refl

-- from a digit to its bit and back
digit_of_bit : (digit : ℕ) → digit < 2 → pick (eqb digit 1) 1 0 ≡ digit
digit_of_bit zero h = refl
digit_of_bit (suc zero) h = refl
digit_of_bit (suc (suc digit)) h = absurd (omega arith)

-- the lowest digit of a word that is put together of a digit and the others
pub lowest_digit : (bit : Bool) (others : ℕ) → (pick bit 1 0 + 2 * others) % 2 ≡ pick bit 1 0
lowest_digit bit others = omega (arith, digit_small bit)

-- and the others
pub other_digits : (bit : Bool) (others : ℕ) → (pick bit 1 0 + 2 * others) / 2 ≡ others
other_digits bit others = omega (arith, digit_small bit)

-- ---- the operators

-- an operator does to bit k of its operands what is said of bits
pub record Bitwise (operator : ℕ → ℕ → ℕ) (said : Bool → Bool → Bool) : Type 0 where
  pub bit : (a b k : ℕ) → bit_of (operator a b) k ≡ said (bit_of a k) (bit_of b k)

-- so it is with an operator that shifts and cuts as its operands do, and does to digits what is said
bitwise : {operator : ℕ → ℕ → ℕ} {said : Bool → Bool → Bool}
    → ((a b k : ℕ) → operator a b / 2 ^ k ≡ operator (a / 2 ^ k) (b / 2 ^ k))
    → ((a b k : ℕ) → operator a b % 2 ^ k ≡ operator (a % 2 ^ k) (b % 2 ^ k))
    → ((x y : Bool) → eqb (operator (pick x 1 0) (pick y 1 0)) 1 ≡ said x y) → Bitwise operator said
bitwise {operator} {said} shift cut digits = record {
  bit = λ a b k.
      let x : ℕ = a / 2 ^ k % 2 in
      let y : ℕ = b / 2 ^ k % 2 in
      let lowest : operator a b / 2 ^ k % 2 ≡ operator x y = ap (λ w. w % 2) (shift a b k) ∙ cut (a / 2 ^ k) (b / 2 ^ k) 1 in
      let told : operator (pick (eqb x 1) 1 0) (pick (eqb y 1) 1 0) ≡ operator x y = ap₂ operator (digit_of_bit x (omega arith)) (digit_of_bit y (omega arith)) in
      bit_shifted (operator a b) k ∙ ap (λ w. eqb w 1) (lowest ∙ sym told) ∙ digits (eqb x 1) (eqb y 1) ∙ sym (ap₂ said (bit_shifted a k) (bit_shifted b k));
}

-- `a | b`
pub or_bitwise : Bitwise bit_or (λ x y. pick x true y)
or_bitwise = bitwise or_shr or_mod (by_bits _ refl refl refl refl)

-- `a & b`
pub and_bitwise : Bitwise bit_and (λ x y. pick x y false)
and_bitwise = bitwise and_shr and_mod (by_bits _ refl refl refl refl)

-- `a ^ a & b`
pub except_bitwise : Bitwise (λ a b. bit_xor a (bit_and a b)) (λ x y. pick x (not y) false)
except_bitwise =
    bitwise
    (λ a b k. xor_shr a (bit_and a b) k ∙ ap (bit_xor (a / 2 ^ k)) (and_shr a b k))
    (λ a b k. xor_mod a (bit_and a b) k ∙ ap (bit_xor (a % 2 ^ k)) (and_mod a b k))
    (by_bits _ refl refl refl refl)

-- ---- words and their bits

-- a word of so many bits is the word of its bits
pub word_of_bits : (bits word : ℕ) (test : ℕ → Bool) → word < 2 ^ bits → ((k : ℕ) → k < bits → bit_of word k ≡ test k) → word ≡ word_of bits test
unfolding word_of bit_of
word_of_bits zero word test h same = lt-one h
word_of_bits (suc bits) word test h same =
    let others : word / 2 ≡ word_of bits (λ k. test (suc k)) =
    word_of_bits bits (word / 2) (λ k. test (suc k)) (omega arith) (λ k less. same (suc k) (suc-le-suc less)) in
    let lowest : pick (test 0) 1 0 ≡ word % 2 = rw (← (same 0 (omega arith))) (digit_of_bit (word % 2) (omega arith)) in
    omega arith

-- the word of a test of so many numbers has no more bits
pub word_small : (bits : ℕ) (test : ℕ → Bool) → word_of bits test < 2 ^ bits
unfolding word_of
word_small zero test = lit< tt
word_small (suc bits) test = omega (arith, digit_small (test 0), word_small bits (λ k. test (suc k)))

-- and each of them is what the test tells
pub bit_of_word : (bits : ℕ) (test : ℕ → Bool) (k : ℕ) → k < bits → bit_of (word_of bits test) k ≡ test k
unfolding word_of bit_of
bit_of_word zero test k h = absurd (omega arith)
bit_of_word (suc bits) test zero h = rw lowest_digit (bit_of_digit (test 0))
bit_of_word (suc bits) test (suc k) h = rw other_digits (bit_of_word bits (λ j. test (suc j)) k (omega arith))

-- ---- the word of the numbers below a limit

-- a shift of 1 loses nothing
pub one_shifted : (k : ℕ) → k < 64 → 1 * 2 ^ k % 2 ^ 64 ≡ 2 ^ k
one_shifted k h = shl_exact 1 k 64 (lit< tt) (omega arith) ∙ one-mul (2 ^ k)

-- no bit of 0 is set
bit_of_zero : (k : ℕ) → bit_of 0 k ≡ false
unfolding bit_of
bit_of_zero zero = refl
bit_of_zero (suc k) = bit_of_zero k

-- the n lowest bits of 2 ^ n - 1 are set, and no other
bit_of_ones : (n k : ℕ) → bit_of (2 ^ n - 1) k ≡ ltb k n
unfolding bit_of
bit_of_ones zero k = bit_of_zero k ∙ sym (leb-suc-zero k)
bit_of_ones (suc n) zero = let odd : (2 ^ suc n - 1) % 2 ≡ 1 = omega (arith, pow_pos n) in rw (odd, leb-suc-suc, leb-zero)
bit_of_ones (suc n) (suc k) = ap (λ w. bit_of w k) (omega (arith, pow_pos n)) ∙ bit_of_ones n k ∙ sym (leb-suc-suc (suc k) n)

-- so many ones are the numbers below the limit, among 64 from a base on
pub below_word : (limit base bits : ℕ) → bits ≡ min (limit - base) 64 → 2 ^ bits - 1 ≡ word_of 64 (λ k. ltb (base + k) limit)
below_word limit base bits e =
    let within : bits ≤ 64 = omega arith in
    word_of_bits 64 (2 ^ bits - 1) (λ k. ltb (base + k) limit) (omega (arith, ones_lt bits, pow_mono within))
    (λ k less. bit_of_ones bits k ∙ same_bit _ _ (λ h. omega (arith, ltb-true, lt-ltb)) (λ h. omega (arith, ltb-false, le-ltb)))
