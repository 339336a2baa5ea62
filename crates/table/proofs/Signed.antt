-- How the words of signed numbers are read. Assumes nothing.
use mathlib.Core.Path.{◌≡◌, refl}
use mathlib.Core.Bool.{Bool, true, false}
use Prim.Native.Nat.{ℕ}
use lib.Dec.{leb}
use lib.IntN.{ℤ, pos, negsuc}
use mir.Syntax.{w16, w32}
use mir.Val.{to_z}
use borrow.Author.Tests.{leb-true, leb-false, lt-ltb, le-ltb}
use Rattle.common.proofs.Cases.{by_test}
use Rattle.table.specs.Words.{minus_one, negative16, negative32}

-- a signed number is below 0
abbrev pub below : ℤ → Bool
below (pos n) = false
below (negsuc n) = true

-- the word of -1
pub minus_one_lem : to_z w16 minus_one ≡ negsuc 0
minus_one_lem = refl

-- the words of the numbers below 0, in 16 bits and in 32 bits
pub negative_word : (word : ℕ) → negative16 word ≡ below (to_z w16 word)
negative_word word =
    by_test (leb 32768 word)
    (λ e. rw (e, le-ltb word 32768 (leb-true 32768 word e)))
    (λ e. rw (e, lt-ltb word 32768 (leb-false 32768 word e)))

pub negative_long_word : (word : ℕ) → negative32 word ≡ below (to_z w32 word)
negative_long_word word =
    by_test (leb 2147483648 word)
    (λ e. rw (e, le-ltb word 2147483648 (leb-true 2147483648 word e)))
    (λ e. rw (e, lt-ltb word 2147483648 (leb-false 2147483648 word e)))
