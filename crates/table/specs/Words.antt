-- Document 01, "Call log": the two parameters and SCHEDULE's `to` are signed. They are kept as the words of their bits, and this is how such a
-- word is read; `minus_one_lem` and `negative_word` (proofs/Signed) tie it to the signed numbers.
use Rattle.std.specs.Prelude.{Bool, ℕ, leb}

-- -1 in 16 bits
abbrev pub minus_one : ℕ
minus_one = 65535

-- a number below 0, in 16 bits and in 32 bits
abbrev pub negative16 : ℕ → Bool
negative16 word = leb 32768 word

abbrev pub negative32 : ℕ → Bool
negative32 word = leb 2147483648 word
