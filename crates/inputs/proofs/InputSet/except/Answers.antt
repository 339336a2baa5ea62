use Rattle.std.proofs.Common.{◌≡◌, ℕ, List, get_or, rules}
use lib.Bits.{bit_and, bit_xor}
use Rattle.inputs.specs.InputSet.{except_of}
use Rattle.inputs.proofs.Bits.{except_bitwise}
use Rattle.inputs.proofs.Sets.{FourWords, by_four, combined_set}
use Rattle.inputs.proofs.InputSet.except.Goals as goal

pub returns : goal.returns
unfolding except_of
returns c =
    let words : FourWords c.combined.result = search rules in
    let a : List ℕ = c.args.self.words in
    let b : List ℕ = c.args.other.words in
    combined_set except_bitwise c.args.self c.args.other c.combined.result words
    (by_four (λ i. get_or c.combined.result.words i 0 ≡ bit_xor (get_or a i 0) (bit_and (get_or a i 0) (get_or b i 0)))
    (search rules) (search rules) (search rules) (search rules))
