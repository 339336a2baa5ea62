use Rattle.std.proofs.Common.{rules}
use Rattle.inputs.specs.InputSet.{both_of}
use Rattle.inputs.proofs.Bits.{and_bitwise}
use Rattle.inputs.proofs.Sets.{FourWords, combined_set}
use Rattle.inputs.proofs.InputSet.both.Goals as goal

pub returns : goal.returns
unfolding both_of
returns c =
    let words : FourWords c.combined.result = search rules in
    combined_set and_bitwise c.args.self c.args.other c.combined.result words (λ i h. search rules)
