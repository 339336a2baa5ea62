use Rattle.std.proofs.Common.{rules}
use Rattle.inputs.specs.InputSet.{either_of}
use Rattle.inputs.proofs.Bits.{or_bitwise}
use Rattle.inputs.proofs.Sets.{FourWords, combined_set}
use Rattle.inputs.proofs.InputSet.either.Goals as goal

pub returns : goal.returns
unfolding either_of
returns c =
    let words : FourWords c.combined.result = search rules in
    combined_set or_bitwise c.args.self c.args.other c.combined.result words (λ i h. search rules)
