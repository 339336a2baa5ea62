use Rattle.std.proofs.Common.{arith}
use lib.Pow.{pow_pos}
use Rattle.inputs.proofs.Bits.{one_shifted, below_word}
use Rattle.inputs.proofs.word.below.Goals as goal

pub overflow_sub-result : goal.overflow_sub-result
overflow_sub-result c = rw (one_shifted _ c.if-bits-lt64.true) (pow_pos _)

pub returns-then-bits-lt64 : goal.returns-then-bits-lt64
returns-then-bits-lt64 c = rw (one_shifted _ c.if-bits-lt64.true) (below_word _ _ _ (omega arith))

pub returns-else-bits-lt64 : goal.returns-else-bits-lt64
returns-else-bits-lt64 c = below_word _ _ 64 (omega arith)
