use Rattle.std.proofs.Common.{ℕ, take, ◌∙◌, ap, arith}
use Rattle.common.proofs.Laying.{sets_part}
use Rattle.common.proofs.put.Goals as goal

pub returns : goal.returns
returns c =
    sets_part _ _ _ _ _ _ _ c.min-start.ensures c.min-count.ensures (omega arith)
    (c.copy_from_slice.ensures.after ∙ ap (λ (n : ℕ). take n c.args.bytes.now) (omega arith))
