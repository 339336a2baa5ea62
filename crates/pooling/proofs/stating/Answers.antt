use Rattle.std.proofs.Common.{rules}
use Rattle.pooling.specs.Deciding.{stated_by}
use Rattle.pooling.proofs.stating.Goals as goal

pub returns : goal.returns
unfolding stated_by
returns c = rw (← c.stating_checked-checked.ensures) (c.ruled.ensures _ (λ decided passed ran. search (rules, ran)))
