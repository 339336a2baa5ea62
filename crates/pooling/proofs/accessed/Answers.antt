use Rattle.std.proofs.Common.{rules}
use Rattle.pooling.specs.Deciding.{accessed_of}
use Rattle.pooling.proofs.accessed.Goals as goal

pub returns : goal.returns
unfolding accessed_of
returns c = rw (← c.access.ensures) (c.ruled.ensures _ (λ decided passed ran. search (rules, ran)))
