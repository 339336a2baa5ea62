use Rattle.std.proofs.Common.{rules}
use Rattle.pooling.specs.Deciding.{entered_of}
use Rattle.pooling.proofs.entered.Goals as goal

pub returns : goal.returns
unfolding entered_of
returns c = rw (← c.checked.ensures) (c.ruled.ensures _ (λ decided passed ran. search (rules, ran)))
