use Rattle.std.proofs.Common.{rules}
use Rattle.holding.specs.Holding.{given_of}
use Rattle.holding.proofs.given.Goals as goal

pub returns : goal.returns
unfolding given_of
returns c = rw (← c.checked.ensures, ← c.to_nobody-kept.ensures) (c.ruled.ensures _ (λ decided passed ran. search (rules, ran)))
