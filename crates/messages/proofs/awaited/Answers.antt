use Rattle.std.proofs.Common.{rules}
use Rattle.messages.specs.Receiving.{awaited_of}
use Rattle.messages.proofs.awaited.Goals as goal

pub returns : goal.returns
unfolding awaited_of
returns c = rw (← c.checked.ensures) (c.ruled.ensures _ (λ decided passed ran. search (rules, ran)))
