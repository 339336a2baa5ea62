use Rattle.std.proofs.Common.{rules}
use Rattle.messages.specs.Receiving.{received_of}
use Rattle.messages.proofs.received.Goals as goal

pub returns : goal.returns
unfolding received_of
returns c = rw (← c.receive_checked.ensures) (c.ruled.ensures _ (λ decided passed ran. search (rules, ran)))
