use Rattle.std.proofs.Common.{rules}
use Rattle.messages.specs.Sending.{send_of}
use Rattle.messages.proofs.send.Goals as goal

pub returns : goal.returns
unfolding send_of
returns c =
    rw (← c.receiver-target.ensures, ← c.named_checked-checked.ensures)
    (c.obeyed.ensures _ (λ lent left said passed is_lent ran. search (rules, is_lent)))
