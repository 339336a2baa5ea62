use Rattle.std.proofs.Common.{rules}
use Rattle.messages.specs.Receiving.{clear_message_of}
use Rattle.messages.proofs.clear_message.Goals as goal

pub returns : goal.returns
unfolding clear_message_of
returns c =
    rw (← c.receiver-target.ensures, ← c.named_checked-checked.ensures)
    (c.obeyed.ensures _ (λ lent left said passed is_lent ran. search (rules, is_lent)))
