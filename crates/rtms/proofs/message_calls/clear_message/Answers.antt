use Rattle.std.proofs.Common.{rules}
use Rattle.rtms.specs.Calls.{CLEARMESSAGE, effect_of, answer_of}
use Rattle.rtms.proofs.message_calls.clear_message.Goals as goal

pub returns : goal.returns
unfolding answer_of
returns c = c.guarded.ensures (effect_of (CLEARMESSAGE c.args.caller c.args.receiver) c.args.table) (λ r ran. search rules)
