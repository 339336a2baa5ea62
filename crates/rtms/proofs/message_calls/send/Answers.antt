use Rattle.std.proofs.Common.{rules}
use Rattle.rtms.specs.Calls.{SEND, effect_of, answer_of}
use Rattle.rtms.proofs.message_calls.send.Goals as goal

pub returns : goal.returns
unfolding answer_of
returns c = c.guarded.ensures (effect_of (SEND c.args.caller c.args.receiver c.args.condition c.args.message) c.args.table) (λ r ran. search rules)
