use Rattle.std.proofs.Common.{rules}
use Rattle.rtms.specs.Calls.{RECEIVE, effect_of, answer_of}
use Rattle.rtms.proofs.message_calls.receive.Goals as goal

pub returns : goal.returns
unfolding answer_of
returns c = c.guarded.ensures (effect_of (RECEIVE c.args.caller) c.args.table) (λ r ran. search rules)
