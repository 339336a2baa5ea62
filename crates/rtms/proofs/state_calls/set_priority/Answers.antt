use Rattle.std.proofs.Common.{rules}
use Rattle.rtms.specs.Calls.{SETPRIORITY, effect_of, answer_of}
use Rattle.rtms.proofs.state_calls.set_priority.Goals as goal

pub returns : goal.returns
unfolding answer_of
returns c = c.guarded.ensures (effect_of (SETPRIORITY c.args.caller c.args.priority) c.args.table) (λ r ran. search rules)
