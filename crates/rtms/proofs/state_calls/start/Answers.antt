use Rattle.std.proofs.Common.{rules}
use Rattle.rtms.specs.Calls.{START, effect_of, answer_of}
use Rattle.rtms.proofs.state_calls.start.Goals as goal

pub returns : goal.returns
unfolding answer_of
returns c = c.guarded.ensures (effect_of (START c.args.level c.args.priority) c.args.table) (λ r ran. search rules)
