use Rattle.std.proofs.Common.{rules}
use Rattle.rtms.specs.Calls.{EVENT, effect_of, answer_of}
use Rattle.rtms.proofs.input_calls.event.Goals as goal

pub returns : goal.returns
unfolding answer_of
returns c = c.guarded.ensures (effect_of (EVENT c.args.input) c.args.table) (λ r ran. search rules)
