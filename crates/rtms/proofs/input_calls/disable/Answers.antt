use Rattle.std.proofs.Common.{rules}
use Rattle.rtms.specs.Calls.{DISABLE, effect_of, answer_of}
use Rattle.rtms.proofs.input_calls.disable.Goals as goal

pub returns : goal.returns
unfolding answer_of
returns c = c.guarded.ensures (effect_of (DISABLE c.args.caller c.args.input) c.args.table) (λ r ran. search rules)
