use Rattle.std.proofs.Common.{rules}
use Rattle.rtms.specs.Calls.{TICKS, effect_of, answer_of}
use Rattle.rtms.proofs.timer_calls.ticks.Goals as goal

pub returns : goal.returns
unfolding answer_of
returns c = c.guarded.ensures (effect_of (TICKS c.args.count) c.args.table) (λ r ran. search rules)
