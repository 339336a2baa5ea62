use Rattle.std.proofs.Common.{rules}
use Rattle.rtms.specs.Calls.{TICK, effect_of, answer_of}
use Rattle.rtms.proofs.timer_calls.tick.Goals as goal

pub returns : goal.returns
unfolding answer_of
returns c = c.guarded.ensures (effect_of TICK c.args.table) (λ r ran. search rules)
