use Rattle.std.proofs.Common.{rules}
use Rattle.rtms.specs.Calls.{STARTSCHEDULER, effect_of, answer_of}
use Rattle.rtms.proofs.timer_calls.start_scheduler.Goals as goal

pub returns : goal.returns
unfolding answer_of
returns c = c.guarded.ensures (effect_of STARTSCHEDULER c.args.table) (λ r ran. search rules)
