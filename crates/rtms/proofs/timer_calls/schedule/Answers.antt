use Rattle.std.proofs.Common.{rules}
use Rattle.rtms.specs.Calls.{SCHEDULE, effect_of, answer_of}
use Rattle.rtms.proofs.timer_calls.schedule.Goals as goal

pub returns : goal.returns
unfolding answer_of
returns c = c.guarded.ensures (effect_of (SCHEDULE c.args.caller c.args.new) c.args.table) (λ r ran. search rules)
