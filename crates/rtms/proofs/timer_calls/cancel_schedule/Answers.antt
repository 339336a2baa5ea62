use Rattle.std.proofs.Common.{rules}
use Rattle.rtms.specs.Calls.{CANCELSCHEDULE, effect_of, answer_of}
use Rattle.rtms.proofs.timer_calls.cancel_schedule.Goals as goal

pub returns : goal.returns
unfolding answer_of
returns c = c.guarded.ensures (effect_of (CANCELSCHEDULE c.args.caller c.args.sender c.args.receiver) c.args.table) (λ r ran. search rules)
