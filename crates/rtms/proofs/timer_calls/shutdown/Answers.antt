use Rattle.std.proofs.Common.{rules}
use Rattle.rtms.specs.Calls.{SHUTDOWN, effect_of, answer_of}
use Rattle.rtms.proofs.timer_calls.shutdown.Goals as goal

pub returns : goal.returns
unfolding answer_of
returns c = c.guarded.ensures (effect_of (SHUTDOWN c.args.caller) c.args.table) (λ r ran. search rules)
