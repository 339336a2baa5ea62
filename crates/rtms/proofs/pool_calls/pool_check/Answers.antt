use Rattle.std.proofs.Common.{rules}
use Rattle.rtms.specs.Calls.{POOLCHECK, effect_of, answer_of}
use Rattle.rtms.proofs.pool_calls.pool_check.Goals as goal

pub returns : goal.returns
unfolding answer_of
returns c = c.guarded.ensures (effect_of (POOLCHECK c.args.caller c.args.stated) c.args.table) (λ r ran. search rules)
