use Rattle.std.proofs.Common.{rules}
use Rattle.rtms.specs.Calls.{INITPOOL, effect_of, answer_of}
use Rattle.rtms.proofs.pool_calls.init_pool.Goals as goal

pub returns : goal.returns
unfolding answer_of
returns c = c.guarded.ensures (effect_of (INITPOOL c.args.caller) c.args.table) (λ r ran. search rules)
