use Rattle.std.proofs.Common.{rules}
use Rattle.rtms.specs.Calls.{AWAITINTERRUPT, effect_of, answer_of}
use Rattle.rtms.proofs.input_calls.await_interrupt.Goals as goal

pub returns : goal.returns
unfolding answer_of
returns c = c.guarded.ensures (effect_of (AWAITINTERRUPT c.args.caller) c.args.table) (λ r ran. search rules)
