use Rattle.std.proofs.Common.{rules}
use Rattle.rtms.specs.Calls.{RELSEMA, effect_of, answer_of}
use Rattle.rtms.proofs.semaphore_calls.release.Goals as goal

pub returns : goal.returns
unfolding answer_of
returns c = c.guarded.ensures (effect_of (RELSEMA c.args.caller c.args.number) c.args.table) (λ r ran. search rules)
