use Rattle.std.proofs.Common.{rules}
use Rattle.process.proofs.Moves.{entry_at}
use Rattle.process.proofs.states.State.next.Goals as goal

pub returns : goal.returns
returns c = entry_at c.args.self c.args.cause _ _ (search rules) (search rules)
