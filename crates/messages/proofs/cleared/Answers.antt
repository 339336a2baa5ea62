use Rattle.messages.specs.Receiving.{cleared_for}
use Rattle.messages.proofs.cleared.Goals as goal

pub returns-in-Level : goal.returns-in-Level
unfolding cleared_for
returns-in-Level c = rw (c.in-Level.is, c.with_process.ensures, c.cleared-process.ensures, c.process_at.ensures)

pub returns-in-Unknown : goal.returns-in-Unknown
unfolding cleared_for
returns-in-Unknown c = rw c.in-Unknown.is
