use Rattle.process.specs.Process.{stored_of}
use Rattle.process.proofs.Process.store.Goals as goal

pub returns-in-Ok : goal.returns-in-Ok
unfolding stored_of
returns-in-Ok c = rw (c.in-Ok.ensures)

pub returns-in-Err : goal.returns-in-Err
unfolding stored_of
returns-in-Err c = let back = c.in-Err.ensures in rw (back.0, back.1)
