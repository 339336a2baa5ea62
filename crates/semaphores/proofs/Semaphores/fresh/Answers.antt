use Rattle.semaphores.specs.Semaphores.{fresh_of}
use Rattle.semaphores.proofs.Semaphores.fresh.Goals as goal

pub returns : goal.returns
unfolding fresh_of
returns c = rw c.empty.ensures
