use Rattle.process.specs.Process.{moved_of}
use Rattle.process.proofs.Process.moved.Goals as goal

pub returns-in-Some : goal.returns-in-Some
unfolding moved_of
returns-in-Some c = rw (← c.next.ensures, c.in-Some.is)

pub returns-in-None : goal.returns-in-None
unfolding moved_of
returns-in-None c = rw (← c.next.ensures, c.in-None.is)
