use Rattle.process.specs.Process.{taken_of}
use Rattle.process.proofs.Process.taken.Goals as goal

pub returns : goal.returns
unfolding taken_of
returns c = rw (c.tell-told.ensures, c.oldest.ensures, c.rest.ensures)
