use Rattle.process.specs.Process.{handed_of}
use Rattle.process.proofs.Process.hand.Goals as goal

pub returns : goal.returns
unfolding handed_of
returns c = rw c.tell-told.ensures
