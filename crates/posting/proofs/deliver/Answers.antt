use Rattle.posting.specs.Posting.{delivered_to}
use Rattle.posting.proofs.deliver.Goals as goal

pub returns : goal.returns
unfolding delivered_to
returns c = rw (c.mark.ensures, ← c.deliver-fate.ensures)
