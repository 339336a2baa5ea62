use Rattle.common.specs.Filled.{items_of}
use Rattle.common.proofs.filled.Filled.standing.Goals as goal

pub returns : goal.returns
unfolding items_of
returns g c = rw c.min.ensures
