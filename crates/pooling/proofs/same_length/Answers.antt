use mathlib.Core.Path.{refl}
use Rattle.pooling.specs.Pooling.{same_length}
use Rattle.pooling.proofs.same_length.Goals as goal

pub returns : goal.returns
unfolding same_length
returns c = refl
