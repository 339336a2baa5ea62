use mathlib.Core.Path.{refl}
use Rattle.pooling.specs.Pooling.{length_good}
use Rattle.pooling.proofs.length_good.Goals as goal

pub returns : goal.returns
unfolding length_good
returns c = refl
