use mathlib.Core.Path.{refl}
use Rattle.semaphores.specs.Semaphores.{usable_of}
use Rattle.semaphores.proofs.usable.Goals as goal

pub returns : goal.returns
unfolding usable_of
returns c = refl
