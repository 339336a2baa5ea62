use mathlib.Core.Path.{refl}
use native.Mathlib.Omega.{arith}
use Rattle.process.proofs.Places.{put_room, put_full}
use Rattle.process.proofs.buffers.Buffer.put.Goals as goal

pub returns-then-self-min : goal.returns-then-self-min
returns-then-self-min c = (put_full _ _ _ (omega arith), refl, refl)

pub returns : goal.returns
returns c = rw c.put.ensures (put_room _ _ _ (omega arith))
