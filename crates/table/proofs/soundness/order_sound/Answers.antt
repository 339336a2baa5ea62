use Rattle.std.proofs.Common.{arith}
use Rattle.std.proofs.lemmas.Grind.{common_steps}
use Rattle.table.specs.Sound.{order_sound}
use Rattle.table.proofs.soundness.order_sound.Goals as goal

pub returns : goal.returns
unfolding order_sound
returns c = rw (c.has_level.ensures, c.has_level-2.ensures) (grind (arith, common_steps))
