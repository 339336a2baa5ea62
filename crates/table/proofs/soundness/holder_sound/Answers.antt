use Rattle.table.specs.Sound.{holder_sound}
use Rattle.table.proofs.soundness.holder_sound.Goals as goal

pub returns : goal.returns
unfolding holder_sound
returns c = rw c.has_level.ensures
