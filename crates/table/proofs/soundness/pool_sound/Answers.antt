use Rattle.table.specs.Sound.{pool_sound}
use Rattle.table.proofs.soundness.pool_sound.Goals as goal

pub returns : goal.returns
unfolding pool_sound
returns c = rw (c.lengths_sound.ensures, c.length_within.ensures)
