use Rattle.table.specs.Sound.{level_sound}
use Rattle.process.proofs.Moves.{same_state}
use Rattle.table.proofs.soundness.level_sound.Goals as goal

pub returns : goal.returns
unfolding level_sound
returns c =
    rw (
      c.has_level.ensures,
      c.from.ensures,
      c.from-2.ensures,
      c.eq-waits.ensures,
      same_state,
      c.one_if-queued.ensures,
      c.eq.ensures,
      same_state,
      c.times.ensures,
    )
