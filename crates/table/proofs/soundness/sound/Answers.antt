use Rattle.table.specs.Sound.{sound_of}
use Rattle.table.proofs.soundness.sound.Goals as goal

pub returns : goal.returns
unfolding sound_of
returns c =
    rw (c.good.ensures, c.levels_sound.ensures, c.orders_sound.ensures, c.holders_sound.ensures, c.queue_sound.ensures, c.on_card.ensures, c.on_card-2.ensures, c.pool_sound.ensures)
