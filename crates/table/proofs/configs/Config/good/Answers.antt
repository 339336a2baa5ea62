use Rattle.table.specs.Configuration.{good_of}
use Rattle.table.proofs.configs.Config.good.Goals as goal

pub returns : goal.returns
unfolding good_of
returns c =
    rw (c.levels_good.ensures, c.scheduler_good.ensures, c.places_good.ensures, c.privileged_good.ensures)
