use Rattle.table.specs.Table.{fresh_of}
use Rattle.table.proofs.Table.fresh.Goals as goal

pub returns : goal.returns
unfolding fresh_of
returns c =
    rw (c.fresh.ensures, c.none.ensures, c.fresh-2.ensures, c.empty.ensures, c.empty-2.ensures, c.fresh-3.ensures)
