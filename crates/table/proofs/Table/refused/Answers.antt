use Rattle.table.specs.Table.{refused_of}
use Rattle.table.proofs.Table.refused.Goals as goal

pub returns : goal.returns
unfolding refused_of
returns c = rw c.none.ensures
