use Rattle.table.specs.Table.{refused_of}
use Rattle.calls.specs.Outcomes.{answered_of}
use Rattle.calls.proofs.answered.Goals as goal

pub returns : goal.returns
unfolding answered_of refused_of
returns c = rw c.refused-outcome.ensures
