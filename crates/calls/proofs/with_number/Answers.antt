use Rattle.calls.specs.Outcomes.{carries_number}
use Rattle.calls.proofs.with_number.Goals as goal

pub returns : goal.returns
unfolding carries_number
returns c = rw c.replied.ensures
