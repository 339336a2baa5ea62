use Rattle.pooling.specs.Pooling.{buffer_by}
use Rattle.pooling.proofs.Granted.{is_ok}
use Rattle.pooling.proofs.get_granted.Goals as goal

pub returns-then-eq : goal.returns-then-eq
unfolding buffer_by
returns-then-eq c = rw (← is_ok, ← c.eq.ensures, c.if-eq.true) c.get.ensures

pub returns-else-eq : goal.returns-else-eq
unfolding buffer_by
returns-else-eq c = rw (← is_ok, ← c.eq.ensures, c.if-eq.false)
