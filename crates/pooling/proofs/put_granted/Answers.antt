use Rattle.pooling.specs.Pooling.{pool_by}
use Rattle.pooling.proofs.Granted.{is_ok}
use Rattle.pooling.proofs.put_granted.Goals as goal

pub returns-then-eq : goal.returns-then-eq
unfolding pool_by
returns-then-eq c = rw (← is_ok, ← c.eq.ensures, c.if-eq.true) c.put.ensures

pub returns-else-eq : goal.returns-else-eq
unfolding pool_by
returns-else-eq c = rw (← is_ok, ← c.eq.ensures, c.if-eq.false)
