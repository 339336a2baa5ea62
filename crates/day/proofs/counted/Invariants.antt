use Rattle.day.proofs.Halving.{Marked}
use Rattle.day.proofs.counted.Given as goal

abbrev pub invariant-loop-count : goal.invariant-loop-count
invariant-loop-count l = Marked l.milliseconds l.unit l.count l.piece

abbrev pub decreases-loop-count : goal.decreases-loop-count
decreases-loop-count l = l.piece
