use Rattle.std.proofs.Common.{◌≡◌, min, arith}
use Rattle.common.specs.Filled.{filled_of}
use Rattle.common.proofs.Filling.{packed_none}
use Rattle.common.proofs.filled.Filled.empty.Goals as goal

pub returns : goal.returns
unfolding filled_of
returns g c = let none : min 0 g.row.N ≡ 0 = omega arith in rw (packed_none c.args.filler g.row.N, none)
