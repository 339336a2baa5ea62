use mathlib.Core.Path.{◌≡◌}
use native.Mathlib.Omega.{arith}
use lib.ListN.{length}
use lib.Seq.{set_out}
use borrow.Author.Rules.{rules}
use Rattle.common.proofs.Lists.{of_map}
use Rattle.pool.specs.Control.{began_of}
use Rattle.pool.proofs.Control.begin.Goals.{Start}
use Rattle.pool.proofs.Control.begin.Goals as goal

long : (c : Start) → length c.args.self.users ≡ 12
long c = search (rules, of_map)

pub returns-then-level-lt12 : goal.returns-then-level-lt12
unfolding began_of
returns-then-level-lt12 c = rw c.from.ensures

pub returns-else-level-lt12 : goal.returns-else-level-lt12
unfolding began_of
returns-else-level-lt12 c =
    let places : length c.args.self.users ≡ 12 = long (goal.at.returns-else-level-lt12 c).Start in
    rw (set_out c.args.self.users c.args.level _ (omega (arith, c.if-level-lt12.false)))
