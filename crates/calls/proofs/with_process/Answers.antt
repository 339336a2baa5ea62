use native.Mathlib.Omega.{arith}
use mathlib.Core.Path.{◌≡◌, sym}
use lib.ListN.{length}
use lib.Seq.{set_out}
use Rattle.common.proofs.Lists.{of_map}
use borrow.Author.Rules.{rules}
use Rattle.calls.proofs.with_process.Goals.{Start}
use Rattle.calls.proofs.with_process.Goals as goal

long : (c : Start) → length c.args.processes ≡ 12
long c = search (rules, of_map)

pub returns-else-level-lt12 : goal.returns-else-level-lt12
returns-else-level-lt12 c = let places : length c.args.processes ≡ 12 = long (goal.at.returns-else-level-lt12 c).Start in sym (set_out _ _ _ (omega (arith, c.if-level-lt12.false)))
