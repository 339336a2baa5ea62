use mathlib.Core.Path.{◌≡◌}
use native.Mathlib.Omega.{arith}
use lib.ListN.{length}
use lib.Seq.{set_out}
use borrow.Author.Rules.{rules}
use Rattle.common.proofs.Lists.{of_map}
use Rattle.pool.specs.Control.{stated_of}
use Rattle.pool.proofs.Control.state.Goals.{Start, then-level-lt12, else-level-lt12}
use Rattle.pool.proofs.Control.state.Goals as goal

long : (c : Start) → length c.args.self.users ≡ 12
long c = search (rules, of_map)

pub returns : goal.returns
unfolding stated_of
returns c =
    let places : length c.args.self.users ≡ 12 = long (goal.at.returns c).Start in
    let start = c in
    elim c.if-level-lt12.branch [
      | then-level-lt12 w ↦ rw (w.control-is, w.from.ensures, start.kept-kept.ensures)
      | else-level-lt12 w ↦ rw (w.control-is, set_out start.args.self.users start.args.level _ (omega (arith, w.if-level-lt12.false)), start.kept-kept.ensures)
    ]
