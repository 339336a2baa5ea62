use borrow.Author.Rules.{rules}
use lib.ListN.{length}
use mathlib.Core.Path.{◌≡◌}
use Rattle.common.proofs.Lists.{of_map}
use Rattle.process.proofs.Places.{moved_down}
use Rattle.process.proofs.buffers.shifted.Goals.{Start}
use Rattle.process.proofs.buffers.shifted.Goals as goal

long : (c : Start) → length c.args.kept ≡ 16
long c = search (rules, of_map)

pub returns : goal.returns
returns c = rw c.copy_within.ensures.after (moved_down c.args.kept (long (goal.at.returns c).Start))
