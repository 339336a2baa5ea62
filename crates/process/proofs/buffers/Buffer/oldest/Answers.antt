use mathlib.Core.Path.{◌≡◌, sym}
use native.Mathlib.Omega.{arith}
use borrow.Author.Rules.{rules}
use lib.ListN.{length}
use Rattle.common.proofs.Lists.{of_map}
use Rattle.process.proofs.Places.{oldest_none, oldest_first}
use Rattle.process.proofs.buffers.Buffer.oldest.Goals.{Start}
use Rattle.process.proofs.buffers.Buffer.oldest.Goals as goal

long : (c : Start) → length c.args.self.list.items ≡ 16
long c = search (rules, of_map)

pub returns-then-self-eq0 : goal.returns-then-self-eq0
returns-then-self-eq0 c = sym (oldest_none _ c.if-self-eq0.true)

pub returns-else-self-eq0 : goal.returns-else-self-eq0
returns-else-self-eq0 c =
    let l : length c.args.self.list.items ≡ 16 = long (goal.at.returns-else-self-eq0 c).Start in
    sym (oldest_first _ _ c.if-self-eq0.false (omega arith))
