use mathlib.Core.Path.{◌≡◌}
use native.Mathlib.Omega.{arith}
use borrow.Author.Rules.{rules}
use lib.ListN.{length}
use Rattle.common.proofs.Lists.{of_map}
use Rattle.posting.specs.Posting.{letter, delivered_in}
use Rattle.posting.proofs.Stepping.{step_left, step_outside}
use Rattle.posting.proofs.Posting.post.Goals.{Start, then-receiver-lt12, else-receiver-lt12}
use Rattle.posting.proofs.Posting.post.Goals as goal

long : (c : Start) → length c.args.processes.now ≡ 12
long c = search (rules, of_map)

pub returns : goal.returns
returns c =
    let args = c.args in
    let twelve : length args.processes.now ≡ 12 = long (goal.at.returns c).Start in
    let x = letter args.receiver args.condition args.message in
    rw (c.is_full.ensures, c.pushed-self.ensures)
    (elim c.if-receiver-lt12.branch [
      | then-receiver-lt12 w ↦
          rw (w.processes-is, w.fate-is)
          (step_left args.origin args.places (delivered_in args.processes.now args.self.now) x twelve _ _ _ (omega (arith, w.if-receiver-lt12.true)) w.deliver-fate.ensures)
      | else-receiver-lt12 w ↦
          rw (
            w.processes-is,
            w.fate-is,
            step_outside args.origin args.places (delivered_in args.processes.now args.self.now) x twelve (omega (arith, w.if-receiver-lt12.false)),
            ← w.fresh.ensures,
            ← w.deliver-fate-else-receiver-lt12.ensures,
          )
    ])
