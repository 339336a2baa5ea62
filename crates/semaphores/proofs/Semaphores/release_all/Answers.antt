use Rattle.std.proofs.Common.{◌≡◌, ◌∙◌, ℕ, suc, ◌+◌, ◌-◌, ap, sym, arith}
use Rattle.std.proofs.Math.Numerals.{add-one}
use borrow.Author.Tests.{ne_eqb}
use Rattle.semaphores.specs.declared.ReleaseAll.{ReleaseAll}
use Rattle.semaphores.specs.Semaphores.{holder_of, also_of}
use Rattle.semaphores.proofs.ReleasingAll.{also_passed, finished_of, finished_none, finished_turn, finished_all}
use Rattle.semaphores.proofs.Semaphores.release_all.Goals.{then-all-from, else-all-from}
use Rattle.semaphores.proofs.Semaphores.release_all.Goals as goal

pub loop-number-preserved : goal.loop-number-preserved
unfolding holder_of
loop-number-preserved c =
    let all : ReleaseAll = c.loop-number.all in
    let level = c.args.level in
    let number = c.loop-number.number in
    let left : suc (96 - (number + 1)) ≡ 96 - number = omega arith in
    let turned : c.if-all-from.all ≡ also_of all level number =
    elim c.if-all-from.branch [
      | then-all-from w ↦ w.all-is ∙ w.also-all.ensures
      | else-all-from w ↦ w.all-is ∙ sym (also_passed all level number (rw c.from.ensures at (ne_eqb _ _ w.if-all-from.false)))
    ] in
    rw (turned, add-one)
    (sym (finished_turn (96 - suc number) number level all) ∙ ap (λ (many : ℕ). finished_of many number level all) (rw add-one at left) ∙ c.loop-number.invariant)

pub returns : goal.returns
returns c =
    let ended : c.loop-number.number ≡ 96 = omega arith in
    sym (finished_none 96 _ _) ∙ (rw ended at c.loop-number.invariant) ∙ rw c.empty.ensures (finished_all _ _)
