use Rattle.common.specs.Filled.{items_of}
use Rattle.std.proofs.Common.{rules, ◌≡◌, ◌∙◌, length, get_or, set, map, refl, ap, sym, subst, arith, length-set}
use mathlib.Core.Path.{ap₂}
use lib.ListN.{drop_of_length-le}
use lib.Seq.{set_out}
use Rattle.common.specs.Fold.{fold_of}
use Rattle.common.proofs.Fold.{fold_turn}
use Rattle.common.proofs.Lists.{of_map, get_or_within}
use Rattle.process.specs.declared.Process.{Process}
use Rattle.process.specs.declared.states.Cause.TheVariants.{Handover}
use Rattle.process.specs.Process.{fresh_of, moved_of}
use Rattle.table.specs.declared.Table.{Table}
use Rattle.table.specs.Wakes.{wakes_of}
use Rattle.calls.specs.Levels.{process_at, with_processes, with_semaphores}
use Rattle.calls.specs.Outcomes.{replied_of}
use Rattle.holding.specs.Holding.{handover_wake, Handed, handed_at, handed_to, handed_to_of}
use Rattle.holding.proofs.Deciding.{given_all}
use Rattle.holding.proofs.Handing.{handed, handed_list}
use Rattle.holding.proofs.release.Goals.{Start, then-level-lt12, else-level-lt12}
use Rattle.holding.proofs.release.Goals as goal

-- the array of processes is whole
whole : (c : Start) → length c.args.table.processes ≡ 12
whole c = search (rules, of_map)

pub loop-level-init : goal.loop-level-init
loop-level-init c = record { places = whole (goal.at.loop-level-init c).Start; others = refl; woken = refl }

pub loop-level-preserved : goal.loop-level-preserved
unfolding process_at handed_to_of
loop-level-preserved c =
    let loop = c.loop-level in
    let woken = c.standing-level-items.result.now in
    let first : Table = with_semaphores c.args.table c.given-given.result.part.semaphores in
    let processes = loop.after.processes in
    let level = get_or woken loop.level-index 0 in
    let turned : c.if-level-lt12.after ≡ with_processes loop.after (handed_at processes level) =
    elim c.if-level-lt12.branch [
      | then-level-lt12 w ↦
          w.after-is
          ∙ ap (λ (p : Process). with_processes loop.after (set processes level p))
          (w.moved.ensures ∙ ap (λ (p : Process). moved_of p Handover) (get_or_within processes level _ fresh_of (omega (arith, w.if-level-lt12.true, loop.invariant.places))))
      | else-level-lt12 w ↦
          w.after-is ∙ ap (with_processes loop.after) (sym (set_out _ _ _ (omega (arith, w.if-level-lt12.false, loop.invariant.places))))
    ] in
    let woke : handed c.if-level-lt12.after.processes c.push-wakes.result ≡ handed_to_of (handed processes loop.wakes) level =
    ap₂ handed (ap (λ (t : Table). t.processes) turned) c.push-wakes.ensures in
    record {
      places = subst (λ (t : Table). length t.processes ≡ 12) (sym turned) (length-set processes level _ ∙ loop.invariant.places);
      others = subst (λ (t : Table). t ≡ with_processes first t.processes) (sym turned) (ap (λ (t : Table). with_processes t (handed_at processes level)) loop.invariant.others);
      woken = rw woke (sym (fold_turn handed_to_of (handed processes loop.wakes) woken loop.level-index 0 c.loop-level-test.true) ∙ loop.invariant.woken);
    }

pub returns : goal.returns
unfolding items_of
returns c =
    let loop = c.loop-level in
    let given = c.given-given in
    let table = c.args.table in
    let first : Table = with_semaphores table given.result.part.semaphores in
    let woken = c.standing-level-items.result.now in
    let ended : handed loop.after.processes loop.wakes ≡ handed (handed_to first.processes woken) (wakes_of (map handover_wake woken)) =
    sym (ap (fold_of handed_to_of (handed loop.after.processes loop.wakes)) (drop_of_length-le woken {i = loop.level-index} c.loop-level-test.false))
    ∙ loop.invariant.woken
    ∙ rw c.none-wakes.ensures (handed_list first.processes woken) in
    c.replied.ensures
    ∙ ap (λ (t : Table). replied_of t given.result.answer given.result.shown loop.wakes) loop.invariant.others
    ∙ ap (λ (h : Handed). replied_of (with_processes first h.processes) given.result.answer given.result.shown h.wakes) ended
    ∙ rw (c.standing-level-items.ensures, given.ensures, c.caller_at.ensures) (given_all table c.args.caller c.args.number _ refl)
