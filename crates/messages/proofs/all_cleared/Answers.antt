use mathlib.Core.Path.{◌≡◌, ◌∙◌, refl, ap, sym}
use mathlib.Core.Bool.{Bool}
use mathlib.Core.List.{List}
use native.Mathlib.Omega.{arith}
use borrow.Author.Rules.{rules}
use lib.ListN.{length, length-set}
use Rattle.common.specs.Choice.{pick}
use Rattle.common.proofs.Cases.{by_pick}
use Rattle.common.proofs.Lists.{of_map, get_or_within}
use Rattle.inputs.proofs.Rising.{rising_turn, rising_end}
use Rattle.process.specs.declared.Process.{Process}
use Rattle.process.specs.Process.{fresh_of}
use Rattle.table.specs.Configuration.{configured_of}
use Rattle.calls.specs.Levels.{process_at}
use Rattle.messages.specs.Receivers.{cleared_at}
use Rattle.messages.specs.Receiving.{cleared_for}
use Rattle.messages.proofs.all_cleared.Goals.{Start, then-has_level, else-has_level}
use Rattle.messages.proofs.all_cleared.Goals as goal

whole : (c : Start) → length c.args.processes ≡ 12
whole c = search (rules, of_map)

pub loop-level-init : goal.loop-level-init
loop-level-init c = (whole c, refl)

pub loop-level-preserved : goal.loop-level-preserved
unfolding process_at
loop-level-preserved c =
    let loop = c.loop-level in
    let twelve : length loop.processes ≡ 12 = loop.invariant.0 in
    let one = cleared_at loop.processes loop.level in
    let turned : c.if-has_level.processes ≡ pick c.has_level.result one loop.processes =
    elim c.if-has_level.branch [
      | then-has_level w ↦
          w.processes-is
          ∙ rw (w.cleared.ensures, get_or_within loop.processes loop.level _ fresh_of (omega arith))
          (sym (ap (λ (wanted : Bool). pick wanted one loop.processes) w.if-has_level.true))
      | else-has_level w ↦ w.processes-is ∙ sym (ap (λ (wanted : Bool). pick wanted one loop.processes) w.if-has_level.false)
    ] in (
      rw turned
          (by_pick (λ (ps : List Process). length ps ≡ 12) c.has_level.result one loop.processes (length-set loop.processes loop.level _ ∙ twelve) twelve),
      rw (turned, c.has_level.ensures)
          (sym (rising_turn cleared_at (configured_of c.args.config) loop.processes 12 loop.level c.loop-level-test.true) ∙ loop.invariant.1),
    )

pub returns : goal.returns
unfolding cleared_for
returns c =
    rising_end cleared_at (configured_of c.args.config) c.loop-level.processes _ 12 c.loop-level.level c.loop-level-test.false c.loop-level.invariant.1
