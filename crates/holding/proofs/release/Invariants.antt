use Rattle.std.proofs.Common.{◌≡◌, length, drop}
use Rattle.common.specs.Fold.{fold_of}
use Rattle.calls.specs.Levels.{with_processes}
use Rattle.holding.specs.Holding.{handed_to_of}
use Rattle.holding.proofs.Handing.{handed}
use Rattle.holding.proofs.release.Given as goal

-- those that have woken so far and those that are left come to all of them, and nothing else of the table changes
abbrev pub invariant-loop-level : goal.invariant-loop-level
invariant-loop-level l = record {
  places : length l.after.processes ≡ 12;
  others : l.after ≡ with_processes l.initial.after l.after.processes;
  woken : fold_of handed_to_of (handed l.after.processes l.wakes) (drop l.level-index l.level-items) ≡ fold_of handed_to_of (handed l.initial.after.processes l.initial.wakes) l.level-items;
}
