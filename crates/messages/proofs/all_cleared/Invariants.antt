use mathlib.Core.Path.{◌≡◌}
use Prim.Native.Nat.{◌-◌}
use lib.ListN.{length}
use Rattle.common.specs.Fold.{fold_of}
use Rattle.inputs.specs.InputSet.{rising_of}
use Rattle.table.specs.Configuration.{configured_of}
use Rattle.messages.specs.Receivers.{cleared_at}
use Rattle.messages.proofs.all_cleared.Given as goal

abbrev pub invariant-loop-level : goal.invariant-loop-level
invariant-loop-level l =
    (length l.processes ≡ 12)
    × (fold_of cleared_at l.processes (rising_of (12 - l.level) l.level (configured_of l.config))
    ≡ fold_of cleared_at l.initial.processes (rising_of 12 0 (configured_of l.config)))
