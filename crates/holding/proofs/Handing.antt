-- What the loop over woken levels comes to. Assumes nothing.
use mathlib.Core.Path.{◌≡◌, ◌∙◌}
use mathlib.Core.List.{List, [], ◌∷◌, ◌++◌, map, append-nil}
use Prim.Native.Nat.{ℕ}
use lib.Seq.{append_snoc}
use Rattle.common.specs.Fold.{fold_of}
use Rattle.common.proofs.Filling.{push_filled}
use Rattle.process.specs.declared.Process.{Process}
use Rattle.table.specs.declared.wakes.Wake.{Wake}
use Rattle.table.specs.Wakes.{Wakes, wakes_of, no_wakes_of}
use Rattle.holding.specs.Holding.{Handed, handover_wake, handed_at, handed_to, handed_to_of}

abbrev pub handed : List Process → Wakes → Handed
handed processes wakes = record { processes = processes; wakes = wakes }

-- levels one after the other wake behind those that woke before
handed_all : (processes : List Process) (l : List Wake) (levels : List ℕ)
    → fold_of handed_to_of (handed processes (wakes_of l)) levels ≡ handed (handed_to processes levels) (wakes_of (l ++ map handover_wake levels))
unfolding handed_to_of
handed_all processes l [] = rw append-nil
handed_all processes l (level ∷ levels) = rw push_filled (handed_all (handed_at processes level) (l ++ (handover_wake level ∷ [])) levels ∙ rw append_snoc)

-- and from none on these are all that wake
pub handed_list : (processes : List Process) (levels : List ℕ)
    → fold_of handed_to_of (handed processes no_wakes_of) levels ≡ handed (handed_to processes levels) (wakes_of (map handover_wake levels))
handed_list processes levels = handed_all processes [] levels
