-- How a list of wakes lies in its places. Assumes nothing.
use mathlib.Core.Path.{◌≡◌}
use mathlib.Core.List.{List, [], ◌∷◌, ◌++◌}
use Rattle.common.proofs.Filling.{push_filled}
use Rattle.table.specs.declared.wakes.Wake.{Wake}
use Rattle.table.specs.Wakes.{nobody, wakes_of, wake_push_of}

-- a wake that is pushed stands behind the others, or is left out where all places are taken
pub push_wakes : (l : List Wake) (w : Wake) → wake_push_of (wakes_of l) w ≡ wakes_of (l ++ (w ∷ []))
push_wakes l w = push_filled 12 nobody l w
