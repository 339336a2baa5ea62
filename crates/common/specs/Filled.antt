-- Items in the first places of an array, in their order. Definitions go by the list of the items; `filled_of` says how such a list lies in the
-- array. Assumes nothing.
use Rattle.std.specs.Prelude.{List, ℕ, ◌+◌, min, ltb, length, take, set}
use Rattle.common.specs.Choice.{pick}
use Rattle.common.specs.Packing.{packed_of}
use Rattle.common.specs.declared.filled.Filled.{Filled}

-- the items that are there, the first at place 0
unfoldable pub items_of : {T : Type 0} (N : ℕ) → Filled T N → List T
items_of N f = take (min f.count N) f.items

-- a list in so many places, with a filler in those that are free
unfoldable pub filled_of : {T : Type 0} (N : ℕ) → T → List T → Filled T N
filled_of N filler l = record { items = packed_of N filler l; count = min (length l) N }

-- one item more, behind the others
unfoldable pub pushed_of : {T : Type 0} (N : ℕ) → Filled T N → T → Filled T N
pushed_of N f x = pick (ltb f.count N) (record { items = set f.items f.count x; count = f.count + 1 }) f
