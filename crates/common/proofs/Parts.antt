-- A part of a list, its elements in the list's order. Assumes nothing.
use mathlib.Core.Bool.{Bool, true, false}
use mathlib.Core.List.{List, [], ◌∷◌, map}
use Prim.Native.Nat.{◌≤◌}
use native.Mathlib.Omega.{arith}
use lib.ListN.{length}
use Rattle.common.specs.Choice.{pick}
use Rattle.common.specs.Keep.{keep_of}

-- of each element of the whole it is told whether it is taken or left
pub data Part {A : Type 0} : List A → List A → Type 0 where
  nothing : Part [] []
  taken : {x : A} {l m : List A} → Part l m → Part (x ∷ l) (x ∷ m)
  left : {x : A} {l m : List A} → Part l m → Part l (x ∷ m)

-- all of it
pub part_all : {A : Type 0} (l : List A) → Part l l
part_all [] = nothing
part_all (x ∷ l) = taken (part_all l)

-- it is no longer than the list
pub part_length : {A : Type 0} {l m : List A} → Part l m → length l ≤ length m
part_length nothing = omega arith
part_length (taken part) = omega (arith, part_length part)
part_length (left part) = omega (arith, part_length part)

-- the images of its elements are a part of the images
pub part_map : {A B : Type 0} (f : A → B) {l m : List A} → Part l m → Part (map f l) (map f m)
part_map f nothing = nothing
part_map f (taken part) = taken (part_map f part)
part_map f (left part) = left (part_map f part)

-- an element that is taken or left
part_choice : {A : Type 0} (b : Bool) (x : A) {l m : List A} → Part l m → Part (pick b (x ∷ l) l) (x ∷ m)
part_choice true x part = taken part
part_choice false x part = left part

-- what passes a test
pub part_keep : {A : Type 0} (test : A → Bool) (l : List A) → Part (keep_of test l) l
unfolding keep_of
part_keep test [] = nothing
part_keep test (x ∷ l) = part_choice (test x) x (part_keep test l)

-- all after an element, or the element with a part of them
pub part_first : {A : Type 0} (b : Bool) (x : A) {l m : List A} → Part l m → Part (pick b m (x ∷ l)) (x ∷ m)
part_first true x {m = m} part = left (part_all m)
part_first false x part = taken part
