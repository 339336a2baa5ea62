-- Items in the first places of an array, seen as their list: what goes in goes behind the others. Assumes nothing.
use mathlib.Core.Path.{◌≡◌, ◌∙◌, refl, ap}
use mathlib.Core.List.{List, [], ◌∷◌, ◌++◌}
use Prim.Native.Nat.{ℕ, zero, suc, ◌+◌, ◌<◌, ◌≤◌, min}
use native.Mathlib.Omega.{arith}
use lib.Dec.{ltb}
use lib.ListN.{length, set, replicate, length-set, length-take}
use lib.Seq.{append_snoc, take-suc-set}
use mathlib.Core.List.{append-nil}
use borrow.Author.Tests.{lt-ltb, le-ltb}
use Rattle.common.specs.Fold.{fold_of}
use Rattle.common.specs.Packing.{packed_of}
use Rattle.common.specs.Filled.{items_of, filled_of, pushed_of}
use Rattle.common.specs.declared.filled.Filled.{Filled}
use Rattle.common.proofs.Cases.{by_test}
use Rattle.common.proofs.Packing.{take_packed, packed_behind}

-- nothing but the filler
pub packed_none : {T : Type 0} (filler : T) (places : ℕ) → packed_of places filler [] ≡ replicate places filler
unfolding packed_of
packed_none filler zero = refl
packed_none filler (suc places) = ap (◌∷◌ filler) (packed_none filler places)

module _ {T : Type 0} (N : ℕ) where
  -- no more than there are places
  pub standing_short : (f : Filled T N) → length (items_of N f) ≤ N
  unfolding items_of
  standing_short f = simp length-take (omega arith)

  -- as many as the count says
  pub standing_length : (f : Filled T N) → length f.items ≡ N → f.count ≤ N → length (items_of N f) ≡ f.count
  unfolding items_of
  standing_length f places count = simp length-take (omega arith)

  -- where there is room, an item goes behind all others
  pub standing_push : (f : Filled T N) (x : T) → length f.items ≡ N → f.count < N → items_of N (pushed_of N f x) ≡ items_of N f ++ (x ∷ [])
  unfolding items_of pushed_of
  standing_push f x places room =
      let more : min (f.count + 1) N ≡ suc f.count = omega arith in
      let same : min f.count N ≡ f.count = omega arith in
      rw (lt-ltb _ _ room) (rw (more, same) (take-suc-set f.items f.count x (omega arith)))

  -- of the record as it lies in memory: the item stands in the first free place, and the count is one more
  pub push_room : (f : Filled T N) (x : T) → f.count < N → pushed_of N f x ≡ record { items = set f.items f.count x; count = f.count + 1 }
  unfolding pushed_of
  push_room f x room = rw (lt-ltb _ _ room)

  -- where all places are taken the record stays as it is
  pub push_full : (f : Filled T N) (x : T) → N ≤ f.count → pushed_of N f x ≡ f
  unfolding pushed_of
  push_full f x full = rw (le-ltb _ _ full)

  -- where there is room the count is one more
  pub push_count : (f : Filled T N) (x : T) → f.count < N → (pushed_of N f x).count ≡ f.count + 1
  unfolding pushed_of
  push_count f x room = rw (lt-ltb _ _ room)

  -- as many places as before, whether there is room or not
  pub push_places : (f : Filled T N) (x : T) → length (pushed_of N f x).items ≡ length f.items
  unfolding pushed_of
  push_places f x = by_test (ltb f.count N) (λ e. rw e (length-set f.items f.count x)) (λ e. rw e)

  -- a list that fits is found again in its places
  pub standing_filled : (filler : T) (l : List T) → length l ≤ N → items_of N (filled_of N filler l) ≡ l
  unfolding items_of filled_of
  standing_filled filler l fits = let all : min (min (length l) N) N ≡ length l = omega arith in rw all (take_packed filler N l fits)

  -- an item goes behind the list that lies there, or is left out where there is no place
  pub push_filled : (filler : T) (l : List T) (x : T) → pushed_of N (filled_of N filler l) x ≡ filled_of N filler (l ++ (x ∷ []))
  unfolding filled_of pushed_of
  push_filled filler l x = packed_behind N filler (λ items count. record { items = items; count = count }) l x

  -- and so do many, one after the other
  pub push_all : (filler : T) (m l : List T) → fold_of (pushed_of N) (filled_of N filler m) l ≡ filled_of N filler (m ++ l)
  push_all filler m [] = rw append-nil
  push_all filler m (x ∷ l) = rw push_filled (push_all filler (m ++ (x ∷ [])) l ∙ rw append_snoc)
