-- A list laid into an array from a place on, one element after the other. Assumes nothing.
use mathlib.Core.Path.{◌≡◌, ◌∙◌, refl, sym, ap, ap₂}
use mathlib.Core.List.{List, [], ◌∷◌, ◌++◌}
use Prim.Native.Nat.{ℕ, suc, ◌+◌, ◌-◌, ◌<◌, ◌≤◌, min}
use native.Mathlib.Omega.{arith}
use lib.Dec.{leb}
use lib.ListN.{length, get_or, set, take, drop, drop_of_length-le}
use lib.Seq.{sets, sets-eq, set_out, drop-cons, length-sets, take-length}
use borrow.Rule.Slice.PartMut.{put_mid}
use borrow.Author.Tests.{leb-true, leb-false}
use Rattle.std.proofs.lemmas.List.{take-append-drop, length-take-le}
use Rattle.std.proofs.lemmas.Slice.{put_mid-paste}
use Rattle.common.proofs.Cases.{by_test}

module _ {A : Type 0} where
  -- one turn of a loop that lays them
  pub sets_turn : (array : List A) (from : ℕ) (l : List A) (at : ℕ) (d : A) → at < length l
      → sets (set array (from + at) (get_or l at d)) (from + (at + 1)) (drop (at + 1) l) ≡ sets array (from + at) (drop at l)
  sets_turn array from l at d h =
      let further : from + (at + 1) ≡ suc (from + at) = omega arith in
      let next : at + 1 ≡ suc at = omega arith in
      rw (further, next, drop-cons l at d h)

  -- past the end nothing is laid
  pub sets_out : (array : List A) (from : ℕ) (l : List A) → length array ≤ from → sets array from l ≡ array
  sets_out array from [] h = refl
  sets_out array from (x ∷ l) h = rw (set_out array from x h) (sets_out array (suc from) l (omega arith))

  -- after the last turn nothing is left to lay, or no place
  pub sets_end : (array : List A) (from : ℕ) (l : List A) (at : ℕ) → min (length l) (length array - from) ≤ at → sets array (from + at) (drop at l) ≡ array
  sets_end array from l at h =
      by_test (leb (length l) at)
      (λ e. rw (drop_of_length-le l {i = at} (leb-true _ _ e)))
      (λ e. let short : at < length l = leb-false _ _ e in sets_out array (from + at) (drop at l) (omega arith))

  -- two lists, one behind the other
  pub sets_append : (array : List A) (from : ℕ) (l m : List A) → sets array from (l ++ m) ≡ sets (sets array from l) (from + length l) m
  sets_append array from [] m = ap (λ (k : ℕ). sets array k m) (omega arith)
  sets_append array from (x ∷ l) m = sets_append (set array from x) (suc from) l m ∙ ap (λ (k : ℕ). sets (sets (set array from x) (suc from) l) k m) (omega arith)

  -- from the front on: the list, and behind it what was there
  pub sets_front : (array l : List A) → length l ≤ length array → sets array 0 l ≡ l ++ drop (length l) array
  sets_front array l h = let whole : 0 + length l ≡ length l = omega arith in sets-eq l array 0 (omega arith) ∙ ap (λ (k : ℕ). l ++ drop k array) whole

  -- what has no place need not be laid
  sets_cut : (array : List A) (from : ℕ) (l : List A) (n : ℕ) → n ≤ length l → min (length l) (length array - from) ≤ n → sets array from (take n l) ≡ sets array from l
  sets_cut array from l n within enough =
      let cut : List A = take n l in
      let laid : List A = sets array from cut in
      let many : length cut ≡ n = length-take-le n l within in
      let same : length laid ≡ length array = length-sets array from cut in
      let rest : sets laid (from + n) (drop n l) ≡ laid = sets_end laid from l n (omega arith) in
      sym rest
      ∙ sym (ap (λ (k : ℕ). sets laid (from + k) (drop n l)) many)
      ∙ sym (sets_append array from cut (drop n l))
      ∙ ap (sets array from) (take-append-drop n l)

  -- a part of an array, written over with as much of a list as has a place there
  pub sets_part : (array : List A) (from : ℕ) (l : List A) (start count k : ℕ) (part : List A) → start ≡ min from (length array)
      → count ≡ min (length l) (length array - start) → k ≡ count → part ≡ take count l → put_mid start k array part ≡ sets array from l
  sets_part array from l start count k part begins fits same cut =
      let long : length part ≡ count = ap length cut ∙ length-take-le count l (omega arith) in
      let laid : sets array start part ≡ take start array ++ part ++ drop (start + length part) array = sets-eq part array start (omega arith) in
      put_mid-paste start k array part part (length part) refl (omega arith) refl
      ∙ rw take-length (sym laid)
      ∙ by_test (leb (length array) from)
      (λ e. let past : length array ≤ from = leb-true _ _ e in
      let none : count ≡ 0 = omega arith in
      rw (cut, none) (sym (sets_out array from l past)))
      (λ e. let before : from < length array = leb-false _ _ e in
      let here : start ≡ from = omega arith in
      ap₂ (sets array) here cut ∙ sets_cut array from l count (omega arith) (omega arith))
