-- What the operations on a buffer do to its places, by cases. Assumes nothing.
use mathlib.Core.Path.{◌≡◌, ◌∙◌, ap, sym}
use Prim.Native.Nat.{ℕ, ◌-◌, ◌<◌, ◌≤◌, min}
use native.Mathlib.Omega.{arith}
use lib.ListN.{length, get_or, set, take, drop, length-drop, drop_of_length-le}
use lib.Seq.{get_or-take, drop-cons}
use borrow.Author.Tests.{eq-eqb, ne_eqb, lt-ltb, le-ltb}
use mathlib.Core.List.{List, [], ◌∷◌}
use Rattle.std.specs.Prelude.{Some, None}
use Rattle.std.specs.List.{copy_within}
use Rattle.std.proofs.lemmas.List.{set-append_right}
use Rattle.std.proofs.lemmas.List.Edits.{paste_all}
use Rattle.common.specs.Filled.{items_of}
use Rattle.common.proofs.Lists.{get_or_within}
use Rattle.process.specs.declared.buffers.Message.{Message}
use Rattle.process.specs.declared.buffers.Buffer.{Buffer}
use Rattle.process.specs.Messages.{zeros, behind_of, put_of, oldest_of, shifted_of, rest_of}

-- sixteen messages moved one place down, and the last place given to zeros
pub moved_down : (kept : List Message) → length kept ≡ 16 → set (copy_within kept 1 (length kept) 0) 15 zeros ≡ shifted_of kept
moved_down kept long =
    let rest : length (drop 1 kept) ≡ 15 = simp length-drop (omega (arith, long)) in
    let last : drop 15 kept ≡ get_or kept 15 zeros ∷ [] =
    drop-cons kept 15 zeros (omega (arith, long)) ∙ ap (◌∷◌ (get_or kept 15 zeros)) (drop_of_length-le kept {i = 16} (omega (arith, long))) in
    rw (long, paste_all kept 0 (drop 1 kept) 15 (sym rest), last, set-append_right (drop 1 kept) _ 15 15 zeros rest (omega arith))

module _ (b : Buffer) where
  pub oldest_none : b.list.count ≡ 0 → oldest_of b ≡ zeros
  unfolding oldest_of items_of
  oldest_none none = let no : min b.list.count 16 ≡ 0 = omega arith in ap (λ (n : ℕ). get_or (take n b.list.items) 0 zeros) no

  pub oldest_first : (d : Message) → (b.list.count ≡ 0 → ⊥) → 0 < length b.list.items → oldest_of b ≡ get_or b.list.items 0 d
  unfolding oldest_of items_of
  oldest_first d some long = get_or-take (min b.list.count 16) b.list.items 0 zeros (omega arith) ∙ get_or_within b.list.items 0 zeros d long

  pub rest_none : b.list.count ≡ 0 → rest_of b ≡ b
  unfolding rest_of
  rest_none none = rw (eq-eqb b.list.count 0 none)

  pub rest_some : (b.list.count ≡ 0 → ⊥) → rest_of b ≡ record { list = record { items = shifted_of b.list.items; count = b.list.count - 1 } }
  unfolding rest_of
  rest_some some = rw (ne_eqb b.list.count 0 some)

  pub put_room : (places : ℕ) (m : Message) → b.list.count < min places 16 → put_of b places m ≡ Some (behind_of b m)
  unfolding put_of
  put_room places m room = rw (lt-ltb b.list.count (min places 16) room)

  pub put_full : (places : ℕ) (m : Message) → min places 16 ≤ b.list.count → put_of b places m ≡ None
  unfolding put_of
  put_full places m full = rw (le-ltb b.list.count (min places 16) full)
