-- A buffer is first in, first out, and its freed places are used again. Assumes nothing.
use mathlib.Core.Path.{◌≡◌, ◌∙◌, ap, ap₂, sym, subst, subst⁻¹}
use mathlib.Core.List.{List, [], ◌∷◌, ◌++◌, append_assoc, append-nil}
use Prim.Native.Nat.{ℕ, suc, ◌-◌, ◌<◌, ◌≤◌, min}
use native.Mathlib.Omega.{arith}
use lib.Dec.{eqb, ltb}
use lib.ListN.{length, get_or, take, drop, length-append, length-drop}
use lib.Seq.{take-append-le}
use borrow.Author.Tests.{eqb-true, eqb-false, ltb-true, ltb-false}
use Rattle.std.specs.Prelude.{Option, Some, None, is_some, IsSome, unwrap_or}
use Rattle.common.specs.Choice.{pick}
use Rattle.common.specs.Filled.{items_of}
use Rattle.common.proofs.Cases.{by_test}
use Rattle.common.proofs.Filling.{standing_length, standing_push, push_count, push_places}
use Rattle.process.specs.declared.buffers.Message.{Message}
use Rattle.process.specs.declared.buffers.Buffer.{Buffer}
use Rattle.process.specs.Messages.{zeros, messages_of, behind_of, put_of, oldest_of, shifted_of, rest_of}
use Rattle.process.specs.FirstInFirstOut.{Step, putting, taking, step_of, in_of, out_of, after_of, ins_of, outs_of, Whole}
use Rattle.process.proofs.Places.{oldest_first, rest_none, rest_some, put_room, put_full}

-- as many messages as the count says
pub messages_length : (b : Buffer) → Whole b → length (messages_of b) ≡ b.list.count
messages_length b whole = standing_length 16 b.list whole.places whole.within

-- a buffer with a message behind those that it keeps has its places still, and no more messages than these
behind_whole : (b : Buffer) (m : Message) → Whole b → b.list.count < 16 → Whole (behind_of b m)
behind_whole b m whole room =
    record { places = push_places 16 b.list m ∙ whole.places; within = rw (push_count 16 b.list m room) (omega arith) }

-- the oldest message, and the rest of them
cons_take : (kept : List Message) (n : ℕ) (d z : Message) → n < length kept → take (suc n) kept ≡ get_or kept 0 d ∷ take n (drop 1 kept ++ (z ∷ []))
cons_take [] n d z h = absurd (omega arith)
cons_take (x ∷ kept) n d z h = ap (◌∷◌ x) (sym (take-append-le n kept (z ∷ []) (omega arith)))

pub oldest_rest : (b : Buffer) → Whole b → (b.list.count ≡ 0 → ⊥) → messages_of b ≡ oldest_of b ∷ messages_of (rest_of b)
unfolding items_of
oldest_rest b whole some =
    let long : length b.list.items ≡ 16 = whole.places in
    let last : min b.list.count 16 ≡ suc (b.list.count - 1) = omega (arith, whole.within) in
    let fewer : min (b.list.count - 1) 16 ≡ b.list.count - 1 = omega (arith, whole.within) in
    ap (λ (n : ℕ). take n b.list.items) last
    ∙ cons_take b.list.items (b.list.count - 1) zeros zeros (omega (arith, whole.within))
    ∙ ap₂ (λ (m : Message) (l : List Message). m ∷ l) (sym (oldest_first b zeros some (omega arith)))
    (ap (λ (n : ℕ). take n (shifted_of b.list.items)) (sym fewer) ∙ ap messages_of (sym (rest_some b some)))

rest_whole : (b : Buffer) → Whole b → (b.list.count ≡ 0 → ⊥) → Whole (rest_of b)
rest_whole b whole some =
    rw (rest_some b some)
    (record {
      places = length-append (drop 1 b.list.items) (zeros ∷ []) ∙ simp length-drop (omega (arith, whole.places));
      within = omega (arith, whole.within);
    })

module _ (places : ℕ) where
  -- what a put does, by whether there is room
  by_room : (P : Option Buffer → Type 0) (b : Buffer) (m : Message)
      → (b.list.count < 16 → P (Some (behind_of b m))) → P None → P (put_of b places m)
  by_room P b m stored full =
      by_test (ltb b.list.count (min places 16))
      (λ e. let room : b.list.count < min places 16 = ltb-true _ _ e in subst P (sym (put_room b places m room)) (stored (omega arith)))
      (λ e. subst P (sym (put_full b places m (ltb-false _ _ e))) full)

  step_whole : (s : Step) (b : Buffer) → Whole b → Whole (step_of places s b)
  step_whole (putting m) b whole = by_room (λ put. Whole (unwrap_or put b)) b m (behind_whole b m whole) whole
  step_whole taking b whole =
      by_test (eqb b.list.count 0)
      (λ e. rw (rest_none b (eqb-true _ _ e)) whole)
      (λ e. rest_whole b whole (eqb-false _ _ e))

  -- one step: what it hands out, and what is kept after it, are what was kept before it, and what it found a place for
  step_order : (s : Step) (b : Buffer) → Whole b → out_of places s b ++ messages_of (step_of places s b) ≡ messages_of b ++ in_of places s b
  step_order (putting m) b whole =
      by_room (λ put. messages_of (unwrap_or put b) ≡ messages_of b ++ pick (is_some put) (m ∷ []) []) b m
      (standing_push 16 b.list m whole.places)
      (sym (append-nil _))
  step_order taking b whole =
      by_test (eqb b.list.count 0)
      (λ e. rw (e, rest_none b (eqb-true _ _ e)) (sym (append-nil _)))
      (λ e. rw e (sym (oldest_rest b whole (eqb-false _ _ e)) ∙ sym (append-nil _)))

  -- first in, first out: what came out, and behind it what is left, is what was there, and behind it what went in
  pub first_in_first_out : (steps : List Step) (b : Buffer) → Whole b → outs_of places steps b ++ messages_of (after_of places steps b) ≡ messages_of b ++ ins_of places steps b
  first_in_first_out [] b whole = sym (append-nil _)
  first_in_first_out (s ∷ steps) b whole =
      append_assoc (out_of places s b) _ _
      ∙ ap (◌++◌ (out_of places s b)) (first_in_first_out steps (step_of places s b) (step_whole s b whole))
      ∙ sym (append_assoc (out_of places s b) _ _)
      ∙ ap (λ (l : List Message). l ++ ins_of places steps (step_of places s b)) (step_order s b whole)
      ∙ append_assoc (messages_of b) _ _

  -- a place that is freed is used again
  pub freed_place : (b : Buffer) (m : Message) → b.list.count ≤ min places 16 → (b.list.count ≡ 0 → ⊥) → IsSome (put_of (rest_of b) places m)
  freed_place b m fits some =
      subst⁻¹ (λ (r : Buffer). IsSome (put_of r places m)) (rest_some b some) (ap is_some (put_room _ places m (omega arith)))
