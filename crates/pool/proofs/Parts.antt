-- What PUTPOOL leaves in the pool, and what GETPOOL takes out of it. Assumes nothing.
use mathlib.Core.Path.{◌≡◌, ◌∙◌, refl, ap, sym}
use mathlib.Core.Bool.{true}
use mathlib.Core.Logic.{◌⊎◌, ⊎_elim}
use mathlib.Core.List.{List, ◌++◌, append_assoc, append-nil}
use Prim.Native.Nat.{ℕ, ◌+◌, ◌-◌, ◌<◌, ◌≤◌}
use native.Mathlib.Omega.{arith}
use lib.ListN.{length, get_or, take, drop, length-append, length-drop, get_or-append}
use lib.Seq.{sets, length-take-le, drop-length, take_at, drop_at, drop-drop, get_or-take, get_or-drop, get_or-append-add}
use borrow.Author.Tests.{leb-true}
use borrow.Author.Rules.{part_to_end}
use borrow.Rule.Slice.PartMut.{mid_of, put_mid, Post-is}
use Rattle.common.proofs.Cases.{by_test}
use Rattle.common.proofs.Laying.{sets_front}
use Rattle.pool.specs.Parts.{part_of, lies, put_of, get_of}

-- the pool with the data in the place of a part
abbrev laid : List ℕ → ℕ → List ℕ → List ℕ
laid pool offset given = take offset pool ++ given ++ drop (offset + length given) pool

module _ (pool : List ℕ) (offset : ℕ) (given : List ℕ) (fits : offset + length given ≤ length pool) where
  -- as many bytes lie before the part as its offset says
  before : length (take offset pool) ≡ offset
  before = length-take-le offset pool (omega arith)

  -- and before what lies behind it as its end says
  before_end : length (take offset pool ++ given) ≡ offset + length given
  before_end = length-append (take offset pool) given ∙ ap (λ (n : ℕ). n + length given) before

  -- it is as long as it was
  laid_length : length (laid pool offset given) ≡ length pool
  laid_length = rw (length-append, before_end, length-drop) (omega arith)

  -- it holds the data there
  laid_holds : part_of (laid pool offset given) offset (length given) ≡ given
  laid_holds =
      rw (append_assoc, drop_at (take offset pool) (given ++ drop (offset + length given) pool) offset before)
      (take_at given (drop (offset + length given) pool) (length given) refl)

  -- before the part it is as it was
  laid_before : (at d : ℕ) → at < offset → get_or (laid pool offset given) at d ≡ get_or pool at d
  laid_before at d h =
      get_or-append (take offset pool ++ given) (drop (offset + length given) pool) d at (omega (arith, before_end))
      ∙ get_or-append (take offset pool) given d at (omega (arith, before))
      ∙ get_or-take offset pool at d h

  -- and so it is behind it
  laid_behind : (at d : ℕ) → offset + length given ≤ at → get_or (laid pool offset given) at d ≡ get_or pool at d
  laid_behind at d h =
      let further : at ≡ length (take offset pool ++ given) + (at - (offset + length given)) = omega (arith, before_end) in
      ap (λ (k : ℕ). get_or (laid pool offset given) k d) further
      ∙ get_or-append-add (take offset pool ++ given) (drop (offset + length given) pool) (at - (offset + length given)) d
      ∙ get_or-drop (offset + length given) pool (at - (offset + length given)) d
      ∙ ap (λ (k : ℕ). get_or pool k d) (omega arith)

  -- the data laid into what is lent from the offset on, and that put back
  laid_lent : put_mid offset (length pool - offset) pool (sets (mid_of offset (length pool - offset) pool) 0 given) ≡ laid pool offset given
  laid_lent =
      let room : length given ≤ length (drop offset pool) = omega (arith, length-drop offset pool) in
      rw (
        part_to_end pool offset,
        sets_front (drop offset pool) given room,
        drop-drop (length given) offset pool,
        Post-is offset (length pool) pool (omega arith),
        drop-length pool,
        append-nil,
      )
      (sym (append_assoc (take offset pool) given (drop (offset + length given) pool)))

module _ (pool : List ℕ) (offset : ℕ) (given : List ℕ) where
  -- the pool keeps its length
  pub put_length : length (put_of pool offset given) ≡ length pool
  unfolding put_of
  put_length =
      by_test (lies offset (length given) pool)
      (λ e. rw e (laid_length pool offset given (leb-true _ _ e)))
      (λ e. rw e)

  -- the part holds the data
  pub put_holds : lies offset (length given) pool ≡ true → part_of (put_of pool offset given) offset (length given) ≡ given
  unfolding put_of
  put_holds within = rw within (laid_holds pool offset given (leb-true _ _ within))

  -- every other byte of the pool stays
  pub put_stays : (at d : ℕ) → (at < offset) ⊎ (offset + length given ≤ at) → get_or (put_of pool offset given) at d ≡ get_or pool at d
  unfolding put_of
  put_stays at d other =
      by_test (lies offset (length given) pool)
      (λ e. rw e (⊎_elim (laid_before pool offset given (leb-true _ _ e) at d) (laid_behind pool offset given (leb-true _ _ e) at d) other))
      (λ e. rw e)

  -- so it is put into what is lent from the offset on
  pub put_lent : lies offset (length given) pool ≡ true
      → put_mid offset (length pool - offset) pool (sets (mid_of offset (length pool - offset) pool) 0 given) ≡ put_of pool offset given
  unfolding put_of
  put_lent within = rw within (laid_lent pool offset given (leb-true _ _ within))

module _ (pool : List ℕ) (offset : ℕ) (buffer : List ℕ) (within : lies offset (length buffer) pool ≡ true) where
  -- the buffer holds the part
  pub get_part : get_of pool offset buffer ≡ part_of pool offset (length buffer)
  unfolding get_of
  get_part = rw within

  -- the part is as long as the buffer
  part_long : length (part_of pool offset (length buffer)) ≡ length buffer
  part_long = length-take-le (length buffer) (drop offset pool) (omega (arith, leb-true, length-drop offset pool))

  -- so a part that is lent and put at the buffer's front is all of the buffer
  pub get_lent : sets buffer 0 (take (offset + length buffer - offset) (drop offset pool)) ≡ get_of pool offset buffer
  get_lent =
      let count : offset + length buffer - offset ≡ length buffer = omega arith in
      rw (get_part, count, sets_front buffer (part_of pool offset (length buffer)) (omega (arith, part_long)), part_long, drop-length buffer, append-nil)
