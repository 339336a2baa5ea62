-- A GETPOOL or PUTPOOL that is answered 0 names a part that lies within what is lent, so its bytes do move. Assumes nothing.
use mathlib.Core.Path.{◌≡◌, refl}
use mathlib.Core.Bool.{Bool, true, false, not}
use mathlib.Core.List.{List, ◌++◌}
use Prim.Native.Nat.{ℕ, ◌+◌}
use native.Mathlib.Omega.{arith}
use lib.Dec.{eqb, leb}
use lib.ListN.{length, take, drop}
use borrow.Author.Tests.{eqb-true, leb-true, le-leb}
use Rattle.std.specs.Prelude.{Ok, Err}
use Rattle.common.proofs.Cases.{by_test, both_true, never_both}
use Rattle.pool.specs.Parts.{part_of, lies, put_of, get_of}
use Rattle.table.specs.declared.answers.Answer.{Answer}
use Rattle.table.specs.declared.answers.Answer.TheVariants.{NoUser, NotReady, NoPoolInit, PoolOverflow, DataLengthFault, PoolLengthFault}
use Rattle.table.specs.declared.Table.{Table}
use Rattle.table.specs.Sound.{sound_of}
use Rattle.table.specs.Words.{negative16}
use Rattle.calls.specs.Effects.{Effect}
use Rattle.calls.specs.Levels.{process_of}
use Rattle.calls.specs.Verdicts.{Checked, also_of, after, obeyed, by_caller}
use Rattle.calls.proofs.Obeying.{last_passed}
use Rattle.pooling.specs.Pooling.{same_length, within_pool, access_checks, get_pool_of, put_pool_of, granted, pool_by, buffer_by}
use Rattle.rtms.specs.Calls.{Call, GETPOOL, PUTPOOL, effect_of, guarded_of}
use Rattle.rtms.specs.Pools.{lent_of, pooled_by}

-- no check refuses with 0
unfoldable NeverZero : Checked → Type 0
NeverZero (Ok tt) = Unit
NeverZero (Err answer) = granted answer ≡ false

none : NeverZero (Ok tt)
unfolding NeverZero
none = tt

more : (v : Checked) (holds : Bool) (answer : Answer) → NeverZero v → granted answer ≡ false → NeverZero (also_of v holds answer)
unfolding NeverZero also_of
more (Ok tt) true answer before other = tt
more (Ok tt) false answer before other = other
more (Err first) holds answer before other = before

-- so a call that is answered 0 passed all of them
passed : (v : Checked) (t : Table) (effect : Effect) → NeverZero v → granted (obeyed v t effect).answer ≡ true → v ≡ Ok tt
unfolding NeverZero obeyed
passed (Ok tt) t effect never zero = refl
passed (Err answer) t effect never zero = absurd (never_both zero never)

-- where a call that a pool is lent for is answered 0, enough is lent, and it is answered so for itself
lent_granted : (call : Call) (t : Table) (pool : List ℕ) → granted (lent_of call t pool).answer ≡ true
    → (leb t.config.pool (length pool) ≡ true) × (granted (effect_of call t).answer ≡ true)
unfolding lent_of guarded_of
lent_granted call t pool =
    by_test (leb t.config.pool (length pool))
    (λ enough. rw enough (by_test (sound_of t) (λ sound. rw sound (λ zero. (refl, zero))) (λ broken. rw broken (λ zero. absurd (never_both zero refl)))))
    (λ short. rw short (λ zero. absurd (never_both zero refl)))

module _ (t : Table) (caller offset count own : ℕ) (pool : List ℕ) where
  abbrev verdict : Checked
  verdict = after (by_caller t.config (process_of t caller) caller) (access_checks t.config t.pool caller offset count own)

  never_zero : NeverZero verdict
  never_zero = more _ _ PoolOverflow (more _ _ PoolLengthFault (more _ _ DataLengthFault (more _ _ NoPoolInit (more _ _ NotReady (more _ _ NoUser none refl) refl) refl) refl) refl) refl

  -- the part of a call whose checks all pass
  part_lies : leb t.config.pool (length pool) ≡ true → verdict ≡ Ok tt → lies offset own pool ≡ true
  unfolding same_length within_pool
  part_lies enough all =
      let to_end = last_passed _ (within_pool t.config offset count) PoolOverflow all in
      let to_common = last_passed _ _ PoolLengthFault to_end.0 in
      let to_same = last_passed _ (same_length count own) DataLengthFault to_common.0 in
      let inside = leb-true (offset + count) t.config.pool (both_true (not (negative16 offset)) (leb (offset + count) t.config.pool) to_end.1).1 in
      let same = eqb-true count own (both_true (not (negative16 count)) (eqb count own) to_same.1).1 in
      le-leb (offset + own) (length pool) (omega (arith, inside, same, leb-true t.config.pool (length pool) enough))

module _ (t : Table) (caller offset count : ℕ) (pool : List ℕ) where
  -- "PUTPOOL writes a part of the pool that begins anywhere, and every other byte of the pool stays"
  pub put_writes : (given : List ℕ) (answer : Answer) → answer ≡ (lent_of (PUTPOOL caller offset count given) t pool).answer → granted answer ≡ true
      → pooled_by (PUTPOOL caller offset count given) answer pool ≡ take offset pool ++ given ++ drop (offset + length given) pool
  unfolding put_pool_of pool_by put_of
  put_writes given answer is zero =
      let lent = lent_granted (PUTPOOL caller offset count given) t pool (rw is at zero) in
      let inside = part_lies t caller offset count (length given) pool lent.0 (passed _ t _ (never_zero t caller offset count (length given) pool) lent.1) in
      rw (zero, inside)

  -- GETPOOL's buffer holds the part
  pub get_holds : (buffer : List ℕ) (answer : Answer) → answer ≡ (lent_of (GETPOOL caller offset count (length buffer)) t pool).answer → granted answer ≡ true
      → buffer_by answer pool offset buffer ≡ part_of pool offset (length buffer)
  unfolding get_pool_of buffer_by get_of
  get_holds buffer answer is zero =
      let lent = lent_granted (GETPOOL caller offset count (length buffer)) t pool (rw is at zero) in
      let inside = part_lies t caller offset count (length buffer) pool lent.0 (passed _ t _ (never_zero t caller offset count (length buffer) pool) lent.1) in
      rw (zero, inside)
