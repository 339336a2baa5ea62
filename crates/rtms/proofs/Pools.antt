-- What a refused call leaves of the pool and of the caller's buffer: all of them. Assumes nothing.
use mathlib.Core.Path.{◌≡◌, ◌∙◌, refl, sym}
use mathlib.Core.Bool.{true, false}
use mathlib.Core.List.{List}
use Prim.Native.Nat.{ℕ}
use lib.Dec.{leb}
use lib.ListN.{length}
use Rattle.common.proofs.Cases.{by_test, never_both}
use Rattle.table.specs.declared.answers.Answer.{Answer}
use Rattle.table.specs.declared.Outcome.{Outcome}
use Rattle.table.specs.declared.Table.{Table}
use Rattle.table.specs.Answers.{refusal_of}
use Rattle.pooling.specs.Pooling.{granted, pool_by, buffer_by}
use Rattle.rtms.specs.Calls.{Call}
use Rattle.rtms.specs.Pools.{Put, puts, nothing, puts_of, after_put, lent_of, lent_answer, pooled_by}
use Rattle.rtms.specs.Refusals.{Plain}
use Rattle.rtms.proofs.Refusing.{refusals}

-- a refusal is not answered 0
refused_not_granted : (answer : Answer) → refusal_of answer ≡ true → granted answer ≡ false
unfolding refusal_of
refused_not_granted answer refused = by_test (granted answer) (λ e. absurd (never_both refused (rw e))) (λ e. e)

-- "a refused GETPOOL leaves the caller's buffer untouched"
pub refused_buffer : (answer : Answer) (pool : List ℕ) (offset : ℕ) (buffer : List ℕ) → refusal_of answer ≡ true → buffer_by answer pool offset buffer ≡ buffer
unfolding buffer_by
refused_buffer answer pool offset buffer refused = rw (refused_not_granted answer refused)

refused_put : (answer : Answer) (pool : List ℕ) (offset : ℕ) (given : List ℕ) → refusal_of answer ≡ true → pool_by answer pool offset given ≡ pool
unfolding pool_by
refused_put answer pool offset given refused = rw (refused_not_granted answer refused)

-- "every other refusal changes nothing": no refusal touches the pool, number 3 neither
pub refused_pool : (call : Call) (answer : Answer) (pool : List ℕ) → refusal_of answer ≡ true → pooled_by call answer pool ≡ pool
refused_pool call answer pool refused = by_put (puts_of call)
  where
    by_put : (put : Put) → after_put put answer pool ≡ pool
    by_put (puts offset given) = refused_put answer pool offset given refused
    by_put nothing = refl

-- and a call that a pool is lent for is refused plainly, as every other is
pub lent_refusals : (call : Call) (t : Table) (pool : List ℕ) → Plain t (lent_of call t pool)
unfolding lent_of Plain
lent_refusals call t pool =
    by_test (leb t.config.pool (length pool)) (λ e. rw e (refusals call t)) (λ e. rw e (λ refused not_3 not_37. refl))

-- two results for one input are equal, for these too
pub lent_determined : (call : Call) (t : Table) (pool : List ℕ) (r s : Outcome) → r ≡ lent_answer call t pool → s ≡ lent_answer call t pool → r ≡ s
lent_determined call t pool r s first second = first ∙ sym second
