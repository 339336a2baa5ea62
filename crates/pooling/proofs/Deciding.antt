-- What the four calls decide on small parts comes to what they do. Assumes nothing.
use mathlib.Core.Path.{◌≡◌, ◌∙◌, refl, ap}
use mathlib.Core.List.{List, []}
use Prim.Native.Nat.{ℕ}
use Rattle.std.specs.Prelude.{Ok, Err}
use Rattle.pool.specs.declared.Control.{Control}
use Rattle.pool.specs.Control.{began_of, stated_of}
use Rattle.process.specs.declared.Process.{Process}
use Rattle.table.specs.declared.Shown.TheVariants.{Data}
use Rattle.table.specs.declared.Table.{Table}
use Rattle.calls.specs.declared.Decided.{Decided}
use Rattle.calls.specs.Decisions.{decided_by, told_of}
use Rattle.calls.specs.Effects.{Effect, bytes, done, carrying, outcome_of}
use Rattle.calls.specs.Levels.{process_of, with_pool}
use Rattle.calls.specs.Verdicts.{Checked, Check, after, obeyed, by_caller}
use Rattle.pooling.specs.Deciding.{alone, told_in, entered_of, stated_by, accessed_of, brought_of, given_of}
use Rattle.pooling.specs.Pooling.{access_checks, stating_checks, access_of, init_pool_of, pool_check_of, get_pool_of, put_pool_of}
use Rattle.table.specs.declared.answers.Answer.{Answer}

-- 0, and other users of the pool
done_told : (t : Table) (control : Control) → told_in t (alone Answer.Ok control) ≡ outcome_of (done (with_pool t control))
unfolding told_of outcome_of
done_told t control = refl

-- 0, and bytes of the pool
bytes_told : (t : Table) (count : ℕ) → told_in t (record { answer = Answer.Ok; shown = Data count; part = t.pool }) ≡ outcome_of (carrying Answer.Ok (bytes count) t)
unfolding told_of outcome_of
bytes_told t count = refl

-- by what the checks decide; a refusal leaves the users as they are
told_verdict : (v : Checked) (t : Table) (x : Decided Control) (effect : Effect) → told_in t x ≡ outcome_of effect
    → told_in t (decided_by v t.pool x) ≡ outcome_of (obeyed v t effect)
unfolding obeyed told_of outcome_of
told_verdict (Ok tt) t x effect obeys = obeys
told_verdict (Err answer) t x effect obeys = refl

-- only the caller's two checks look at a record: the caller's own, or one on which they come to the same
module _ (t : Table) (caller : ℕ) (seen : Process) (same : by_caller t.config seen caller ≡ by_caller t.config (process_of t caller) caller) where
  by_seen : (checks : List Check) (x : Decided Control) (effect : Effect) → told_in t x ≡ outcome_of effect
      → told_in t (decided_by (after (by_caller t.config seen caller) checks) t.pool x)
      ≡ outcome_of (obeyed (after (by_caller t.config (process_of t caller) caller) checks) t effect)
  by_seen checks x effect obeys =
      ap (λ (v : Checked). told_in t (decided_by (after v checks) t.pool x)) same
      ∙ told_verdict (after (by_caller t.config (process_of t caller) caller) checks) t x effect obeys

  pub init_all : told_in t (entered_of t.config seen t.pool caller) ≡ outcome_of (init_pool_of t caller)
  unfolding entered_of init_pool_of
  init_all = by_seen [] _ _ (done_told t (began_of t.pool caller))

  pub check_all : (stated : ℕ) → told_in t (stated_by t.config seen t.pool caller stated) ≡ outcome_of (pool_check_of t caller stated)
  unfolding stated_by pool_check_of
  check_all stated = by_seen (stating_checks t.config t.pool caller stated) _ _ (done_told t (stated_of t.pool caller stated))

  pub get_all : (offset count own : ℕ)
      → told_in t (brought_of (access_of t.config seen t.pool caller offset count own) t.pool count) ≡ outcome_of (get_pool_of t caller offset count own)
  unfolding accessed_of access_of get_pool_of
  get_all offset count own = by_seen (access_checks t.config t.pool caller offset count own) _ _ (bytes_told t count)

  pub put_all : (offset count own : ℕ)
      → told_in t (given_of (access_of t.config seen t.pool caller offset count own) t.pool) ≡ outcome_of (put_pool_of t caller offset count own)
  unfolding accessed_of access_of put_pool_of
  put_all offset count own = by_seen (access_checks t.config t.pool caller offset count own) _ _ (done_told t t.pool)
