-- The guard before every call. Assumes nothing.
use mathlib.Core.Path.{◌≡◌, ◌∙◌, sym}
use mathlib.Core.Bool.{true, false, ◌&&◌}
use mathlib.Core.List.{List}
use Prim.Native.Nat.{ℕ}
use lib.Dec.{leb}
use lib.ListN.{length}
use Rattle.common.proofs.Cases.{by_test, both_true}
use Rattle.table.specs.declared.answers.Answer.TheVariants.{BadConfig}
use Rattle.table.specs.declared.Outcome.{Outcome}
use Rattle.table.specs.declared.Table.{Table}
use Rattle.table.specs.Sound.{sound_of}
use Rattle.table.specs.Table.{refused_of}
use Rattle.calls.specs.Effects.{refuse, outcome_of}
use Rattle.calls.proofs.Obeying.{outcome_refuse}
use Rattle.rtms.specs.Calls.{Call, effect_of, guarded_of}
use Rattle.rtms.specs.Pools.{lent_of, lent_answer}

-- ---- the guard before a call that a pool is lent for

module _ (call : Call) (t : Table) (pool : List ℕ) (r : Outcome) where
  -- a sound table's call is obeyed where enough is lent
  pub lent_sound : sound_of t && leb t.config.pool (length pool) ≡ true → r ≡ outcome_of (effect_of call t) → r ≡ lent_answer call t pool
  unfolding guarded_of lent_of lent_answer
  lent_sound lent obeyed =
      let both = both_true (sound_of t) (leb t.config.pool (length pool)) lent in
      rw (both.0, both.1) obeyed

  -- and else refused
  pub lent_broken : sound_of t && leb t.config.pool (length pool) ≡ false → r ≡ refused_of t BadConfig → r ≡ lent_answer call t pool
  unfolding guarded_of lent_of lent_answer
  lent_broken broken refused =
      let same : r ≡ outcome_of (refuse t BadConfig) = refused ∙ sym (outcome_refuse t BadConfig) in
      by_test (sound_of t)
      (λ sound. let short : leb t.config.pool (length pool) ≡ false = rw sound at broken in rw short same)
      (λ unsound. rw unsound (by_test (leb t.config.pool (length pool)) (λ e. rw e same) (λ e. rw e same)))
