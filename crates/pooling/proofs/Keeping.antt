-- The four calls leave a steady table: no length that is kept is beyond the pool's size. Assumes nothing.
use mathlib.Core.Path.{◌≡◌, subst}
use mathlib.Core.Bool.{true, not, ◌||◌}
use mathlib.Core.List.{List}
use Prim.Native.Nat.{ℕ, ◌<◌}
use lib.Dec.{eqb, leb, ltb}
use lib.ListN.{length, get_or, set}
use lib.Seq.{set_out, get_or-set_same, get_or-set_other}
use borrow.Author.Tests.{eqb-true, eqb-false, ltb-true, ltb-false}
use Rattle.common.proofs.Cases.{by_test, both_true, either_true}
use Rattle.common.proofs.Every.{every_below_lem, below_every}
use Rattle.pool.specs.declared.Control.{Control}
use Rattle.pool.specs.declared.User.{User}
use Rattle.pool.specs.Control.{never, kept_of, no_user, user_of, beginning, stating, began_of, stated_of}
use Rattle.table.specs.declared.answers.Answer.TheVariants.{PoolOverflow}
use Rattle.table.specs.declared.configs.Config.{Config}
use Rattle.table.specs.declared.Table.{Table}
use Rattle.table.specs.Configuration.{configured_of}
use Rattle.table.specs.Sound.{length_within, length_sound, lengths_sound, pool_sound}
use Rattle.table.specs.Words.{negative16}
use Rattle.calls.proofs.Keeping.{Steady, Keeps, keeps_obeyed, steady_pool}
use Rattle.calls.proofs.Obeying.{last_passed}
use Rattle.pooling.specs.Pooling.{length_good, init_pool_of, pool_check_of, get_pool_of, put_pool_of}

module _ (c : Config) where
  -- by the number that was stated: `never` is within any size
  pub kept_within : (stated : ℕ) → length_within c (kept_of stated) ≡ (eqb stated never || leb stated c.pool)
  kept_within stated = by_test (eqb stated never) (λ e. rw e) (λ e. rw e)

  -- a length that POOLCHECK lets pass is within the size
  good_within : (stated : ℕ) → length_good c stated ≡ true → length_within c (kept_of stated) ≡ true
  unfolding length_good
  good_within stated good =
      rw (kept_within stated) (either_true (eqb stated never) _ (both_true (not (negative16 stated)) (leb stated c.pool) good).1)

  -- so all lengths are, with such a one at a level; there is none past the last level
  lengths_set : (users : List User) (level : ℕ) (user : User) → lengths_sound c users ≡ true → (level < 12 → length_sound c level user.stated ≡ true)
      → lengths_sound c (set users level user) ≡ true
  unfolding lengths_sound
  lengths_set users level user sound within =
      by_test (ltb level (length users))
      (λ there. below_every 12 _
      (λ at less. by_test (eqb at level)
      (λ e. let here : at ≡ level = eqb-true at level e in
      rw (here, get_or-set_same users level user no_user (ltb-true level _ there)) (within (subst (λ i. i < 12) here less)))
      (λ e. rw (get_or-set_other users level at user no_user (eqb-false at level e))
      (every_below_lem 12 (λ i. length_sound c i (get_or users i no_user).stated) sound at less))))
      (λ past. rw (set_out users level user (ltb-false level _ past)) sound)

  stated_sound : (control : Control) (level stated : ℕ) → pool_sound c control ≡ true → length_good c stated ≡ true → pool_sound c (stated_of control level stated) ≡ true
  unfolding pool_sound stated_of
  stated_sound control level stated sound good =
      let parts = both_true (lengths_sound c control.users) (length_within c control.common) sound in
      rw (lengths_set control.users level (stating (user_of control level) stated) parts.0
      (λ less. either_true (not (configured_of c level)) _ (good_within stated good)))
      (good_within stated good)

  began_sound : (control : Control) (level : ℕ) → pool_sound c control ≡ true → pool_sound c (began_of control level) ≡ true
  unfolding pool_sound began_of lengths_sound
  began_sound control level sound =
      let parts = both_true (lengths_sound c control.users) (length_within c control.common) sound in
      rw (lengths_set control.users level (beginning (user_of control level)) parts.0
      (λ less. every_below_lem 12 (λ i. length_sound c i (get_or control.users i no_user).stated) parts.0 level less))
      parts.1

module _ (t : Table) (caller : ℕ) where
  pub init_pool_keeps : Steady t → Keeps (init_pool_of t caller)
  unfolding init_pool_of Keeps
  init_pool_keeps steady = keeps_obeyed _ t _ steady (λ passed. steady_pool t _ steady (began_sound t.config t.pool caller steady.parts.pool))

  pub pool_check_keeps : (stated : ℕ) → Steady t → Keeps (pool_check_of t caller stated)
  unfolding pool_check_of Keeps
  pool_check_keeps stated steady =
      keeps_obeyed _ t _ steady
      (λ passed. let good = (last_passed _ (length_good t.config stated) PoolOverflow passed).1 in
      steady_pool t _ steady (stated_sound t.config t.pool caller stated steady.parts.pool good))

  pub get_pool_keeps : (offset count own : ℕ) → Steady t → Keeps (get_pool_of t caller offset count own)
  unfolding get_pool_of Keeps
  get_pool_keeps offset count own steady = keeps_obeyed _ t _ steady (λ passed. steady)

  pub put_pool_keeps : (offset count own : ℕ) → Steady t → Keeps (put_pool_of t caller offset count own)
  unfolding put_pool_of Keeps
  put_pool_keeps offset count own steady = keeps_obeyed _ t _ steady (λ passed. steady)
