-- The laws of the distance to the next occurrence of a time of day. Assumes nothing.
use mathlib.Core.Path.{◌≡◌, ap, ◌∙◌}
use Prim.Native.Nat.{ℕ, ◌+◌, ◌-◌, ◌%◌, ◌<◌, ◌≤◌}
use native.Mathlib.Omega.{arith}
use borrow.Author.Tests.{eq-eqb, ne_eqb, eqb-true, eqb-false, ltb-true, ltb-false}
use lib.Dec.{eqb, ltb}
use Rattle.common.proofs.Cases.{by_test}
use Rattle.day.specs.declared.TimeOfDay.{TimeOfDay}
use Rattle.day.specs.TimeOfDay.{at, day, gap_of, or_day, forward_of, until_of}

or_day_none : (gap : ℕ) → gap ≡ 0 → or_day gap ≡ day
or_day_none gap h = rw (eq-eqb gap 0 h)

or_day_some : (gap : ℕ) → (gap ≡ 0 → ⊥) → or_day gap ≡ gap
or_day_some gap h = rw (ne_eqb gap 0 h)

module _ (clock t : TimeOfDay) where
  -- t is still to come before midnight
  pub until_later : clock.milliseconds % day < t.milliseconds % day → until_of clock t ≡ t.milliseconds % day - clock.milliseconds % day
  unfolding until_of
  until_later h = or_day_some (gap_of clock t) (omega arith) ∙ omega arith

  -- t comes again after midnight
  pub until_earlier : t.milliseconds % day ≤ clock.milliseconds % day → until_of clock t ≡ day - clock.milliseconds % day + t.milliseconds % day
  unfolding until_of
  until_earlier h =
      by_test (eqb (t.milliseconds % day) (clock.milliseconds % day))
      (λ same. let now : t.milliseconds % day ≡ clock.milliseconds % day = eqb-true _ _ same in
      or_day_none (gap_of clock t) (omega arith) ∙ omega arith)
      (λ other. let not_now : t.milliseconds % day ≡ clock.milliseconds % day → ⊥ = eqb-false _ _ other in
      or_day_some (gap_of clock t) (omega arith) ∙ omega arith)

  -- either way
  by_midnight : {P : Type 0}
      → (clock.milliseconds % day < t.milliseconds % day → until_of clock t ≡ t.milliseconds % day - clock.milliseconds % day → P)
      → (t.milliseconds % day ≤ clock.milliseconds % day → until_of clock t ≡ day - clock.milliseconds % day + t.milliseconds % day → P) → P
  by_midnight later earlier =
      by_test (ltb (clock.milliseconds % day) (t.milliseconds % day))
      (λ e. let h = ltb-true _ _ e in later h (until_later h))
      (λ e. let h = ltb-false _ _ e in earlier h (until_earlier h))

  -- the distance is 1 to a day
  pub until_range : (0 < until_of clock t) × (until_of clock t ≤ day)
  until_range = by_midnight (λ h e. omega arith) (λ h e. omega arith)

  -- forward by the distance arrives
  pub until_arrives : t.milliseconds < day → forward_of clock (until_of clock t) ≡ t
  unfolding forward_of
  until_arrives within = ap at (by_midnight (λ h e. omega arith) (λ h e. omega arith))

  -- forward by less does not
  pub until_not_before : (n : ℕ) → 0 < n → n < until_of clock t → forward_of clock n ≡ t → ⊥
  unfolding forward_of
  until_not_before n some less there =
      let same : (clock.milliseconds + n) % day ≡ t.milliseconds = ap (λ (x : TimeOfDay). x.milliseconds) there in
      by_midnight (λ h e. omega arith) (λ h e. omega arith)
