-- What SCHEDULE computes is what the timer law asks: a first delay and an interval of 1 to a day. Assumes nothing.
use mathlib.Core.Path.{◌≡◌}
use mathlib.Core.Bool.{true, false, ◌||◌}
use Prim.Native.Nat.{ℕ, ◌<◌, ◌≤◌}
use native.Mathlib.Omega.{arith}
use lib.Dec.{eqb, leb}
use borrow.Author.Tests.{eqb-false, leb-false}
use Rattle.std.specs.Prelude.{Option, Some, None}
use Rattle.common.proofs.Cases.{by_test}
use Rattle.day.specs.declared.TimeOfDay.{TimeOfDay}
use Rattle.day.specs.TimeOfDay.{day}
use Rattle.day.proofs.Until.{until_range}
use Rattle.orders.specs.Moments.{interval_of, delay_of}

-- a `to` of 0 or of a day or more is a day
pub interval_day : (to : ℕ) → eqb to 0 || leb day to ≡ true → interval_of to ≡ day
unfolding interval_of
interval_day to h = rw h

-- and any other is itself
pub interval_same : (to : ℕ) → eqb to 0 || leb day to ≡ false → interval_of to ≡ to
unfolding interval_of
interval_same to h = rw h

-- the interval is 1 to a day
pub interval_range : (to : ℕ) → (0 < interval_of to) × (interval_of to ≤ day)
unfolding interval_of
interval_range to =
    by_test (eqb to 0)
    (λ none. rw none (omega arith))
    (λ some. by_test (leb day to)
    (λ long. rw (some, long) (omega arith))
    (λ short. rw (some, short) (omega (arith, eqb-false to 0 some, leb-false day to short))))

-- and so is the first delay
pub delay_range : (clock : TimeOfDay) (to : ℕ) (first : Option TimeOfDay) → (0 < delay_of clock (interval_of to) first) × (delay_of clock (interval_of to) first ≤ day)
unfolding delay_of
delay_range clock to None = interval_range to
delay_range clock to (Some t) = until_range clock t
