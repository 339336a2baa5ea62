-- Document 01, "Timer orders": the interval, and the first delay.
use Rattle.std.specs.Prelude.{Option, Some, None, ◌||◌, ℕ, eqb, leb}
use Rattle.common.specs.Choice.{pick}
use Rattle.day.specs.declared.TimeOfDay.{TimeOfDay}
use Rattle.day.specs.TimeOfDay.{day, until_of}

-- "e = D if `to` is 0 or at least D, else `to`"
unfoldable pub interval_of : ℕ → ℕ
interval_of to = pick (eqb to 0 || leb day to) day to

-- "First delay d: relative, e; absolute, (t - clock) modulo D, but D where that is 0". An order is relative where no time of
-- day is named.
unfoldable pub delay_of : TimeOfDay → ℕ → Option TimeOfDay → ℕ
delay_of clock every None = every
delay_of clock every (Some t) = until_of clock t
