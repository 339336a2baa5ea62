-- Document 01, "Timer orders": "A time of day is 0..86,399,999 ms; it moves forward by a number of milliseconds, wrapping at midnight. D = 86,400,000."
use Rattle.std.specs.Prelude.{eqb, ℕ, ◌+◌, ◌-◌, ◌%◌}
use Rattle.common.specs.Choice.{pick}
use Rattle.day.specs.declared.TimeOfDay.{TimeOfDay}

-- D
abbrev pub day : ℕ
day = 86400000

-- the moment that many milliseconds after midnight
abbrev pub at : ℕ → TimeOfDay
at n = record { milliseconds = n }

-- "it moves forward by a number of milliseconds, wrapping at midnight"
unfoldable pub forward_of : TimeOfDay → ℕ → TimeOfDay
forward_of time by = at ((time.milliseconds + by) % day)

-- "(t - clock) modulo D"
abbrev pub gap_of : TimeOfDay → TimeOfDay → ℕ
gap_of clock t = (t.milliseconds % day + (day - clock.milliseconds % day)) % day

-- "but D where that is 0"
abbrev pub or_day : ℕ → ℕ
or_day gap = pick (eqb gap 0) day gap

-- how long until the clock next reads t
unfoldable pub until_of : TimeOfDay → TimeOfDay → ℕ
until_of clock t = or_day (gap_of clock t)
