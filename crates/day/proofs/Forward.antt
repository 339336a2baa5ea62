-- The laws of moving forward. Assumes nothing.
use mathlib.Core.Path.{◌≡◌, ap}
use Prim.Native.Nat.{ℕ, ◌+◌, ◌%◌, ◌<◌}
use native.Mathlib.Omega.{arith}
use Rattle.day.specs.declared.TimeOfDay.{TimeOfDay}
use Rattle.day.specs.TimeOfDay.{at, day, forward_of}

-- wherever it starts, a time of day is what comes of it
pub forward_within : (time : TimeOfDay) (by : ℕ) → (forward_of time by).milliseconds < day
unfolding forward_of
forward_within time by = omega arith

-- forward by none is the same time of day
pub forward_none : (time : TimeOfDay) → time.milliseconds < day → forward_of time 0 ≡ time
unfolding forward_of
forward_none time h = ap at (omega arith)

-- forward by m, then by n, is forward by m + n
pub forward_forward : (time : TimeOfDay) (m n : ℕ) → forward_of (forward_of time m) n ≡ forward_of time (m + n)
unfolding forward_of
forward_forward time m n = ap at (omega arith)

-- a whole day is no move
pub forward_day : (time : TimeOfDay) (n : ℕ) → forward_of time (n + day) ≡ forward_of time n
unfolding forward_of
forward_day time n = ap at (omega arith)

-- whole days in the number change nothing
pub forward_rem : (time : TimeOfDay) (n : ℕ) → forward_of time (n % day) ≡ forward_of time n
unfolding forward_of
forward_rem time n = ap at (omega arith)
