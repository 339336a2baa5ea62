-- A time of day counted unit by unit, each in what the one before left, comes to its fields. Assumes nothing.
use mathlib.Core.Path.{◌≡◌}
use Prim.Native.Nat.{ℕ, ◌/◌, ◌%◌}
use native.Mathlib.Omega.{arith}
use Rattle.day.specs.declared.TimeOfDay.{TimeOfDay}
use Rattle.day.specs.declared.Count.{Count}
use Rattle.day.specs.TimeOfDay.{day}
use Rattle.day.specs.Fields.{fields_of}
use Rattle.day.specs.Counting.{counted_of}
use Rattle.day.proofs.Halving.{units_of, left_of_lem}

pub unit_by_unit : (t : TimeOfDay) (days hours minutes seconds : Count)
    → days ≡ counted_of t.milliseconds day
    → hours ≡ counted_of days.left 3600000
    → minutes ≡ counted_of hours.left 60000
    → seconds ≡ counted_of minutes.left 1000
    → record { hour = hours.units; minute = minutes.units; second = seconds.units; millisecond = seconds.left } ≡ fields_of t
unfolding fields_of
unit_by_unit t days hours minutes seconds of-days of-hours of-minutes of-seconds =
    let n : ℕ = t.milliseconds in
    let in_day : days.left ≡ n % day = left_of_lem n day of-days in
    let hour_is : hours.units ≡ days.left / 3600000 = units_of days.left 3600000 of-hours in
    let in_hour : hours.left ≡ days.left % 3600000 = left_of_lem days.left 3600000 of-hours in
    let minute_is : minutes.units ≡ hours.left / 60000 = units_of hours.left 60000 of-minutes in
    let in_minute : minutes.left ≡ hours.left % 60000 = left_of_lem hours.left 60000 of-minutes in
    let second_is : seconds.units ≡ minutes.left / 1000 = units_of minutes.left 1000 of-seconds in
    let in_second : seconds.left ≡ minutes.left % 1000 = left_of_lem minutes.left 1000 of-seconds in
    let hour : hours.units ≡ (fields_of t).hour = omega arith in
    let minute : minutes.units ≡ (fields_of t).minute = omega arith in
    let second : seconds.units ≡ (fields_of t).second = omega arith in
    let millisecond : seconds.left ≡ (fields_of t).millisecond = omega arith in
    λ i. record { hour = hour i; minute = minute i; second = second i; millisecond = millisecond i }
