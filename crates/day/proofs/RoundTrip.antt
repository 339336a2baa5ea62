-- Fields to a time of day and back, both ways. Assumes nothing.
use mathlib.Core.Path.{◌≡◌, ◌∙◌, ap, sym}
use Prim.Native.Nat.{ℕ, ◌+◌, ◌*◌, ◌/◌, ◌%◌, ◌<◌}
use native.Mathlib.Omega.{arith}
use Rattle.std.specs.Prelude.{Ok}
use Rattle.day.specs.declared.TimeOfDay.{TimeOfDay}
use Rattle.day.specs.declared.Fields.{Fields}
use Rattle.day.specs.TimeOfDay.{at, day}
use Rattle.day.specs.Fields.{time_of, made_of, fields_of}
use Rattle.day.proofs.Ranges.{InRange, made_good, made_time}

-- the fields of any time are within their ranges
pub fields_good_lem : (t : TimeOfDay) → InRange (fields_of t)
unfolding fields_of
fields_good_lem t = omega arith

time_fields : (t : TimeOfDay) → t.milliseconds < day → time_of (fields_of t) ≡ t
unfolding fields_of
time_fields t h =
    let n : ℕ = t.milliseconds in
    let hours : n / 3600000 % 24 ≡ n / 3600000 = omega arith in
    let minutes : 60 * (n / 3600000) + n / 60000 % 60 ≡ n / 60000 = omega arith in
    let seconds : 60 * (n / 60000) + n / 1000 % 60 ≡ n / 1000 = omega arith in
    let milliseconds : 1000 * (n / 1000) + n % 1000 ≡ n = omega arith in
    ap at (omega arith)

fields_time : (f : Fields) → InRange f → fields_of (time_of f) ≡ f
unfolding fields_of
fields_time f h =
    let hours : (fields_of (time_of f)).hour ≡ f.hour = omega arith in
    let minutes : (fields_of (time_of f)).minute ≡ f.minute = omega arith in
    let seconds : (fields_of (time_of f)).second ≡ f.second = omega arith in
    let milliseconds : (fields_of (time_of f)).millisecond ≡ f.millisecond = omega arith in
    λ i. record { hour = hours i; minute = minutes i; second = seconds i; millisecond = milliseconds i }

-- a time of day, its fields, and back
pub made_fields : (t : TimeOfDay) → t.milliseconds < day → made_of (fields_of t) ≡ Ok t
made_fields t h = made_good (fields_of t) (fields_good_lem t) ∙ ap Ok (time_fields t h)

-- fields that make a time of day are its fields
pub fields_made : (f : Fields) (t : TimeOfDay) → made_of f ≡ Ok t → fields_of t ≡ f
fields_made f t e = let known = made_time f t e in ap fields_of (sym known.1) ∙ fields_time f known.0
