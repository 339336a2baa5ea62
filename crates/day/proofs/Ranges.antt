-- Which fields make a time of day, and what is told of the others. Assumes nothing.
use mathlib.Core.Path.{◌≡◌, refl}
use mathlib.Core.Bool.{Bool, true, false}
use Prim.Native.Nat.{◌<◌, ◌≤◌}
use lib.Dec.{ltb}
use borrow.Author.Tests.{lt-ltb, le-ltb, ltb-false}
use Rattle.std.specs.Prelude.{Result, Ok, Err}
use Rattle.common.specs.Choice.{pick}
use Rattle.day.specs.declared.TimeOfDay.{TimeOfDay}
use Rattle.day.specs.declared.Fields.{Fields}
use Rattle.day.specs.declared.BadField.{BadField}
use Rattle.day.specs.Fields.{time_of, made_of}

pub record InRange (f : Fields) : Type 0 where
  pub hour : f.hour ≤ 23
  pub minute : f.minute ≤ 59
  pub second : f.second ≤ 59
  pub millisecond : f.millisecond ≤ 999

-- a field that is out of its range, after those before it were found good, is told
module _ (f : Fields) where
  pub bad_millisecond : 999 < f.millisecond → made_of f ≡ Err BadField.Millisecond
  unfolding made_of
  bad_millisecond h = rw (lt-ltb 999 f.millisecond h)

  pub bad_second : f.millisecond ≤ 999 → 59 < f.second → made_of f ≡ Err BadField.Second
  unfolding made_of
  bad_second ms h = rw (le-ltb 999 f.millisecond ms, lt-ltb 59 f.second h)

  pub bad_minute : f.millisecond ≤ 999 → f.second ≤ 59 → 59 < f.minute → made_of f ≡ Err BadField.Minute
  unfolding made_of
  bad_minute ms s h = simp (le-ltb 999 f.millisecond ms, le-ltb 59 f.second s, lt-ltb 59 f.minute h)

  pub bad_hour : f.millisecond ≤ 999 → f.second ≤ 59 → f.minute ≤ 59 → 23 < f.hour → made_of f ≡ Err BadField.Hour
  unfolding made_of
  bad_hour ms s m h = simp (le-ltb 999 f.millisecond ms, le-ltb 59 f.second s, le-ltb 59 f.minute m, lt-ltb 23 f.hour h)

  -- fields within their ranges are taken
  pub made_good : InRange f → made_of f ≡ Ok (time_of f)
  unfolding made_of
  made_good h = simp (le-ltb 999 f.millisecond h.millisecond, le-ltb 59 f.second h.second, le-ltb 59 f.minute h.minute, le-ltb 23 f.hour h.hour)

-- where a time comes of a choice between a refusal and something made, the test failed
passed : (b : Bool) (field : BadField) (made : Result TimeOfDay BadField) (t : TimeOfDay) → pick b (Err field) made ≡ Ok t → (b ≡ false) × (made ≡ Ok t)
passed true field made t e = cc
passed false field made t e = (refl, e)

-- and nothing else is taken
pub made_time : (f : Fields) (t : TimeOfDay) → made_of f ≡ Ok t → InRange f × (time_of f ≡ t)
unfolding made_of
made_time f t e =
    let ms = passed (ltb 999 f.millisecond) BadField.Millisecond _ t e in
    let s = passed (ltb 59 f.second) BadField.Second _ t ms.1 in
    let m = passed (ltb 59 f.minute) BadField.Minute _ t s.1 in
    let h = passed (ltb 23 f.hour) BadField.Hour _ t m.1 in
    (record { hour = ltb-false _ _ h.0; minute = ltb-false _ _ m.0; second = ltb-false _ _ s.0; millisecond = ltb-false _ _ ms.0 }, cc h.1)
