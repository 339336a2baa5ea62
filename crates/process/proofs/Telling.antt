-- Marks are told one at a time, overflow before time, and none is lost. Assumes nothing.
use mathlib.Core.Path.{◌≡◌, refl}
use mathlib.Core.Bool.{Bool, true, false}
use Prim.Native.Nat.{ℕ, ◌+◌, ◌-◌}
use Rattle.common.specs.Choice.{pick}
use Rattle.process.specs.declared.marking.Marks.{Marks}
use Rattle.process.specs.declared.marking.Told.TheVariants.{Nothing, Overflow, Time}
use Rattle.process.specs.Marks.{marks_of, tell_of}

-- an overflow mark is told first, and the time mark stays as it was
pub overflow_first : (time : Bool) → tell_of (marks_of true time) ≡ record { told = Overflow; marks = marks_of false time }
unfolding tell_of
overflow_first time = refl

-- with no overflow mark the time mark is told
pub time_next : tell_of (marks_of false true) ≡ record { told = Time; marks = marks_of false false }
unfolding tell_of
time_next = refl

-- with no mark nothing is told
pub then_nothing : tell_of (marks_of false false) ≡ record { told = Nothing; marks = marks_of false false }
unfolding tell_of
then_nothing = refl

-- how many marks stand
abbrev pub standing : Marks → ℕ
standing m = pick m.overflow 1 0 + pick m.time 1 0

standing_of_lem : (overflow time : Bool) → standing (tell_of (marks_of overflow time)).marks ≡ standing (marks_of overflow time) - 1
unfolding tell_of
standing_of_lem true true = refl
standing_of_lem true false = refl
standing_of_lem false true = refl
standing_of_lem false false = refl

-- each telling clears one mark, if any stands
pub one_at_a_time : (m : Marks) → standing (tell_of m).marks ≡ standing m - 1
one_at_a_time m = standing_of_lem m.overflow m.time
