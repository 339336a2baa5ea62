-- Document 01, "Messages": "With each message handed over, also at a wake, one mark is told and cleared: overflow (5) before time (14); the other stays for the next."
use Rattle.std.specs.Prelude.{Bool, false, ℕ}
use Rattle.common.specs.Choice.{pick}
use Rattle.process.specs.declared.marking.Marks.{Marks}
use Rattle.process.specs.declared.marking.Told.{Told}
use Rattle.process.specs.declared.marking.Told.TheVariants.{Nothing, Overflow, Time}
use Rattle.process.specs.declared.marking.Telling.{Telling}

abbrev pub marks_of : Bool → Bool → Marks
marks_of overflow time = record { overflow = overflow; time = time }

unfoldable pub tell_of : Marks → Telling
tell_of m =
    pick m.overflow (record { told = Overflow; marks = marks_of false m.time })
    (pick m.time (record { told = Time; marks = marks_of false false })
    (record { told = Nothing; marks = m }))

-- document 01, "Answer numbers": 0 OK, 5 BUFFEROFL, 14 TIMECONDITION
abbrev pub number_of : Told → ℕ
number_of Nothing = 0
number_of Overflow = 5
number_of Time = 14
