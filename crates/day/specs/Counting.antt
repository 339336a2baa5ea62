-- Document 02, §6: "Turning a time of day into hours, minutes, seconds and milliseconds shall do without division and remainder." The code
-- does; what it comes to is division with remainder all the same, and that is what the definitions say.
use Rattle.std.specs.Prelude.{◌≡◌, ℕ, ◌+◌, ◌/◌, ◌%◌}
use Rattle.day.specs.declared.Count.{Count}

-- how many whole units a number of milliseconds has, and what is left
abbrev pub counted_of : ℕ → ℕ → Count
counted_of n unit = record { units = n / unit; left = n % unit }

-- what is counted by twice a piece, whatever it is, is counted by the piece afterwards
abbrev pub Halved : Count → ℕ → Count → Type 0
Halved before piece after = (n : ℕ) → before ≡ counted_of n (piece + piece) → after ≡ counted_of n piece
