-- Document 01, "States": "Each call lists its wakes in order: level, answer number, and the message or the inputs."
use Rattle.std.specs.Prelude.{List, [], ℕ, replicate}
use Rattle.common.specs.declared.filled.Filled.{Filled}
use Rattle.common.specs.Filled.{filled_of, pushed_of}
use Rattle.process.specs.Marks.{number_of}
use Rattle.table.specs.declared.wakes.Wake.{Wake}
use Rattle.table.specs.declared.wakes.Woken.{Woken}
use Rattle.table.specs.declared.wakes.Woken.TheVariants.{ByMessage, ByEvent, ByHandover}

-- a message wakes with what it tells; an event and a handover with 0
abbrev pub number_by : Woken → ℕ
number_by (ByMessage told m) = number_of told
number_by (ByEvent set) = 0
number_by ByHandover = 0

abbrev pub wake_number_of : Wake → ℕ
wake_number_of w = number_by w.woken

-- what lies in a free place
abbrev pub nobody : Wake
nobody = record { level = 0; woken = ByEvent (record { words = replicate 4 0 }) }

-- wakes in twelve places
abbrev pub Wakes : Type 0
Wakes = Filled Wake 12

-- a list of wakes, in order, in twelve places
abbrev pub wakes_of : List Wake → Wakes
wakes_of l = filled_of 12 nobody l

abbrev pub no_wakes_of : Wakes
no_wakes_of = wakes_of []

-- after the others, if there is a place
abbrev pub wake_push_of : Wakes → Wake → Wakes
wake_push_of ws w = pushed_of 12 ws w
