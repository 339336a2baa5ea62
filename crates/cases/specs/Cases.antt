-- Document 01, "Cases to settle": those marked p, in one table. Each row asks the definitions that the contracts of the functions cite, so what
-- holds of a row holds of the code.
use Rattle.std.specs.Prelude.{Bool, true, false, not, Result, Ok, Err, List, [], ◌∷◌, ℕ, eqb, replicate}
use Rattle.std.specs.Result.{is_err}
use Rattle.common.specs.Choice.{pick}
use Rattle.day.specs.declared.Fields.{Fields}
use Rattle.day.specs.declared.BadField.{BadField}
use Rattle.day.specs.declared.TimeOfDay.{TimeOfDay}
use Rattle.day.specs.Fields.{made_of}
use Rattle.day.specs.TimeOfDay.{at, day}
use Rattle.orders.specs.declared.Order.{Order}
use Rattle.orders.specs.Moments.{interval_of, delay_of}
use Rattle.orders.specs.Orders.{standing_of}
use Rattle.process.specs.declared.Condition.TheVariants.{Always}
use Rattle.process.specs.Messages.{zeros}
use Rattle.semaphores.specs.Semaphores.{usable_of}
use Rattle.table.specs.declared.configs.Config.{Config}
use Rattle.table.specs.declared.Table.{Table}
use Rattle.table.specs.Answers.{number_of}
use Rattle.table.specs.Configuration.{good_of}
use Rattle.table.specs.Table.{fresh_of}
use Rattle.timers.specs.declared.NewOrder.{NewOrder}
use Rattle.timers.specs.Timers.{moment_of, first_by}
use Rattle.rtms.specs.Calls.{Call, START, SEND, SCHEDULE, CANCELSCHEDULE, answer_of}

-- a call, and the number that answers it
pub record Exchange : Type 0 where
  pub call : Call
  pub number : ℕ

abbrev exchange : Call → ℕ → Exchange
exchange call number = record { call = call; number = number }

-- a row: what is asked, and what comes of it
pub data Case : Type 0 where
  -- a semaphore's number
  usable : ℕ → Case
  unusable : ℕ → Case
  -- `to`, and the interval e
  interval : ℕ → ℕ → Case
  -- the clock, the time of an absolute order, and the first delay d
  delay : TimeOfDay → Fields → ℕ → Case
  -- the clock, `to` of a relative order, and when the order that SCHEDULE enters is due
  due : TimeOfDay → ℕ → TimeOfDay → Case
  -- hour, minute, second and millisecond, and the time of day that they make
  time : Fields → TimeOfDay → Case
  -- fields that are refused
  no_time : Fields → Case
  good_config : Config → Case
  bad_config : Config → Case
  -- calls one after the other, from the fresh table of a configuration on
  answered : Config → List Exchange → Case

-- fields made this time of day
abbrev made : Result TimeOfDay BadField → TimeOfDay → Bool
made (Ok t) moment = eqb t.milliseconds moment.milliseconds
made (Err field) moment = false

-- they made none
abbrev refused : Result TimeOfDay BadField → Bool
refused made = is_err made

-- L, P, the scheduler and the clock; NP 1, four order places, card 8, nobody privileged and a pool of four bytes
abbrev plant : ℕ → ℕ → ℕ → TimeOfDay → Config
plant lowest processes scheduler clock = record {
  lowest = lowest;
  processes = processes;
  scheduler = scheduler;
  places = 1;
  orders = 4;
  card = 8;
  clock = clock;
  privileged = replicate 3 (record { level = 255; first = 0; last = 0 });
  pool = 4;
}

-- levels 2 and 3, scheduler 11
abbrev two_levels : TimeOfDay → Config
two_levels clock = plant 2 2 11 clock

-- a relative order for level 3, to be carried out once
abbrev relative : ℕ → NewOrder
relative to = record {
  receiver = 3;
  condition = Always;
  absolute = false;
  time = record { hour = 0; minute = 0; second = 0; millisecond = 0 };
  to = to;
  count = 1;
  message = zeros;
}

abbrev fields : ℕ → ℕ → ℕ → ℕ → Fields
fields hour minute second millisecond = record { hour = hour; minute = minute; second = second; millisecond = millisecond }

-- each call is answered by its number, on the table that the calls before it left
abbrev all_answered : List Exchange → Table → Bool
all_answered [] t = true
all_answered (x ∷ others) t =
    pick (eqb (number_of (answer_of x.call t).answer) x.number)
    (all_answered others (answer_of x.call t).table)
    false

-- the table at that time, once level 2 may call
abbrev started : TimeOfDay → Table
started clock = (answer_of (START 2 32) (fresh_of (two_levels clock))).table

-- one order stands, and is due at that moment
abbrev one_due : List Order → TimeOfDay → Bool
one_due [] moment = false
one_due (x ∷ []) moment = eqb x.due.milliseconds moment.milliseconds
one_due (x ∷ y ∷ others) moment = false

-- what comes is what the row says. (An absolute order's interval is 1 here, so that it shows where its time is not looked at.)
abbrev pub holds : Case → Bool
holds (usable number) = usable_of number
holds (unusable number) = not (usable_of number)
holds (interval to every) = eqb (interval_of to) every
holds (delay clock f d) = eqb (delay_of clock 1 (first_by (moment_of true f))) d
holds (due clock to moment) = one_due (standing_of (answer_of (SCHEDULE 2 (relative to)) (started clock)).table.orders) moment
holds (time f moment) = made (made_of f) moment
holds (no_time f) = refused (made_of f)
holds (good_config c) = good_of c
holds (bad_config c) = not (good_of c)
holds (answered c calls) = all_answered calls (fresh_of c)

-- the rows, in the document's order and words
abbrev pub settled : List Case
settled =
    -- "Usable 31 p, 51 p"
    usable 31
    ∷ usable 51
    -- "not 32 p"
    ∷ unusable 32
    -- "Relative 0 and 86,400,000 both D p"
    ∷ interval 0 day
    ∷ interval 86400000 day
    -- "86,399,999 stays p"
    ∷ interval 86399999 86399999
    -- "Clock 1,000, absolute 00:00:01.000: d = D p"
    ∷ delay (at 1000) (fields 0 0 1 0) day
    -- "Clock 86,399,999, relative 1: due at 0 p"
    ∷ due (at 86399999) 1 (at 0)
    -- "23:59:59.999 is 86,399,999 p"
    ∷ time (fields 23 59 59 999) (at 86399999)
    -- "MSEC 1000 refused p"
    ∷ no_time (fields 23 59 59 1000)
    -- "L 1, P 11, scheduler 0 good p"
    ∷ good_config (plant 1 11 0 (at 0))
    -- "L 2, P 11 bad p"
    ∷ bad_config (plant 2 11 0 (at 0))
    -- "NP 1: second ALWAYS gives 3 p"
    ∷ answered (two_levels (at 0)) (exchange (START 2 32) 0 ∷ exchange (SEND 2 3 Always zeros) 0 ∷ exchange (SEND 2 3 Always zeros) 3 ∷ [])
    -- "Cancel by a wrong sender: 6 p": the order is level 2's, and 3 is named
    ∷ answered (two_levels (at 0)) (exchange (START 2 32) 0 ∷ exchange (SCHEDULE 2 (relative 5)) 0 ∷ exchange (CANCELSCHEDULE 2 3 3) 6 ∷ [])
    ∷ []
