-- Document 01, "Timer orders": the calls.
use Rattle.std.specs.Prelude.{Bool, true, false, not, Option, Some, None, Result, Ok, Err, List, [], ◌∷◌, ℕ}
use Rattle.std.specs.Result.{is_ok, result_unwrap_or}
use Rattle.common.specs.Choice.{pick}
use Rattle.day.specs.declared.Fields.{Fields}
use Rattle.day.specs.declared.BadField.{BadField}
use Rattle.day.specs.declared.TimeOfDay.{TimeOfDay}
use Rattle.day.specs.Fields.{made_of}
use Rattle.day.specs.TimeOfDay.{forward_of}
use Rattle.orders.specs.declared.NotCancelled.{NotCancelled}
use Rattle.orders.specs.declared.Order.{Order}
use Rattle.orders.specs.declared.Orders.{Orders}
use Rattle.orders.specs.Cancel.{cancel_of as orders_cancelled, after_cancel}
use Rattle.orders.specs.Moments.{interval_of, delay_of}
use Rattle.orders.specs.Orders.{accept_of}
use Rattle.table.specs.declared.answers.Answer.{Answer}
use Rattle.process.specs.declared.Process.{Process}
use Rattle.table.specs.declared.configs.Config.{Config}
use Rattle.table.specs.declared.Table.{Table}
use Rattle.table.specs.Configuration.{configured_of, receiver_of, sender_of}
use Rattle.table.specs.Answers.{cancel_answer}
use Rattle.table.specs.Words.{negative16, negative32}
use Rattle.calls.specs.Effects.{Effect, number, refuse, done, waking, carrying}
use Rattle.calls.specs.Levels.{process_at, with_orders, with_scheduler}
use Rattle.calls.specs.Verdicts.{Checked, Check, check, after, by_caller, called}
use Rattle.timers.specs.declared.NewOrder.{NewOrder}

-- when an order is first to be carried out: at a time of day or, where none is named, one interval from now; or the field that is out of its range
abbrev pub Moment : Type 0
Moment = Result (Option TimeOfDay) BadField

-- "or, only if absolute, MSEC > 999, SEC > 59, MIN > 59, HOUR > 23"
abbrev pub moment_made : Result TimeOfDay BadField → Moment
moment_made (Ok t) = Ok (Some t)
moment_made (Err field) = Err field

unfoldable pub moment_of : Bool → Fields → Moment
moment_of absolute time = pick absolute (moment_made (made_of time)) (Ok None)

-- no field is out of its range
abbrev pub starts_when : Moment → Bool
starts_when moment = is_ok moment

-- (a bad moment is refused before it is asked)
abbrev pub first_by : Moment → Option TimeOfDay
first_by moment = result_unwrap_or moment None

-- an order of the caller's own, first due the first delay after the clock
abbrev pub order_of : TimeOfDay → ℕ → ℕ → Moment → NewOrder → Order
order_of clock caller receiver moment s = record {
  sender = caller;
  receiver = receiver;
  condition = s.condition;
  due = forward_of clock (delay_of clock (interval_of s.to) (first_by moment));
  every = interval_of s.to;
  left = s.count;
  message = s.message;
}

-- "then 13"
abbrev pub entering : Option Orders → Table → Effect
entering (Some orders) t = done (with_orders t orders)
entering None t = refuse t Answer.TaskListOverflow

unfoldable pub ordered : Table → Order → Effect
ordered t order = entering (accept_of t.orders t.config.orders order) t

-- "SCHEDULE: .. Checks: 1; then 6 for `to` < 0, count < 0, or, only if absolute, ..; then 13."
abbrev pub schedule_checks : Config → NewOrder → Moment → List Check
schedule_checks c s moment =
    check (configured_of c s.receiver) Answer.ReceiverUnknown
    ∷ check (not (negative32 s.to)) Answer.ParameterError
    ∷ check (not (negative16 s.count)) Answer.ParameterError
    ∷ check (starts_when moment) Answer.ParameterError
    ∷ []

abbrev pub schedule_verdict : Config → List Process → ℕ → NewOrder → Moment → Checked
schedule_verdict c processes caller s moment = after (by_caller c (process_at processes caller) caller) (schedule_checks c s moment)

unfoldable pub schedule_of : Table → ℕ → NewOrder → Effect
schedule_of t caller s =
    called t caller (schedule_checks t.config s (moment_of s.absolute s.time))
    (ordered t (order_of t.clock caller s.receiver (moment_of s.absolute s.time) s))

-- or 0 OK
abbrev pub cancelled_answer : Result Orders NotCancelled → Answer
cancelled_answer (Ok left) = Answer.Ok
cancelled_answer (Err why) = cancel_answer why

-- "sender -1 or 0..11, else 6; receiver, 1; then 7, 8; then 6 where a sender is named and none of that receiver's orders is its own. Otherwise
-- all matching orders leave."
abbrev pub cancelling : Result Orders NotCancelled → Table → Effect
cancelling cancelled t = waking (cancelled_answer cancelled) [] (with_orders t (after_cancel t.orders cancelled))

unfoldable pub cancelled_of : Table → ℕ → ℕ → Effect
cancelled_of t sender receiver = cancelling (orders_cancelled (sender_of sender) (receiver_of t.config receiver) t.orders) t

-- "CANCELSCHEDULE (sender, receiver): .."
unfoldable pub cancel_schedule_of : Table → ℕ → ℕ → ℕ → Effect
cancel_schedule_of t caller sender receiver = called t caller [] (cancelled_of t sender receiver)

-- "SHUTDOWN sets a switch"
unfoldable pub shutdown_of : Table → ℕ → Effect
shutdown_of t caller = called t caller [] (done (with_scheduler t (record { running = t.scheduler.running; switch = true })))

-- "The switch stays set until the scheduler is started, which always answers 0."
unfoldable pub start_scheduler_of : Table → Effect
start_scheduler_of t = done (with_scheduler t (record { running = true; switch = false }))

-- "READTIME answers the clock."
unfoldable pub read_time_of : Table → ℕ → Effect
read_time_of t caller = called t caller [] (carrying Answer.Ok (number t.clock.milliseconds) t)
