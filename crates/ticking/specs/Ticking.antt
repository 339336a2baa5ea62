-- Document 01, "Timer orders": what a tick does.
use Rattle.std.specs.Prelude.{Bool, true, false, not, ◌&&◌, ◌||◌, List, [], ◌++◌, map, ℕ, zero, suc, ◌+◌, eqb, ltb, length, Option, Some, None}
use Rattle.common.specs.Choice.{pick}
use Rattle.day.specs.declared.TimeOfDay.{TimeOfDay}
use Rattle.day.specs.TimeOfDay.{forward_of}
use Rattle.orders.specs.declared.Order.{Order}
use Rattle.orders.specs.declared.Orders.{Orders}
use Rattle.orders.specs.Orders.{standing_of}
use Rattle.orders.specs.Advance.{due_of, advance_of, next_due_of}
use Rattle.posting.specs.declared.Origin.TheVariants.{Timed}
use Rattle.posting.specs.Posting.{Letter, letter, Posted, all_of}
use Rattle.process.specs.declared.Process.{Process}
use Rattle.table.specs.declared.answers.Answer.TheVariants.{Ok}
use Rattle.table.specs.declared.wakes.Wake.{Wake}
use Rattle.table.specs.declared.Scheduler.{Scheduler}
use Rattle.table.specs.declared.Table.{Table}
use Rattle.calls.specs.Effects.{Effect, number}
use Rattle.calls.specs.Levels.{with_clock, with_scheduler, with_processes, with_orders}
use Rattle.ticking.specs.declared.Lull.{Lull}

-- what ticks do: how many orders they carried out, who woke, in order, and the table afterwards
pub record Run : Type 0 where
  pub count : ℕ
  pub wakes : List Wake
  pub table : Table

abbrev pub run : ℕ → List Wake → Table → Run
run count wakes t = record { count = count; wakes = wakes; table = t }

-- an order's message, on its way to the order's own receiver
abbrev pub letter_of : Order → Letter
letter_of x = letter x.receiver x.condition x.message

-- orders are carried out one after the other: "ALWAYS hands over or stores, or if full sets the receiver's time mark; WAITING hands over, or if not
-- in WM sets the time mark"
unfoldable pub carried_out : ℕ → List Order → List Process → Posted
carried_out places orders processes = all_of Timed places (map letter_of orders) processes

-- "all orders due at the new time are carried out in order of acceptance"
abbrev pub due_now : TimeOfDay → Table → List Order
due_now now t = due_of now (standing_of t.orders)

-- "Either way the carrying out counts." "The tick reports how many orders were carried out."
unfoldable pub carrying_out : TimeOfDay → Table → Run
carrying_out now t =
    run (length (due_now now t))
    (carried_out t.config.places (due_now now t) t.processes).wakes
    (with_orders (with_processes (with_clock t now) (carried_out t.config.places (due_now now t) t.processes).processes) (advance_of now t.orders))

-- "at the next tick the scheduler stops and that tick carries out nothing. The switch stays set"
unfoldable pub stopping : TimeOfDay → Table → Run
stopping now t = run 0 [] (with_scheduler (with_clock t now) (record { running = false; switch = t.scheduler.switch }))

-- "While it is stopped the clock runs, .., and a due moment passes unused"
unfoldable pub passing : TimeOfDay → Table → Run
passing now t = run 0 [] (with_clock t now)

-- the tick at which the clock reads this time
unfoldable pub tick_at : TimeOfDay → Table → Run
tick_at now t = pick t.scheduler.running (pick t.scheduler.switch (stopping now t) (carrying_out now t)) (passing now t)

-- "A tick moves the clock by 1."
unfoldable pub tick_of : Table → Run
tick_of t = tick_at (forward_of t.clock 1) t

-- some ticks, and then others
abbrev pub followed : Run → Run → Run
followed first then = run (first.count + then.count) (first.wakes ++ then.wakes) then.table

-- so many ticks, one after the other
unfoldable pub ticks_of : ℕ → Table → Run
ticks_of zero t = run 0 [] t
ticks_of (suc n) t = followed (tick_of t) (ticks_of n (tick_of t).table)

-- 0 with the orders carried out, and the wakes in order
abbrev pub run_effect : Run → Effect
run_effect x = record { answer = Ok; carried = number x.count; wakes = x.wakes; table = x.table }

-- ---- how the code comes to that

-- at the next tick the scheduler carries out what is due
abbrev pub runs_on : Scheduler → Bool
runs_on s = s.running && not s.switch

-- no order is due at any of the next n ticks: none stands, or the next due moment is further off
unfoldable pub none_due : Orders → TimeOfDay → ℕ → Bool
none_due o clock n = eqb o.list.count 0 || ltb n (next_due_of clock o)

-- n ticks on; no tick leaves even a clock that reads no time of day as it is
unfoldable pub clock_after : TimeOfDay → ℕ → TimeOfDay
clock_after clock n = pick (eqb n 0) clock (forward_of clock n)

-- n ticks on: the first of them stops a scheduler that does not run on, and the switch stays as it is
unfoldable pub scheduler_after : Scheduler → ℕ → Scheduler
scheduler_after s n = pick (runs_on s || eqb n 0) s (record { running = false; switch = s.switch })

-- no order is carried out by any of the next n ticks
unfoldable pub is_lull : Scheduler → Orders → TimeOfDay → ℕ → Bool
is_lull s o clock n = pick (runs_on s) (none_due o clock n) true

-- what the next n ticks come to, if they carry out no order
unfoldable pub lull_of : Scheduler → Orders → TimeOfDay → ℕ → Option Lull
lull_of s o clock n = pick (is_lull s o clock n) (Some (record { clock = clock_after clock n; scheduler = scheduler_after s n })) None
