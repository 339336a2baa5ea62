-- Document 01, "Answer numbers": "A table handed in that shows one of these breaks (a bad configuration, a number beyond its limit, a level named
-- that is not configured, a message kept for a process in WM, a process in WR not queued exactly once, a queued process not in WR, a queue at a
-- free or an unusable semaphore) is refused before all else with 35 and left as it is."
use Rattle.std.specs.Prelude.{Bool, true, false, not, ◌&&◌, ◌||◌, Option, Some, None, List, [], ℕ, ◌-◌, min, eqb, leb, ltb, length, get_or}
use Rattle.common.specs.Choice.{pick}
use Rattle.common.specs.Every.{every_below}
use Rattle.common.specs.Keep.{keep_of}
use Rattle.day.specs.TimeOfDay.{at, day}
use Rattle.inputs.specs.declared.InputSet.{InputSet}
use Rattle.inputs.specs.InputSet.{except_of, run_of, count_of}
use Rattle.orders.specs.declared.Order.{Order}
use Rattle.orders.specs.declared.Orders.{Orders}
use Rattle.pool.specs.declared.Control.{Control}
use Rattle.pool.specs.declared.User.{User}
use Rattle.pool.specs.Control.{no_user}
use Rattle.process.specs.declared.Condition.TheVariants.{Always}
use Rattle.process.specs.declared.Process.{Process}
use Rattle.process.specs.declared.states.State.TheVariants.{Inactive, WaitingForMessage, WaitingForSemaphore}
use Rattle.process.specs.States.{is_of}
use Rattle.semaphores.specs.declared.queues.Waiter.{Waiter}
use Rattle.semaphores.specs.Queues.{Queue, list_of}
use Rattle.semaphores.specs.Semaphores.{free, usable_of}
use Rattle.table.specs.declared.configs.Config.{Config}
use Rattle.table.specs.declared.Table.{Table}
use Rattle.table.specs.Configuration.{good_of, configured_of, inputs_of}

-- how often a level is queued
abbrev pub at_level : ℕ → Waiter → Bool
at_level level w = eqb w.level level

unfoldable pub times_of : ℕ → Queue → ℕ
times_of level q = length (keep_of (at_level level) (list_of q))

-- "a number beyond its limit": a process's priority, and how many messages are kept for it
abbrev pub process_within : Config → Process → Bool
process_within c p = leb p.priority 63 && leb p.buffer.list.count c.places

-- "a message kept for a process in WM"
abbrev pub none_kept : Process → Bool
none_kept p = not (is_of p.state WaitingForMessage) || eqb p.buffer.list.count 0

-- "a process in WR not queued exactly once, a queued process not in WR"
abbrev pub queued_as_it_waits : Queue → ℕ → Process → Bool
queued_as_it_waits q level p = eqb (times_of level q) (pick (is_of p.state WaitingForSemaphore) 1 0)

-- what stands at a level that is not configured is not looked at
unfoldable pub level_sound : Config → Queue → ℕ → Process → Bool
level_sound c q level p = not (configured_of c level) || (process_within c p && none_kept p && queued_as_it_waits q level p)

-- what is read past the end of an array
abbrev pub no_process : Process
no_process = record {
  state = Inactive;
  priority = 0;
  marks = record { overflow = false; time = false };
  buffer = record { list = record { items = []; count = 0 } };
}

unfoldable pub levels_sound : Config → Queue → List Process → Bool
levels_sound c q processes = every_below 12 (λ level. level_sound c q level (get_or processes level no_process))

-- "a level named that is not configured": an order's sender or receiver
abbrev pub order_names : Config → Order → Bool
order_names c x = configured_of c x.sender && configured_of c x.receiver

-- "a number beyond its limit": an order's due time, interval and count
abbrev pub order_within : Order → Bool
order_within x = ltb x.due.milliseconds day && leb 1 x.every && leb x.every day && leb x.left 32767

unfoldable pub order_sound : Config → Order → Bool
order_sound c x = order_names c x && order_within x

abbrev pub no_order : Order
no_order = record { sender = 0; receiver = 0; condition = Always; due = at 0; every = 0; left = 0; message = record { bytes = [] } }

-- "a number beyond its limit": more orders than places
unfoldable pub orders_sound : Config → Orders → Bool
orders_sound c o = leb o.list.count c.orders && every_below (min o.list.count 64) (λ i. order_sound c (get_or o.list.items i no_order))

-- "a level named that is not configured": a holder
unfoldable pub holder_sound : Config → ℕ → Bool
holder_sound c holder = eqb holder free || configured_of c holder

unfoldable pub holders_sound : Config → List ℕ → Bool
holders_sound c holders = every_below 96 (λ number. holder_sound c (get_or holders number 0))

-- "a queue at a free or an unusable semaphore", and "a level named that is not configured": a waiter
unfoldable pub waiter_sound : Config → List ℕ → Waiter → Bool
waiter_sound c holders w = pick (usable_of w.number) (not (eqb (get_or holders w.number 0) free) && configured_of c w.level) false

abbrev pub no_waiter : Waiter
no_waiter = record { level = 0; number = 0 }

-- "a number beyond its limit": more waiters than levels
unfoldable pub queue_sound : Config → List ℕ → Queue → Bool
queue_sound c holders q = leb q.count 12 && every_below (min q.count 12) (λ i. waiter_sound c holders (get_or q.items i no_waiter))

-- "a number beyond its limit": a bit of a mask or a latch beyond the card
unfoldable pub on_card : Config → InputSet → Bool
on_card c set = eqb (count_of (except_of set (run_of 0 (inputs_of c - 1)))) 0

-- "a number beyond its limit": the clock
abbrev pub clock_within : Table → Bool
clock_within t = ltb t.clock.milliseconds day

-- document 02, §1, and "a number beyond its limit": a length that was stated, beyond the pool's size
abbrev pub length_within : Config → Option ℕ → Bool
length_within c None = true
length_within c (Some length) = leb length c.pool

abbrev pub length_sound : Config → ℕ → Option ℕ → Bool
length_sound c level length = not (configured_of c level) || length_within c length

unfoldable pub lengths_sound : Config → List User → Bool
lengths_sound c users = every_below 12 (λ level. length_sound c level (get_or users level no_user).stated)

-- each process's own, and the common one
unfoldable pub pool_sound : Config → Control → Bool
pool_sound c control = lengths_sound c control.users && length_within c control.common

-- none of the breaks, "a bad configuration" first
unfoldable pub sound_of : Table → Bool
sound_of t =
    good_of t.config
    && clock_within t
    && levels_sound t.config t.semaphores.queue t.processes
    && orders_sound t.config t.orders
    && holders_sound t.config t.semaphores.holders
    && queue_sound t.config t.semaphores.holders t.semaphores.queue
    && on_card t.config t.mask
    && on_card t.config t.latch
    && pool_sound t.config t.pool
