-- Every call, event and tick, under the documents' name for it, and what it does.
use Rattle.std.specs.Prelude.{List, ℕ, length}
use Rattle.common.specs.Choice.{pick}
use Rattle.process.specs.declared.buffers.Message.{Message}
use Rattle.process.specs.declared.Condition.{Condition}
use Rattle.table.specs.declared.answers.Answer.TheVariants.{BadConfig}
use Rattle.table.specs.declared.Outcome.{Outcome}
use Rattle.table.specs.declared.Table.{Table}
use Rattle.table.specs.Sound.{sound_of}
use Rattle.calls.specs.Effects.{Effect, refuse, outcome_of}
use Rattle.starting.specs.Starting.{start_of, set_priority_of}
use Rattle.messages.specs.Sending.{send_of}
use Rattle.messages.specs.Receiving.{receive_of, await_message_of, clear_message_of}
use Rattle.timers.specs.declared.NewOrder.{NewOrder}
use Rattle.timers.specs.Timers.{schedule_of, cancel_schedule_of, shutdown_of, start_scheduler_of, read_time_of}
use Rattle.ticking.specs.Ticking.{run_effect, tick_of, ticks_of}
use Rattle.interrupts.specs.Interrupts.{enable_of, disable_of, await_interrupt_of, reset_interrupt_of, event_of}
use Rattle.holding.specs.Holding.{request_of, release_of}
use Rattle.pooling.specs.Pooling.{init_pool_of, pool_check_of, get_pool_of, put_pool_of}

-- Parameters in the order of the functions. A process's call begins with its caller; START, the start of the scheduler, events and ticks have none.
pub data Call : Type 0 where
  -- level, priority
  START : ℕ → ℕ → Call
  -- caller, priority
  SETPRIORITY : ℕ → ℕ → Call
  -- caller, receiver, condition, message
  SEND : ℕ → ℕ → Condition → Message → Call
  RECEIVE : ℕ → Call
  AWAITMESSAGE : ℕ → Call
  -- caller, receiver
  CLEARMESSAGE : ℕ → ℕ → Call
  -- caller, the new order
  SCHEDULE : ℕ → NewOrder → Call
  -- caller, sender, receiver
  CANCELSCHEDULE : ℕ → ℕ → ℕ → Call
  SHUTDOWN : ℕ → Call
  STARTSCHEDULER : Call
  READTIME : ℕ → Call
  -- caller, input
  ENABLE : ℕ → ℕ → Call
  DISABLE : ℕ → ℕ → Call
  AWAITINTERRUPT : ℕ → Call
  RESETINT : ℕ → ℕ → Call
  -- input
  EVENT : ℕ → Call
  -- caller, number
  REQSEMA : ℕ → ℕ → Call
  RELSEMA : ℕ → ℕ → Call
  INITPOOL : ℕ → Call
  -- caller, length
  POOLCHECK : ℕ → ℕ → Call
  -- caller, offset, the part's length, how many bytes the caller's own buffer has
  GETPOOL : ℕ → ℕ → ℕ → ℕ → Call
  -- caller, offset, the part's length, the caller's own data
  PUTPOOL : ℕ → ℕ → ℕ → List ℕ → Call
  TICK : Call
  -- how many
  TICKS : ℕ → Call

-- on a table that shows no break
abbrev pub effect_of : Call → Table → Effect
effect_of (START level priority) t = start_of t level priority
effect_of (SETPRIORITY caller priority) t = set_priority_of t caller priority
effect_of (SEND caller receiver condition m) t = send_of t caller receiver condition m
effect_of (RECEIVE caller) t = receive_of t caller
effect_of (AWAITMESSAGE caller) t = await_message_of t caller
effect_of (CLEARMESSAGE caller receiver) t = clear_message_of t caller receiver
effect_of (SCHEDULE caller new) t = schedule_of t caller new
effect_of (CANCELSCHEDULE caller sender receiver) t = cancel_schedule_of t caller sender receiver
effect_of (SHUTDOWN caller) t = shutdown_of t caller
effect_of STARTSCHEDULER t = start_scheduler_of t
effect_of (READTIME caller) t = read_time_of t caller
effect_of (ENABLE caller input) t = enable_of t caller input
effect_of (DISABLE caller input) t = disable_of t caller input
effect_of (AWAITINTERRUPT caller) t = await_interrupt_of t caller
effect_of (RESETINT caller input) t = reset_interrupt_of t caller input
effect_of (EVENT input) t = event_of t input
effect_of (REQSEMA caller number) t = request_of t caller number
effect_of (RELSEMA caller number) t = release_of t caller number
effect_of (INITPOOL caller) t = init_pool_of t caller
effect_of (POOLCHECK caller stated) t = pool_check_of t caller stated
effect_of (GETPOOL caller offset count own) t = get_pool_of t caller offset count own
effect_of (PUTPOOL caller offset count given) t = put_pool_of t caller offset count (length given)
effect_of TICK t = run_effect (tick_of t)
effect_of (TICKS n) t = run_effect (ticks_of n t)

-- "A table handed in that shows one of these breaks .. is refused before all else with 35 and left as it is."
unfoldable pub guarded_of : Table → Effect → Effect
guarded_of t effect = pick (sound_of t) effect (refuse t BadConfig)

-- what the executive does with a call
abbrev pub done_by : Call → Table → Effect
done_by call t = guarded_of t (effect_of call t)

-- and its result
unfoldable pub answer_of : Call → Table → Outcome
answer_of call t = outcome_of (done_by call t)
