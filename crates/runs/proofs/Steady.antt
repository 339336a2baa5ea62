-- Every table of a run stands as tables stand along a run: its arrays are whole, no break shows, its semaphores stand orderly. Assumes nothing.
use mathlib.Core.Path.{◌≡◌, sym, subst}
use mathlib.Core.Bool.{true}
use mathlib.Core.List.{List, [], ◌∷◌}
use lib.ListN.{length, length-replicate}
use Rattle.common.specs.Filled.{filled_of}
use Rattle.common.proofs.Packing.{length_packed}
use Rattle.orders.specs.Orders.{no_order}
use Rattle.process.specs.Process.{fresh_of as fresh_process}
use Rattle.semaphores.proofs.Orderly.{fresh_orderly}
use Rattle.table.specs.declared.configs.Config.{Config}
use Rattle.table.specs.declared.Table.{Table}
use Rattle.table.specs.Configuration.{good_of}
use Rattle.table.specs.Sound.{sound_of}
use Rattle.table.specs.Table.{fresh_of}
use Rattle.table.proofs.Fresh.{fresh_sound}
use Rattle.table.proofs.Parts.{sound_parts, parts_sound}
use Rattle.calls.proofs.Keeping.{Steady, Keeps}
use Rattle.starting.proofs.Keeping.{start_keeps, set_priority_keeps}
use Rattle.messages.proofs.Keeping.{send_keeps, receive_keeps, await_message_keeps, clear_message_keeps}
use Rattle.timers.proofs.Keeping.{schedule_keeps, cancel_schedule_keeps, shutdown_keeps, start_scheduler_keeps, read_time_keeps}
use Rattle.interrupts.proofs.Keeping.{enable_keeps, disable_keeps, await_interrupt_keeps, reset_interrupt_keeps, event_keeps}
use Rattle.holding.proofs.Keeping.{request_keeps, release_keeps}
use Rattle.ticking.proofs.Keeping.{tick_keeps, ticks_keeps}
use Rattle.pooling.proofs.Keeping.{init_pool_keeps, pool_check_keeps, get_pool_keeps, put_pool_keeps}
use Rattle.rtms.specs.Calls.{Call, START, SETPRIORITY, SEND, RECEIVE, AWAITMESSAGE, CLEARMESSAGE, SCHEDULE, CANCELSCHEDULE, SHUTDOWN, STARTSCHEDULER, READTIME, ENABLE, DISABLE, AWAITINTERRUPT, RESETINT, EVENT, REQSEMA, RELSEMA, INITPOOL, POOLCHECK, GETPOOL, PUTPOOL, TICK, TICKS, effect_of, guarded_of, done_by}
use Rattle.runs.specs.Runs.{leaves, after_of, run_of}

-- a fresh table of a good configuration stands so
pub fresh_steady : (c : Config) → good_of c ≡ true → Steady (fresh_of c)
unfolding fresh_of filled_of
fresh_steady c good = record {
  processes = length-replicate 12 fresh_process;
  places = length_packed no_order 64 [];
  parts = sound_parts (fresh_of c) (fresh_sound c good);
  orderly = fresh_orderly;
}

-- every step leaves a steady table steady
pub effect_keeps : (call : Call) (t : Table) → Steady t → Keeps (effect_of call t)
effect_keeps (START level priority) t steady = start_keeps t level priority steady
effect_keeps (SETPRIORITY caller priority) t steady = set_priority_keeps t caller priority steady
effect_keeps (SEND caller receiver condition m) t steady = send_keeps t caller receiver condition m steady
effect_keeps (RECEIVE caller) t steady = receive_keeps t caller steady
effect_keeps (AWAITMESSAGE caller) t steady = await_message_keeps t caller steady
effect_keeps (CLEARMESSAGE caller receiver) t steady = clear_message_keeps t caller receiver steady
effect_keeps (SCHEDULE caller new) t steady = schedule_keeps t caller new steady
effect_keeps (CANCELSCHEDULE caller sender receiver) t steady = cancel_schedule_keeps t caller sender receiver steady
effect_keeps (SHUTDOWN caller) t steady = shutdown_keeps t caller steady
effect_keeps STARTSCHEDULER t steady = start_scheduler_keeps t steady
effect_keeps (READTIME caller) t steady = read_time_keeps t caller steady
effect_keeps (ENABLE caller input) t steady = enable_keeps t caller input steady
effect_keeps (DISABLE caller input) t steady = disable_keeps t caller input steady
effect_keeps (AWAITINTERRUPT caller) t steady = await_interrupt_keeps t caller steady
effect_keeps (RESETINT caller input) t steady = reset_interrupt_keeps t caller input steady
effect_keeps (EVENT input) t steady = event_keeps t input steady
effect_keeps (REQSEMA caller asked) t steady = request_keeps t caller asked steady
effect_keeps (RELSEMA caller given) t steady = release_keeps t caller given steady
effect_keeps (INITPOOL caller) t steady = init_pool_keeps t caller steady
effect_keeps (POOLCHECK caller stated) t steady = pool_check_keeps t caller stated steady
effect_keeps (GETPOOL caller offset count own) t steady = get_pool_keeps t caller offset count own steady
effect_keeps (PUTPOOL caller offset count given) t steady = put_pool_keeps t caller offset count (length given) steady
effect_keeps TICK t steady = unfold Keeps in tick_keeps t steady
effect_keeps (TICKS n) t steady = unfold Keeps in ticks_keeps n t steady

-- a steady table shows no break
pub steady_sound : (t : Table) → Steady t → sound_of t ≡ true
steady_sound t steady = parts_sound t steady.parts

-- so a call of it does what it does where there is none
pub steady_done : (call : Call) (t : Table) → Steady t → done_by call t ≡ effect_of call t
unfolding guarded_of
steady_done call t steady = rw (steady_sound t steady)

-- and leaves it steady
pub step_steady : (call : Call) (t : Table) → Steady t → Steady (leaves call t)
unfolding Keeps
step_steady call t steady = subst Keeps (sym (steady_done call t steady)) (effect_keeps call t steady)

-- and so do calls one after the other
pub steps_steady : (steps : List Call) (t : Table) → Steady t → Steady (after_of steps t)
unfolding after_of
steps_steady [] t steady = steady
steps_steady (call ∷ steps) t steady = steps_steady steps (leaves call t) (step_steady call t steady)

-- every table of a run is steady
pub run_steady : (c : Config) → good_of c ≡ true → (steps : List Call) → Steady (run_of c steps)
run_steady c good steps = steps_steady steps (fresh_of c) (fresh_steady c good)
