-- The process at a level, and a table with one part changed.
use Rattle.std.specs.Prelude.{List, ℕ, get_or, set}
use Rattle.day.specs.declared.TimeOfDay.{TimeOfDay}
use Rattle.inputs.specs.declared.InputSet.{InputSet}
use Rattle.orders.specs.declared.Orders.{Orders}
use Rattle.pool.specs.declared.Control.{Control}
use Rattle.process.specs.declared.Process.{Process}
use Rattle.process.specs.declared.states.Cause.{Cause}
use Rattle.process.specs.Process.{fresh_of, moved_of}
use Rattle.semaphores.specs.declared.Semaphores.{Semaphores}
use Rattle.table.specs.declared.Scheduler.{Scheduler}
use Rattle.table.specs.declared.Table.{Table}

-- one that was never started where there is no such level
unfoldable pub process_at : List Process → ℕ → Process
process_at processes level = get_or processes level fresh_of

-- a table's process
abbrev pub process_of : Table → ℕ → Process
process_of t level = process_at t.processes level

-- everything else stays as it is

abbrev pub with_processes : Table → List Process → Table
with_processes t processes = record {
  config = t.config;
  clock = t.clock;
  scheduler = t.scheduler;
  processes = processes;
  orders = t.orders;
  semaphores = t.semaphores;
  mask = t.mask;
  latch = t.latch;
  pool = t.pool;
}

abbrev pub with_process : Table → ℕ → Process → Table
with_process t level process = with_processes t (set t.processes level process)

abbrev pub with_clock : Table → TimeOfDay → Table
with_clock t clock = record {
  config = t.config;
  clock = clock;
  scheduler = t.scheduler;
  processes = t.processes;
  orders = t.orders;
  semaphores = t.semaphores;
  mask = t.mask;
  latch = t.latch;
  pool = t.pool;
}

abbrev pub with_scheduler : Table → Scheduler → Table
with_scheduler t scheduler = record {
  config = t.config;
  clock = t.clock;
  scheduler = scheduler;
  processes = t.processes;
  orders = t.orders;
  semaphores = t.semaphores;
  mask = t.mask;
  latch = t.latch;
  pool = t.pool;
}

abbrev pub with_orders : Table → Orders → Table
with_orders t orders = record {
  config = t.config;
  clock = t.clock;
  scheduler = t.scheduler;
  processes = t.processes;
  orders = orders;
  semaphores = t.semaphores;
  mask = t.mask;
  latch = t.latch;
  pool = t.pool;
}

abbrev pub with_semaphores : Table → Semaphores → Table
with_semaphores t semaphores = record {
  config = t.config;
  clock = t.clock;
  scheduler = t.scheduler;
  processes = t.processes;
  orders = t.orders;
  semaphores = semaphores;
  mask = t.mask;
  latch = t.latch;
  pool = t.pool;
}

abbrev pub with_mask : Table → InputSet → Table
with_mask t mask = record {
  config = t.config;
  clock = t.clock;
  scheduler = t.scheduler;
  processes = t.processes;
  orders = t.orders;
  semaphores = t.semaphores;
  mask = mask;
  latch = t.latch;
  pool = t.pool;
}

abbrev pub with_latch : Table → InputSet → Table
with_latch t latch = record {
  config = t.config;
  clock = t.clock;
  scheduler = t.scheduler;
  processes = t.processes;
  orders = t.orders;
  semaphores = t.semaphores;
  mask = t.mask;
  latch = latch;
  pool = t.pool;
}

abbrev pub with_pool : Table → Control → Table
with_pool t pool = record {
  config = t.config;
  clock = t.clock;
  scheduler = t.scheduler;
  processes = t.processes;
  orders = t.orders;
  semaphores = t.semaphores;
  mask = t.mask;
  latch = t.latch;
  pool = pool;
}

-- the process at a level in the state that a cause leads to
abbrev pub moving : Table → ℕ → Cause → Table
moving t level cause = with_process t level (moved_of (process_of t level) cause)
