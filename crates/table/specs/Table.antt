-- Document 01, "Configuration": the fresh table; and "Answer numbers": how a call is refused.
use Rattle.std.specs.Prelude.{false, replicate}
use Rattle.inputs.specs.InputSet.{empty_of}
use Rattle.orders.specs.Orders.{none_of}
use Rattle.pool.specs.Control.{fresh_of as fresh_pool}
use Rattle.process.specs.Process.{fresh_of as fresh_process}
use Rattle.semaphores.specs.Semaphores.{fresh_of as fresh_semaphores}
use Rattle.table.specs.declared.answers.Answer.{Answer}
use Rattle.table.specs.declared.configs.Config.{Config}
use Rattle.table.specs.declared.Table.{Table}
use Rattle.table.specs.declared.Outcome.{Outcome}
use Rattle.table.specs.declared.Said.{Said}
use Rattle.table.specs.declared.Shown.TheVariants.{Nothing}
use Rattle.table.specs.Wakes.{no_wakes_of}

-- "Fresh: every process INACT, priority 32, buffers and orders empty, semaphores free, marks, masks, latches and switch clear, scheduler stopped."
-- And nobody uses the pool.
unfoldable pub fresh_of : Config → Table
fresh_of c = record {
  config = c;
  clock = c.clock;
  scheduler = record { running = false; switch = false };
  processes = replicate 12 fresh_process;
  orders = none_of;
  semaphores = fresh_semaphores;
  mask = empty_of;
  latch = empty_of;
  pool = fresh_pool;
}

-- "A refusal carries no message (sixteen zeros), no inputs and .. no wakes", and leaves the table as it is. (Document 02, §3, has one that carries a number.)
unfoldable pub refused_of : Table → Answer → Outcome
refused_of t answer = record {
  answer = answer;
  shown = Nothing;
  wakes = no_wakes_of;
  table = t;
}

-- what an outcome says, without the table that it leaves
abbrev pub said_of : Outcome → Said
said_of o = record { answer = o.answer; shown = o.shown; wakes = o.wakes }
