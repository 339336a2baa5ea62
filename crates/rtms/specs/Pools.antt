-- Document 02, §1: the pool's bytes, which lie beside the table.
use Rattle.std.specs.Prelude.{List, ℕ, leb, length}
use Rattle.common.specs.Choice.{pick}
use Rattle.table.specs.declared.answers.Answer.{Answer}
use Rattle.table.specs.declared.answers.Answer.TheVariants.{BadConfig}
use Rattle.table.specs.declared.Outcome.{Outcome}
use Rattle.table.specs.declared.Table.{Table}
use Rattle.calls.specs.Effects.{Effect, refuse, outcome_of}
use Rattle.pooling.specs.Pooling.{pool_by}
use Rattle.rtms.specs.Calls.{Call, START, SETPRIORITY, SEND, RECEIVE, AWAITMESSAGE, CLEARMESSAGE, SCHEDULE, CANCELSCHEDULE, SHUTDOWN, STARTSCHEDULER, READTIME, ENABLE, DISABLE, AWAITINTERRUPT, RESETINT, EVENT, REQSEMA, RELSEMA, INITPOOL, POOLCHECK, GETPOOL, PUTPOOL, TICK, TICKS, done_by}

-- A host lends the pool with GETPOOL and PUTPOOL. One that is shorter than the configured size is a break of the table, and refused as the others are.
unfoldable pub lent_of : Call → Table → List ℕ → Effect
lent_of call t pool = pick (leb t.config.pool (length pool)) (done_by call t) (refuse t BadConfig)

-- and the result
unfoldable pub lent_answer : Call → Table → List ℕ → Outcome
lent_answer call t pool = outcome_of (lent_of call t pool)

-- what a call would put into the pool: PUTPOOL alone something, its data from its offset on
pub data Put : Type 0 where
  puts : ℕ → List ℕ → Put
  nothing : Put

abbrev pub puts_of : Call → Put
puts_of (PUTPOOL caller offset count given) = puts offset given
puts_of (INITPOOL caller) = nothing
puts_of (POOLCHECK caller stated) = nothing
puts_of (GETPOOL caller offset count own) = nothing
puts_of (START level priority) = nothing
puts_of (SETPRIORITY caller priority) = nothing
puts_of (SEND caller receiver condition m) = nothing
puts_of (RECEIVE caller) = nothing
puts_of (AWAITMESSAGE caller) = nothing
puts_of (CLEARMESSAGE caller receiver) = nothing
puts_of (SCHEDULE caller new) = nothing
puts_of (CANCELSCHEDULE caller sender receiver) = nothing
puts_of (SHUTDOWN caller) = nothing
puts_of STARTSCHEDULER = nothing
puts_of (READTIME caller) = nothing
puts_of (ENABLE caller input) = nothing
puts_of (DISABLE caller input) = nothing
puts_of (AWAITINTERRUPT caller) = nothing
puts_of (RESETINT caller input) = nothing
puts_of (EVENT input) = nothing
puts_of (REQSEMA caller number) = nothing
puts_of (RELSEMA caller number) = nothing
puts_of TICK = nothing
puts_of (TICKS n) = nothing

-- the pool after a call with such an answer
abbrev pub after_put : Put → Answer → List ℕ → List ℕ
after_put (puts offset given) answer pool = pool_by answer pool offset given
after_put nothing answer pool = pool

abbrev pub pooled_by : Call → Answer → List ℕ → List ℕ
pooled_by call answer pool = after_put (puts_of call) answer pool
