use Rattle.std.proofs.Common.{rules}
use Rattle.table.specs.Wakes.{no_wakes_of}
use Rattle.timers.specs.Timers.{shutdown_of}
use Rattle.timers.proofs.shutdown.Goals as goal

pub returns : goal.returns
unfolding shutdown_of
returns c = rw (← c.may_call-checked.ensures) (c.obeyed.ensures _ (λ lent left said passed is_lent ran. search (rules, is_lent)))
