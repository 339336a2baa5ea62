use Rattle.std.proofs.Common.{rules}
use Rattle.table.specs.Wakes.{no_wakes_of}
use Rattle.timers.specs.Timers.{read_time_of}
use Rattle.timers.proofs.read_time.Goals as goal

pub returns : goal.returns
unfolding read_time_of
returns c = rw (← c.may_call-checked.ensures) (c.obeyed.ensures _ (λ lent left said passed is_lent ran. search (rules, is_lent)))
