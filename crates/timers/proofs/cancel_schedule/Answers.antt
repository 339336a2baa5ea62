use Rattle.std.proofs.Common.{rules}
use Rattle.timers.specs.Timers.{cancel_schedule_of}
use Rattle.timers.proofs.cancel_schedule.Goals as goal

pub returns : goal.returns
unfolding cancel_schedule_of
returns c = rw (← c.may_call-checked.ensures) (c.obeyed.ensures _ (λ lent left said passed is_lent ran. search (rules, is_lent)))
