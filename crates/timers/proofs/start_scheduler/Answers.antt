use mathlib.Core.Path.{◌∙◌}
use Rattle.calls.proofs.Obeying.{outcome_alone}
use Rattle.timers.specs.Timers.{start_scheduler_of}
use Rattle.timers.proofs.start_scheduler.Goals as goal

pub returns : goal.returns
unfolding start_scheduler_of
returns c = c.answered.ensures ∙ rw (c.none.ensures, outcome_alone)
