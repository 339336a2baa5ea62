use Rattle.std.proofs.Common.{sym, ◌∙◌, arith}
use Rattle.semaphores.specs.Semaphores.{checked_of}
use Rattle.semaphores.proofs.Numbers.{usable_below}
use Rattle.semaphores.proofs.checked.Goals as goal

pub overflow_cast-result : goal.overflow_cast-result
overflow_cast-result c = omega (arith, usable_below _ (sym c.usable.ensures ∙ c.if-usable.true))

pub returns-then-usable : goal.returns-then-usable
unfolding checked_of
returns-then-usable c = rw (← c.usable.ensures, c.if-usable.true)

pub returns-else-usable : goal.returns-else-usable
unfolding checked_of
returns-else-usable c = rw (← c.usable.ensures, c.if-usable.false)
