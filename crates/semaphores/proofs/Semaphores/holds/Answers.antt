use Rattle.std.proofs.Common.{◌∙◌, sym, arith}
use Rattle.semaphores.specs.Semaphores.{holds_of, holder_of}
use Rattle.semaphores.proofs.Numbers.{usable_below}
use Rattle.semaphores.proofs.Semaphores.holds.Goals as goal

pub bounds-self-from : goal.bounds-self-from
bounds-self-from c = omega (arith, usable_below _ (sym c.usable.ensures ∙ c.if-usable.true), c.from.ensures)

pub returns-then-usable : goal.returns-then-usable
unfolding holds_of holder_of
returns-then-usable c = rw (c.from.ensures, ← c.usable.ensures, c.if-usable.true)

pub returns-else-usable : goal.returns-else-usable
unfolding holds_of
returns-else-usable c = rw (← c.usable.ensures, c.if-usable.false)
