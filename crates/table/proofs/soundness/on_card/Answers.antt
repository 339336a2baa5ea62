use native.Mathlib.Omega.{arith}
use Rattle.table.proofs.Configured.{inputs_range}
use Rattle.table.specs.Sound.{on_card}
use Rattle.table.proofs.soundness.on_card.Goals as goal

pub overflow_sub-last : goal.overflow_sub-last
overflow_sub-last c = omega (arith, c.inputs.ensures, inputs_range c.args.config)

pub overflow_cast-last : goal.overflow_cast-last
overflow_cast-last c = omega (arith, c.inputs.ensures, inputs_range c.args.config)

pub returns : goal.returns
unfolding on_card
returns c = rw (c.count.ensures, c.except.ensures, c.run.ensures, c.inputs.ensures)
