use borrow.Author.Tests.{eq-eqb, ne_eqb}
use Rattle.table.specs.Configuration.{inputs_of}
use Rattle.table.proofs.configs.Config.inputs.Goals as goal

pub returns-then-self-eq8 : goal.returns-then-self-eq8
unfolding inputs_of
returns-then-self-eq8 c = rw (eq-eqb _ 8 c.if-self-eq8.true)

pub returns-else-self-eq8 : goal.returns-else-self-eq8
unfolding inputs_of
returns-else-self-eq8 c = rw (ne_eqb _ 8 c.if-self-eq8.false)
