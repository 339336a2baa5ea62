use mathlib.Core.Path.{◌∙◌, sym}
use native.Mathlib.Omega.{arith}
use borrow.Author.Tests.{eq-eqb, ne_eqb}
use Rattle.table.specs.Configuration.{receiver_of}
use Rattle.table.proofs.Configured.{configured_level}
use Rattle.table.proofs.configs.Config.receiver.Goals as goal

pub returns-then-word-eq-MINUS_ONE : goal.returns-then-word-eq-MINUS_ONE
unfolding receiver_of
returns-then-word-eq-MINUS_ONE c = rw (eq-eqb _ 65535 c.if-word-eq-MINUS_ONE.true)

pub overflow_cast-result : goal.overflow_cast-result
overflow_cast-result c = omega (arith, configured_level _ _ (sym c.has_level.ensures ∙ c.if-has_level.true))

pub returns-then-has_level : goal.returns-then-has_level
unfolding receiver_of
returns-then-has_level c = rw (ne_eqb _ 65535 c.if-word-eq-MINUS_ONE.false, ← c.has_level.ensures, c.if-has_level.true)

pub returns : goal.returns
unfolding receiver_of
returns c = rw (ne_eqb _ 65535 c.if-word-eq-MINUS_ONE.false, ← c.has_level.ensures, c.if-has_level.false)
