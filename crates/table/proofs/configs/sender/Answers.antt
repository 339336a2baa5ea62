use borrow.Author.Tests.{eq-eqb, ne_eqb, le-leb, lt-leb}
use Rattle.table.specs.Configuration.{sender_of}
use Rattle.table.proofs.configs.sender.Goals as goal

pub returns-then-word-eq-MINUS_ONE : goal.returns-then-word-eq-MINUS_ONE
unfolding sender_of
returns-then-word-eq-MINUS_ONE c = rw (eq-eqb _ 65535 c.if-word-eq-MINUS_ONE.true)

pub returns-then-word-le11 : goal.returns-then-word-le11
unfolding sender_of
returns-then-word-le11 c = rw (ne_eqb _ 65535 c.if-word-eq-MINUS_ONE.false, le-leb _ 11 c.if-word-le11.true)

pub returns : goal.returns
unfolding sender_of
returns c = rw (ne_eqb _ 65535 c.if-word-eq-MINUS_ONE.false, lt-leb _ 11 c.if-word-le11.false)
