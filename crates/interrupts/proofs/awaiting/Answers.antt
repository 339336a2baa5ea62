use borrow.Author.Tests.{eq-eqb, ne_eqb}
use Rattle.interrupts.specs.Interrupts.{awaiting_for}
use Rattle.interrupts.proofs.awaiting.Goals as goal

pub returns-then-count-eq0 : goal.returns-then-count-eq0
unfolding awaiting_for
returns-then-count-eq0 c =
    let test = c in
    let came = test in
    rw (
      ← came.run-own.ensures,
      ← came.both.ensures,
      ← came.both-came.ensures,
      ← test.count.ensures,
      eq-eqb _ 0 test.if-count-eq0.true,
      c.alone.ensures,
      c.moved-process.ensures,
    )

pub returns-else-count-eq0 : goal.returns-else-count-eq0
unfolding awaiting_for
returns-else-count-eq0 c =
    let came = c in
    rw (
      ← came.run-own.ensures,
      ← came.both.ensures,
      ← came.both-came.ensures,
      ← c.count.ensures,
      ne_eqb _ 0 c.if-count-eq0.false,
    )
