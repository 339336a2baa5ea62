use Rattle.process.specs.Marks.{tell_of}
use Rattle.process.proofs.marking.Marks.tell.Goals as goal

pub returns-then-self : goal.returns-then-self
unfolding tell_of
returns-then-self c = rw c.if-self.true

pub returns-then-self-2 : goal.returns-then-self-2
unfolding tell_of
returns-then-self-2 c = rw (c.if-self.false, c.if-self-2.true)

pub returns : goal.returns
unfolding tell_of
returns c = rw (c.if-self.false, c.if-self-2.false)
