use mathlib.Core.Path.{sym}
use Rattle.process.proofs.Places.{rest_none, rest_some}
use Rattle.process.proofs.buffers.Buffer.rest.Goals as goal

pub returns-then-self-eq0 : goal.returns-then-self-eq0
returns-then-self-eq0 c = sym (rest_none _ c.if-self-eq0.true)

pub returns : goal.returns
returns c = rw c.shifted.ensures (sym (rest_some _ c.if-self-eq0.false))
