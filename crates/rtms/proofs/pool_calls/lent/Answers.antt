use Rattle.rtms.proofs.pool_calls.lent.Goals as goal

pub returns : goal.returns
returns c = rw c.sound.ensures
