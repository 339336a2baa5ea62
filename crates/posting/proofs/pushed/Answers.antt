use Rattle.posting.proofs.pushed.Goals as goal

pub returns-in-Handed : goal.returns-in-Handed
returns-in-Handed c = rw c.in-Handed.is c.push.ensures
