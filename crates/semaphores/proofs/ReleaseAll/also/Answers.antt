use Rattle.semaphores.specs.Semaphores.{also_of}
use Rattle.semaphores.proofs.ReleaseAll.also.Goals.{in-Some, in-None}
use Rattle.semaphores.proofs.ReleaseAll.also.Goals as goal

pub returns-in_default : goal.returns-in_default
unfolding also_of
returns-in_default c = rw (← c.in_default.ensures)

pub returns : goal.returns
unfolding also_of
returns c =
    elim c.match-release-2.branch [
      | in-Some w ↦ rw (w.woken-is, w.push-woken.ensures, ← c.in-Ok.ensures, w.in-Some.is)
      | in-None w ↦ rw (w.woken-is, ← c.in-Ok.ensures, w.in-None.is)
    ]
