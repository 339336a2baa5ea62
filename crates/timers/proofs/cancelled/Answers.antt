use mathlib.Core.Path.{refl}
use Rattle.timers.specs.Timers.{cancelled_of}
use Rattle.timers.proofs.cancelled.Goals as goal

pub returns-in-Ok : goal.returns-in-Ok
unfolding cancelled_of
returns-in-Ok c = rw (← c.sender-from.ensures, ← c.receiver-to.ensures, ← c.in-Ok.ensures) (record { says = c.done.ensures; leaves = refl })

pub returns-in-Err : goal.returns-in-Err
unfolding cancelled_of
returns-in-Err c =
    rw (← c.sender-from.ensures, ← c.receiver-to.ensures, ← c.in-Err.ensures, ← c.into.ensures)
    (record { says = rw (c.said.ensures, c.none.ensures); leaves = refl })
