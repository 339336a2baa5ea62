use mathlib.Core.Path.{refl, ap}
use Rattle.calls.specs.Levels.{with_orders}
use Rattle.timers.specs.Timers.{ordered}
use Rattle.timers.proofs.entered.Goals as goal

pub returns-in-Ok : goal.returns-in-Ok
unfolding ordered
returns-in-Ok c = rw c.in-Ok.ensures (record { says = c.done.ensures; leaves = refl })

pub returns-in-Err : goal.returns-in-Err
unfolding ordered
returns-in-Err c =
    let refused = c.in-Err.ensures in
    rw refused.0 (record { says = rw (c.said.ensures, c.none.ensures); leaves = ap (with_orders c.args.table.now) refused.1 })
