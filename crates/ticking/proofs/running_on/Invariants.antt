use mathlib.Core.Path.{◌≡◌}
use Prim.Native.Nat.{◌+◌, ◌-◌, ◌*◌, ◌≤◌, min}
use lib.ListN.{length, take, drop}
use Rattle.orders.specs.Orders.{standing_of}
use Rattle.orders.specs.Advance.{next_due}
use Rattle.table.specs.Wakes.{no_wakes_of}
use Rattle.ticking.specs.Ticking.{ticks_of}
use Rattle.ticking.proofs.Quieting.{end_of}
use Rattle.ticking.proofs.Moments.{end_through}
use Rattle.ticking.proofs.running_on.Given as goal

-- the orders before `at` are through with the moment, and `nearest` is the next due moment of these alone
abbrev pub invariant-loop-left : goal.invariant-loop-left
invariant-loop-left l =
    (length l.processes ≡ 12)
    × (length l.orders.list.items ≡ 64)
    × (l.standing ≡ min l.orders.list.count 64)
    × (l.at ≤ l.standing)
    × (l.nearest ≡ next_due l.clock (take l.at (standing_of l.orders)))
    × (l.carried + 64 * l.left + (l.standing - l.at) ≤ 64 * l.count)
    × (end_through l.after l.left l.clock l.processes l.wakes l.orders l.carried (take l.at (standing_of l.orders)) (drop l.at (standing_of l.orders)) ≡ end_of no_wakes_of 0 (ticks_of l.count l.after))

abbrev pub decreases-loop-left : goal.decreases-loop-left
decreases-loop-left l =
    65 * l.left + (l.standing - l.at)
