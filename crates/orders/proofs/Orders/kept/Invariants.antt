use mathlib.Core.Path.{◌≡◌}
use mathlib.Core.Bool.{Bool}
use Prim.Native.Nat.{ℕ}
use lib.ListN.{take}
use Rattle.common.specs.Filled.{filled_of}
use Rattle.orders.specs.declared.Order.{Order}
use Rattle.orders.specs.Orders.{no_order, kept_from, Decides}
use Rattle.orders.proofs.Orders.kept.Given as goal

abbrev pub invariant-loop-at : goal.invariant-loop-at
invariant-loop-at g l =
    (test : ℕ → Order → Bool) → Decides (goal.F-post g l.stays) test → l.kept.list ≡ filled_of 64 no_order (kept_from test 0 (take l.at l.order-items))
