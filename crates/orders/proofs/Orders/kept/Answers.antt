use mathlib.Core.Path.{◌∙◌, ap, sym}
use Prim.Native.Nat.{◌<◌}
use native.Mathlib.Omega.{arith}
use lib.ListN.{length}
use lib.Seq.{take_all}
use Rattle.common.specs.Filled.{filled_of}
use Rattle.common.proofs.Filling.{push_filled}
use Rattle.orders.specs.Orders.{no_order, orders_of, kept_from}
use Rattle.orders.proofs.Walks.{keeps_more, keeps_same}
use Rattle.orders.proofs.Orders.kept.Goals.{then-stays, else-stays}
use Rattle.orders.proofs.Orders.kept.Goals as goal

pub loop-at-init : goal.loop-at-init
unfolding kept_from
loop-at-init g c = λ test decides. rw c.none-kept.ensures

pub loop-at-preserved : goal.loop-at-preserved
loop-at-preserved g c = λ test decides.
    let start = c in
    let loop = c.loop-at in
    let items = c.standing-order-items.result.now in
    let within : loop.at < length items = c.loop-at-test.true in
    let decided = decides _ _ _ c.stays.ensures in
    elim c.if-stays.branch [
      | then-stays w ↦
          rw (w.kept-is, w.put.ensures, loop.invariant test decides, push_filled 64 no_order)
          (ap (filled_of 64 no_order) (sym (keeps_more test items loop.at _ within (sym decided ∙ w.if-stays.true))))
      | else-stays w ↦
          rw (w.kept-is, loop.invariant test decides)
          (ap (filled_of 64 no_order) (sym (keeps_same test items loop.at _ within (sym decided ∙ w.if-stays.false))))
    ]

pub returns : goal.returns
returns g c = λ test decides.
    let items = c.standing-order-items in
    let all = take_all c.loop-at.at items.result.now (omega (arith, c.loop-at-test.false)) ∙ items.ensures in
    rw (c.loop-at.invariant test decides) (ap (λ l. orders_of (kept_from test 0 l)) all)
