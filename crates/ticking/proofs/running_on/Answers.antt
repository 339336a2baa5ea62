use mathlib.Core.Path.{◌≡◌, ◌∙◌, refl, ap, ap₂, sym}
use mathlib.Core.Bool.{Bool, true, false, ◌&&◌, ◌||◌}
use Prim.Native.Nat.{ℕ, ◌+◌, ◌-◌, ◌*◌, ◌<◌, ◌≤◌, min}
use native.Mathlib.Omega.{arith}
use borrow.Author.Rules.{rules}
use borrow.Author.Tests.{ltb-true, ltb-false, le-ltb}
use lib.Dec.{ltb}
use lib.ListN.{length, get_or, take, length-set}
use Rattle.common.specs.Choice.{pick}
use Rattle.common.proofs.Cases.{by_test, by_pick, both_true, never_both}
use Rattle.common.proofs.Lists.{of_map}
use Rattle.orders.specs.declared.Order.{Order}
use Rattle.orders.specs.declared.Orders.{Orders}
use Rattle.orders.specs.Orders.{standing_of}
use Rattle.orders.specs.Advance.{due_at, next_due, next_due_of}
use Rattle.orders.proofs.Places.{changed_before, left_before, left_fewer, length_without_place}
use Rattle.orders.proofs.Walks.{next_behind}
use Rattle.table.specs.Sound.{no_order}
use Rattle.calls.specs.Outcomes.{carries_number}
use Rattle.ticking.specs.Ticking.{ticks_of}
use Rattle.ticking.proofs.Quieting.{next_later, end_of, end_all}
use Rattle.ticking.proofs.Moments.{at_now, orders_after, after_some, after_none, processes_after, wakes_after, length_after, served_record, served_wakes, served_quiet, unserved_record, unserved_wakes, turn_stays, turn_leaves, taken_all, through_begin, through_moment, through_end}
use Rattle.ticking.proofs.running_on.Goals.{After-min-passed, After-one_if, Start, Then-is_due-receiver, then-is_due-receiver+then-is_handed, then-is_due-receiver+else-is_handed, else-is_due-receiver, then-carried-gt0, else-carried-gt0}
use Rattle.ticking.proofs.running_on.Goals as goal

whole : (c : Start) → length c.args.table.processes ≡ 12
whole c = search (rules, of_map)

long : (c : Start) → length c.args.table.orders.list.items ≡ 64
long c = search (rules, of_map)

-- where it is due for a level that there is, that is one of the processes
within : (c : Then-is_due-receiver) → (get_or c.loop-left.orders.list.items c.loop-left.at no_order).receiver < 12
within c =
    let receiver = (get_or c.loop-left.orders.list.items c.loop-left.at no_order).receiver in
    ltb-true receiver 12 (both_true c.is_due-is_due.result (ltb receiver 12) c.if-is_due-receiver.true).1

-- its message reaches whom it should, and wakes whom it should
served : (c : After-one_if)
    → let loop = c.loop-left in let places = c.args.table.config.places in let order : Order = get_or loop.orders.list.items loop.at no_order in
    (c.if-is_due-receiver.processes ≡ processes_after places loop.clock order loop.processes)
    × (c.if-is_due-receiver.wakes ≡ wakes_after places loop.clock order loop.processes loop.wakes)
served c =
    let loop = c.loop-left in
    let places = c.args.table.config.places in
    let order = get_or loop.orders.list.items loop.at no_order in
    let due : (b : Bool) → c.is_due-is_due.result && ltb order.receiver 12 ≡ b → due_at loop.clock order && ltb order.receiver 12 ≡ b =
    λ b holds. ap (λ d. d && ltb order.receiver 12) (sym c.is_due-is_due.ensures) ∙ holds in
    elim c.if-is_due-receiver.branch [
      | then-is_due-receiver+then-is_handed w ↦
          let due = due true w.if-is_due-receiver.true in (
            w.processes-is ∙ served_record places loop.clock order loop.processes _ loop.invariant.0 due _ _ w.deliver-fate.ensures,
            w.wakes-is ∙ w.pushed-wakes.ensures ∙ served_wakes places loop.clock order loop.processes _ loop.invariant.0 due _ _ w.deliver-fate.ensures loop.wakes,
          )
      | then-is_due-receiver+else-is_handed w ↦
          let due = due true w.if-is_due-receiver.true in (
            w.processes-is ∙ served_record places loop.clock order loop.processes _ loop.invariant.0 due _ _ w.deliver-fate.ensures,
            w.wakes-is
                ∙ served_quiet places loop.clock order loop.processes _ loop.invariant.0 due _ _ w.deliver-fate.ensures loop.wakes
                (sym w.is_handed.ensures ∙ w.if-is_handed.false),
          )
      | else-is_due-receiver w ↦ (
        w.processes-is ∙ unserved_record places loop.clock order loop.processes loop.invariant.0 (due false w.if-is_due-receiver.false),
        w.wakes-is ∙ unserved_wakes places loop.clock order loop.processes loop.invariant.0 (due false w.if-is_due-receiver.false) loop.wakes,
      )
    ]

served_whole : (c : After-one_if) → length c.if-is_due-receiver.processes ≡ 12
served_whole c =
    let loop = c.loop-left in
    ap length (served c).0 ∙ length_after c.args.table.config.places loop.clock (get_or loop.orders.list.items loop.at no_order) loop.processes ∙ loop.invariant.0

few : (b : Bool) → pick b 1 0 ≤ 1
few b = by_pick (λ n. n ≤ 1) b 1 0 (omega arith) (omega arith)

-- a tick more is to come where no order of this one is left
more : (left at standing : ℕ) → ltb 0 left || ltb at standing ≡ true → standing ≤ at → 0 < left
more left at standing goes over =
    by_test (ltb 0 left)
    (λ some. ltb-true 0 left some)
    (λ none. absurd (never_both (sym (rw none) ∙ goes) (le-ltb at standing over)))

-- the next moment is within them
reached : (c : After-min-passed) → c.min-passed.result < c.loop-left.left
reached c =
    let loop = c.loop-left in
    omega (arith, c.min-passed.ensures, more loop.left loop.at loop.standing c.loop-left-test.true c.if-at-standing.false)

-- and so many less are to come then
fewer : (left m standing at : ℕ) → m < left → standing ≤ 64 → 65 * (left - (m + 1)) + (standing - 0) < 65 * left + (standing - at)
fewer left m standing at within few = omega arith

-- no tick is to come, and no order is left
ends : (left at standing : ℕ) → ltb 0 left || ltb at standing ≡ false → (left ≤ 0) × (standing ≤ at)
ends left at standing stops =
    by_test (ltb 0 left)
    (λ some. absurd (never_both (rw some) stops))
    (λ none. (ltb-false 0 left none, ltb-false at standing (sym (rw none) ∙ stops)))

pub loop-left-init : goal.loop-left-init
unfolding next_due_of
loop-left-init c =
    let start = c in
    let all : min start.args.table.orders.list.count 64 ≤ c.min-standing.result = omega (arith, c.min-standing.ensures) in (
      whole (goal.at.loop-left-init c).Start,
      long (goal.at.loop-left-init c).Start,
      c.min-standing.ensures,
      omega arith,
      c.next_due-nearest.ensures ∙ ap (next_due start.args.table.clock) (sym (taken_all start.args.table.orders c.min-standing.result all)),
      omega arith,
      through_begin start.args.table c.min-standing.result start.args.count _ all ∙ ap (λ wakes. end_of wakes 0 (ticks_of start.args.count start.args.table)) c.none-wakes.ensures,
    )

pub overflow_cast-process : goal.overflow_cast-process
overflow_cast-process c = omega (arith, within (goal.at.overflow_cast-process c).Then-is_due-receiver)

pub offset_bounds-processes-receiver : goal.offset_bounds-processes-receiver
offset_bounds-processes-receiver c = omega (arith, within (goal.at.offset_bounds-processes-receiver c).Then-is_due-receiver)

pub bounds-processes-receiver : goal.bounds-processes-receiver
bounds-processes-receiver c = omega (arith, within (goal.at.bounds-processes-receiver c).Then-is_due-receiver, c.loop-left.invariant.0)

pub overflow_cast-processes : goal.overflow_cast-processes
overflow_cast-processes c = omega (arith, within (goal.at.overflow_cast-processes c).Then-is_due-receiver)

pub offset_bounds-processes-receiver-then-is_due-receiver : goal.offset_bounds-processes-receiver-then-is_due-receiver
offset_bounds-processes-receiver-then-is_due-receiver c = omega (arith, within (goal.at.offset_bounds-processes-receiver-then-is_due-receiver c).Then-is_due-receiver)

pub bounds-processes-receiver-then-is_due-receiver : goal.bounds-processes-receiver-then-is_due-receiver
bounds-processes-receiver-then-is_due-receiver c = omega (arith, within (goal.at.bounds-processes-receiver-then-is_due-receiver c).Then-is_due-receiver, c.loop-left.invariant.0)

pub overflow_add-carried : goal.overflow_add-carried
overflow_add-carried c = omega (arith, c.one_if.ensures, few c.is_due-is_due.result, c.loop-left.invariant.5, c.if-at-standing.true)

pub loop-left-preserved-in-Some : goal.loop-left-preserved-in-Some
loop-left-preserved-in-Some c =
    let one = c in
    let loop = c.loop-left in
    let start = c in
    let here = c.if-at-standing.true in
    let next = c.in-Some.next in
    let stands : loop.at < min loop.orders.list.count 64 = omega (arith, loop.invariant.2, here) in
    let reaches = served (goal.at.loop-left-preserved-in-Some c).After-one_if in (
      served_whole (goal.at.loop-left-preserved-in-Some c).After-one_if,
      length-set loop.orders.list.items loop.at _ ∙ loop.invariant.1,
      loop.invariant.2,
      omega (arith, here),
      c.min-nearest.ensures
          ∙ ap₂ min loop.invariant.4 c.until.ensures
          ∙ sym (next_behind loop.clock (take loop.at (standing_of loop.orders)) next)
          ∙ ap (next_due loop.clock) (sym (changed_before loop.orders loop.at loop.invariant.1 stands next)),
      omega (arith, one.one_if.ensures, few one.is_due-is_due.result, loop.invariant.5, here),
      rw (reaches.0, reaches.1, one.one_if.ensures, one.is_due-is_due.ensures)
          (turn_stays start.args.table loop.left loop.clock loop.processes loop.wakes loop.orders loop.carried loop.at no_order loop.invariant.1 stands
          next c.in-Some.ensures
          ∙ loop.invariant.6),
    )

pub loop-left-preserved-in_default : goal.loop-left-preserved-in_default
loop-left-preserved-in_default c =
    let one = c in
    let loop = c.loop-left in
    let start = c in
    let here = c.if-at-standing.true in
    let left = c.without_place-orders.ensures in
    let stands : loop.at < min loop.orders.list.count 64 = omega (arith, loop.invariant.2, here) in
    let reaches = served (goal.at.loop-left-preserved-in_default c).After-one_if in (
      served_whole (goal.at.loop-left-preserved-in_default c).After-one_if,
      ap (λ (o : Orders). length o.list.items) left ∙ length_without_place loop.at loop.orders,
      ap (λ n. n - 1) loop.invariant.2 ∙ sym (ap (λ (o : Orders). min o.list.count 64) left ∙ left_fewer loop.orders loop.at loop.invariant.1 stands),
      omega (arith, here),
      loop.invariant.4
          ∙ ap (next_due loop.clock)
          (sym (ap (λ (o : Orders). take loop.at (standing_of o)) left ∙ left_before loop.orders loop.at loop.invariant.1 stands)),
      omega (arith, one.one_if.ensures, few one.is_due-is_due.result, loop.invariant.5, here),
      rw (left, reaches.0, reaches.1, one.one_if.ensures, one.is_due-is_due.ensures)
          (turn_leaves start.args.table loop.left loop.clock loop.processes loop.wakes loop.orders loop.carried loop.at no_order loop.invariant.1 stands
          c.in_default.ensures
          ∙ loop.invariant.6),
    )

pub overflow_sub-left : goal.overflow_sub-left
overflow_sub-left c =
    let loop = c.loop-left in
    omega (arith, more loop.left loop.at loop.standing c.loop-left-test.true c.if-at-standing.false)

pub overflow_sub-nearest : goal.overflow_sub-nearest
overflow_sub-nearest c = omega (arith, next_later c.loop-left.clock (take c.loop-left.at (standing_of c.loop-left.orders)))

pub overflow_sub-left-else-at-standing : goal.overflow_sub-left-else-at-standing
overflow_sub-left-else-at-standing c = omega (arith, reached (goal.at.overflow_sub-left-else-at-standing c).After-min-passed)

pub loop-left-smaller : goal.loop-left-smaller
loop-left-smaller c = fewer c.loop-left.left c.min-passed.result c.loop-left.standing c.loop-left.at (reached (goal.at.loop-left-smaller c).After-min-passed) (omega (arith, c.loop-left.invariant.2))

pub loop-left-preserved : goal.loop-left-preserved
unfolding next_due
loop-left-preserved c =
    let loop = c.loop-left in
    let start = c in
    let passed = c.min-passed in
    let all : min loop.orders.list.count 64 ≤ loop.at = omega (arith, loop.invariant.2, c.if-at-standing.false) in
    let near = loop.invariant.4 ∙ ap (next_due loop.clock) (taken_all loop.orders loop.at all) in
    let within = reached (goal.at.loop-left-preserved c).After-min-passed in
    let before : passed.result < next_due loop.clock (standing_of loop.orders) = omega (arith, passed.ensures, near, next_later loop.clock (standing_of loop.orders)) in (
      loop.invariant.0,
      loop.invariant.1,
      loop.invariant.2,
      omega arith,
      refl,
      omega (arith, loop.invariant.5, loop.invariant.2, within),
      rw c.forward-clock.ensures
          (through_moment loop.orders loop.at all start.args.table loop.left loop.clock loop.processes loop.wakes loop.carried start.requires.0 start.requires.1 passed.result within before
          ∙ loop.invariant.6),
    )

pub returns : goal.returns
returns c =
    let loop = c.loop-left in
    let start = c in
    let over = ends loop.left loop.at loop.standing c.loop-left-test.false in
    let all : min loop.orders.list.count 64 ≤ loop.at = omega (arith, loop.invariant.2, over.1) in
    let orders : c.if-carried-gt0.orders ≡ orders_after loop.carried loop.orders (standing_of loop.orders) =
    elim c.if-carried-gt0.branch [
      | then-carried-gt0 w ↦
          w.orders-is ∙ w.without_place-orders-then-carried-gt0.ensures ∙ after_some loop.orders loop.carried w.if-carried-gt0.true
      | else-carried-gt0 w ↦ w.orders-is ∙ after_none loop.orders loop.carried w.if-carried-gt0.false
    ] in
    c.with_number.ensures
    ∙ ap (λ o. carries_number (at_now start.args.table loop.clock loop.processes o) loop.carried loop.wakes) orders
    ∙ through_end loop.orders loop.at all start.args.table loop.left loop.clock loop.processes loop.wakes loop.carried over.0
    ∙ loop.invariant.6
    ∙ end_all (ticks_of start.args.count start.args.table)
