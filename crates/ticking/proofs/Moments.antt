-- A run of ticks, order by order: what is left of a moment that is carried out in part, and of the ticks behind it. Assumes nothing.
use mathlib.Core.Path.{◌≡◌, ◌∙◌, refl, ap, ap₂, sym}
use mathlib.Core.Bool.{true, false, ◌&&◌}
use mathlib.Core.List.{List, [], ◌∷◌, ◌++◌, append-nil, append_assoc}
use Prim.Native.Nat.{ℕ, suc, ◌+◌, ◌-◌, ◌<◌, ◌≤◌, min}
use native.Mathlib.Omega.{arith}
use native.Mathlib.Nat.{add-zero}
use lib.Dec.{eqb, ltb}
use lib.ListN.{length, get_or, take, drop, set, length-take, drop_of_length-le}
use lib.Seq.{take_all, set-get_or}
use borrow.Author.Tests.{eqb-true, eqb-false, eq-eqb, ne_eqb, ltb-true, ltb-false}
use Rattle.std.specs.Prelude.{Some, None}
use Rattle.common.specs.Choice.{pick}
use Rattle.common.specs.Filled.{items_of}
use Rattle.common.specs.Fold.{fold_of}
use Rattle.common.specs.Keep.{keep_of}
use Rattle.common.proofs.Cases.{by_test, by_pick, both_true}
use Rattle.common.proofs.Filling.{standing_short, standing_filled}
use Rattle.common.proofs.Fold.{fold_append}
use Rattle.day.specs.declared.TimeOfDay.{TimeOfDay}
use Rattle.day.specs.TimeOfDay.{forward_of}
use Rattle.orders.specs.declared.Order.{Order}
use Rattle.orders.specs.declared.Orders.{Orders}
use Rattle.orders.specs.Orders.{no_order, standing_of, orders_of}
use Rattle.orders.specs.Advance.{due_at, due_of, due_count_of, onward_of, left_of, lefts_of, advancing, advance_of, next_due, next_due_of, without_place_of}
use Rattle.orders.proofs.Places.{standing_split, changed_to, changed_before, changed_behind, left_before, left_behind, without_beyond}
use Rattle.orders.proofs.Tables.{advance_orders}
use Rattle.posting.specs.declared.Origin.TheVariants.{Timed}
use Rattle.posting.specs.Posting.{is_handed, delivered_to, pushed_for, one_of, all_of}
use Rattle.posting.proofs.Stepping.{pushed_none, one_record, one_wake}
use Rattle.posting.proofs.Waking.{length_one, one_out, one_wakes_out}
use Rattle.process.specs.Process.{Delivery, delivery}
use Rattle.process.specs.declared.Fate.{Fate}
use Rattle.process.specs.declared.Process.{Process}
use Rattle.table.specs.declared.Outcome.{Outcome}
use Rattle.table.specs.declared.Table.{Table}
use Rattle.table.specs.Wakes.{Wakes, wake_push_of}
use Rattle.calls.specs.Levels.{with_clock, with_processes, with_orders}
use Rattle.calls.specs.Outcomes.{carries_number}
use Rattle.ticking.specs.Ticking.{letter_of, carried_out, carrying_out, ticks_of}
use Rattle.ticking.proofs.Quieting.{end_of, stride_turn, end_none}

-- the table at some moment of the run: what ticks change lies apart from the table as it was
abbrev pub at_now : Table → TimeOfDay → List Process → Orders → Table
at_now t clock processes orders = with_orders (with_processes (with_clock t clock) processes) orders

-- the orders after so many were carried out: as they were where none was, else those that stand, in a table that is written anew
abbrev pub orders_after : ℕ → Orders → List Order → Orders
orders_after carried o l = pick (eqb carried 0) o (orders_of l)

-- where a run ends of which this is left: these orders of the moment, behind others that are through with it, and so many ticks
unfoldable pub end_through : Table → ℕ → TimeOfDay → List Process → Wakes → Orders → ℕ → List Order → List Order → Outcome
end_through t left now processes wakes o carried done rest =
    end_of (fold_of wake_push_of wakes (carried_out t.config.places (due_of now rest) processes).wakes) (carried + length (due_of now rest))
    (ticks_of left
    (at_now t now (carried_out t.config.places (due_of now rest) processes).processes
    (orders_after (carried + length (due_of now rest)) o (done ++ advancing now rest))))

-- ---- one order

module _ (t : Table) (left : ℕ) (now : TimeOfDay) (processes : List Process) (wakes : Wakes) (carried : ℕ) (done : List Order) (x : Order) (rest : List Order) where
  -- one that is not due stands as it is
  through_later : (o : Orders) → due_at now x ≡ false
      → end_through t left now processes wakes o carried done (x ∷ rest) ≡ end_through t left now processes wakes o carried (done ++ (x ∷ [])) rest
  unfolding end_through due_of keep_of lefts_of onward_of
  through_later o later = rw (later, append_assoc done (x ∷ []) (advancing now rest))

  -- one that is due is carried out, and what is left of it stands
  through_due : (o p : Orders) → due_at now x ≡ true
      → end_through t left now processes wakes o carried done (x ∷ rest)
      ≡ end_through t left now (one_of Timed t.config.places (letter_of x) processes).processes
      (fold_of wake_push_of wakes (one_of Timed t.config.places (letter_of x) processes).wakes) p (carried + 1) (done ++ left_of (onward_of now x)) rest
  unfolding end_through due_of keep_of lefts_of carried_out all_of
  through_due o p due =
      let places = t.config.places in
      let more : carried + suc (length (due_of now rest)) ≡ carried + 1 + length (due_of now rest) = omega arith in
      let one = one_of Timed places (letter_of x) processes in
      let then = carried_out places (due_of now rest) one.processes in
      rw (
        due,
        ne_eqb (carried + suc (length (due_of now rest))) 0 (λ none. omega arith),
        ne_eqb (carried + 1 + length (due_of now rest)) 0 (λ none. omega arith),
        more,
        fold_append wake_push_of wakes one.wakes then.wakes,
        append_assoc done (left_of (onward_of now x)) (advancing now rest),
      )

-- of one that is not due itself is left
left_later : (now : TimeOfDay) (x : Order) → due_at now x ≡ false → left_of (onward_of now x) ≡ x ∷ []
unfolding onward_of
left_later now x later = rw later

-- who is served by one order, and who wakes by it
module _ (places : ℕ) (now : TimeOfDay) (x : Order) (processes : List Process) where
  abbrev pub processes_after : List Process
  processes_after = pick (due_at now x) (one_of Timed places (letter_of x) processes).processes processes

  abbrev pub wakes_after : Wakes → Wakes
  wakes_after wakes = pick (due_at now x) (fold_of wake_push_of wakes (one_of Timed places (letter_of x) processes).wakes) wakes

  -- there are as many processes as before
  pub length_after : length processes_after ≡ length processes
  length_after = by_pick (λ l. length l ≡ length processes) (due_at now x) _ processes (length_one Timed places (letter_of x) processes) refl

  -- where it is due, at one of the levels
  module _ (d : Process) (twelve : length processes ≡ 12) (due : due_at now x && ltb x.receiver 12 ≡ true) where
    abbrev delivered_there : Delivery
    delivered_there = delivered_to Timed places x.condition x.message (get_or processes x.receiver d)

    within : x.receiver < length processes
    within = rw twelve (ltb-true x.receiver 12 (both_true (due_at now x) (ltb x.receiver 12) due).1)

    module _ (fate : Fate) (after : Process) (same : delivery fate after ≡ delivered_there) where
      pub served_record : set processes x.receiver after ≡ processes_after
      served_record =
          ap (λ (d : Delivery). set processes x.receiver d.process) same
          ∙ rw (both_true (due_at now x) (ltb x.receiver 12) due).0 (one_record Timed places (letter_of x) processes d within)

      pub served_wakes : (wakes : Wakes) → pushed_for wakes x.receiver fate x.message ≡ wakes_after wakes
      served_wakes wakes =
          ap (λ (d : Delivery). pushed_for wakes x.receiver d.fate x.message) same
          ∙ rw (both_true (due_at now x) (ltb x.receiver 12) due).0 (one_wake Timed places (letter_of x) processes d within wakes)

      -- a message that is not handed over wakes nobody
      pub served_quiet : (wakes : Wakes) → is_handed fate ≡ false → wakes ≡ wakes_after wakes
      served_quiet wakes quiet = sym (pushed_none wakes x.receiver fate x.message quiet) ∙ served_wakes wakes

  -- where it is not due, or for no level that there is, nobody is
  module _ (twelve : length processes ≡ 12) (not : due_at now x && ltb x.receiver 12 ≡ false) where
    beyond : due_at now x ≡ true → length processes ≤ x.receiver
    beyond due = rw twelve (ltb-false x.receiver 12 (sym (rw due) ∙ not))

    pub unserved_record : processes ≡ processes_after
    unserved_record = by_test (due_at now x) (λ due. rw due (sym (one_out Timed places (letter_of x) processes (beyond due)))) (λ later. rw later)

    pub unserved_wakes : (wakes : Wakes) → wakes ≡ wakes_after wakes
    unserved_wakes wakes =
        by_test (due_at now x)
        (λ due. rw due (ap (fold_of wake_push_of wakes) (sym (one_wakes_out Timed places (letter_of x) processes (beyond due)))))
        (λ later. rw later)

-- so either way, once it is dealt with, the end is the same. Where it is not due the table of orders must be as it was
module _ (t : Table) (left : ℕ) (now : TimeOfDay) (processes : List Process) (wakes : Wakes) (carried : ℕ) (done : List Order) (x : Order) (rest : List Order) where
  pub through_turn : (o p : Orders) → (due_at now x ≡ false → p ≡ o)
      → end_through t left now processes wakes o carried done (x ∷ rest)
      ≡ end_through t left now (processes_after t.config.places now x processes) (wakes_after t.config.places now x processes wakes) p
      (carried + pick (due_at now x) 1 0) (done ++ left_of (onward_of now x)) rest
  through_turn o p same =
      by_test (due_at now x)
      (λ due. rw due (through_due t left now processes wakes carried done x rest o p due))
      (λ later. through_later t left now processes wakes carried done x rest o later
      ∙ rw (later, add-zero carried, same later, left_later now x later))

-- the same in the order table: the order at a place becomes what is left of it, or leaves
module _ (t : Table) (left : ℕ) (now : TimeOfDay) (processes : List Process) (wakes : Wakes) (o : Orders) (carried at : ℕ) (d : Order) (long : length o.list.items ≡ 64) (stands : at < min o.list.count 64) where
  abbrev here : Order
  here = get_or o.list.items at d

  -- the run that is left
  abbrev through_now : Outcome
  through_now = end_through t left now processes wakes o carried (take at (standing_of o)) (drop at (standing_of o))

  -- and once this order is dealt with
  abbrev through_next : Orders → List Order → List Order → Outcome
  through_next p done rest =
      end_through t left now (processes_after t.config.places now here processes) (wakes_after t.config.places now here processes wakes) p
      (carried + pick (due_at now here) 1 0) done rest

  turned : (p : Orders) → (due_at now here ≡ false → p ≡ o)
      → through_next p (take at (standing_of o) ++ left_of (onward_of now here)) (drop (suc at) (standing_of o)) ≡ through_now
  turned p same =
      rw (standing_split o at long stands d)
      (sym (through_turn t left now processes wakes carried (take at (standing_of o)) here (drop (suc at) (standing_of o)) o p same))

  -- it becomes another
  module _ (next : Order) (so : Some next ≡ onward_of now here) where
    -- where it is not due, itself
    unchanged : due_at now here ≡ false → changed_to o at long stands next ≡ o
    unfolding onward_of
    unchanged later =
        let itself = rw later at so in
        let same : next ≡ here = cc in
        rw same (ap (λ (l : List Order). record { list = record { items = l; count = o.list.count } }) (set-get_or o.list.items at d))

    pub turn_stays : through_next (changed_to o at long stands next) (take (at + 1) (standing_of (changed_to o at long stands next)))
        (drop (at + 1) (standing_of (changed_to o at long stands next)))
        ≡ through_now
    turn_stays =
        ap₂ (through_next (changed_to o at long stands next))
        (changed_before o at long stands next ∙ ap (λ n. take at (standing_of o) ++ left_of n) so)
        (changed_behind o at long stands next)
        ∙ turned (changed_to o at long stands next) unchanged

  -- one that leaves is due
  gone_due : None ≡ onward_of now here → due_at now here ≡ false → ⊥
  unfolding onward_of
  gone_due gone later = let itself = rw later at gone in let z : ◌≡◌ {A = ℕ} 0 1 = cc in omega arith

  pub turn_leaves : None ≡ onward_of now here
      → through_next (without_place_of at o) (take at (standing_of (without_place_of at o))) (drop at (standing_of (without_place_of at o))) ≡ through_now
  turn_leaves gone =
      ap₂ (through_next (without_place_of at o))
      (left_before o at long stands ∙ sym (append-nil (take at (standing_of o))) ∙ ap (λ n. take at (standing_of o) ++ left_of n) gone)
      (left_behind o at long stands)
      ∙ turned (without_place_of at o) (λ later. absurd (gone_due gone later))

-- ---- on to the next moment

module _ (o : Orders) (carried : ℕ) where
  -- the same orders stand
  standing_after : standing_of (orders_after carried o (standing_of o)) ≡ standing_of o
  standing_after =
      by_test (eqb carried 0)
      (λ none. ap (λ b. standing_of (pick b o (orders_of (standing_of o)))) none)
      (λ some. ap (λ b. standing_of (pick b o (orders_of (standing_of o)))) some ∙ standing_filled 64 no_order (standing_of o) (standing_short 64 o.list))

  -- and the moment makes of them what the loop does
  advance_after : (now : TimeOfDay) → advance_of now (orders_after carried o (standing_of o)) ≡ orders_after (carried + length (due_of now (standing_of o))) o (advancing now (standing_of o))
  unfolding advance_of due_count_of
  advance_after now =
      let l = standing_of o in
      by_test (eqb carried 0)
      (λ none. let same : length (due_of now l) ≡ carried + length (due_of now l) = omega (arith, eqb-true carried 0 none) in
      rw none (ap (λ (n : ℕ). pick (eqb n 0) o (orders_of (advancing now l))) same))
      (λ some. let more : carried + length (due_of now l) ≡ 0 → ⊥ = λ none. omega (arith, eqb-false carried 0 some) in
      rw (some, ne_eqb (carried + length (due_of now l)) 0 more) (advance_orders now l (standing_short 64 o.list)))

  -- the code writes them anew where one was carried out
  pub after_some : 0 < carried → without_place_of 64 o ≡ orders_after carried o (standing_of o)
  after_some some = rw (ne_eqb carried 0 (λ none. omega arith)) (without_beyond o)

  pub after_none : carried ≤ 0 → o ≡ orders_after carried o (standing_of o)
  after_none none = rw (eq-eqb carried 0 (omega arith))

-- where all of them are through
module _ (o : Orders) (at : ℕ) (all : min o.list.count 64 ≤ at) where
  standing_few : length (standing_of o) ≤ at
  unfolding items_of
  standing_few = simp length-take (omega arith)

  pub taken_all : take at (standing_of o) ≡ standing_of o
  taken_all = take_all at (standing_of o) standing_few

  dropped_all : drop at (standing_of o) ≡ []
  dropped_all = drop_of_length-le (standing_of o) {i = at} standing_few

  module _ (t : Table) (left : ℕ) (clock : TimeOfDay) (processes : List Process) (wakes : Wakes) (carried : ℕ) where
    through_none : end_through t left clock processes wakes o carried (take at (standing_of o)) (drop at (standing_of o))
        ≡ end_of wakes carried (ticks_of left (at_now t clock processes (orders_after carried o (standing_of o))))
    unfolding end_through due_of keep_of lefts_of carried_out all_of
    through_none = rw (taken_all, dropped_all, add-zero carried, append-nil (standing_of o))

    -- the next moment begins
    pub through_moment : t.scheduler.running ≡ true → t.scheduler.switch ≡ false → (m : ℕ) → m < left → m < next_due clock (standing_of o)
        → end_through t (left - (m + 1)) (forward_of clock (m + 1)) processes wakes o carried [] (standing_of o)
        ≡ end_through t left clock processes wakes o carried (take at (standing_of o)) (drop at (standing_of o))
    unfolding end_through carrying_out next_due_of
    through_moment runs stays m within before =
        sym
        (through_none
        ∙ sym (stride_turn wakes carried left m (at_now t clock processes (orders_after carried o (standing_of o))) runs stays within (rw (standing_after o carried) before))
        ∙ rw (standing_after o carried, advance_after o carried (forward_of clock (m + 1))))

    -- or the run ends
    pub through_end : left ≤ 0
        → carries_number (at_now t clock processes (orders_after carried o (standing_of o))) carried wakes
        ≡ end_through t left clock processes wakes o carried (take at (standing_of o)) (drop at (standing_of o))
    through_end none = sym (through_none ∙ end_none wakes carried left _ none)

-- the run begins
pub through_begin : (t : Table) (at n : ℕ) (wakes : Wakes) → min t.orders.list.count 64 ≤ at
    → end_through t n t.clock t.processes wakes t.orders 0 (take at (standing_of t.orders)) (drop at (standing_of t.orders)) ≡ end_of wakes 0 (ticks_of n t)
through_begin t at n wakes all = through_none t.orders at all t n t.clock t.processes wakes 0
