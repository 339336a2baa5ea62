-- Quiet ticks. Assumes nothing.
use mathlib.Core.Path.{◌≡◌, ◌∙◌, refl, ap, ap₂, sym, subst}
use mathlib.Core.Bool.{true, false}
use mathlib.Core.List.{List, [], ◌∷◌, ◌++◌, append-nil, append_assoc}
use Prim.Native.Nat.{ℕ, zero, suc, ◌+◌, ◌-◌, ◌<◌, ◌≤◌}
use native.Mathlib.Omega.{arith}
use native.Mathlib.Nat.{add_assoc, add-zero, zero-add}
use native.Mathlib.Numerals.{add-one}
use lib.ListN.{length}
use borrow.Author.Tests.{eq-eqb, ne_eqb}
use Rattle.common.specs.Fold.{fold_of}
use Rattle.common.proofs.Cases.{by_test}
use Rattle.common.proofs.Filling.{push_all}
use Rattle.common.proofs.Fold.{fold_append}
use Rattle.day.specs.declared.TimeOfDay.{TimeOfDay}
use Rattle.day.specs.TimeOfDay.{forward_of}
use Rattle.day.proofs.Forward.{forward_forward}
use Rattle.day.proofs.Until.{until_range}
use Rattle.orders.specs.declared.Order.{Order}
use Rattle.orders.specs.Orders.{standing_of}
use Rattle.orders.specs.Advance.{due_of, advance_of, next_due, next_due_of}
use Rattle.orders.proofs.Nearest.{quiet_none}
use Rattle.orders.proofs.Tables.{due_counted, advance_none}
use Rattle.posting.specs.Posting.{all_of}
use Rattle.table.specs.declared.Outcome.{Outcome}
use Rattle.table.specs.declared.Table.{Table}
use Rattle.table.specs.Wakes.{nobody, Wakes, no_wakes_of, wake_push_of}
use Rattle.calls.specs.Effects.{outcome_of}
use Rattle.calls.specs.Levels.{with_clock, with_scheduler}
use Rattle.calls.specs.Outcomes.{carries_number}
use Rattle.calls.proofs.Obeying.{outcome_number}
use Rattle.ticking.specs.Ticking.{Run, run, carried_out, carrying_out, stopping, passing, tick_at, tick_of, followed, ticks_of, run_effect, clock_after}

-- the next due moment is at least one tick away
pub next_later : (clock : TimeOfDay) (l : List Order) → 0 < next_due clock l
unfolding next_due
next_later clock [] = omega arith
next_later clock (x ∷ l) = omega (arith, (until_range clock x.due).0, next_later clock l)

-- ticks that end with none more
pub followed_none : (x : Run) → followed x (run 0 [] x.table) ≡ x
followed_none x = ap (λ n. run n (x.wakes ++ []) x.table) (omega arith) ∙ ap (λ ws. run x.count ws x.table) (append-nil x.wakes)

-- and that begin with none
pub followed_first : (t : Table) (x : Run) → followed (run 0 [] t) x ≡ x
followed_first t x = ap (λ n. run n x.wakes x.table) (zero-add x.count)

followed_third : (a b c : Run) → followed (followed a b) c ≡ followed a (followed b c)
followed_third a b c =
    ap (λ n. run n ((a.wakes ++ b.wakes) ++ c.wakes) c.table) (add_assoc a.count b.count c.count)
    ∙ ap (λ ws. run (a.count + (b.count + c.count)) ws c.table) (append_assoc a.wakes b.wakes c.wakes)

-- some ticks and then others are all of them
pub ticks_plus : (m n : ℕ) (t : Table) → ticks_of (m + n) t ≡ followed (ticks_of m t) (ticks_of n (ticks_of m t).table)
unfolding ticks_of
ticks_plus zero n t = ap (λ k. ticks_of k t) (zero-add n) ∙ sym (followed_first t (ticks_of n t))
ticks_plus (suc m) n t =
    let longer : suc m + n ≡ suc (m + n) = omega arith in
    ap (λ k. ticks_of k t) longer
    ∙ ap (followed (tick_of t)) (ticks_plus m n (tick_of t).table)
    ∙ sym (followed_third (tick_of t) (ticks_of m (tick_of t).table) (ticks_of n (ticks_of m (tick_of t).table).table))

-- no tick
pub ticks_none : (n : ℕ) (t : Table) → n ≤ 0 → ticks_of n t ≡ run 0 [] t
unfolding ticks_of
ticks_none zero t none = refl
ticks_none (suc n) t none = absurd (omega arith)

-- one tick
pub ticks_one : (t : Table) → ticks_of 1 t ≡ tick_of t
unfolding ticks_of
ticks_one t = followed_none (tick_of t)

-- one tick more
ticks_more : (m : ℕ) (t : Table) → ticks_of (suc m) t ≡ followed (ticks_of m t) (tick_of (ticks_of m t).table)
ticks_more m t =
    ap (λ n. ticks_of n t) (omega arith)
    ∙ ticks_plus m 1 t
    ∙ ap (followed (ticks_of m t)) (ticks_one (ticks_of m t).table)

-- one tick after ticks that did nothing but lead to another table
one_more : (m : ℕ) (t then : Table) → ticks_of m t ≡ run 0 [] then → ticks_of (suc m) t ≡ tick_of then
one_more m t then quiet =
    ticks_more m t
    ∙ ap (λ x. followed x (tick_of x.table)) quiet
    ∙ followed_first then (tick_of then)

-- a tick of a scheduler that is to stop, of one that runs on, and of one that is stopped
pub tick_stops : (now : TimeOfDay) (t : Table) → t.scheduler.running ≡ true → t.scheduler.switch ≡ true → tick_at now t ≡ stopping now t
unfolding tick_at
tick_stops now t runs stops = rw (runs, stops)

pub tick_running : (now : TimeOfDay) (t : Table) → t.scheduler.running ≡ true → t.scheduler.switch ≡ false → tick_at now t ≡ carrying_out now t
unfolding tick_at
tick_running now t runs stays = rw (runs, stays)

pub tick_stopped : (now : TimeOfDay) (t : Table) → t.scheduler.running ≡ false → tick_at now t ≡ passing now t
unfolding tick_at
tick_stopped now t rests = rw rests

-- so what holds of all three holds of a tick
pub by_tick : (P : Run → Type 0) (now : TimeOfDay) (t : Table) → P (stopping now t) → P (carrying_out now t) → P (passing now t) → P (tick_at now t)
by_tick P now t stops carries passes =
    by_test t.scheduler.running
    (λ runs. by_test t.scheduler.switch
    (λ set. subst P (sym (tick_stops now t runs set)) stops)
    (λ stays. subst P (sym (tick_running now t runs stays)) carries))
    (λ rests. subst P (sym (tick_stopped now t rests)) passes)

-- "Either way the carrying out counts.": what became of the messages makes no difference to the orders
pub counts_either_way : (now : TimeOfDay) (t : Table) → (carrying_out now t).table.orders ≡ advance_of now t.orders
unfolding carrying_out
counts_either_way now t = refl

-- ---- the scheduler runs

-- a table after some quiet ticks: another time, and nothing else
abbrev quiet_at : ℕ → Table → Table
quiet_at m t = with_clock t (clock_after t.clock m)

-- carrying out does not look at the clock of before
carrying_same : (now clock : TimeOfDay) (t : Table) → carrying_out now (with_clock t clock) ≡ carrying_out now t
unfolding carrying_out
carrying_same now clock t = refl

-- no order is due at any of the next so many ticks
abbrev pub Undue : ℕ → Table → Type 0
Undue n t = (k : ℕ) → 0 < k → k ≤ n → due_of (forward_of t.clock k) (standing_of t.orders) ≡ []

-- none is due before the next due moment
pub undue_before : (n : ℕ) (t : Table) → n < next_due_of t.clock t.orders → Undue n t
unfolding next_due_of
undue_before n t before k some within = quiet_none t.clock k some (standing_of t.orders) (omega arith)

module _ (clock : TimeOfDay) (n : ℕ) where
  -- the clock after no tick, and after some
  pub clock_none : n ≡ 0 → clock_after clock n ≡ clock
  unfolding clock_after
  clock_none none = rw (eq-eqb n 0 none)

  pub clock_some : (n ≡ 0 → ⊥) → clock_after clock n ≡ forward_of clock n
  unfolding clock_after
  clock_some some = rw (ne_eqb n 0 some)

-- the next tick's time, after some ticks
soon_later : (clock : TimeOfDay) (m : ℕ) → forward_of (forward_of clock (suc m)) 1 ≡ forward_of clock (suc (suc m))
soon_later clock m = forward_forward clock (suc m) 1 ∙ ap (forward_of clock) (omega arith)

-- and after any number of them
soon_after : (clock : TimeOfDay) (m : ℕ) → forward_of (clock_after clock m) 1 ≡ forward_of clock (suc m)
soon_after clock zero = ap (λ c. forward_of c 1) (clock_none clock 0 refl)
soon_after clock (suc m) = ap (λ c. forward_of c 1) (clock_some clock (suc m) (λ none. omega arith)) ∙ soon_later clock m

module _ (t : Table) (runs : t.scheduler.running ≡ true) (stays : t.scheduler.switch ≡ false) where
  -- the tick after quiet ones
  next_tick : (m : ℕ) → tick_of (quiet_at m t) ≡ carrying_out (forward_of t.clock (suc m)) t
  unfolding tick_of
  next_tick m =
      tick_running _ (quiet_at m t) runs stays
      ∙ ap (λ now. carrying_out now (quiet_at m t)) (soon_after t.clock m)
      ∙ carrying_same (forward_of t.clock (suc m)) (clock_after t.clock m) t

  -- the tick after ticks that were quiet
  after_quiet : (m : ℕ) → ticks_of m t ≡ run 0 [] (quiet_at m t) → ticks_of (suc m) t ≡ carrying_out (forward_of t.clock (suc m)) t
  after_quiet m quiet = one_more m t (quiet_at m t) quiet ∙ next_tick m

  -- it is quiet too where nothing is due
  next_quiet : (m : ℕ) → due_of (forward_of t.clock (suc m)) (standing_of t.orders) ≡ [] → carrying_out (forward_of t.clock (suc m)) t ≡ run 0 [] (quiet_at (suc m) t)
  unfolding carrying_out carried_out all_of
  next_quiet m none =
      rw (clock_some t.clock (suc m) (λ zero. omega arith), advance_none (forward_of t.clock (suc m)) t.orders (due_counted _ _ ∙ ap length none), none)

  -- so all ticks at which none is due are quiet
  pub quiet_run : (m : ℕ) → Undue m t → ticks_of m t ≡ run 0 [] (with_clock t (clock_after t.clock m))
  unfolding ticks_of
  quiet_run zero none = ap (λ clock. run 0 [] (with_clock t clock)) (sym (clock_none t.clock 0 refl))
  quiet_run (suc m) none =
      after_quiet m (quiet_run m (λ k some within. none k some (omega arith))) ∙ next_quiet m (none (suc m) (omega arith) (omega arith))

  -- and the ticks up to a moment are that moment's alone
  pub stride : (m : ℕ) → m < next_due_of t.clock t.orders → ticks_of (m + 1) t ≡ carrying_out (forward_of t.clock (m + 1)) t
  stride m before = rw add-one (after_quiet m (quiet_run m (undue_before m t before)))

-- ---- the scheduler is stopped, or the first tick stops it

-- a table after some ticks: another time, and a scheduler at rest
abbrev pub rested_at : ℕ → Table → Table
rested_at n t = with_scheduler (with_clock t (forward_of t.clock n)) (record { running = false; switch = t.scheduler.switch })

module _ (t : Table) (stops : t.scheduler.running ≡ true → t.scheduler.switch ≡ true) where
  -- the first tick finds it stopped, or stops it
  first_rests : tick_of t ≡ run 0 [] (rested_at 1 t)
  unfolding tick_of stopping passing
  first_rests =
      let now = forward_of t.clock 1 in
      by_test t.scheduler.running
      (λ runs. tick_stops now t runs (stops runs))
      (λ rests. tick_stopped now t rests
      ∙ ap (λ running. run 0 [] (with_scheduler (with_clock t now) (record { running = running; switch = t.scheduler.switch }))) rests)

  -- and from then on only the clock moves
  pub resting_run : (n : ℕ) → 0 < n → ticks_of n t ≡ run 0 [] (rested_at n t)
  unfolding tick_of passing
  resting_run zero some = absurd (omega arith)
  resting_run (suc zero) some = ticks_one t ∙ first_rests
  resting_run (suc (suc m)) some =
      one_more (suc m) t (rested_at (suc m) t) (resting_run (suc m) (omega arith))
      ∙ tick_stopped _ (rested_at (suc m) t) refl
      ∙ ap (λ now. run 0 [] (with_clock (rested_at (suc m) t) now)) (soon_later t.clock m)

-- ---- a run in the code's arrays

-- where ticks end that come after others: with so many carried out, and such wakes
unfoldable pub end_of : Wakes → ℕ → Run → Outcome
end_of wakes count x = carries_number x.table (count + x.count) (fold_of wake_push_of wakes x.wakes)

-- the same, where some more of them are done and so many are left
abbrev pub end_after : Wakes → ℕ → ℕ → Run → Outcome
end_after wakes count left x = end_of (fold_of wake_push_of wakes x.wakes) (count + x.count) (ticks_of left x.table)

-- some of them on, the end is the same
end_turn : (wakes : Wakes) (count m n : ℕ) (t : Table) → end_after wakes count n (ticks_of m t) ≡ end_of wakes count (ticks_of (m + n) t)
unfolding end_of
end_turn wakes count m n t =
    ap₂ (λ ws k. carries_number (ticks_of n (ticks_of m t).table).table k ws)
    (sym (fold_append wake_push_of wakes (ticks_of m t).wakes (ticks_of n (ticks_of m t).table).wakes))
    (add_assoc count (ticks_of m t).count (ticks_of n (ticks_of m t).table).count)
    ∙ ap (end_of wakes count) (sym (ticks_plus m n t))

-- a stride on, as many ticks less are left, and the end is the same
pub stride_turn : (wakes : Wakes) (count left m : ℕ) (t : Table)
    → t.scheduler.running ≡ true → t.scheduler.switch ≡ false → m < left → m < next_due_of t.clock t.orders
    → end_after wakes count (left - (m + 1)) (carrying_out (forward_of t.clock (m + 1)) t) ≡ end_of wakes count (ticks_of left t)
stride_turn wakes count left m t runs stays within before =
    let all : m + 1 + (left - (m + 1)) ≡ left = omega arith in
    ap (end_after wakes count (left - (m + 1))) (sym (stride t runs stays m before))
    ∙ end_turn wakes count (m + 1) (left - (m + 1)) t
    ∙ ap (λ n. end_of wakes count (ticks_of n t)) all

-- with no tick left it is there
pub end_none : (wakes : Wakes) (carried left : ℕ) (t : Table) → left ≤ 0 → end_of wakes carried (ticks_of left t) ≡ carries_number t carried wakes
unfolding end_of
end_none wakes carried left t none = ap (end_of wakes carried) (ticks_none left t none) ∙ ap (λ n. carries_number t n wakes) (add-zero carried)

-- and from the first tick on it is what all of them do
pub end_all : (x : Run) → end_of no_wakes_of 0 x ≡ outcome_of (run_effect x)
unfolding end_of
end_all x = ap₂ (carries_number x.table) (zero-add x.count) (push_all 12 nobody [] x.wakes) ∙ outcome_number x.table x.count x.wakes
