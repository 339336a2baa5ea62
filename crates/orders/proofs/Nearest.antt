-- The next due moment: nothing is due before it, and something is due then. Assumes nothing.
use mathlib.Core.Path.{◌≡◌, refl, ap, sym, subst}
use mathlib.Core.Bool.{Bool, true, false}
use mathlib.Core.List.{List, [], ◌∷◌}
use Prim.Native.Nat.{ℕ, ◌<◌, min}
use native.Mathlib.Omega.{arith}
use borrow.Author.Tests.{eq-eqb, ne_eqb, leb-true, leb-false}
use lib.Dec.{leb}
use lib.ListN.{length}
use Rattle.common.specs.Choice.{pick}
use Rattle.common.specs.Keep.{keep_of}
use Rattle.common.proofs.Cases.{by_test}
use Rattle.day.specs.declared.TimeOfDay.{TimeOfDay}
use Rattle.day.specs.TimeOfDay.{at, day, forward_of, until_of}
use Rattle.day.proofs.Until.{until_not_before, until_arrives}
use Rattle.orders.specs.declared.Order.{Order}
use Rattle.orders.specs.Advance.{due_at, due_of, advancing, next_due}
use Rattle.orders.proofs.Tables.{undue_same}

-- an order is not due before its moment
not_due : (clock : TimeOfDay) (x : Order) (n : ℕ) → 0 < n → n < until_of clock x.due → due_at (forward_of clock n) x ≡ false
not_due clock x n some before =
    ne_eqb x.due.milliseconds (forward_of clock n).milliseconds
    (λ same. until_not_before clock x.due n some before (ap at (sym same)))

module _ (clock : TimeOfDay) (n : ℕ) (some : 0 < n) where
  -- nothing is due before the next due moment
  pub quiet_none : (l : List Order) → n < next_due clock l → due_of (forward_of clock n) l ≡ []
  unfolding next_due due_of keep_of
  quiet_none [] before = refl
  quiet_none (x ∷ l) before = rw (not_due clock x n some (omega arith)) (quiet_none l (omega arith))

  -- and no order changes
  pub quiet_same : (l : List Order) → n < next_due clock l → advancing (forward_of clock n) l ≡ l
  quiet_same l before = undue_same (forward_of clock n) l (ap length (quiet_none l before))

-- the orders' moments are times of day
abbrev pub OfDay : List Order → Type 0
OfDay [] = Unit
OfDay (x ∷ l) = (x.due.milliseconds < day) × OfDay l

due_then : (clock : TimeOfDay) (x : Order) → x.due.milliseconds < day → due_at (forward_of clock (until_of clock x.due)) x ≡ true
due_then clock x within = rw (until_arrives clock x.due within) (eq-eqb x.due.milliseconds x.due.milliseconds refl)

kept_none : (b : Bool) (x : Order) (l : List Order) → pick b (x ∷ l) l ≡ [] → l ≡ []
kept_none true x l none = cc
kept_none false x l none = none

-- where the next due moment is nearer than a day, an order is due then
pub next_arrives : (clock : TimeOfDay) (l : List Order) → OfDay l → next_due clock l < day → due_of (forward_of clock (next_due clock l)) l ≡ [] → ⊥
unfolding next_due due_of keep_of
next_arrives clock [] within near none = absurd (omega arith)
next_arrives clock (x ∷ l) within near none =
    by_test (leb (until_of clock x.due) (next_due clock l))
    (λ first. let here : min (until_of clock x.due) (next_due clock l) ≡ until_of clock x.due = omega (arith, leb-true (until_of clock x.due) (next_due clock l) first) in
    let list = rw (due_then clock x within.0) at (subst (λ n. due_of (forward_of clock n) (x ∷ l) ≡ []) here none) in
    let z : ◌≡◌ {A = ℕ} 0 1 = cc in absurd (omega arith))
    (λ later. let there : min (until_of clock x.due) (next_due clock l) ≡ next_due clock l = omega (arith, leb-false (until_of clock x.due) (next_due clock l) later) in
    next_arrives clock l within.1 (omega arith) (kept_none (due_at (forward_of clock (next_due clock l)) x) x _ (subst (λ n. due_of (forward_of clock n) (x ∷ l) ≡ []) there none)))
