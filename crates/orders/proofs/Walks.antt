-- What the walks over the order table come to. Assumes nothing.
use mathlib.Core.Path.{◌≡◌, ◌∙◌, refl, ap, sym}
use mathlib.Core.Bool.{Bool, true, false, not}
use mathlib.Core.List.{List, [], ◌∷◌, ◌++◌, append-nil, map}
use Prim.Native.Nat.{ℕ, zero, suc, ◌+◌, ◌<◌, ◌≤◌, min}
use native.Mathlib.Omega.{arith}
use native.Mathlib.Numerals.{add-one}
use lib.ListN.{length, get_or, take}
use lib.Dec.{eqb}
use lib.Seq.{take-suc, length-take-le}
use borrow.Author.Tests.{eqb-true, eqb-false}
use Rattle.std.specs.List.{count_by, filter, fold, reduce}
use Rattle.std.specs.Option.{unwrap_or}
use Rattle.std.proofs.lemmas.List.Sums.{length-filter}
use Rattle.common.specs.Choice.{pick}
use Rattle.common.specs.Keep.{keep_of}
use Rattle.common.proofs.Cases.{by_test}
use Rattle.day.specs.declared.TimeOfDay.{TimeOfDay}
use Rattle.day.specs.TimeOfDay.{day, until_of}
use Rattle.day.proofs.Until.{until_range}
use Rattle.orders.specs.declared.Order.{Order}
use Rattle.orders.specs.Orders.{kept_from}
use Rattle.orders.specs.Advance.{next_due, without_at}

-- ---- the orders that pass a test

kept_filter : (test : Order → Bool) (l : List Order) → filter test l ≡ keep_of test l
unfolding keep_of
kept_filter test [] = refl
kept_filter test (x ∷ l) = by_test (test x) (λ e. rw e (ap (◌∷◌ x) (kept_filter test l))) (λ e. rw e (kept_filter test l))

-- as many as the library counts
pub count_kept : (test : Order → Bool) (l : List Order) → count_by test l ≡ length (keep_of test l)
count_kept test l = sym (length-filter test l) ∙ ap length (kept_filter test l)

-- ---- the orders that pass a test of their place and of themselves

-- one order more
kept_behind : (test : ℕ → Order → Bool) (at : ℕ) (l : List Order) (x : Order)
    → kept_from test at (l ++ (x ∷ [])) ≡ kept_from test at l ++ pick (test (at + length l) x) (x ∷ []) []
unfolding kept_from
kept_behind test at [] x = let here : at + 0 ≡ at = omega arith in rw here
kept_behind test at (y ∷ l) x =
    let same : at + suc (length l) ≡ suc at + length l = omega arith in
    by_test (test at y)
    (λ e. rw (e, same) (ap (◌∷◌ y) (kept_behind test (suc at) l x)))
    (λ e. rw (e, same) (kept_behind test (suc at) l x))

-- one turn of the walk over them: the order passes or does not
module _ (test : ℕ → Order → Bool) (l : List Order) (i : ℕ) (d : Order) (within : i < length l) where
  walked : take (i + 1) l ≡ take i l ++ (get_or l i d ∷ [])
  walked = rw add-one (take-suc l i d within)

  at_end : 0 + length (take i l) ≡ i
  at_end = omega (arith, length-take-le i l (omega arith))

  pub keeps_more : test i (get_or l i d) ≡ true → kept_from test 0 (take (i + 1) l) ≡ kept_from test 0 (take i l) ++ (get_or l i d ∷ [])
  keeps_more stays = ap (kept_from test 0) walked ∙ kept_behind test 0 (take i l) (get_or l i d) ∙ rw (at_end, stays)

  pub keeps_same : test i (get_or l i d) ≡ false → kept_from test 0 (take (i + 1) l) ≡ kept_from test 0 (take i l)
  keeps_same leaves =
      ap (kept_from test 0) walked
      ∙ kept_behind test 0 (take i l) (get_or l i d)
      ∙ rw (at_end, leaves) (append-nil (kept_from test 0 (take i l)))

-- where the place makes no difference
pub kept_alone : (test : Order → Bool) (at : ℕ) (l : List Order) → kept_from (λ i x. test x) at l ≡ keep_of test l
unfolding kept_from keep_of
kept_alone test at [] = refl
kept_alone test at (x ∷ l) = rw (kept_alone test (suc at) l)

-- where one place does not pass
kept_all : (place at : ℕ) (l : List Order) → place < at → kept_from (λ i x. not (eqb i place)) at l ≡ l
unfolding kept_from
kept_all place at [] past = refl
kept_all place at (x ∷ l) past =
    by_test (eqb at place)
    (λ e. absurd (omega (arith, eqb-true at place e)))
    (λ e. rw e (ap (◌∷◌ x) (kept_all place (suc at) l (omega arith))))

pub kept_place : (limit place at : ℕ) (l : List Order) → at + place ≡ limit → kept_from (λ i x. not (eqb i limit)) at l ≡ without_at place l
unfolding kept_from without_at
kept_place limit place at [] there = refl
kept_place limit zero at (x ∷ l) there =
    let here : eqb at limit ≡ true = rw (← there) (by_test (eqb at (at + 0)) (λ e. e) (λ e. absurd (eqb-false at (at + 0) e (omega arith)))) in
    rw here (kept_all limit (suc at) l (omega arith))
kept_place limit (suc place) at (x ∷ l) there =
    by_test (eqb at limit)
    (λ e. absurd (omega (arith, eqb-true at limit e)))
    (λ e. rw e (ap (◌∷◌ x) (kept_place limit place (suc at) l (omega arith))))

-- ---- the nearest moment

-- no order is further off than a day
pub next_within : (clock : TimeOfDay) (l : List Order) → next_due clock l ≤ day
unfolding next_due
next_within clock [] = omega arith
next_within clock (x ∷ l) = omega (arith, next_within clock l)

-- how far off an order's moment is
abbrev pub off : TimeOfDay → Order → ℕ
off clock x = until_of clock x.due

nearer : (clock : TimeOfDay) (n : ℕ) (l : List Order) → n ≤ day → fold min n (map (off clock) l) ≡ min n (next_due clock l)
unfolding next_due
nearer clock n [] within = omega arith
nearer clock n (x ∷ l) within = nearer clock (min n (off clock x)) l (omega arith) ∙ omega arith

-- the least of all, or a day where none stands
pub nearest_due : (clock : TimeOfDay) (l : List Order) → unwrap_or (reduce min (map (off clock) l)) day ≡ next_due clock l
unfolding next_due
nearest_due clock [] = refl
nearest_due clock (x ∷ l) = nearer clock (off clock x) l (until_range clock x.due).1

-- one order more
pub next_behind : (clock : TimeOfDay) (l : List Order) (x : Order) → next_due clock (l ++ (x ∷ [])) ≡ min (next_due clock l) (until_of clock x.due)
unfolding next_due
next_behind clock [] x = omega arith
next_behind clock (y ∷ l) x = omega (arith, next_behind clock l x)
