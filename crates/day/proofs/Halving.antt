-- A count by a unit, and what halving pieces make of it: the laws behind `halved` and `counted`. Assumes nothing.
use mathlib.Core.Path.{◌≡◌, ◌∙◌, ap, sym}
use Prim.Native.Nat.{ℕ, zero, suc, ◌+◌, ◌-◌, ◌*◌, ◌/◌, ◌%◌, ◌<◌, ◌≤◌}
use native.Mathlib.Nat.{mul-add, add-mul, one-mul, mod-lt, div-add-mod'}
use native.Mathlib.Nat.{div-lt_iff_lt-mul, le-div_iff_mul-le, add-mul-div_right, add-mul-mod_self_right}
use native.Mathlib.Omega.{arith}
use lib.Arith.{digits_div, digits_mod}
use Rattle.day.specs.declared.Count.{Count}
use Rattle.day.specs.Counting.{counted_of, Halved}

abbrev of : ℕ → ℕ → Count
of units left = record { units = units; left = left }

-- so many units and less than one more are a count by that unit
pub counts : (n unit units left : ℕ) → left < unit → n ≡ units * unit + left → of units left ≡ counted_of n unit
counts n unit units left less is =
    let whole : n / unit ≡ units = ap (λ (x : ℕ). x / unit) is ∙ digits_div units less in
    let rest : n % unit ≡ left = ap (λ (x : ℕ). x % unit) is ∙ digits_mod units less in
    λ i. of (sym whole i) (sym rest i)

-- the units of a count, and what it leaves
pub units_of : {count : Count} (n unit : ℕ) → count ≡ counted_of n unit → count.units ≡ n / unit
units_of n unit is = ap (λ (x : Count). x.units) is

pub left_of_lem : {count : Count} (n unit : ℕ) → count ≡ counted_of n unit → count.left ≡ n % unit
left_of_lem n unit is = ap (λ (x : Count). x.left) is

-- From twice a piece to the piece.
module _ (n piece : ℕ) (count : Count) (was : count ≡ counted_of n (piece + piece)) where
  -- so many double pieces are twice as many pieces
  in_pieces : n ≡ (count.units + count.units) * piece + count.left
  in_pieces =
      rw was (sym (div-add-mod' n (piece + piece)) ∙ ap (λ (x : ℕ). x + n % (piece + piece)) (mul-add _ piece piece ∙ sym (add-mul _ _ piece)))

  -- where the piece goes into what is left, one more
  pub one_more : 0 < piece → piece ≤ count.left → of (count.units + count.units + 1) (count.left - piece) ≡ counted_of n piece
  one_more some fits =
      let twice : ℕ = count.units + count.units in
      let more : (twice + 1) * piece ≡ twice * piece + piece = add-mul twice 1 piece ∙ ap (λ (x : ℕ). twice * piece + x) (one-mul piece) in
      let is = in_pieces in
      let below : count.left < piece + piece = rw was (mod-lt n (omega arith)) in
      counts n piece (twice + 1) (count.left - piece) (omega arith) (omega arith)

  -- where it does not, no more
  pub none_more : count.left < piece → of (count.units + count.units) count.left ≡ counted_of n piece
  none_more less = counts n piece _ _ less in_pieces

-- What is counted by while so many turns are to come: the unit, doubled for each.
pub span : ℕ → ℕ → ℕ
span zero unit = unit
span (suc turns) unit = span turns unit + span turns unit

span_least : (turns unit : ℕ) → unit ≤ span turns unit
unfolding span
span_least zero unit = omega arith
span_least (suc turns) unit = let rest = span_least turns unit in omega arith

pub span_six : (unit : ℕ) → span 6 unit ≡ 64 * unit
unfolding span
span_six unit = omega arith

-- What has less than 64 units is counted with a mark, as if it had 64 more. How far that has come: it is counted by the span of the turns
-- to come, and the piece to try is half of that.
abbrev pub Marked : ℕ → ℕ → Count → ℕ → Type 0
Marked n unit count piece = (turns : ℕ) × (count ≡ counted_of (n + 64 * unit) (span turns unit)) × (piece ≡ span turns unit / 2)

-- a turn is to come: it is counted by twice the piece, and the piece is the span of the turns after that
abbrev pub ToCome : ℕ → ℕ → Count → ℕ → Type 0
ToCome n unit count piece = (turns : ℕ) × (count ≡ counted_of (n + 64 * unit) (piece + piece)) × (piece ≡ span turns unit)

module _ (n unit : ℕ) (some : 0 < unit) (count : Count) (piece : ℕ) where
  -- one is, while the mark is below 64
  pub to_come : Marked n unit count piece → count.units < 64 → ToCome n unit count piece
  unfolding span
  to_come (zero, is, half) below =
      let units = units_of (n + 64 * unit) unit is in
      let there : 64 ≤ (n + 64 * unit) / unit = (le-div_iff_mul-le {k = unit} {x = 64} {y = n + 64 * unit} some).1 (omega arith) in
      absurd (omega arith)
  to_come (suc turns, is, half) below =
      let same : piece ≡ span turns unit = omega arith in
      (turns, is ∙ ap (counted_of (n + 64 * unit)) (omega arith), same)

  -- it has a piece to try
  pub piece_some : ToCome n unit count piece → 0 < piece
  piece_some (turns, is, same) = let least = span_least turns unit in omega arith

  -- and leaves a count by that piece
  pub turned : (after : Count) → ToCome n unit count piece → Halved count piece after → Marked n unit after (piece / 2)
  turned after (turns, is, same) halved = (turns, halved (n + 64 * unit) is ∙ ap (counted_of (n + 64 * unit)) same, ap (λ (x : ℕ). x / 2) same)

  -- none is, when the mark has come to 64; then it is taken off
  pub unmarked : n < 64 * unit → Marked n unit count piece → 64 ≤ count.units → of (count.units - 64) count.left ≡ counted_of n unit
  unfolding span
  unmarked less (zero, is, half) there =
      let units : count.units ≡ n / unit + 64 = units_of (n + 64 * unit) unit is ∙ add-mul-div_right n 64 some in
      let left : count.left ≡ n % unit = left_of_lem (n + 64 * unit) unit is ∙ add-mul-mod_self_right n 64 unit in
      let off : count.units - 64 ≡ n / unit = omega arith in
      λ i. of (off i) (left i)
  unmarked less (suc turns, is, half) there =
      let two : ℕ = span turns unit + span turns unit in
      let least = span_least turns unit in
      let units = units_of (n + 64 * unit) two is in
      let below : (n + 64 * unit) / two < 64 = (div-lt_iff_lt-mul {k = two} {x = n + 64 * unit} {y = 64} (omega arith)).1 (omega arith) in
      absurd (omega arith)
