-- A named sender's cancel touches nobody else's orders: the two customers of one receiver never lose each other's. Assumes nothing.
use mathlib.Core.Path.{◌≡◌, ◌∙◌, refl, ap}
use mathlib.Core.Bool.{Bool, true, not}
use Prim.Native.Nat.{ℕ}
use lib.Dec.{eqb}
use borrow.Author.Tests.{not-true}
use Rattle.common.specs.Keep.{keep_of}
use Rattle.common.proofs.Cases.{by_test}
use Rattle.common.proofs.Keep.{keep_keep}
use Rattle.process.specs.declared.Target.{Target}
use Rattle.process.specs.declared.Target.TheVariants.{All, Level, Unknown}
use Rattle.orders.specs.declared.Order.{Order}
use Rattle.orders.specs.declared.Orders.{Orders}
use Rattle.orders.specs.Orders.{standing_of}
use Rattle.orders.specs.Cancel.{is_from, matches_of, how_many_of, removed_of, cancel_of, after_cancel}
use Rattle.orders.specs.Timer.{stays_after}
use Rattle.orders.proofs.Tables.{standing_without}

-- an order that somebody else gave
abbrev pub from_other : ℕ → Order → Bool
from_other level x = not (eqb x.sender level)

-- no cancel of a named sender matches it
other_stays : (level receiver : ℕ) (x : Order) → from_other level x ≡ true → stays_after (Level level) receiver x ≡ true
unfolding matches_of is_from
other_stays level receiver x other =
    by_test (eqb x.receiver receiver) (λ e. rw (e, not-true (eqb x.sender level) other)) (λ e. rw e)

module _ (level : ℕ) (o : Orders) where
  others_removed : (receiver : ℕ) → keep_of (from_other level) (standing_of (after_cancel o (removed_of (Level level) receiver o))) ≡ keep_of (from_other level) (standing_of o)
  unfolding removed_of
  others_removed receiver =
      by_test (eqb o.list.count 0) (λ e. rw e)
      (λ e. by_test (eqb (how_many_of All receiver o) 0) (λ f. rw (e, f))
      (λ f. by_test (eqb (how_many_of (Level level) receiver o) 0) (λ g. rw (e, f, g))
      (λ g. rw (e, f, g)
      (ap (keep_of (from_other level)) (standing_without (Level level) receiver o)
      ∙ keep_keep (from_other level) (stays_after (Level level) receiver) (other_stays level receiver) (standing_of o)))))

  -- whatever a named sender cancels, everybody else's orders stand as they stood, in their order
  pub others_stand : (receiver : Target) → keep_of (from_other level) (standing_of (after_cancel o (cancel_of (Level level) receiver o))) ≡ keep_of (from_other level) (standing_of o)
  unfolding cancel_of
  others_stand All = refl
  others_stand (Level receiver) = others_removed receiver
  others_stand Unknown = refl
