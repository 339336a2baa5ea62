-- What a cancel comes to, and an order that is entered: done, or refused with the table as it stood. Assumes nothing.
use mathlib.Core.Path.{◌≡◌, refl}
use mathlib.Core.Logic.{◌⊎◌, inl, inr}
use Rattle.std.specs.Prelude.{ℕ, Option, Some, None, Result, Ok, Err}
use Rattle.orders.specs.declared.NotCancelled.{NotCancelled}
use Rattle.orders.specs.declared.NotCancelled.TheVariants.{BadSender, UnknownReceiver, NoOrder, NotFound, NotTheirs}
use Rattle.orders.specs.declared.Orders.{Orders}
use Rattle.orders.specs.Cancel.{cancelled_number, cancel_of}
use Rattle.process.specs.declared.Target.{Target}
use Rattle.table.specs.Answers.{number_of, cancel_answer}
use Rattle.table.specs.declared.answers.Answer.TheVariants.{TaskListOverflow}
use Rattle.table.specs.declared.Table.{Table}
use Rattle.table.specs.Configuration.{receiver_of, sender_of}
use Rattle.calls.specs.Effects.{Effect, refuse, done}
use Rattle.calls.specs.Levels.{with_orders}
use Rattle.timers.specs.Timers.{entering, cancelled_answer, cancelling, cancelled_of}

-- the answer has the number that the order table gives
pub answer_number : (c : Result Orders NotCancelled) → number_of (cancelled_answer c) ≡ cancelled_number c
answer_number (Ok left) = refl
answer_number (Err BadSender) = refl
answer_number (Err UnknownReceiver) = refl
answer_number (Err NoOrder) = refl
answer_number (Err NotFound) = refl
answer_number (Err NotTheirs) = refl

-- A cancel of the order table and what the call does then: done, and the orders that are left stand; or refused, and the table is as it was.
abbrev pub DoneOrSame : Table → Result Orders NotCancelled → Effect → Type 0
DoneOrSame t c e =
    ((left : Orders) × (c ≡ Ok left) × (e ≡ done (with_orders t left)))
    ⊎ ((why : NotCancelled) × (c ≡ Err why) × (e ≡ refuse t (cancel_answer why)))

same_refused : (t : Table) (c : Result Orders NotCancelled) → DoneOrSame t c (cancelling c t)
same_refused t (Ok left) = inl (left, refl, refl)
same_refused t (Err why) = inr (why, refl, refl)

-- so it is whoever is named as sender and as receiver
pub done_or_same : (sender receiver : Target) (t : Table) → DoneOrSame t (cancel_of sender receiver t.orders) (cancelling (cancel_of sender receiver t.orders) t)
done_or_same sender receiver t = same_refused t (cancel_of sender receiver t.orders)

-- and of the numbers that the call is given
pub cancelled_or_same : (t : Table) (sender receiver : ℕ)
    → DoneOrSame t (cancel_of (sender_of sender) (receiver_of t.config receiver) t.orders) (cancelled_of t sender receiver)
unfolding cancelled_of
cancelled_or_same t sender receiver = done_or_same (sender_of sender) (receiver_of t.config receiver) t

module _ (P : Effect → Type 0) (t : Table) where
  -- what holds of a cancel that is done and of each that is refused holds of any
  pub by_cancel : (c : Result Orders NotCancelled) → ((left : Orders) → P (done (with_orders t left))) → ((why : NotCancelled) → P (refuse t (cancel_answer why)))
      → P (cancelling c t)
  by_cancel (Ok left) finished refused = finished left
  by_cancel (Err why) finished refused = refused why

  -- the same of an order that is entered, or for which no place is left
  pub by_entry : (e : Option Orders) → ((orders : Orders) → P (done (with_orders t orders))) → P (refuse t TaskListOverflow) → P (entering e t)
  by_entry (Some orders) entered full = entered orders
  by_entry None entered full = full
