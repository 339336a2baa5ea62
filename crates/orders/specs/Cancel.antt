-- Document 01, "Timer orders": "CANCELSCHEDULE (sender, receiver): sender -1 or 0..11, else 6; receiver, 1; then 7, 8; then 6 where a sender is
-- named and none of that receiver's orders is its own. Otherwise all matching orders leave."
use Rattle.std.specs.Prelude.{Bool, true, false, not, ◌&&◌, ℕ, eqb, length, Result, Ok, Err}
use Rattle.common.specs.Choice.{pick}
use Rattle.common.specs.Keep.{keep_of}
use Rattle.process.specs.declared.Target.{Target}
use Rattle.process.specs.declared.Target.TheVariants.{All, Level, Unknown}
use Rattle.orders.specs.declared.Order.{Order}
use Rattle.orders.specs.declared.Orders.{Orders}
use Rattle.orders.specs.declared.NotCancelled.{NotCancelled}
use Rattle.orders.specs.declared.NotCancelled.TheVariants.{BadSender, UnknownReceiver, NoOrder, NotFound, NotTheirs}
use Rattle.orders.specs.Orders.{standing_of, orders_of}

-- document 01, "Answer numbers": 6 PARAMERROR, 1 RECUNKNOWN, 7 NOTASK, 8 NOTFOUND, 6 again
abbrev pub refused_number : NotCancelled → ℕ
refused_number BadSender = 6
refused_number UnknownReceiver = 1
refused_number NoOrder = 7
refused_number NotFound = 8
refused_number NotTheirs = 6

-- and 0 OK, whatever comes with it
abbrev pub cancelled_number : {A : Type 0} → Result A NotCancelled → ℕ
cancelled_number (Ok done) = 0
cancelled_number (Err why) = refused_number why

-- the orders after a cancel: one that is refused leaves them as they stood
abbrev pub after_cancel : Orders → Result Orders NotCancelled → Orders
after_cancel o (Ok left) = left
after_cancel o (Err why) = o

-- whose orders are meant: anybody's, or those of one sender and of no other
unfoldable pub is_from : Target → Order → Bool
is_from All x = true
is_from (Level level) x = eqb x.sender level
is_from Unknown x = false

-- an order for the receiver, and the sender's own
unfoldable pub matches_of : Target → ℕ → Order → Bool
matches_of sender receiver x = eqb x.receiver receiver && is_from sender x

unfoldable pub how_many_of : Target → ℕ → Orders → ℕ
how_many_of sender receiver o = length (keep_of (matches_of sender receiver) (standing_of o))

-- "all matching orders leave"
unfoldable pub without_of : Target → ℕ → Orders → Orders
without_of sender receiver o = orders_of (keep_of (λ x. not (matches_of sender receiver x)) (standing_of o))

-- "then 7, 8; then 6": no order stands, none is for the receiver, none of those is the sender's
unfoldable pub removed_of : Target → ℕ → Orders → Result Orders NotCancelled
removed_of sender receiver o =
    pick (eqb o.list.count 0) (Err NoOrder)
    (pick (eqb (how_many_of All receiver o) 0) (Err NotFound)
    (pick (eqb (how_many_of sender receiver o) 0) (Err NotTheirs)
    (Ok (without_of sender receiver o))))

abbrev pub to_receiver : Target → Target → Orders → Result Orders NotCancelled
to_receiver sender All o = Err UnknownReceiver
to_receiver sender (Level receiver) o = removed_of sender receiver o
to_receiver sender Unknown o = Err UnknownReceiver

unfoldable pub cancel_of : Target → Target → Orders → Result Orders NotCancelled
cancel_of All receiver o = to_receiver All receiver o
cancel_of (Level level) receiver o = to_receiver (Level level) receiver o
cancel_of Unknown receiver o = Err BadSender
