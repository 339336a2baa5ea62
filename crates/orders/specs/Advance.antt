-- Document 01, "Timer orders": which orders a moment carries out, and what becomes of them.
use Rattle.std.specs.Prelude.{Bool, List, [], ◌∷◌, ◌++◌, ℕ, zero, suc, ◌-◌, min, eqb, length, Option, Some, None}
use Rattle.common.specs.Choice.{pick}
use Rattle.common.specs.Keep.{keep_of}
use Rattle.day.specs.declared.TimeOfDay.{TimeOfDay}
use Rattle.day.specs.TimeOfDay.{day, forward_of, until_of}
use Rattle.orders.specs.declared.Order.{Order}
use Rattle.orders.specs.declared.Orders.{Orders}
use Rattle.orders.specs.Orders.{standing_of, orders_of}

-- "due at the new time"
abbrev pub due_at : TimeOfDay → Order → Bool
due_at now x = eqb x.due.milliseconds now.milliseconds

-- "all orders due at the new time are carried out in order of acceptance", and as many the tick reports
unfoldable pub due_of : TimeOfDay → List Order → List Order
due_of now l = keep_of (due_at now) l

unfoldable pub due_count_of : TimeOfDay → Orders → ℕ
due_count_of now o = length (due_of now (standing_of o))

-- "A finite count falls by 1; ..; otherwise it is next due e later"; a count of 0, which is without end, stays
abbrev pub again_of : Order → Order
again_of x = record {
  sender = x.sender;
  receiver = x.receiver;
  condition = x.condition;
  due = forward_of x.due x.every;
  every = x.every;
  left = x.left - 1;
  message = x.message;
}

-- "at 0 the order leaves"
unfoldable pub onward_of : TimeOfDay → Order → Option Order
onward_of now x = pick (due_at now x) (pick (eqb x.left 1) None (Some (again_of x))) (Some x)

-- what is left of an order after a moment: itself, or what it is next, or nothing
abbrev pub left_of : Option Order → List Order
left_of None = []
left_of (Some x) = x ∷ []

-- each order by itself, "in order of acceptance, also where a freed place was used again"
unfoldable pub lefts_of : (Order → Option Order) → List Order → List Order
lefts_of onward [] = []
lefts_of onward (x ∷ l) = left_of (onward x) ++ lefts_of onward l

abbrev pub advancing : TimeOfDay → List Order → List Order
advancing now l = lefts_of (onward_of now) l

-- a moment at which none is due leaves the orders as they are, free places too
unfoldable pub advance_of : TimeOfDay → Orders → Orders
advance_of now o = pick (eqb (due_count_of now o) 0) o (orders_of (advancing now (standing_of o)))

-- how long until the next moment at which an order is due: a day at most
unfoldable pub next_due : TimeOfDay → List Order → ℕ
next_due clock [] = day
next_due clock (x ∷ l) = min (until_of clock x.due) (next_due clock l)

unfoldable pub next_due_of : TimeOfDay → Orders → ℕ
next_due_of clock o = next_due clock (standing_of o)

-- ---- how the code comes to that

-- all but the one at a place
unfoldable pub without_at : ℕ → List Order → List Order
without_at place [] = []
without_at zero (x ∷ l) = l
without_at (suc place) (x ∷ l) = x ∷ without_at place l

-- in a table that is written anew, free places too
unfoldable pub without_place_of : ℕ → Orders → Orders
without_place_of place o = orders_of (without_at place (standing_of o))
