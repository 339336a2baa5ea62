-- Document 01, "Timer orders": the order table, in order of acceptance.
use Rattle.std.specs.Prelude.{◌≡◌, Bool, List, [], ◌∷◌, ℕ, suc, min, ltb, Option, Some, None}
use Rattle.std.specs.Borrow.{Bor}
use Rattle.common.specs.Choice.{pick}
use Rattle.common.specs.Filled.{items_of, filled_of, pushed_of}
use Rattle.day.specs.TimeOfDay.{at}
use Rattle.process.specs.Messages.{zeros}
use Rattle.process.specs.declared.Condition.TheVariants.{Always}
use Rattle.orders.specs.declared.Order.{Order}
use Rattle.orders.specs.declared.Orders.{Orders}

-- what lies in a free place
abbrev pub no_order : Order
no_order = record { sender = 0; receiver = 0; condition = Always; due = at 0; every = 0; left = 0; message = zeros }

-- the orders that stand, the first accepted first
abbrev pub standing_of : Orders → List Order
standing_of o = items_of 64 o.list

-- a list of orders in a table of 64 places
abbrev pub orders_of : List Order → Orders
orders_of l = record { list = filled_of 64 no_order l }

abbrev pub none_of : Orders
none_of = orders_of []

-- those that pass a test of their place, which is counted from a first number on, and of themselves
unfoldable pub kept_from : (ℕ → Order → Bool) → ℕ → List Order → List Order
kept_from test at [] = []
kept_from test at (x ∷ l) = pick (test at x) (x ∷ kept_from test (suc at) l) (kept_from test (suc at) l)

-- what answers for a place and an order goes by that test
abbrev pub Decides : (ℕ → Bor Order → Bool → Type 0) → (ℕ → Order → Bool) → Type 0
Decides answers test = (at : ℕ) (order : Bor Order) (passed : Bool) → answers at order passed → passed ≡ test at order.now

-- behind all others; where all 64 places are taken it is left out
abbrev pub push_of : Orders → Order → Orders
push_of o x = record { list = pushed_of 64 o.list x }

-- "13 TASKLISTOFL: all A order places taken"; A is at most 64
unfoldable pub accept_of : Orders → ℕ → Order → Option Orders
accept_of o places x = pick (ltb o.list.count (min places 64)) (Some (push_of o x)) None
