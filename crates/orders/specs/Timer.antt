-- Demand 3 at the level of the order table: "A timer order accepted with a first delay d, an interval e and a count n is carried out on ticks
-- d, d+e, d+2e and so on after its acceptance, n times, or without end if n is 0, and on no other tick". What happens meanwhile is any
-- sequence of ticks, acceptances of other orders, and cancels that do not match it. The order is followed by its place, so that it is never
-- taken for another one with the same receiver, moment and message.
use Rattle.std.specs.Prelude.{◌≡◌, Bool, true, not, List, [], ◌∷◌, ◌++◌, ◌⊎◌, ℕ, suc, ◌+◌, ◌-◌, ◌*◌, ◌<◌, ◌≤◌, length, get_or, take}
use Rattle.std.specs.Option.{is_some}
use Rattle.common.specs.Choice.{pick}
use Rattle.common.specs.Keep.{keep_of}
use Rattle.day.specs.declared.TimeOfDay.{TimeOfDay}
use Rattle.day.specs.TimeOfDay.{forward_of}
use Rattle.process.specs.declared.Target.{Target}
use Rattle.orders.specs.declared.Order.{Order}
use Rattle.orders.specs.Orders.{no_order}
use Rattle.orders.specs.Advance.{due_at, onward_of, advancing}
use Rattle.orders.specs.Cancel.{matches_of}

-- the clock, and the orders that stand
pub record Timed : Type 0 where
  pub clock : TimeOfDay
  pub orders : List Order

abbrev pub timed : TimeOfDay → List Order → Timed
timed clock orders = record { clock = clock; orders = orders }

pub data Step : Type 0 where
  ticks : Step
  accepts : Order → Step
  -- by sender and receiver
  cancels : Target → ℕ → Step

-- what the clock reads after the next tick
abbrev pub soon : Timed → TimeOfDay
soon t = forward_of t.clock 1

abbrev pub stays_after : Target → ℕ → Order → Bool
stays_after sender receiver x = not (matches_of sender receiver x)

abbrev pub step_of : Step → Timed → Timed
step_of ticks t = timed (soon t) (advancing (soon t) t.orders)
step_of (accepts x) t = timed t.clock (t.orders ++ (x ∷ []))
step_of (cancels sender receiver) t = timed t.clock (keep_of (stays_after sender receiver) t.orders)

abbrev pub after_of : List Step → Timed → Timed
after_of [] t = t
after_of (s ∷ steps) t = after_of steps (step_of s t)

-- how many ticks a sequence of steps has
abbrev pub ticks_of : List Step → ℕ
ticks_of [] = 0
ticks_of (ticks ∷ steps) = suc (ticks_of steps)
ticks_of (accepts x ∷ steps) = ticks_of steps
ticks_of (cancels sender receiver ∷ steps) = ticks_of steps

-- where an order is: at a place of the table, or gone
pub data Place : Type 0 where
  place : ℕ → Place
  gone : Place

-- the order at a place
abbrev pub order_at : Timed → ℕ → Order
order_at t i = get_or t.orders i no_order

-- a place after a step: as many places down as orders before it have left
abbrev pub place_after : Step → Timed → Place → Place
place_after ticks t (place i) = pick (is_some (onward_of (soon t) (order_at t i))) (place (length (advancing (soon t) (take i t.orders)))) gone
place_after (accepts x) t (place i) = place i
place_after (cancels sender receiver) t (place i) =
    pick (stays_after sender receiver (order_at t i)) (place (length (keep_of (stays_after sender receiver) (take i t.orders)))) gone
place_after ticks t gone = gone
place_after (accepts x) t gone = gone
place_after (cancels sender receiver) t gone = gone

abbrev pub followed : List Step → Timed → Place → Place
followed [] t p = p
followed (s ∷ steps) t p = followed steps (step_of s t) (place_after s t p)

-- no cancel of a sequence matches the order
abbrev pub Spared : Order → List Step → Type 0
Spared x [] = Unit
Spared x (ticks ∷ steps) = Spared x steps
Spared x (accepts y ∷ steps) = Spared x steps
Spared x (cancels sender receiver ∷ steps) = (stays_after sender receiver x ≡ true) × Spared x steps

-- tick k is one of d, d+e, d+2e, .. : the first n of them, or any of them if n is 0
abbrev pub Fires : ℕ → ℕ → ℕ → ℕ → Type 0
Fires d e n k = (i : ℕ) × (k ≡ d + i * e) × ((n ≡ 0) ⊎ (i < n))

-- the next tick carries the order out
abbrev pub CarriedOut : Timed → Place → Type 0
CarriedOut t (place i) = due_at (soon t) (order_at t i) ≡ true
CarriedOut t gone = ⊥

-- n is finite, and the last of the n ticks is past
abbrev pub Finished : ℕ → ℕ → ℕ → ℕ → Type 0
Finished d e n k = (0 < n) × (d + (n - 1) * e ≤ k)

-- an order as it was accepted, but for the moment at which it is next due and the count that is left
abbrev pub aged_of : Order → TimeOfDay → ℕ → Order
aged_of x due left = record {
  sender = x.sender;
  receiver = x.receiver;
  condition = x.condition;
  due = due;
  every = x.every;
  left = left;
  message = x.message;
}

abbrev pub Gone : Place → Type 0
Gone (place i) = ⊥
Gone gone = Unit

-- how an order that was accepted with a first delay d is found k ticks later, at the place where it was followed to
pub record KeepsTime (x : Order) (d k : ℕ) (t : Timed) (p : Place) : Type 0 where
  -- the next tick carries it out only where its schedule has that tick, and wherever it has
  pub carried_scheduled : CarriedOut t p → Fires d x.every x.left (suc k)
  pub scheduled_carried : Fires d x.every x.left (suc k) → CarriedOut t p
  -- it has left the table only when its last firing is past, and whenever it is
  pub gone_finished : Gone p → Finished d x.every x.left k
  pub finished_gone : Finished d x.every x.left k → Gone p
  -- and what stands at its place is it, with its own sender, receiver, condition, interval and message
  pub its_own : (i : ℕ) → p ≡ place i → order_at t i ≡ aged_of x (order_at t i).due (order_at t i).left
