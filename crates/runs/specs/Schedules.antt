-- Demand 3: "A timer order accepted with a first delay d, an interval e and a count n is carried out on ticks d, d+e, d+2e and so on after its
-- acceptance, n times, or without end if n is 0, and on no other tick", as long as the scheduler runs and nobody cancels the order.
use Rattle.std.specs.Prelude.{◌≡◌, Bool, true, false, ◌&&◌, ◌||◌, List, [], ◌∷◌, ℕ, zero, suc, ◌+◌, ◌<◌, eqb, length, get_or, take, replicate}
use Rattle.common.specs.Choice.{pick}
use Rattle.day.specs.declared.TimeOfDay.{TimeOfDay}
use Rattle.day.specs.TimeOfDay.{day, forward_of}
use Rattle.orders.specs.declared.Order.{Order}
use Rattle.orders.specs.Moments.{interval_of, delay_of}
use Rattle.orders.specs.Orders.{no_order, standing_of}
use Rattle.orders.specs.Advance.{due_at, due_of}
use Rattle.orders.specs.Timer.{Timed, timed, Step, ticks, accepts, cancels, Place, place, followed, CarriedOut, KeepsTime}
use Rattle.table.specs.declared.configs.Config.{Config}
use Rattle.table.specs.declared.Table.{Table}
use Rattle.table.specs.Answers.{number_of}
use Rattle.table.specs.Configuration.{good_of, sender_of}
use Rattle.table.specs.Words.{minus_one}
use Rattle.calls.specs.Effects.{number}
use Rattle.timers.specs.declared.NewOrder.{NewOrder}
use Rattle.timers.specs.Timers.{moment_of, first_by, order_of}
use Rattle.ticking.specs.Ticking.{carried_out, due_now}
use Rattle.rtms.specs.Calls.{Call, START, SETPRIORITY, SEND, RECEIVE, AWAITMESSAGE, CLEARMESSAGE, SCHEDULE, CANCELSCHEDULE, SHUTDOWN, STARTSCHEDULER, READTIME, ENABLE, DISABLE, AWAITINTERRUPT, RESETINT, EVENT, REQSEMA, RELSEMA, INITPOOL, POOLCHECK, GETPOOL, PUTPOOL, TICK, TICKS, done_by}
use Rattle.runs.specs.Runs.{leaves, after_of, run_of}

-- ---- the order that a SCHEDULE enters

-- the order, with its sender, receiver, condition and message, its interval e and its count n
abbrev pub order_by : Table → ℕ → NewOrder → Order
order_by t caller new = order_of t.clock caller new.receiver (moment_of new.absolute new.time) new

-- its first delay d
abbrev pub first_delay : Table → NewOrder → ℕ
first_delay t new = delay_of t.clock (interval_of new.to) (first_by (moment_of new.absolute new.time))

-- "a timer order accepted": after these steps the SCHEDULE is answered 0
pub record Accepted (c : Config) (before : List Call) (caller : ℕ) (new : NewOrder) : Type 0 where
  pub good : good_of c ≡ true
  pub answered_0 : number_of (done_by (SCHEDULE caller new) (run_of c before)).answer ≡ 0

-- the table that it leaves, and the place at which the order stands then: behind all others
abbrev pub accepted_at : Config → List Call → ℕ → NewOrder → Table
accepted_at c before caller new = leaves (SCHEDULE caller new) (run_of c before)

abbrev pub first_place : Config → List Call → Place
first_place c before = place (length (standing_of (run_of c before).orders))

-- ---- what may come later

-- "every tick finds the scheduler running and no switch set"
pub record Running (t : Table) : Type 0 where
  pub running : t.scheduler.running ≡ true
  pub no_switch : t.scheduler.switch ≡ false

-- a cancel by sender and receiver is one for the order: it names the order's receiver, and all senders or the order's own
unfoldable pub is_for : Order → ℕ → ℕ → Bool
is_for x sender receiver = eqb receiver x.receiver && (eqb sender minus_one || eqb sender x.sender)

-- what a call has to do with the clock and the orders: so many ticks; a SCHEDULE, with its caller and the new order; a CANCELSCHEDULE, with its caller,
-- the sender and the receiver
pub data Deed : Type 0 where
  passes : ℕ → Deed
  orders : ℕ → NewOrder → Deed
  withdraws : ℕ → ℕ → ℕ → Deed
  neither : Deed

unfoldable pub deed_of : Call → Deed
deed_of TICK = passes 1
deed_of (TICKS n) = passes n
deed_of (SCHEDULE caller new) = orders caller new
deed_of (CANCELSCHEDULE caller sender receiver) = withdraws caller sender receiver
deed_of (START level priority) = neither
deed_of (SETPRIORITY caller priority) = neither
deed_of (SEND caller receiver condition m) = neither
deed_of (RECEIVE caller) = neither
deed_of (AWAITMESSAGE caller) = neither
deed_of (CLEARMESSAGE caller receiver) = neither
deed_of (SHUTDOWN caller) = neither
deed_of STARTSCHEDULER = neither
deed_of (READTIME caller) = neither
deed_of (ENABLE caller input) = neither
deed_of (DISABLE caller input) = neither
deed_of (AWAITINTERRUPT caller) = neither
deed_of (RESETINT caller input) = neither
deed_of (EVENT input) = neither
deed_of (REQSEMA caller asked) = neither
deed_of (RELSEMA caller given) = neither
deed_of (INITPOOL caller) = neither
deed_of (POOLCHECK caller stated) = neither
deed_of (GETPOOL caller offset count own) = neither
deed_of (PUTPOOL caller offset count given) = neither

-- a step leaves the order to the clock: ticks find the scheduler running, and a CANCELSCHEDULE that is answered 0 is not for the order
abbrev pub lets_by : Order → Deed → Table → Type 0
lets_by x (passes zero) t = Unit
lets_by x (passes (suc n)) t = Running t
lets_by x (orders caller new) t = Unit
lets_by x (withdraws caller sender receiver) t = number_of (done_by (CANCELSCHEDULE caller sender receiver) t).answer ≡ 0 → is_for x sender receiver ≡ false
lets_by x neither t = Unit

unfoldable pub Lets : Order → Call → Table → Type 0
Lets x call t = lets_by x (deed_of call) t

-- and so do all steps of a sequence
unfoldable pub Undisturbed : Order → List Call → Table → Type 0
Undisturbed x [] t = Unit
Undisturbed x (call ∷ later) t = Lets x call t × Undisturbed x later (leaves call t)

-- ---- where the order is, and how many ticks have been

-- what a step does to the orders that stand: it ticks, enters an order that is accepted, or takes those that a cancel is for
abbrev pub steps_by : Deed → Table → List Step
steps_by (passes n) t = replicate n ticks
steps_by (orders caller new) t = pick (eqb (number_of (done_by (SCHEDULE caller new) t).answer) 0) (accepts (order_by t caller new) ∷ []) []
steps_by (withdraws caller sender receiver) t =
    pick (eqb (number_of (done_by (CANCELSCHEDULE caller sender receiver) t).answer) 0) (cancels (sender_of sender) receiver ∷ []) []
steps_by neither t = []

unfoldable pub order_steps : Call → Table → List Step
order_steps call t = steps_by (deed_of call) t

-- the clock and the orders that stand
abbrev pub timed_of : Table → Timed
timed_of t = timed t.clock (standing_of t.orders)

-- a place followed through steps: as many places down as orders before it have left, or gone
unfoldable pub followed_on : List Call → Table → Place → Place
followed_on [] t p = p
followed_on (call ∷ later) t p = followed_on later (leaves call t) (followed (order_steps call t) (timed_of t) p)

-- how many ticks a step is, and a sequence of steps
abbrev pub passed_by : Deed → ℕ
passed_by (passes n) = n
passed_by (orders caller new) = 0
passed_by (withdraws caller sender receiver) = 0
passed_by neither = 0

unfoldable pub ticks_by : Call → ℕ
ticks_by call = passed_by (deed_of call)

unfoldable pub ticks_in : List Call → ℕ
ticks_in [] = 0
ticks_in (call ∷ later) = ticks_by call + ticks_in later

-- ---- what is promised

-- "is carried out on ticks d, d+e, d+2e and so on .., n times, or without end .., and on no other tick": `KeepsTime` of crates/orders, for the order
-- where it was followed to. The tick after `later`, which is tick ticks_in later + 1 since the acceptance, carries it out exactly if it is one of these;
-- it is gone exactly when the last of them is past; and until then it has its own sender, receiver, condition, interval and message.
abbrev pub OrdersKeepTime : Type 0
OrdersKeepTime = (c : Config) (before : List Call) (caller : ℕ) (new : NewOrder) → Accepted c before caller new
    → (later : List Call) → Undisturbed (order_by (run_of c before) caller new) later (accepted_at c before caller new)
    → KeepsTime (order_by (run_of c before) caller new) (first_delay (run_of c before) new) (ticks_in later)
    (timed_of (after_of later (accepted_at c before caller new)))
    (followed_on later (accepted_at c before caller new) (first_place c before))

-- "carried out" means what demand 2 says: a tick delivers the messages of the orders that are due, in order of acceptance, and reports how many
-- these are
pub record Delivers (t : Table) : Type 0 where
  pub wakes : (done_by TICK t).wakes ≡ (carried_out t.config.places (due_now (forward_of t.clock 1) t) t.processes).wakes
  pub processes : (leaves TICK t).processes ≡ (carried_out t.config.places (due_now (forward_of t.clock 1) t) t.processes).processes
  pub report : (done_by TICK t).carried ≡ number (length (due_now (forward_of t.clock 1) t))
  -- an order that is carried out is one of them, behind those that are due and stand before it
  pub among : (i : ℕ) → i < length (standing_of t.orders) → CarriedOut (timed_of t) (place i)
      → get_or (due_now (forward_of t.clock 1) t) (length (due_of (forward_of t.clock 1) (take i (standing_of t.orders)))) no_order
      ≡ get_or (standing_of t.orders) i no_order

abbrev pub TicksDeliver : Type 0
TicksDeliver = (c : Config) → good_of c ≡ true → (steps : List Call) → Running (run_of c steps) → Delivers (run_of c steps)

-- "While it is stopped the clock runs, .., and a due moment passes unused": such a tick changes no order, wakes nobody and reports none
pub record PassesUnused (t : Table) : Type 0 where
  pub clock : (leaves TICK t).clock ≡ forward_of t.clock 1
  pub orders : (leaves TICK t).orders ≡ t.orders
  pub processes : (leaves TICK t).processes ≡ t.processes
  pub wakes : (done_by TICK t).wakes ≡ []
  pub report : (done_by TICK t).carried ≡ number 0

-- and the order waits until the clock next reads that time of day: a whole day later, and not before
pub record WaitsADay (x : Order) (clock : TimeOfDay) : Type 0 where
  pub not_before : (k : ℕ) → 0 < k → k < day → due_at (forward_of clock k) x ≡ false
  pub a_day_later : due_at (forward_of clock day) x ≡ true

abbrev pub StoppedTicksPass : Type 0
StoppedTicksPass = (c : Config) → good_of c ≡ true → (steps : List Call)
    → pick (run_of c steps).scheduler.running (run_of c steps).scheduler.switch true ≡ true → PassesUnused (run_of c steps)

-- the moment at which the order was due has passed: the clock reads it
abbrev pub MissedMomentsReturn : Type 0
MissedMomentsReturn = (c : Config) → good_of c ≡ true → (steps : List Call) (x : Order)
    → due_at (run_of c steps).clock x ≡ true → WaitsADay x (run_of c steps).clock
