-- The promises of runs are not empty: runs that meet what they ask, with what comes of them, by computing. Assumes nothing.
use mathlib.Core.Path.{◌≡◌, refl}
use mathlib.Core.Bool.{true, false}
use mathlib.Core.List.{List, [], ◌∷◌, ◌++◌}
use Prim.Native.Nat.{ℕ}
use lib.ListN.{length, get_or, replicate}
use Rattle.common.specs.Choice.{pick}
use Rattle.common.specs.Every.{every_below}
use Rattle.common.specs.Keep.{keep_of}
use Rattle.common.specs.Packing.{packed_of}
use Rattle.common.specs.Stands.{stands_in}
use Rattle.day.specs.Fields.{made_of}
use Rattle.day.specs.TimeOfDay.{at, forward_of, until_of}
use Rattle.inputs.specs.InputSet.{bit_of, word_of, has_of, set_of, empty_of as no_inputs, except_of, run_of as input_run, rising_of, members_of, count_of}
use Rattle.pool.specs.Control.{fresh_of as fresh_pool}
use Rattle.process.specs.States.{next_of}
use Rattle.process.specs.declared.Condition.TheVariants.{Always}
use Rattle.process.specs.Marks.{tell_of}
use Rattle.process.specs.Messages.{zeros, put_of}
use Rattle.process.specs.Process.{moved_of, handed_of, stored_of, deliver_of}
use Rattle.common.specs.Filled.{filled_of, items_of, pushed_of}
use Rattle.semaphores.specs.Queues.{levels_for, without_first, leaving_of}
use Rattle.semaphores.specs.Semaphores.{usable_of, fresh_of as fresh_semaphores, holder_of, waiters_of, request_of as requests_of, holds_of, not_held_of, release_of as releases_of}
use Rattle.orders.specs.Advance.{due_at, due_of, due_count_of, onward_of, lefts_of, advance_of}
use Rattle.orders.specs.Cancel.{is_from, matches_of, how_many_of, without_of, removed_of, cancel_of}
use Rattle.orders.specs.Moments.{interval_of, delay_of}
use Rattle.orders.specs.Orders.{no_order, standing_of, accept_of}
use Rattle.orders.specs.Timer.{place, CarriedOut}
use Rattle.table.specs.declared.answers.Answer.TheVariants.{NoSemaphoreNumber}
use Rattle.table.specs.declared.configs.Config.{Config}
use Rattle.table.specs.declared.Table.{Table}
use Rattle.table.specs.Answers.{number_of}
use Rattle.table.specs.Configuration.{configured_of, inputs_of, good_of, receiver_of, sender_of}
use Rattle.table.specs.Sound.{times_of, level_sound, levels_sound, order_sound, orders_sound, holder_sound, holders_sound, waiter_sound, queue_sound, on_card, lengths_sound, pool_sound, sound_of}
use Rattle.table.specs.Table.{fresh_of}
use Rattle.table.specs.Words.{minus_one}
use Rattle.calls.specs.Effects.{refuse, refuse_telling}
use Rattle.calls.specs.Levels.{process_at}
use Rattle.calls.specs.Verdicts.{also_of, obeyed}
use Rattle.starting.specs.Starting.{start_of}
use Rattle.posting.specs.Posting.{marked_by, one_of, all_of}
use Rattle.timers.specs.declared.NewOrder.{NewOrder}
use Rattle.timers.specs.Timers.{moment_of, ordered, schedule_of, cancelled_of, cancel_schedule_of, shutdown_of, start_scheduler_of}
use Rattle.ticking.specs.Ticking.{carried_out, carrying_out, stopping, passing, tick_at, tick_of, ticks_of}
use Rattle.holding.specs.Holding.{requested_of, request_of, released_of, release_of}
use Rattle.rtms.specs.Calls.{Call, START, SCHEDULE, CANCELSCHEDULE, SHUTDOWN, STARTSCHEDULER, REQSEMA, RELSEMA, TICK, TICKS, guarded_of, done_by}
use Rattle.runs.specs.Runs.{leaves, after_of, run_of, seen_as, seen_of}
use Rattle.runs.specs.Schedules.{deed_of, order_by, Accepted, accepted_at, first_place, Running, is_for, Lets, Undisturbed, order_steps, timed_of, followed_on, ticks_by, ticks_in}
use Rattle.runs.specs.Sight.{act_of, handed_levels, Sight, sight_after, sight_of, is_release, releases_seen, sight_at}
use Rattle.runs.specs.Turns.{BeginsToWait, asked_at, sight_then}

-- levels 2, 3 and 4, scheduler 11, one message place, two order places, card 8 and nobody privileged, from midnight on
abbrev pub plant : Config
plant = record {
  lowest = 2;
  processes = 3;
  scheduler = 11;
  places = 1;
  orders = 2;
  card = 8;
  clock = at 0;
  privileged = replicate 3 (record { level = 255; first = 0; last = 0 });
  pool = 0;
}

-- ---- a process that begins to wait with one waiter before it, and two releases

-- level 2 holds semaphore 7 and level 3 waits for it
abbrev pub held : List Call
held = START 2 32 ∷ START 3 32 ∷ START 4 32 ∷ REQSEMA 2 7 ∷ REQSEMA 3 7 ∷ []

-- level 4 requests it too, and level 2 releases it
abbrev released : Table
released = after_of (RELSEMA 2 7 ∷ []) (asked_at plant held 4 7)

-- what is seen of the semaphore then
abbrev sight_released : Sight
sight_released = sight_of 7 (seen_of (RELSEMA 2 7 ∷ []) (asked_at plant held 4 7)) (sight_then plant held 4 7)

-- what this run shows of the promise about semaphores
pub record ShowsTurns : Type 0 where
  -- level 4 is the second to wait
  pub begins : BeginsToWait plant held 4 7 2
  -- level 2 is seen to hold semaphore 7 then
  pub holds : (sight_then plant held 4 7).holds 2 ≡ true
  -- its release is the first that is seen
  pub first : releases_seen 7 (seen_of (RELSEMA 2 7 ∷ []) (asked_at plant held 4 7)) (sight_then plant held 4 7) ≡ 1
  -- and a release by level 3, which is seen to hold it then, is the second
  pub holds_then : sight_released.holds 3 ≡ true
  pub second : is_release 7 (seen_as (RELSEMA 3 7) released) sight_released ≡ true
  pub two : releases_seen 7 (seen_of (RELSEMA 2 7 ∷ RELSEMA 3 7 ∷ []) (asked_at plant held 4 7)) (sight_then plant held 4 7) ≡ 2
  -- after it level 4 is the holder
  pub turn : holder_of (leaves (RELSEMA 3 7) released).semaphores 7 ≡ 4

-- it does
pub shows_turns : ShowsTurns
unfolding every_below keep_of packed_of stands_in bit_of word_of has_of set_of no_inputs except_of input_run rising_of members_of count_of next_of moved_of items_of filled_of usable_of fresh_semaphores configured_of inputs_of good_of times_of level_sound levels_sound order_sound orders_sound holder_sound holders_sound waiter_sound queue_sound on_card lengths_sound pool_sound sound_of fresh_pool fresh_of process_at also_of obeyed start_of guarded_of after_of pushed_of levels_for without_first leaving_of holder_of waiters_of requests_of holds_of releases_of requested_of request_of released_of release_of seen_of act_of handed_levels sight_after sight_of releases_seen
shows_turns = record {
  begins = record { good = refl; answered_32 = refl; k_1_before = refl };
  holds = refl;
  first = refl;
  holds_then = refl;
  second = refl;
  two = refl;
  turn = refl;
}

-- ---- a release by one who does not hold the semaphore

-- what this run shows of the promise about what 37 tells
pub record ShowsTold : Type 0 where
  -- level 3, which waits, may not call; level 4 may, and is told that level 2 holds semaphore 7
  pub waiting : number_of (done_by (RELSEMA 3 7) (run_of plant held)).answer ≡ 33
  pub another : done_by (RELSEMA 4 7) (run_of plant held) ≡ refuse_telling (run_of plant held) 2
  -- who is seen to hold it
  pub holds : (sight_at plant held 7).holds 2 ≡ true
  -- 255 for a semaphore that nobody holds; and 15 for an unusable number
  pub nobody : done_by (RELSEMA 4 8) (run_of plant held) ≡ refuse_telling (run_of plant held) 255
  pub unusable : done_by (RELSEMA 4 32) (run_of plant held) ≡ refuse (run_of plant held) NoSemaphoreNumber

-- it does
pub shows_told : ShowsTold
unfolding every_below keep_of packed_of stands_in bit_of word_of has_of set_of no_inputs except_of input_run rising_of members_of count_of next_of moved_of items_of filled_of usable_of fresh_semaphores configured_of inputs_of good_of times_of level_sound levels_sound order_sound orders_sound holder_sound holders_sound waiter_sound queue_sound on_card lengths_sound pool_sound sound_of fresh_pool fresh_of process_at also_of obeyed start_of guarded_of after_of pushed_of levels_for without_first leaving_of holder_of waiters_of requests_of holds_of not_held_of releases_of requested_of request_of released_of release_of seen_of act_of handed_levels sight_after sight_of
shows_told = record { waiting = refl; another = refl; holds = refl; nobody = refl; unusable = refl }

-- ---- a timer order that is accepted and left to the clock

-- a relative order with nothing but zeros as its message
abbrev relative : ℕ → ℕ → ℕ → NewOrder
relative receiver to count = record {
  receiver = receiver;
  condition = Always;
  absolute = false;
  time = record { hour = 0; minute = 0; second = 0; millisecond = 0 };
  to = to;
  count = count;
  message = zeros;
}

-- the scheduler runs, and an order of level 3 stands that the next tick carries out
abbrev pub opened : List Call
opened = START 2 32 ∷ START 3 32 ∷ STARTSCHEDULER ∷ SCHEDULE 3 (relative 2 1 1) ∷ []

-- level 2 orders a message for level 3 every two ticks, three times
abbrev pub thrice : NewOrder
thrice = relative 3 2 3

-- a tick, another order, a cancel of that, and two ticks
abbrev pub meanwhile : List Call
meanwhile = TICK ∷ SCHEDULE 3 (relative 2 5 1) ∷ CANCELSCHEDULE 3 minus_one 2 ∷ TICKS 2 ∷ []

-- the table that level 2's order leaves
abbrev behind : Table
behind = accepted_at plant opened 2 thrice

-- what this run shows of the promises about timer orders
pub record ShowsOrders : Type 0 where
  -- the scheduler runs, and the order of level 3 is carried out at the next tick
  pub running : Running (run_of plant opened)
  pub one : length (standing_of (run_of plant opened).orders) ≡ 1
  pub due : CarriedOut (timed_of (run_of plant opened)) (place 0)
  -- the order of level 2 is accepted
  pub accepted : Accepted plant opened 2 thrice
  -- the steps leave it to the clock
  pub undisturbed : Undisturbed (order_by (run_of plant opened) 2 thrice) meanwhile behind
  -- and the cancel among them is answered 0
  pub cancelled : number_of (done_by (CANCELSCHEDULE 3 minus_one 2) (after_of (TICK ∷ SCHEDULE 3 (relative 2 5 1) ∷ []) behind)).answer ≡ 0
  -- after its acceptance the next tick is the fourth, which carries it out for the second time
  pub three : ticks_in meanwhile ≡ 3
  pub carried : CarriedOut (timed_of (after_of meanwhile behind)) (followed_on meanwhile behind (first_place plant opened))

-- it does
pub shows_orders : ShowsOrders
unfolding deed_of every_below keep_of packed_of stands_in bit_of word_of has_of set_of no_inputs except_of input_run rising_of members_of count_of next_of moved_of items_of filled_of pushed_of usable_of fresh_semaphores configured_of inputs_of good_of times_of level_sound levels_sound order_sound orders_sound holder_sound holders_sound waiter_sound queue_sound on_card lengths_sound pool_sound sound_of fresh_pool fresh_of process_at also_of obeyed start_of guarded_of after_of forward_of until_of made_of interval_of delay_of moment_of accept_of is_from matches_of how_many_of without_of removed_of cancel_of receiver_of sender_of put_of stored_of handed_of deliver_of tell_of marked_by one_of all_of due_of due_count_of onward_of lefts_of advance_of ordered schedule_of cancelled_of cancel_schedule_of start_scheduler_of carried_out carrying_out tick_at tick_of ticks_of Undisturbed Lets is_for ticks_in ticks_by followed_on order_steps
shows_orders = record {
  running = record { running = refl; no_switch = refl };
  one = refl;
  due = refl;
  accepted = record { good = refl; answered_0 = refl };
  undisturbed = (record { running = refl; no_switch = refl }, (tt, ((λ answered. refl), (record { running = refl; no_switch = refl }, tt))));
  cancelled = refl;
  three = refl;
  carried = refl;
}

-- ---- a scheduler that is to stop, and stops

-- an order that is due at the second tick, and a switch that is set
abbrev pub switched : List Call
switched = START 2 32 ∷ START 3 32 ∷ STARTSCHEDULER ∷ SCHEDULE 2 (relative 3 2 1) ∷ SHUTDOWN 2 ∷ []

-- the same and one tick
abbrev pub rested : List Call
rested = switched ++ (TICK ∷ [])

-- the same and two ticks
abbrev pub missed : List Call
missed = switched ++ (TICKS 2 ∷ [])

-- what these runs show of the promises about a scheduler that is stopped
pub record ShowsStops : Type 0 where
  -- at the next tick the scheduler stops
  pub stops : pick (run_of plant switched).scheduler.running (run_of plant switched).scheduler.switch true ≡ true
  -- after it the scheduler is stopped, and the next tick is the one at which the order is due
  pub stopped : (run_of plant rested).scheduler.running ≡ false
  pub due : CarriedOut (timed_of (run_of plant rested)) (place 0)
  -- after that the order stands as it stood, and its moment has passed
  pub one : length (standing_of (run_of plant missed).orders) ≡ 1
  pub passed : due_at (run_of plant missed).clock (get_or (standing_of (run_of plant missed).orders) 0 no_order) ≡ true

-- they do
pub shows_stops : ShowsStops
unfolding every_below keep_of packed_of stands_in bit_of word_of has_of set_of no_inputs except_of input_run rising_of members_of count_of next_of moved_of items_of filled_of pushed_of usable_of fresh_semaphores configured_of inputs_of good_of times_of level_sound levels_sound order_sound orders_sound holder_sound holders_sound waiter_sound queue_sound on_card lengths_sound pool_sound sound_of fresh_pool fresh_of process_at also_of obeyed start_of guarded_of after_of forward_of interval_of delay_of moment_of accept_of ordered schedule_of start_scheduler_of shutdown_of stopping passing tick_at tick_of ticks_of
shows_stops = record { stops = refl; stopped = refl; due = refl; one = refl; passed = refl }
