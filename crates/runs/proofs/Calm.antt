-- What the calls do that are neither ticks nor about timer orders: they are not answered 35, and leave the clock and the orders. Assumes nothing.
use mathlib.Core.Path.{◌≡◌, refl}
use mathlib.Core.Bool.{Bool}
use Rattle.std.specs.Prelude.{Option, Some, None, Result, Ok, Err}
use mathlib.Core.List.{[], ◌∷◌}
use Prim.Native.Nat.{ℕ}
use lib.Dec.{eqb}
use lib.ListN.{length}
use Rattle.std.specs.Prelude.{Option, Some, None}
use Rattle.common.proofs.Cases.{by_pick}
use Rattle.inputs.specs.InputSet.{count_of}
use Rattle.process.specs.declared.Condition.{Condition}
use Rattle.process.specs.declared.Condition.TheVariants.{Always, Waiting}
use Rattle.process.specs.declared.buffers.Message.{Message}
use Rattle.process.specs.declared.marking.Told.{Told}
use Rattle.process.specs.declared.marking.Told.TheVariants.{Nothing, Overflow, Time}
use Rattle.process.specs.Process.{taken_of}
use Rattle.semaphores.specs.declared.Unusable.{Unusable}
use Rattle.semaphores.specs.declared.Requested.{Requested}
use Rattle.semaphores.specs.declared.Requested.TheVariants.{Held, Waits}
use Rattle.semaphores.specs.declared.NotReleased.{NotReleased}
use Rattle.semaphores.specs.declared.NotReleased.TheVariants.{NotHolder}
use Rattle.semaphores.specs.declared.Semaphores.{Semaphores}
use Rattle.semaphores.specs.Semaphores.{requested_in, released_in, request_of as requests_of, release_of as releases_of}
use Rattle.table.specs.declared.answers.Answer.{Answer}
use Rattle.table.specs.declared.answers.Answer.TheVariants.{ReceiverBufferOverflow, NoPoolInit, PoolOverflow, DataLengthFault, PoolLengthFault}
use Rattle.table.specs.declared.configs.Privileged.{Privileged}
use Rattle.table.specs.declared.Table.{Table}
use Rattle.table.specs.Configuration.{receiver_of, privilege_of, owner_of}
use Rattle.table.specs.Words.{minus_one}
use Rattle.calls.specs.Effects.{Effect, message, carrying}
use Rattle.calls.specs.Levels.{process_of}
use Rattle.table.specs.Answers.{told_as}
use Rattle.calls.specs.Verdicts.{Checked, check, after, obeyed, by_caller}
use Rattle.starting.specs.Starting.{start_of, set_priority_of}
use Rattle.posting.specs.Posting.{Posted}
use Rattle.messages.specs.Sending.{send_posted, sent_by, sent_of, send_of}
use Rattle.messages.specs.Receiving.{taking_of, receive_of, await_message_of, clear_message_of}
use Rattle.timers.specs.declared.NewOrder.{NewOrder}
use Rattle.timers.specs.Timers.{shutdown_of, start_scheduler_of, read_time_of}
use Rattle.interrupts.specs.Interrupts.{enable_of, disable_of, came_of, open_of, awaiting_of, awaiting_by, await_interrupt_of, reset_interrupt_of, opened_of, opened_by, latched_of, event_of}
use Rattle.holding.specs.Holding.{requested_by, requested_of, request_of, released_by, released_of, released_all_of, release_of}
use Rattle.pooling.specs.Pooling.{init_pool_of, pool_check_of, get_pool_of, put_pool_of}
use Rattle.rtms.specs.Calls.{Call, START, SETPRIORITY, SEND, RECEIVE, AWAITMESSAGE, CLEARMESSAGE, SCHEDULE, CANCELSCHEDULE, SHUTDOWN, STARTSCHEDULER, READTIME, ENABLE, DISABLE, AWAITINTERRUPT, RESETINT, EVENT, REQSEMA, RELSEMA, INITPOOL, POOLCHECK, GETPOOL, PUTPOOL, TICK, TICKS, effect_of}
use Rattle.runs.specs.Schedules.{deed_of, order_steps, timed_of, ticks_by}
use Rattle.runs.proofs.Answering.{Unlike, Avoids, avoids_none, avoids_more, avoids_caller, by_obeyed}

-- an effect is not answered 35, and leaves the clock and the orders that stand
unfoldable pub Mild : Table → Effect → Type 0
Mild t effect = Unlike 35 effect.answer × (timed_of effect.table ≡ timed_of t)

module _ (t : Table) where
  -- an effect with such an answer and such a table
  mild : (effect : Effect) → Unlike 35 effect.answer → timed_of effect.table ≡ timed_of t → Mild t effect
  unfolding Mild
  mild effect other same = (other, same)

  -- such an effect after checks
  mild_obeyed : (v : Checked) (effect : Effect) → Avoids 35 v → Mild t effect → Mild t (obeyed v t effect)
  mild_obeyed v effect avoids holds = by_obeyed (Mild t) 35 v t effect avoids (λ answer other. mild _ other refl) holds

  -- the caller's checks do not refuse with 35
  own : (caller : ℕ) → Avoids 35 (by_caller t.config (process_of t caller) caller)
  own caller = avoids_caller 35 t.config (process_of t caller) caller refl refl

  -- a message that is handed over, with a mark or none
  mild_told : (told : Told) (m : Message) (then : Table) → timed_of then ≡ timed_of t → Mild t (carrying (told_as told) (message m) then)
  mild_told Nothing m then same = mild _ refl same
  mild_told Overflow m then same = mild _ refl same
  mild_told Time m then same = mild _ refl same

  -- the oldest message taken
  mild_taking : (caller : ℕ) → Mild t (taking_of t caller)
  unfolding taking_of
  mild_taking caller = mild_told (taken_of (process_of t caller)).told _ _ refl

  -- a message sent
  mild_sent : (condition : Condition) (posted : Posted) → Mild t (sent_by condition t posted)
  mild_sent Waiting posted = by_pick (Mild t) (eqb (length posted.wakes) 0) _ _ (mild _ refl refl) (mild _ refl refl)
  mild_sent Always posted = mild _ (by_pick (Unlike 35) posted.full ReceiverBufferOverflow Answer.Ok refl refl) refl

  -- the wait for inputs
  mild_awaiting : (owned : Option Privileged) (caller : ℕ) → Mild t (awaiting_by owned t caller)
  unfolding awaiting_of
  mild_awaiting (Some place) caller = by_pick (Mild t) (eqb (count_of (came_of t place)) 0) _ _ (mild _ refl refl) (mild _ refl refl)
  mild_awaiting None caller = mild _ refl refl

  -- an event that wakes the owner, or none
  mild_opened : (owner : Option Privileged) (then : Table) (input : ℕ) → timed_of then ≡ timed_of t → Mild t (opened_by owner then input)
  unfolding opened_of
  mild_opened (Some place) then input same = by_pick (Mild t) (open_of then input place) _ _ (mild _ refl same) (mild _ refl same)
  mild_opened None then input same = mild _ refl same

  -- a request, each of its ways
  mild_requested : (r : Result Requested Unusable) (s : Semaphores) (caller : ℕ) → Mild t (requested_by r t s caller)
  mild_requested (Err why) s caller = mild _ refl refl
  mild_requested (Ok Held) s caller = mild _ refl refl
  mild_requested (Ok Waits) s caller = mild _ refl refl

  -- a release, each of its ways
  mild_released : (r : Result (Option ℕ) NotReleased) (s : Semaphores) → Mild t (released_by r t s)
  mild_released (Err NotReleased.Unusable) s = mild _ refl refl
  mild_released (Err (NotHolder level)) s = mild _ refl refl
  mild_released (Ok None) s = mild _ refl refl
  mild_released (Ok (Some level)) s = mild _ refl refl

  -- a release of all
  mild_released_all : (caller : ℕ) → Mild t (released_all_of t caller)
  unfolding released_all_of
  mild_released_all caller = mild _ refl refl

  -- nor do the checks of a part of the pool
  access_avoids : (caller : ℕ) (begun same agreed within : Bool)
      → Avoids 35 (after (by_caller t.config (process_of t caller) caller)
      (check begun NoPoolInit ∷ check same DataLengthFault ∷ check agreed PoolLengthFault ∷ check within PoolOverflow ∷ []))
  access_avoids caller begun same agreed within =
      avoids_more 35 _ within PoolOverflow
      (avoids_more 35 _ agreed PoolLengthFault (avoids_more 35 _ same DataLengthFault (avoids_more 35 _ begun NoPoolInit (own caller) refl) refl) refl) refl

-- a call that is calm: its effect is such, and it is no step of the order table and no tick
pub record CalmCall (t : Table) (call : Call) : Type 0 where
  pub mildly : Mild t (effect_of call t)
  pub no_steps : order_steps call t ≡ []
  pub no_ticks : ticks_by call ≡ 0

-- every call is calm, or one of the four others
pub data Kind (t : Table) : Call → Type 0 where
  calm : {call : Call} → CalmCall t call → Kind t call
  schedule : (caller : ℕ) (new : NewOrder) → Kind t (SCHEDULE caller new)
  cancel : (caller sender receiver : ℕ) → Kind t (CANCELSCHEDULE caller sender receiver)
  tick : Kind t TICK
  many : (n : ℕ) → Kind t (TICKS n)

-- a calm call
calmly : {t : Table} {call : Call} → Mild t (effect_of call t) → order_steps call t ≡ [] → ticks_by call ≡ 0 → Kind t call
calmly holds none never = calm (record { mildly = holds; no_steps = none; no_ticks = never })

-- which one a call is
pub kind_of : (call : Call) (t : Table) → Kind t call
unfolding deed_of order_steps ticks_by start_of set_priority_of send_of sent_of receive_of await_message_of clear_message_of shutdown_of start_scheduler_of read_time_of enable_of disable_of await_interrupt_of reset_interrupt_of event_of latched_of request_of requested_of release_of released_of init_pool_of pool_check_of get_pool_of put_pool_of
kind_of (START level priority) t =
    calmly (mild_obeyed t _ _ (avoids_more 35 _ _ _ (avoids_more 35 _ _ _ (avoids_more 35 _ _ _ (avoids_none 35) refl) refl) refl) (mild t _ refl refl)) refl refl
kind_of (SETPRIORITY caller priority) t = calmly (mild_obeyed t _ _ (avoids_more 35 _ _ _ (own t caller) refl) (mild t _ refl refl)) refl refl
kind_of (SEND caller receiver condition m) t =
    calmly (mild_obeyed t _ _ (avoids_more 35 _ _ _ (own t caller) refl)
    (mild_sent t condition (send_posted t.config (receiver_of t.config receiver) condition m t.processes))) refl refl
kind_of (RECEIVE caller) t = calmly (mild_obeyed t _ _ (avoids_more 35 _ _ _ (own t caller) refl) (mild_taking t caller)) refl refl
kind_of (AWAITMESSAGE caller) t =
    calmly (mild_obeyed t _ _ (own t caller) (by_pick (Mild t) (eqb (process_of t caller).buffer.list.count 0) _ _ (mild t _ refl refl) (mild_taking t caller))) refl refl
kind_of (CLEARMESSAGE caller receiver) t = calmly (mild_obeyed t _ _ (avoids_more 35 _ _ _ (own t caller) refl) (mild t _ refl refl)) refl refl
kind_of (SCHEDULE caller new) t = schedule caller new
kind_of (CANCELSCHEDULE caller sender receiver) t = cancel caller sender receiver
kind_of (SHUTDOWN caller) t = calmly (mild_obeyed t _ _ (own t caller) (mild t _ refl refl)) refl refl
kind_of STARTSCHEDULER t = calmly (mild t _ refl refl) refl refl
kind_of (READTIME caller) t = calmly (mild_obeyed t _ _ (own t caller) (mild t _ refl refl)) refl refl
kind_of (ENABLE caller input) t =
    calmly (mild_obeyed t _ _ (avoids_more 35 _ _ _ (avoids_more 35 _ _ _ (own t caller) refl) refl) (mild t _ refl refl)) refl refl
kind_of (DISABLE caller input) t = calmly (mild_obeyed t _ _ (avoids_more 35 _ _ _ (own t caller) refl) (mild t _ refl refl)) refl refl
kind_of (AWAITINTERRUPT caller) t =
    calmly (mild_obeyed t _ _ (own t caller) (mild_awaiting t (privilege_of t.config caller) caller)) refl refl
kind_of (RESETINT caller input) t = calmly (mild_obeyed t _ _ (avoids_more 35 _ _ _ (own t caller) refl) (mild t _ refl refl)) refl refl
kind_of (EVENT input) t =
    calmly (mild_obeyed t _ _ (avoids_more 35 _ _ _ (avoids_none 35) refl) (mild_opened t (owner_of t.config input) _ input refl)) refl refl
kind_of (REQSEMA caller asked) t =
    calmly (mild_obeyed t _ _ (own t caller) (mild_requested t (requested_in (requests_of t.semaphores caller asked)) _ caller)) refl refl
kind_of (RELSEMA caller given) t =
    calmly (mild_obeyed t _ _ (own t caller) (by_pick (Mild t) (eqb given minus_one) _ _ (mild_released_all t caller)
    (mild_released t (released_in (releases_of t.semaphores caller given)) _))) refl refl
kind_of (INITPOOL caller) t = calmly (mild_obeyed t _ _ (own t caller) (mild t _ refl refl)) refl refl
kind_of (POOLCHECK caller stated) t =
    calmly (mild_obeyed t _ _ (avoids_more 35 _ _ _ (avoids_more 35 _ _ _ (own t caller) refl) refl) (mild t _ refl refl)) refl refl
kind_of (GETPOOL caller offset count bytes) t = calmly (mild_obeyed t _ _ (access_avoids t caller _ _ _ _) (mild t _ refl refl)) refl refl
kind_of (PUTPOOL caller offset count given) t = calmly (mild_obeyed t _ _ (access_avoids t caller _ _ _ _) (mild t _ refl refl)) refl refl
kind_of TICK t = tick
kind_of (TICKS n) t = many n
