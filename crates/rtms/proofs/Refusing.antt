-- What a refused call leaves. Assumes nothing.
use mathlib.Core.Path.{◌≡◌, ◌∙◌, refl, sym, ap}
use mathlib.Core.Bool.{Bool, true, false, not, ◌&&◌, ◌||◌}
use Rattle.std.specs.Prelude.{Result, Ok, Err}
use mathlib.Core.List.{List, [], ◌∷◌}
use mathlib.Core.Logic.{◌⊎◌, inl, inr}
use Prim.Native.Nat.{ℕ}
use native.Mathlib.Omega.{arith}
use lib.Dec.{eqb}
use borrow.Author.Tests.{eqb-false}
use lib.ListN.{length}
use Rattle.std.specs.Prelude.{Ok, Err}
use Rattle.std.specs.Prelude.{Option, Some, None}
use Rattle.common.specs.Choice.{pick}
use Rattle.common.proofs.Cases.{by_test, never_both}
use Rattle.process.specs.declared.buffers.Message.{Message}
use Rattle.process.specs.declared.Condition.TheVariants.{Always, Waiting}
use Rattle.process.specs.declared.marking.Told.{Told}
use Rattle.process.specs.declared.marking.Told.TheVariants.{Nothing, Overflow, Time}
use Rattle.inputs.specs.InputSet.{count_of}
use Rattle.orders.specs.declared.NotCancelled.{NotCancelled}
use Rattle.orders.specs.declared.NotCancelled.TheVariants.{BadSender, UnknownReceiver, NoOrder, NotFound, NotTheirs}
use Rattle.orders.specs.declared.Order.{Order}
use Rattle.orders.specs.Cancel.{cancel_of as orders_cancelled}
use Rattle.orders.specs.Orders.{accept_of}
use Rattle.semaphores.specs.declared.Unusable.{Unusable}
use Rattle.semaphores.specs.declared.Requested.{Requested}
use Rattle.semaphores.specs.declared.Requested.TheVariants.{Held, Waits}
use Rattle.semaphores.specs.declared.Semaphores.{Semaphores}
use Rattle.semaphores.specs.Queues.{leaving_of}
use Rattle.semaphores.proofs.Waiting.{by_leaving}
use Rattle.semaphores.specs.Semaphores.{requested_in, usable_of, holder_of, holds_of, not_held_of, request_of as requests_of, release_of as releases_of}
use Rattle.process.specs.Process.{taken_of, is_known}
use Rattle.table.specs.declared.answers.Answer.{Answer}
use Rattle.table.specs.declared.answers.Answer.TheVariants.{NoUser, NotReady, ReceiverUnknown, ReceiverBufferOverflow, BadConfig, Suspended}
use Rattle.table.specs.declared.configs.Privileged.{Privileged}
use Rattle.table.specs.declared.Outcome.{Outcome}
use Rattle.table.specs.declared.Table.{Table}
use Rattle.table.specs.declared.wakes.Wake.{Wake}
use Rattle.table.specs.Answers.{number_of, refusal_of, told_as, cancel_answer}
use Rattle.table.specs.Configuration.{receiver_of, sender_of, privilege_of, owner_of}
use Rattle.table.specs.Sound.{sound_of}
use Rattle.table.specs.Words.{minus_one}
use Rattle.calls.specs.Effects.{Carried, Effect, refuse, refuse_telling, waking, carrying, message}
use Rattle.calls.specs.Levels.{process_of, with_processes}
use Rattle.calls.specs.Verdicts.{Checked, check, also_of, after, obeyed, by_caller}
use Rattle.posting.specs.Posting.{Posted}
use Rattle.starting.specs.Starting.{start_of, set_priority_of}
use Rattle.messages.specs.Sending.{send_posted, sent_by, sent_of, send_of}
use Rattle.messages.specs.Receiving.{taking_of, receive_of, await_message_of, clear_message_of}
use Rattle.timers.specs.Timers.{ordered, schedule_of, cancelled_of, cancel_schedule_of, shutdown_of, start_scheduler_of, read_time_of}
use Rattle.timers.proofs.Cancels.{by_cancel, by_entry}
use Rattle.interrupts.specs.Interrupts.{enable_of, disable_of, came_of, open_of, awaiting_of, awaiting_by, await_interrupt_of, reset_interrupt_of, opened_of, opened_by, latched_of, event_of}
use Rattle.holding.specs.Holding.{requested_by, requested_of, request_of, released_of, released_all_of, release_of}
use Rattle.pooling.specs.Pooling.{init_pool_of, pool_check_of, get_pool_of, put_pool_of}
use Rattle.rtms.specs.Calls.{Call, START, SETPRIORITY, SEND, RECEIVE, AWAITMESSAGE, CLEARMESSAGE, SCHEDULE, CANCELSCHEDULE, SHUTDOWN, STARTSCHEDULER, READTIME, ENABLE, DISABLE, AWAITINTERRUPT, RESETINT, EVENT, REQSEMA, RELSEMA, INITPOOL, POOLCHECK, GETPOOL, PUTPOOL, TICK, TICKS, effect_of, guarded_of, done_by}
use Rattle.rtms.specs.Refusals.{Plain, always, Overflowed, TellsHolder, Answers}

-- the two refusals that are more than a number
abbrev pub special : Answer → Bool
special answer = eqb (number_of answer) 3 || eqb (number_of answer) 37

-- an effect is no refusal, or it is one that is the number alone, leaves the table as it was and is neither of these
unfoldable pub Sorted : Table → Effect → Type 0
Sorted t effect = (refusal_of effect.answer ≡ false) ⊎ ((effect ≡ refuse t effect.answer) × (special effect.answer ≡ false))

-- 0 and 32 are no refusals, whatever the effect
sorted_ok : (t : Table) (carried : Carried) (wakes : List Wake) (then : Table) → Sorted t (record { answer = Answer.Ok; carried = carried; wakes = wakes; table = then })
unfolding Sorted refusal_of
sorted_ok t carried wakes then = inl refl

sorted_suspended : (t : Table) (carried : Carried) (wakes : List Wake) (then : Table)
    → Sorted t (record { answer = Suspended; carried = carried; wakes = wakes; table = then })
unfolding Sorted refusal_of
sorted_suspended t carried wakes then = inl refl

-- nor is a message that is handed over
sorted_told : (t : Table) (told : Told) (m : Message) (then : Table) → Sorted t (carrying (told_as told) (message m) then)
unfolding Sorted refusal_of
sorted_told t Nothing m then = inl refl
sorted_told t Overflow m then = inl refl
sorted_told t Time m then = inl refl

sorted_refuse : (t : Table) (answer : Answer) → special answer ≡ false → Sorted t (refuse t answer)
unfolding Sorted
sorted_refuse t answer other = inr (refl, other)

sorted_pick : (b : Bool) (t : Table) (e f : Effect) → Sorted t e → Sorted t f → Sorted t (pick b e f)
sorted_pick true t e f first second = first
sorted_pick false t e f first second = second

-- ---- the checks before an effect: none refuses with 3 or with 37

unfoldable Ordinary : Checked → Type 0
Ordinary (Ok tt) = Unit
Ordinary (Err answer) = special answer ≡ false

ordinary_none : Ordinary (Ok tt)
unfolding Ordinary
ordinary_none = tt

-- one check more that does not
more : (v : Checked) (holds : Bool) (answer : Answer) → Ordinary v → special answer ≡ false → Ordinary (also_of v holds answer)
unfolding Ordinary also_of
more (Ok tt) true answer before other = tt
more (Ok tt) false answer before other = other
more (Err first) holds answer before other = before

sorted_obeyed : (v : Checked) (t : Table) (effect : Effect) → Ordinary v → Sorted t effect → Sorted t (obeyed v t effect)
unfolding obeyed Ordinary
sorted_obeyed (Ok tt) t effect before sorted = sorted
sorted_obeyed (Err answer) t effect before sorted = sorted_refuse t answer before

-- nor do the caller's two
caller : (configured ready : Bool) → Ordinary (also_of (also_of (Ok tt) configured NoUser) ready NotReady)
caller configured ready = more _ ready NotReady (more _ configured NoUser ordinary_none refl) refl

-- ---- call by call

cancel_ordinary : (why : NotCancelled) → special (cancel_answer why) ≡ false
cancel_ordinary BadSender = refl
cancel_ordinary UnknownReceiver = refl
cancel_ordinary NoOrder = refl
cancel_ordinary NotFound = refl
cancel_ordinary NotTheirs = refl

sorted_requested : (r : Result Requested Unusable) (t : Table) (s : Semaphores) (caller : ℕ) → Sorted t (requested_by r t s caller)
sorted_requested (Err why) t s caller = sorted_refuse t _ refl
sorted_requested (Ok Held) t s caller = sorted_ok t _ _ _
sorted_requested (Ok Waits) t s caller = sorted_suspended t _ _ _

sorted_awaiting : (p : Option Privileged) (t : Table) (caller : ℕ) → Sorted t (awaiting_by p t caller)
unfolding awaiting_of
sorted_awaiting (Some place) t caller = sorted_pick (eqb (count_of (came_of t place)) 0) t _ _ (sorted_suspended t _ _ _) (sorted_ok t _ _ _)
sorted_awaiting None t caller = sorted_refuse t _ refl

sorted_opened : (p : Option Privileged) (t then : Table) (input : ℕ) → Sorted t (opened_by p then input)
unfolding opened_of
sorted_opened (Some place) t then input = sorted_pick (open_of then input place) t _ _ (sorted_ok t _ _ _) (sorted_ok t _ _ _)
sorted_opened None t then input = sorted_ok t _ _ _

sorted_taking : (t : Table) (caller : ℕ) → Sorted t (taking_of t caller)
unfolding taking_of
sorted_taking t caller = sorted_told t (taken_of (process_of t caller)).told _ _

sorted_ordered : (t : Table) (order : Order) → Sorted t (ordered t order)
unfolding ordered
sorted_ordered t order = by_entry (Sorted t) t (accept_of t.orders t.config.orders order) (λ orders. sorted_ok t _ _ _) (sorted_refuse t _ refl)

sorted_cancel : (t : Table) (sender receiver : ℕ) → Sorted t (cancelled_of t sender receiver)
unfolding cancelled_of
sorted_cancel t sender receiver =
    by_cancel (Sorted t) t (orders_cancelled (sender_of sender) (receiver_of t.config receiver) t.orders)
    (λ left. sorted_ok t _ _ _)
    (λ why. sorted_refuse t _ (cancel_ordinary why))

sorted_latched : (t : Table) (input : ℕ) → Sorted t (latched_of t input)
unfolding latched_of
sorted_latched t input = sorted_opened (owner_of t.config input) t _ input

sorted_request : (t : Table) (caller number : ℕ) → Sorted t (requested_of t caller number)
unfolding requested_of
sorted_request t caller number = sorted_requested (requested_in (requests_of t.semaphores caller number)) t _ caller

sorted_all : (t : Table) (caller : ℕ) → Sorted t (released_all_of t caller)
unfolding released_all_of
sorted_all t caller = sorted_ok t _ _ _

-- ---- SEND, which may answer 3

-- an effect that is exactly what a message that is sent with ALWAYS makes of the processes, answered 3
abbrev pub Overflows : Table → ℕ → Message → Effect → Type 0
Overflows t receiver m effect = effect ≡ waking ReceiverBufferOverflow (always t receiver m).wakes (with_processes t (always t receiver m).processes)

answered_full : (full : Bool) (t : Table) (wakes : List Wake) (then : Table)
    → Sorted t (waking (pick full ReceiverBufferOverflow Answer.Ok) wakes then) ⊎ (waking (pick full ReceiverBufferOverflow Answer.Ok) wakes then ≡ waking ReceiverBufferOverflow wakes then)
answered_full true t wakes then = inr refl
answered_full false t wakes then = inl (sorted_ok t _ _ _)

always_obeyed : (v : Checked) (t : Table) (receiver : ℕ) (m : Message) → Ordinary v
    → Sorted t (obeyed v t (sent_by Always t (always t receiver m))) ⊎ Overflows t receiver m (obeyed v t (sent_by Always t (always t receiver m)))
unfolding obeyed Ordinary
always_obeyed (Ok tt) t receiver m before = answered_full (always t receiver m).full t _ _
always_obeyed (Err answer) t receiver m before = inl (sorted_refuse t answer before)

ordinary_send : (t : Table) (from receiver : ℕ)
    → Ordinary (after (by_caller t.config (process_of t from) from) (check (is_known (receiver_of t.config receiver)) ReceiverUnknown ∷ []))
ordinary_send t from receiver = more _ _ _ (caller _ _) refl

sorted_always : (t : Table) (caller receiver : ℕ) (m : Message) → Sorted t (send_of t caller receiver Always m) ⊎ Overflows t receiver m (send_of t caller receiver Always m)
unfolding send_of sent_of
sorted_always t caller receiver m = always_obeyed _ t receiver m (ordinary_send t caller receiver)

waiting_sorted : (t : Table) (posted : Posted) → Sorted t (sent_by Waiting t posted)
waiting_sorted t posted = sorted_pick (eqb (length posted.wakes) 0) t _ _ (sorted_refuse t _ refl) (sorted_ok t _ _ _)

sorted_waiting : (t : Table) (from receiver : ℕ) (m : Message) → Sorted t (send_of t from receiver Waiting m)
unfolding send_of sent_of
sorted_waiting t from receiver m = sorted_obeyed _ t _ (ordinary_send t from receiver) (waiting_sorted t (send_posted t.config (receiver_of t.config receiver) Waiting m t.processes))

-- ---- every call of a table that shows no break

-- sorted, or a SEND with ALWAYS that a full buffer answers with 3, or a RELSEMA that tells who holds the number
pub data Kind (t : Table) : Call → Effect → Type 0 where
  sorted : {call : Call} {effect : Effect} → Sorted t effect → Kind t call effect
  overflow : {effect : Effect} (caller receiver : ℕ) (m : Message) → Overflows t receiver m effect → Kind t (SEND caller receiver Always m) effect
  tells : {effect : Effect} (caller number : ℕ) → usable_of number ≡ true → (holder_of t.semaphores number ≡ caller → ⊥)
      → effect ≡ refuse_telling t (holder_of t.semaphores number) → Kind t (RELSEMA caller number) effect

kind_always : (t : Table) (caller receiver : ℕ) (m : Message) (effect : Effect) → Sorted t effect ⊎ Overflows t receiver m effect → Kind t (SEND caller receiver Always m) effect
kind_always t caller receiver m effect (inl fine) = sorted fine
kind_always t caller receiver m effect (inr full) = overflow caller receiver m full

kind_obeyed : (v : Checked) (call : Call) (t : Table) (effect : Effect) → Ordinary v → Kind t call effect → Kind t call (obeyed v t effect)
unfolding obeyed Ordinary
kind_obeyed (Ok tt) call t effect before kind = kind
kind_obeyed (Err answer) call t effect before kind = sorted (sorted_refuse t answer before)

kind_pick : (b : Bool) (call : Call) (t : Table) (e f : Effect) → Kind t call e → Kind t call f → Kind t call (pick b e f)
kind_pick true call t e f first second = first
kind_pick false call t e f first second = second

-- a release of one number: by its holder; by another, which is told who holds it; of an unusable number
kind_released : (t : Table) (from number : ℕ) → Kind t (RELSEMA from number) (released_of t from number)
unfolding released_of releases_of not_held_of holds_of
kind_released t from number =
    by_test (usable_of number)
    (λ usable. by_test (eqb (holder_of t.semaphores number) from)
    (λ own. rw (usable, own)
    (by_leaving (leaving_of t.semaphores.queue number) (λ e. rw e (sorted (sorted_ok t _ _ _))) (λ leaving e. rw e (sorted (sorted_ok t _ _ _)))))
    (λ other. rw (usable, other) (tells from number usable (eqb-false _ _ other) refl)))
    (λ unusable. rw unusable (sorted (sorted_refuse t _ refl)))

kind_of : (call : Call) (t : Table) → Kind t call (effect_of call t)
unfolding start_of set_priority_of receive_of await_message_of clear_message_of schedule_of cancel_schedule_of shutdown_of start_scheduler_of read_time_of enable_of disable_of await_interrupt_of reset_interrupt_of event_of request_of release_of init_pool_of pool_check_of get_pool_of put_pool_of
kind_of (START level priority) t = sorted (sorted_obeyed _ t _ (more _ _ _ (more _ _ _ (more _ _ _ ordinary_none refl) refl) refl) (sorted_ok t _ _ _))
kind_of (SETPRIORITY from priority) t = sorted (sorted_obeyed _ t _ (more _ _ _ (caller _ _) refl) (sorted_ok t _ _ _))
kind_of (SEND from receiver Always m) t = kind_always t from receiver m _ (sorted_always t from receiver m)
kind_of (SEND from receiver Waiting m) t = sorted (sorted_waiting t from receiver m)
kind_of (RECEIVE from) t = sorted (sorted_obeyed _ t _ (more _ _ _ (caller _ _) refl) (sorted_taking t from))
kind_of (AWAITMESSAGE from) t =
    sorted (sorted_obeyed _ t _ (caller _ _) (sorted_pick (eqb (process_of t from).buffer.list.count 0) t _ _ (sorted_suspended t _ _ _) (sorted_taking t from)))
kind_of (CLEARMESSAGE from receiver) t = sorted (sorted_obeyed _ t _ (more _ _ _ (caller _ _) refl) (sorted_ok t _ _ _))
kind_of (SCHEDULE from new) t = sorted (sorted_obeyed _ t _ (more _ _ _ (more _ _ _ (more _ _ _ (more _ _ _ (caller _ _) refl) refl) refl) refl) (sorted_ordered t _))
kind_of (CANCELSCHEDULE from sender receiver) t = sorted (sorted_obeyed _ t _ (caller _ _) (sorted_cancel t sender receiver))
kind_of (SHUTDOWN from) t = sorted (sorted_obeyed _ t _ (caller _ _) (sorted_ok t _ _ _))
kind_of STARTSCHEDULER t = sorted (sorted_ok t _ _ _)
kind_of (READTIME from) t = sorted (sorted_obeyed _ t _ (caller _ _) (sorted_ok t _ _ _))
kind_of (ENABLE from input) t = sorted (sorted_obeyed _ t _ (more _ _ _ (more _ _ _ (caller _ _) refl) refl) (sorted_ok t _ _ _))
kind_of (DISABLE from input) t = sorted (sorted_obeyed _ t _ (more _ _ _ (caller _ _) refl) (sorted_ok t _ _ _))
kind_of (AWAITINTERRUPT from) t = sorted (sorted_obeyed _ t _ (caller _ _) (sorted_awaiting (privilege_of t.config from) t from))
kind_of (RESETINT from input) t = sorted (sorted_obeyed _ t _ (more _ _ _ (caller _ _) refl) (sorted_ok t _ _ _))
kind_of (EVENT input) t = sorted (sorted_obeyed _ t _ (more _ _ _ ordinary_none refl) (sorted_latched t input))
kind_of (REQSEMA from number) t = sorted (sorted_obeyed _ t _ (caller _ _) (sorted_request t from number))
kind_of (RELSEMA from number) t =
    kind_obeyed _ _ t _ (caller _ _) (kind_pick (eqb number minus_one) _ t _ _ (sorted (sorted_all t from)) (kind_released t from number))
kind_of (INITPOOL from) t = sorted (sorted_obeyed _ t _ (caller _ _) (sorted_ok t _ _ _))
kind_of (POOLCHECK from stated) t = sorted (sorted_obeyed _ t _ (more _ _ _ (more _ _ _ (caller _ _) refl) refl) (sorted_ok t _ _ _))
kind_of (GETPOOL from offset count own) t =
    sorted (sorted_obeyed _ t _ (more _ _ _ (more _ _ _ (more _ _ _ (more _ _ _ (caller _ _) refl) refl) refl) refl) (sorted_ok t _ _ _))
kind_of (PUTPOOL from offset count given) t =
    sorted (sorted_obeyed _ t _ (more _ _ _ (more _ _ _ (more _ _ _ (more _ _ _ (caller _ _) refl) refl) refl) refl) (sorted_ok t _ _ _))
kind_of TICK t = sorted (sorted_ok t _ _ _)
kind_of (TICKS n) t = sorted (sorted_ok t _ _ _)

-- and of any table
kind_guarded : (b : Bool) (call : Call) (t : Table) (effect : Effect) → Kind t call effect → Kind t call (pick b effect (refuse t BadConfig))
kind_guarded true call t effect kind = kind
kind_guarded false call t effect kind = sorted (sorted_refuse t BadConfig refl)

kind_done : (call : Call) (t : Table) → Kind t call (done_by call t)
unfolding guarded_of
kind_done call t = kind_guarded (sound_of t) call t (effect_of call t) (kind_of call t)

-- ---- what is promised

plain_sorted : (t : Table) (effect : Effect) → Sorted t effect → Plain t effect
unfolding Sorted Plain
plain_sorted t effect (inl fine) refused not_3 not_37 = absurd (never_both refused fine)
plain_sorted t effect (inr same) refused not_3 not_37 = same.0

plain_kind : (call : Call) (t : Table) (effect : Effect) → Kind t call effect → Plain t effect
unfolding Plain
plain_kind call t effect (sorted fine) refused not_3 not_37 = plain_sorted t effect fine refused not_3 not_37
plain_kind call t effect (overflow from receiver m full) refused not_3 not_37 = absurd (not_3 (ap (λ e. number_of e.answer) full))
plain_kind call t effect (tells from number usable not_own told) refused not_3 not_37 = absurd (not_37 (ap (λ e. number_of e.answer) told))

-- a refused call leaves the table as it was and carries nothing, but for the numbers 3 and 37
pub refusals : (call : Call) (t : Table) → Plain t (done_by call t)
refusals call t = plain_kind call t (done_by call t) (kind_done call t)

-- a refusal that is one of the two is not the answer of what is sorted
never_special : (n : ℕ) → not (eqb n 0) && not (eqb n 5) && not (eqb n 14) && not (eqb n 32) ≡ true → eqb n 3 || eqb n 37 ≡ true
    → (t : Table) (effect : Effect) → Sorted t effect → number_of effect.answer ≡ n → ⊥
unfolding Sorted refusal_of
never_special n refuses two t effect (inl fine) is = never_both refuses (rw is at fine)
never_special n refuses two t effect (inr same) is = never_both two (rw is at same.1)

three_kind : (call : Call) (t : Table) → Kind t call (done_by call t) → number_of (done_by call t).answer ≡ 3 → Overflowed call t
three_kind call t (sorted fine) three = absurd (never_special 3 refl refl t (done_by call t) fine three)
three_kind call t (overflow caller receiver m full) three = record { caller = caller; receiver = receiver; message = m; is_send = refl; exactly = full }
three_kind call t (tells caller number usable not_own told) three = let z : ◌≡◌ {A = ℕ} 37 3 = sym (ap (λ e. number_of e.answer) told) ∙ three in absurd (omega arith)

-- number 3 is the answer of a SEND with ALWAYS alone, and what it leaves is exactly what the message made of its receivers
pub overflowed : (call : Call) (t : Table) → number_of (done_by call t).answer ≡ 3 → Overflowed call t
overflowed call t three = three_kind call t (kind_done call t) three

told_kind : (call : Call) (t : Table) → Kind t call (done_by call t) → number_of (done_by call t).answer ≡ 37 → TellsHolder call t
told_kind call t (sorted fine) told = absurd (never_special 37 refl refl t (done_by call t) fine told)
told_kind call t (overflow caller receiver m full) told = let z : ◌≡◌ {A = ℕ} 3 37 = sym (ap (λ e. number_of e.answer) full) ∙ told in absurd (omega arith)
told_kind call t (tells caller number usable not_own told) is =
    record { caller = caller; number = number; is_relsema = refl; usable = usable; not_its_own = not_own; exactly = told }

-- number 37 is the answer of a RELSEMA alone, of a usable number that its caller does not hold, and tells who holds it
pub told_holder : (call : Call) (t : Table) → number_of (done_by call t).answer ≡ 37 → TellsHolder call t
told_holder call t told = told_kind call t (kind_done call t) told

-- two results for one input are equal, for every public call
pub determined : (call : Call) (t : Table) (r s : Outcome) → Answers call t r → Answers call t s → r ≡ s
determined call t r s first second = first ∙ sym second
