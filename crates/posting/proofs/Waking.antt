-- Whom letters wake: who waited for a message, at most once each, and what that does to the states. Assumes nothing.
use mathlib.Core.Path.{◌≡◌, ◌∙◌, refl, ap, sym, subst}
use mathlib.Core.Bool.{Bool, true, false}
use mathlib.Core.List.{List, [], ◌∷◌, map, map-append}
use Prim.Native.Nat.{ℕ, ◌<◌, ◌≤◌}
use lib.Dec.{eqb, ltb}
use lib.ListN.{length, length-map, length-set, get_or-eq_default}
use lib.Seq.{get_or-set_same, get_or-set_other, set_out}
use borrow.Author.Tests.{eqb-true, eqb-false, ltb-true, ltb-false}
use Rattle.std.specs.Prelude.{Some, None}
use Rattle.common.specs.Stands.{stands_in, Once}
use Rattle.common.proofs.Cases.{by_test, never_both}
use Rattle.common.proofs.Once.{stands_cases, stands_none, once_below}
use Rattle.process.specs.declared.Condition.{Condition}
use Rattle.process.specs.declared.Condition.TheVariants.{Always, Waiting}
use Rattle.process.specs.Process.{Delivery}
use Rattle.process.specs.declared.Fate.{Fate}
use Rattle.process.specs.declared.Process.{Process}
use Rattle.process.specs.declared.buffers.Message.{Message}
use Rattle.process.specs.declared.states.State.{State}
use Rattle.process.specs.declared.states.State.TheVariants.{Inactive, Ready, WaitingForMessage, WaitingForEvent, WaitingForSemaphore}
use Rattle.process.specs.Messages.{put_of}
use Rattle.process.specs.Process.{fresh_of, deliver_of, handed_of, stored_as, stored_of, kept_of}
use Rattle.process.specs.States.{is_of}
use Rattle.process.proofs.Delivering.{deliver_waiting, deliver_other}
use Rattle.calls.specs.Levels.{process_at}
use Rattle.posting.specs.declared.Origin.{Origin}
use Rattle.posting.specs.declared.Origin.TheVariants.{Sent, Timed}
use Rattle.posting.specs.Posting.{Letter, is_full, is_lost, marked_by, wake_by, one_of, all_of}

-- ---- one delivery

-- a process waits for a message
abbrev pub waits : Process → Bool
waits p = is_of p.state WaitingForMessage

-- a state that the test calls so is that state
tested_waits : (s : State) → is_of s WaitingForMessage ≡ true → s ≡ WaitingForMessage
tested_waits Inactive holds = absurd (never_both holds refl)
tested_waits Ready holds = absurd (never_both holds refl)
tested_waits WaitingForMessage holds = refl
tested_waits WaitingForEvent holds = absurd (never_both holds refl)
tested_waits WaitingForSemaphore holds = absurd (never_both holds refl)

-- and one that it does not call so is another
tested_other : (s : State) → is_of s WaitingForMessage ≡ false → s ≡ WaitingForMessage → ⊥
tested_other s fails e = never_both (ap (λ (state : State). is_of state WaitingForMessage) e) fails

module _ (p : Process) (condition : Condition) (places : ℕ) (m : Message) where
  -- who waits for a message has it at once
  pub deliver_waits : waits p ≡ true → deliver_of p condition places m ≡ handed_of p Ready
  deliver_waits holds = deliver_waiting p condition places m (tested_waits p.state holds)

  -- for any other it is kept or lost
  pub deliver_keeps : waits p ≡ false → deliver_of p condition places m ≡ kept_of p condition places m
  deliver_keeps fails = deliver_other p condition places m (tested_other p.state fails)

-- who has it is READY
handed_state : (p : Process) → (handed_of p Ready).process.state ≡ Ready
unfolding handed_of
handed_state p = refl

-- a message that is kept or lost wakes nobody
kept_wakes : (level : ℕ) (p : Process) (condition : Condition) (places : ℕ) (m : Message) → wake_by level (kept_of p condition places m).fate m ≡ []
unfolding stored_of
kept_wakes level p Always places m = elim (put_of p.buffer places m) as (λ put. wake_by level (stored_as p put).fate m ≡ []) [ None ↦ refl | Some kept ↦ refl ]
kept_wakes level p Waiting places m = refl

-- and leaves the state
kept_state : (p : Process) (condition : Condition) (places : ℕ) (m : Message) → (kept_of p condition places m).process.state ≡ p.state
unfolding stored_of
kept_state p Always places m = elim (put_of p.buffer places m) as (λ put. (stored_as p put).process.state ≡ p.state) [ None ↦ refl | Some kept ↦ refl ]
kept_state p Waiting places m = refl

-- so does a mark
marked_state : (origin : Origin) (fate : Fate) (p : Process) → (marked_by origin fate p).state ≡ p.state
unfolding marked_by
marked_state Sent fate p = by_test (is_full fate) (λ e. rw e) (λ e. rw e)
marked_state Timed fate p = by_test (is_lost fate) (λ e. rw e) (λ e. rw e)

-- ---- one letter

-- what a letter makes of its receiver
abbrev pub served_of : Origin → ℕ → Letter → Process → Process
served_of origin places x p =
    marked_by origin (deliver_of p x.condition places x.message).fate (deliver_of p x.condition places x.message).process

-- past the last level nobody waits
pub waits_within : (processes : List Process) (level : ℕ) → waits (process_at processes level) ≡ true → level < length processes
unfolding process_at
waits_within processes level holds =
    by_test (ltb level (length processes))
    (λ e. ltb-true _ _ e)
    (λ e. absurd (never_both holds (ap waits (get_or-eq_default processes fresh_of (ltb-false _ _ e)))))

module _ (origin : Origin) (places : ℕ) (x : Letter) (processes : List Process) where
  -- there are as many processes as before
  pub length_one : length (one_of origin places x processes).processes ≡ length processes
  unfolding one_of
  length_one = length-set processes x.receiver _

  -- its receiver is served
  pub one_here : x.receiver < length processes → process_at (one_of origin places x processes).processes x.receiver ≡ served_of origin places x (process_at processes x.receiver)
  unfolding one_of process_at
  one_here within = get_or-set_same processes x.receiver _ fresh_of within

  -- and every other process is as it was
  pub one_other : (level : ℕ) → (level ≡ x.receiver → ⊥) → process_at (one_of origin places x processes).processes level ≡ process_at processes level
  unfolding one_of process_at
  one_other level other = get_or-set_other processes x.receiver level _ fresh_of other

  -- past the last level it reaches nobody
  pub one_out : length processes ≤ x.receiver → (one_of origin places x processes).processes ≡ processes
  unfolding one_of
  one_out out = set_out processes x.receiver _ out

  -- a receiver that waits for a message wakes
  pub one_wakes : waits (process_at processes x.receiver) ≡ true → map (λ w. w.level) (one_of origin places x processes).wakes ≡ x.receiver ∷ []
  unfolding one_of handed_of
  one_wakes holds = rw (deliver_waits (process_at processes x.receiver) x.condition places x.message holds)

  -- any other does not
  one_wakes_none : waits (process_at processes x.receiver) ≡ false → (one_of origin places x processes).wakes ≡ []
  unfolding one_of
  one_wakes_none fails =
      rw (deliver_keeps (process_at processes x.receiver) x.condition places x.message fails)
      (kept_wakes x.receiver (process_at processes x.receiver) x.condition places x.message)

  -- nor does anybody past the last level
  pub one_wakes_out : length processes ≤ x.receiver → (one_of origin places x processes).wakes ≡ []
  unfolding process_at
  one_wakes_out out = one_wakes_none (ap waits (get_or-eq_default processes fresh_of {n = x.receiver} out))

  -- who wakes is READY
  one_ready : waits (process_at processes x.receiver) ≡ true → (process_at (one_of origin places x processes).processes x.receiver).state ≡ Ready
  one_ready holds =
      let p = process_at processes x.receiver in
      ap (λ (q : Process). q.state) (one_here (waits_within processes x.receiver holds))
      ∙ marked_state origin (deliver_of p x.condition places x.message).fate (deliver_of p x.condition places x.message).process
      ∙ ap (λ (d : Delivery). d.process.state) (deliver_waits p x.condition places x.message holds)
      ∙ handed_state p

  -- a receiver that does not wake keeps its state
  served_state : (p : Process) → waits p ≡ false → (served_of origin places x p).state ≡ p.state
  served_state p fails =
      marked_state origin (deliver_of p x.condition places x.message).fate (deliver_of p x.condition places x.message).process
      ∙ ap (λ (d : Delivery). d.process.state) (deliver_keeps p x.condition places x.message fails)
      ∙ kept_state p x.condition places x.message

  -- and so every process has the state that it had
  one_state : (level : ℕ) → waits (process_at processes x.receiver) ≡ false → (process_at (one_of origin places x processes).processes level).state ≡ (process_at processes level).state
  one_state level fails =
      by_test (eqb level x.receiver)
      (λ e. let here : level ≡ x.receiver = eqb-true _ _ e in
      subst (λ (at : ℕ). (process_at (one_of origin places x processes).processes at).state ≡ (process_at processes at).state) (sym here)
      (by_test (ltb x.receiver (length processes))
      (λ within. ap (λ (q : Process). q.state) (one_here (ltb-true _ _ within)) ∙ served_state (process_at processes x.receiver) fails)
      (λ out. ap (λ (l : List Process). (process_at l x.receiver).state) (one_out (ltb-false _ _ out)))))
      (λ e. ap (λ (q : Process). q.state) (one_other level (eqb-false _ _ e)))

-- ---- letters, one after the other

module _ (origin : Origin) (places : ℕ) where
  -- the levels that letters wake, in order
  abbrev pub woken_by : List Letter → List Process → List ℕ
  woken_by letters processes = map (λ w. w.level) (all_of origin places letters processes).wakes

  -- a letter leaves such processes for those behind it
  abbrev after : Letter → List Process → List Process
  after x processes = (one_of origin places x processes).processes

  -- those that letters wake are the first letter's receiver, where it waited for a message, and those that the others wake
  by_first : (P : List ℕ → Type 0) (x : Letter) (letters : List Letter) (processes : List Process)
      → (waits (process_at processes x.receiver) ≡ true → P (x.receiver ∷ woken_by letters (after x processes)))
      → (waits (process_at processes x.receiver) ≡ false → P (woken_by letters (after x processes)))
      → P (woken_by (x ∷ letters) processes)
  unfolding all_of
  by_first P x letters processes wakes sleeps =
      rw (map-append (λ w. w.level) (one_of origin places x processes).wakes (all_of origin places letters (after x processes)).wakes)
      (by_test (waits (process_at processes x.receiver))
      (λ holds. rw (one_wakes origin places x processes holds) (wakes holds))
      (λ fails. rw (one_wakes_none origin places x processes fails) (sleeps fails)))

  -- who waits after a letter waited before it
  waited_before : (x : Letter) (processes : List Process) (level : ℕ) → waits (process_at (after x processes) level) ≡ true → waits (process_at processes level) ≡ true
  waited_before x processes level holds =
      by_test (waits (process_at processes level))
      (λ waited. waited)
      (λ fails. by_test (eqb level x.receiver)
      (λ e. let here : level ≡ x.receiver = eqb-true _ _ e in
      ap (λ (s : State). is_of s WaitingForMessage) (sym (one_state origin places x processes level (rw here at fails))) ∙ holds)
      (λ e. ap waits (sym (one_other origin places x processes level (eqb-false _ _ e))) ∙ holds))

  -- who is woken waited for a message
  pub woken_waited : (letters : List Letter) (processes : List Process) (level : ℕ) → stands_in level (woken_by letters processes) ≡ true
      → is_of (process_at processes level).state WaitingForMessage ≡ true
  unfolding all_of stands_in
  woken_waited [] processes level = λ stands. absurd (never_both stands refl)
  woken_waited (x ∷ letters) processes level =
      by_first (λ l. stands_in level l ≡ true → waits (process_at processes level) ≡ true) x letters processes
      (λ holds stands. stands_cases level x.receiver (woken_by letters (after x processes)) stands
      (λ here. rw here at holds)
      (λ later. waited_before x processes level (woken_waited letters (after x processes) level later)))
      (λ fails stands. waited_before x processes level (woken_waited letters (after x processes) level stands))

  -- who is not woken has the state that it had
  pub not_woken_same : (letters : List Letter) (processes : List Process) (level : ℕ) → stands_in level (woken_by letters processes) ≡ false
      → (process_at (all_of origin places letters processes).processes level).state ≡ (process_at processes level).state
  unfolding all_of
  not_woken_same [] processes level = λ none. refl
  not_woken_same (x ∷ letters) processes level =
      by_first (λ l. stands_in level l ≡ false → (process_at (all_of origin places letters (after x processes)).processes level).state ≡ (process_at processes level).state) x letters processes
      (λ holds none. let others = stands_none level x.receiver (woken_by letters (after x processes)) none in
      not_woken_same letters (after x processes) level others.1 ∙ ap (λ (p : Process). p.state) (one_other origin places x processes level others.0))
      (λ fails none. not_woken_same letters (after x processes) level none ∙ one_state origin places x processes level fails)

  -- whom a letter wakes none behind it wakes
  woken_not_again : (x : Letter) (letters : List Letter) (processes : List Process) → waits (process_at processes x.receiver) ≡ true
      → stands_in x.receiver (woken_by letters (after x processes)) ≡ false
  woken_not_again x letters processes holds =
      by_test (stands_in x.receiver (woken_by letters (after x processes)))
      (λ again. absurd
      (never_both
      (woken_waited letters (after x processes) x.receiver again)
      (ap (λ (s : State). is_of s WaitingForMessage) (one_ready origin places x processes holds))))
      (λ none. none)

  -- who is woken is READY afterwards
  pub woken_state : (letters : List Letter) (processes : List Process) (level : ℕ) → stands_in level (woken_by letters processes) ≡ true
      → (process_at (all_of origin places letters processes).processes level).state ≡ Ready
  unfolding all_of stands_in
  woken_state [] processes level = λ stands. absurd (never_both stands refl)
  woken_state (x ∷ letters) processes level =
      by_first (λ l. stands_in level l ≡ true → (process_at (all_of origin places letters (after x processes)).processes level).state ≡ Ready) x letters processes
      (λ holds stands. stands_cases level x.receiver (woken_by letters (after x processes)) stands
      (λ here. rw (← here)
      (not_woken_same letters (after x processes) x.receiver (woken_not_again x letters processes holds) ∙ one_ready origin places x processes holds))
      (woken_state letters (after x processes) level))
      (λ fails. woken_state letters (after x processes) level)

  -- and so does not wait for a message then
  pub woken_ready : (letters : List Letter) (processes : List Process) (level : ℕ) → stands_in level (woken_by letters processes) ≡ true
      → is_of (process_at (all_of origin places letters processes).processes level).state WaitingForMessage ≡ false
  woken_ready letters processes level stands = ap (λ (s : State). is_of s WaitingForMessage) (woken_state letters processes level stands)

  -- a process wakes at most once
  pub woken_once : (letters : List Letter) (processes : List Process) → Once (woken_by letters processes)
  unfolding all_of Once
  woken_once [] processes = tt
  woken_once (x ∷ letters) processes =
      by_first Once x letters processes
      (λ holds. (woken_not_again x letters processes holds, woken_once letters (after x processes)))
      (λ fails. woken_once letters (after x processes))

  -- so no more wake than there are processes, and no wake is left out of the twelve places
  pub woken_few : (letters : List Letter) (processes : List Process) → length processes ≡ 12 → length (all_of origin places letters processes).wakes ≤ 12
  woken_few letters processes twelve =
      rw length-map at
      (once_below 12 (woken_by letters processes) (woken_once letters processes)
      (λ level stands. rw twelve at (waits_within processes level (woken_waited letters processes level stands))))

  -- there are as many processes as before
  pub length_posted : (letters : List Letter) (processes : List Process) → length (all_of origin places letters processes).processes ≡ length processes
  unfolding all_of
  length_posted [] processes = refl
  length_posted (x ∷ letters) processes = length_posted letters (after x processes) ∙ length_one origin places x processes
