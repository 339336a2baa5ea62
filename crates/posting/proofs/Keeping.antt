-- Messages keep sound levels sound: who waits for one is handed it at once, and a buffer takes in only what it has a place for. Assumes nothing.
use mathlib.Core.Path.{◌≡◌, ◌∙◌, ap, refl, sym, subst}
use mathlib.Core.Bool.{true, false}
use mathlib.Core.List.{List, [], ◌∷◌}
use Prim.Native.Nat.{ℕ, ◌+◌, ◌<◌, min}
use native.Mathlib.Omega.{arith}
use lib.ListN.{length}
use borrow.Author.Tests.{ltb-true, le-leb}
use Rattle.common.proofs.Cases.{by_test, by_pick}
use Rattle.common.proofs.Filling.{push_count}
use Rattle.process.specs.declared.Condition.{Condition}
use Rattle.process.specs.declared.Condition.TheVariants.{Always, Waiting}
use Rattle.process.specs.Process.{Delivery}
use Rattle.process.specs.declared.Fate.{Fate}
use Rattle.process.specs.declared.Process.{Process}
use Rattle.process.specs.declared.buffers.Message.{Message}
use Rattle.process.specs.declared.marking.Marks.{Marks}
use Rattle.process.specs.declared.states.State.{State}
use Rattle.process.specs.declared.states.State.TheVariants.{Ready, WaitingForMessage, WaitingForSemaphore}
use Rattle.process.specs.Marks.{marks_of}
use Rattle.process.specs.Messages.{room_of, behind_of, put_of}
use Rattle.process.specs.Process.{process_of, overflow_marked_of, time_marked_of, deliver_of, handed_of, stored_of, kept_of}
use Rattle.process.specs.States.{is_of}
use Rattle.table.specs.declared.Table.{Table}
use Rattle.table.specs.Sound.{levels_sound}
use Rattle.calls.specs.Levels.{process_at}
use Rattle.calls.proofs.Changing.{state_known}
use Rattle.calls.proofs.Keeping.{Tame, tame_set}
use Rattle.posting.specs.declared.Origin.{Origin}
use Rattle.posting.specs.declared.Origin.TheVariants.{Sent, Timed}
use Rattle.posting.specs.Posting.{Letter, is_full, is_lost, marked_by, one_of, all_of}
use Rattle.posting.proofs.Waking.{waits, deliver_waits, deliver_keeps, served_of, length_one, length_posted}

-- who waits for a message does not wait for a semaphore
message_not_semaphore : (s : State) → is_of s WaitingForMessage ≡ true → is_of s WaitingForSemaphore ≡ false
message_not_semaphore s waits = ap (λ (state : State). is_of state WaitingForSemaphore) (state_known s WaitingForMessage waits)

module _ (places : ℕ) (p : Process) where
  -- a process that stays as it is
  tame_same : Tame places p p
  tame_same = record { priority = λ within. within; kept = λ within none. (within, none); queued = refl }

  -- marks are not looked at
  tame_marks : (then : Process) (marks : Marks) → Tame places p then → Tame places p (process_of then.state then.priority marks then.buffer)
  tame_marks then marks tame = record { priority = tame.priority; kept = tame.kept; queued = tame.queued }

  -- so a mark may be set
  tame_marked : (origin : Origin) (fate : Fate) (then : Process) → Tame places p then → Tame places p (marked_by origin fate then)
  unfolding marked_by
  tame_marked Sent fate then tame =
      by_pick (Tame places p) (is_full fate) (overflow_marked_of then) then (tame_marks then (marks_of true then.marks.time) tame) tame
  tame_marked Timed fate then tame =
      by_pick (Tame places p) (is_lost fate) (time_marked_of then) then (tame_marks then (marks_of then.marks.overflow true) tame) tame

  -- a message that is handed over makes who waited for it READY
  tame_handed : waits p ≡ true → Tame places p (handed_of p Ready).process
  unfolding handed_of
  tame_handed holds = record {
    priority = λ within. within;
    kept = λ within none. (within, refl);
    queued = sym (message_not_semaphore p.state holds);
  }

  -- a message behind the others, where a place is left
  tame_behind : (m : Message) → waits p ≡ false → p.buffer.list.count < min places 16
      → Tame places p (process_of p.state p.priority p.marks (behind_of p.buffer m))
  tame_behind m fails room = record {
    priority = λ within. within;
    kept = λ within none. (rw (push_count 16 p.buffer.list m (omega arith)) (le-leb (p.buffer.list.count + 1) places (omega arith)), rw fails);
    queued = refl;
  }

  -- a message that is kept, if there is a place
  tame_stored : (m : Message) → waits p ≡ false → Tame places p (stored_of p places m).process
  unfolding stored_of put_of
  tame_stored m fails =
      by_test (room_of p.buffer places)
      (λ room. rw room (tame_behind m fails (ltb-true p.buffer.list.count (min places 16) room)))
      (λ full. rw full tame_same)

  -- a message for who does not wait for one
  tame_kept : (condition : Condition) (m : Message) → waits p ≡ false → Tame places p (kept_of p condition places m).process
  tame_kept Always m fails = tame_stored m fails
  tame_kept Waiting m fails = tame_same

  -- a message, whoever it is for
  tame_delivered : (condition : Condition) (m : Message) → Tame places p (deliver_of p condition places m).process
  tame_delivered condition m =
      by_test (waits p)
      (λ holds. subst (λ (d : Delivery). Tame places p d.process) (sym (deliver_waits p condition places m holds)) (tame_handed holds))
      (λ fails. subst (λ (d : Delivery). Tame places p d.process) (sym (deliver_keeps p condition places m fails)) (tame_kept condition m fails))

  -- what a letter makes of its receiver
  tame_served : (origin : Origin) (x : Letter) → Tame places p (served_of origin places x p)
  tame_served origin x =
      tame_marked origin (deliver_of p x.condition places x.message).fate (deliver_of p x.condition places x.message).process
      (tame_delivered x.condition x.message)

module _ (t : Table) (origin : Origin) where
  -- one letter keeps sound levels
  pub letter_keeps : (x : Letter) (ps : List Process) → length ps ≡ 12 → levels_sound t.config t.semaphores.queue ps ≡ true
      → levels_sound t.config t.semaphores.queue (one_of origin t.config.places x ps).processes ≡ true
  unfolding one_of
  letter_keeps x ps whole sound =
      tame_set t.config t.semaphores.queue ps x.receiver _ whole sound (tame_served t.config.places (process_at ps x.receiver) origin x)

  -- and so do letters, one after the other
  pub letters_keep : (letters : List Letter) (ps : List Process) → length ps ≡ 12 → levels_sound t.config t.semaphores.queue ps ≡ true
      → levels_sound t.config t.semaphores.queue (all_of origin t.config.places letters ps).processes ≡ true
  unfolding all_of
  letters_keep [] ps whole sound = sound
  letters_keep (x ∷ letters) ps whole sound =
      letters_keep letters (one_of origin t.config.places x ps).processes (length_one origin t.config.places x ps ∙ whole) (letter_keeps x ps whole sound)

-- there are as many processes as before
pub letters_whole : (origin : Origin) (places : ℕ) (letters : List Letter) (ps : List Process) → length ps ≡ 12
    → length (all_of origin places letters ps).processes ≡ 12
letters_whole origin places letters ps whole = length_posted origin places letters ps ∙ whole
