-- SEND, RECEIVE, AWAITMESSAGE and CLEARMESSAGE leave a table that shows no break. Assumes nothing.
use mathlib.Core.Path.{◌≡◌, ◌∙◌, refl, sym, ap, subst}
use mathlib.Core.Bool.{true, not, ◌||◌}
use mathlib.Core.List.{List, [], ◌∷◌}
use Prim.Native.Nat.{ℕ, ◌≤◌}
use native.Mathlib.Omega.{arith}
use lib.Dec.{eqb, leb-zero}
use lib.ListN.{length, length-set}
use borrow.Author.Tests.{leb-true, le-leb}
use Rattle.common.specs.Filled.{filled_of}
use Rattle.common.specs.Fold.{fold_of}
use Rattle.common.proofs.Cases.{by_test, by_pick, either_true}
use Rattle.process.specs.declared.buffers.Buffer.{Buffer}
use Rattle.process.specs.declared.buffers.Message.{Message}
use Rattle.process.specs.declared.Condition.{Condition}
use Rattle.process.specs.declared.Condition.TheVariants.{Always, Waiting}
use Rattle.process.specs.declared.Process.{Process}
use Rattle.process.specs.declared.Target.{Target}
use Rattle.process.specs.declared.states.Cause.TheVariants.{WaitForMessage}
use Rattle.process.specs.declared.states.State.{State}
use Rattle.process.specs.declared.states.State.TheVariants.{Ready, WaitingForMessage, WaitingForSemaphore}
use Rattle.process.specs.Messages.{rest_of}
use Rattle.process.specs.Process.{moved_of, cleared_of, taken_of}
use Rattle.process.specs.States.{is_of, next_of}
use Rattle.table.specs.declared.answers.Answer.TheVariants.{BufferEmpty}
use Rattle.table.specs.declared.Table.{Table}
use Rattle.table.specs.Configuration.{receiver_of}
use Rattle.table.specs.Sound.{levels_sound}
use Rattle.calls.specs.Levels.{process_at, process_of, with_processes}
use Rattle.calls.specs.Verdicts.{check}
use Rattle.calls.proofs.Keeping.{Steady, Keeps, Tame, keeps_obeyed, steady_processes, passed_caller, tame_set}
use Rattle.calls.proofs.Changing.{steady_process, state_known, moved_as}
use Rattle.posting.specs.declared.Origin.TheVariants.{Sent}
use Rattle.posting.specs.Posting.{Posted}
use Rattle.posting.proofs.Keeping.{letters_keep, letters_whole}
use Rattle.messages.specs.Receivers.{receivers_of, cleared_at}
use Rattle.messages.specs.Receiving.{taking_of, receive_of, await_message_of, cleared_for, clear_message_of}
use Rattle.messages.specs.Sending.{letters_of, send_posted, sent_by, sent_of, send_of}

-- ---- SEND

module _ (t : Table) (steady : Steady t) where
  -- the processes after messages to whoever is named
  posted_steady : (target : Target) (condition : Condition) (m : Message) → Steady (with_processes t (send_posted t.config target condition m t.processes).processes)
  unfolding send_posted
  posted_steady target condition m =
      let letters = letters_of t.config target condition m in
      steady_processes t _ steady
      (letters_whole Sent t.config.places letters t.processes steady.processes)
      (letters_keep t Sent letters t.processes steady.processes steady.parts.levels)

  -- the table has those processes, or is as it was
  sent_by_lem : (condition : Condition) (posted : Posted) → Steady (with_processes t posted.processes) → Keeps (sent_by condition t posted)
  unfolding Keeps
  sent_by_lem Waiting posted keeps = by_pick Keeps (eqb (length posted.wakes) 0) _ _ steady keeps
  sent_by_lem Always posted keeps = keeps

-- SEND keeps the table steady, whomever it names and whatever becomes of the message
pub send_keeps : (t : Table) (caller receiver : ℕ) (condition : Condition) (m : Message) → Steady t → Keeps (send_of t caller receiver condition m)
unfolding send_of sent_of
send_keeps t caller receiver condition m steady =
    keeps_obeyed _ t _ steady (λ passed. sent_by_lem t steady condition _ (posted_steady t steady (receiver_of t.config receiver) condition m))

-- ---- RECEIVE and AWAITMESSAGE

-- without its oldest message a buffer keeps no more than before
rest_few : (b : Buffer) → (rest_of b).list.count ≤ b.list.count
unfolding rest_of
rest_few b = by_test (eqb b.list.count 0) (λ e. rw e (omega arith)) (λ e. rw e (omega arith))

module _ (places : ℕ) (p : Process) (ready : is_of p.state Ready ≡ true) where
  -- who is READY may take its oldest message
  tame_taken : Tame places p (taken_of p).process
  unfolding taken_of
  tame_taken = record {
    priority = λ within. within;
    kept = λ within none. (
      le-leb (rest_of p.buffer).list.count places (omega (arith, leb-true p.buffer.list.count places within, rest_few p.buffer)),
      ap (λ (s : State). not (is_of s WaitingForMessage) || eqb (rest_of p.buffer).list.count 0) (state_known p.state Ready ready),
    );
    queued = refl;
  }

  -- and may begin to wait for a message where none is kept
  tame_awaiting : eqb p.buffer.list.count 0 ≡ true → Tame places p (moved_of p WaitForMessage)
  unfolding next_of
  tame_awaiting nothing =
      subst (Tame places p) (sym (moved_as p Ready WaitingForMessage WaitForMessage ready refl))
      (record {
        priority = λ within. within;
        kept = λ within none. (within, nothing);
        queued = sym (ap (λ (s : State). is_of s WaitingForSemaphore) (state_known p.state Ready ready));
      })

module _ (t : Table) (caller : ℕ) (steady : Steady t) where
  -- a message that a READY process takes
  taking_keeps : is_of (process_of t caller).state Ready ≡ true → Keeps (taking_of t caller)
  unfolding taking_of Keeps
  taking_keeps ready = steady_process t caller _ steady (tame_taken t.config.places (process_of t caller) ready)

  -- RECEIVE keeps the table steady
  pub receive_keeps : Keeps (receive_of t caller)
  unfolding receive_of
  receive_keeps =
      let some = check (not (eqb (process_of t caller).buffer.list.count 0)) BufferEmpty in
      keeps_obeyed _ t _ steady (λ passed. taking_keeps (passed_caller t.config (process_of t caller) caller (some ∷ []) passed).1)

  -- AWAITMESSAGE keeps it steady: its caller waits only where no message is kept
  pub await_message_keeps : Keeps (await_message_of t caller)
  unfolding await_message_of Keeps
  await_message_keeps =
      keeps_obeyed _ t _ steady
      (λ passed.
      let ready = (passed_caller t.config (process_of t caller) caller [] passed).1 in
      by_test (eqb (process_of t caller).buffer.list.count 0)
      (λ nothing. rw nothing (steady_process t caller _ steady (tame_awaiting t.config.places (process_of t caller) ready nothing)))
      (λ some. rw some (taking_keeps ready)))

-- ---- CLEARMESSAGE

-- a buffer may be emptied
tame_cleared : (places : ℕ) (p : Process) → Tame places p (cleared_of p)
unfolding filled_of
tame_cleared places p = record {
  priority = λ within. within;
  kept = λ within none. (leb-zero places, either_true (not (is_of p.state WaitingForMessage)) true refl);
  queued = refl;
}

-- the buffers of some levels are emptied, one after the other: there are as many processes as before
cleared_whole : (levels : List ℕ) (ps : List Process) → length ps ≡ 12 → length (fold_of cleared_at ps levels) ≡ 12
cleared_whole [] ps whole = whole
cleared_whole (level ∷ levels) ps whole = cleared_whole levels (cleared_at ps level) (length-set ps level _ ∙ whole)

module _ (t : Table) where
  -- and their levels are sound
  cleared_keep : (levels : List ℕ) (ps : List Process) → length ps ≡ 12 → levels_sound t.config t.semaphores.queue ps ≡ true
      → levels_sound t.config t.semaphores.queue (fold_of cleared_at ps levels) ≡ true
  cleared_keep [] ps whole sound = sound
  cleared_keep (level ∷ levels) ps whole sound =
      cleared_keep levels (cleared_at ps level)
      (length-set ps level _ ∙ whole)
      (tame_set t.config t.semaphores.queue ps level _ whole sound (tame_cleared t.config.places (process_at ps level)))

  -- CLEARMESSAGE keeps the table steady
  pub clear_message_keeps : (caller receiver : ℕ) → Steady t → Keeps (clear_message_of t caller receiver)
  unfolding clear_message_of cleared_for Keeps
  clear_message_keeps caller receiver steady =
      let levels = receivers_of t.config (receiver_of t.config receiver) in
      keeps_obeyed _ t _ steady
      (λ passed. steady_processes t _ steady
      (cleared_whole levels t.processes steady.processes)
      (cleared_keep levels t.processes steady.processes steady.parts.levels))
