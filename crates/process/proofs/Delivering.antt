-- What a delivery does, by the receiver's state. Assumes nothing.
use mathlib.Core.Path.{◌≡◌, ◌∙◌, refl, ap}
use Prim.Native.Nat.{ℕ, ◌<◌, ◌≤◌, min}
use Rattle.std.specs.Prelude.{Option, None}
use Rattle.process.specs.declared.states.State.{State}
use Rattle.process.specs.declared.states.State.TheVariants.{Inactive, Ready, WaitingForMessage, WaitingForEvent, WaitingForSemaphore}
use Rattle.process.specs.declared.states.Cause.TheVariants as Cause
use Rattle.process.specs.declared.buffers.Message.{Message}
use Rattle.process.specs.declared.Process.{Process}
use Rattle.process.specs.declared.Condition.{Condition}
use Rattle.process.specs.declared.Condition.TheVariants.{Always, Waiting}
use Rattle.process.specs.declared.Fate.TheVariants.{Stored, NotWaiting, Full}
use Rattle.process.specs.States.{next_of}
use Rattle.process.specs.Messages.{behind_of}
use Rattle.process.specs.Process.{process_of, deliver_to, deliver_of, handed_of, stored_of, kept_of}
use Rattle.process.proofs.Places.{put_room, put_full}

-- a message leads from no state but one
elsewhere : (s : State) → (s ≡ WaitingForMessage → ⊥) → next_of s Cause.Message ≡ None
unfolding next_of
elsewhere Inactive other = refl
elsewhere Ready other = refl
elsewhere WaitingForMessage other = absurd (other refl)
elsewhere WaitingForEvent other = refl
elsewhere WaitingForSemaphore other = refl

module _ (p : Process) (condition : Condition) (places : ℕ) (m : Message) where
  -- a delivery goes by where a message leads from the process's state
  pub deliver_next : (next : Option State) → next_of p.state Cause.Message ≡ next → deliver_of p condition places m ≡ deliver_to next p condition places m
  unfolding deliver_of
  deliver_next next leads = ap (λ (n : Option State). deliver_to n p condition places m) leads

  -- a process that waits for a message has it at once, whatever the condition, and is READY
  pub deliver_waiting : p.state ≡ WaitingForMessage → deliver_of p condition places m ≡ handed_of p Ready
  unfolding deliver_of next_of
  deliver_waiting waits = ap (λ (s : State). deliver_to (next_of s Cause.Message) p condition places m) waits

  -- for any other it is kept or lost, and the process does not wake
  pub deliver_other : (p.state ≡ WaitingForMessage → ⊥) → deliver_of p condition places m ≡ kept_of p condition places m
  unfolding deliver_of
  deliver_other other = rw (elsewhere p.state other)

  -- "a buffer is never filled while its owner is in WM"
  pub never_filled : p.state ≡ WaitingForMessage → (deliver_of p condition places m).process.buffer ≡ p.buffer
  unfolding handed_of
  never_filled waits = rw (deliver_waiting waits)

module _ (p : Process) (places : ℕ) (m : Message) (other : p.state ≡ WaitingForMessage → ⊥) where
  -- ALWAYS, with a place left: kept behind the others, and nothing else of the process changes
  pub always_stored : p.buffer.list.count < min places 16
      → deliver_of p Always places m ≡ record { fate = Stored; process = process_of p.state p.priority p.marks (behind_of p.buffer m) }
  unfolding stored_of
  always_stored room = deliver_other p Always places m other ∙ rw (put_room p.buffer places m room)

  -- ALWAYS, with no place left, and WAITING: the process is as it was
  pub always_full : min places 16 ≤ p.buffer.list.count → deliver_of p Always places m ≡ record { fate = Full; process = p }
  unfolding stored_of
  always_full full = deliver_other p Always places m other ∙ rw (put_full p.buffer places m full)

  pub waiting_lost : deliver_of p Waiting places m ≡ record { fate = NotWaiting; process = p }
  waiting_lost = deliver_other p Waiting places m other
