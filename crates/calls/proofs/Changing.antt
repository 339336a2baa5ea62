-- A table with one process changed, and a process that moves to another state. Assumes nothing.
use mathlib.Core.Path.{◌≡◌, ◌∙◌, ap, sym, subst}
use mathlib.Core.Bool.{true, false}
use Prim.Native.Nat.{ℕ}
use lib.ListN.{get_or, length-set}
use borrow.Author.Tests.{eqb-true}
use Rattle.std.specs.Prelude.{Option, Some}
use Rattle.process.specs.declared.Process.{Process}
use Rattle.process.specs.declared.states.Cause.{Cause}
use Rattle.process.specs.declared.states.State.{State}
use Rattle.process.specs.declared.states.State.TheVariants.{Inactive, WaitingForMessage, WaitingForSemaphore}
use Rattle.process.specs.Process.{process_of as record_of, moved_to, moved_of}
use Rattle.process.specs.States.{row_of, is_of, next_of}
use Rattle.process.proofs.Moves.{states, row_known}
use Rattle.table.specs.declared.Table.{Table}
use Rattle.calls.specs.Levels.{process_of, with_process}
use Rattle.calls.proofs.Keeping.{Steady, Tame, steady_processes, tame_set}

-- a table stays steady where one process is changed in a tame way
pub steady_process : (t : Table) (level : ℕ) (then : Process) → Steady t → Tame t.config.places (process_of t level) then → Steady (with_process t level then)
steady_process t level then steady tame =
    steady_processes t _ steady
    (length-set t.processes level then ∙ steady.processes)
    (tame_set t.config t.semaphores.queue t.processes level then steady.processes steady.parts.levels tame)

-- a state that the test calls so is that state
pub state_known : (s other : State) → is_of s other ≡ true → s ≡ other
state_known s other same =
    sym (row_known s).1 ∙ ap (λ (row : ℕ). get_or states row Inactive) (eqb-true (row_of s) (row_of other) same) ∙ (row_known other).1

module _ (p : Process) (from to : State) (cause : Cause) (known : is_of p.state from ≡ true) (leads : next_of from cause ≡ Some to) where
  -- a process goes where a cause leads from its state, and nothing else of it changes
  pub moved_as : moved_of p cause ≡ record_of to p.priority p.marks p.buffer
  unfolding moved_of
  moved_as = ap (λ (next : Option State). moved_to next p) (ap (λ (s : State). next_of s cause) (state_known p.state from known) ∙ leads)

  -- that is tame where it neither begins to wait for a message nor begins or ends to wait for a semaphore
  pub tame_moved : (places : ℕ) → is_of to WaitingForMessage ≡ false → is_of to WaitingForSemaphore ≡ is_of from WaitingForSemaphore → Tame places p (moved_of p cause)
  tame_moved places other same =
      subst (Tame places p) (sym moved_as)
      (record {
        priority = λ within. within;
        kept = λ within none. (within, rw other);
        queued = same ∙ ap (λ (s : State). is_of s WaitingForSemaphore) (sym (state_known p.state from known));
      })
