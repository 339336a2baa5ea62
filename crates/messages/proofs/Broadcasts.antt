-- What SEND does to the processes: to the one that is named, to each of all, and to the others. Assumes nothing.
use mathlib.Core.Path.{◌≡◌, ◌∙◌, sym}
use mathlib.Core.Bool.{true, false}
use mathlib.Core.List.{List, [], append-nil}
use Prim.Native.Nat.{ℕ, zero-le}
use native.Mathlib.Omega.{arith}
use lib.ListN.{length, set}
use Rattle.common.specs.Stands.{stands_in}
use Rattle.common.proofs.Cases.{by_test, never_both}
use Rattle.inputs.specs.InputSet.{rising_of}
use Rattle.inputs.proofs.Rising.{rising_once, stands_rising, passes_rising}
use Rattle.process.specs.declared.Condition.{Condition}
use Rattle.process.specs.declared.Condition.TheVariants.{Always, Waiting}
use Rattle.process.specs.declared.Process.{Process}
use Rattle.process.specs.declared.Target.{Target}
use Rattle.process.specs.declared.Target.TheVariants.{All, Level}
use Rattle.process.specs.declared.buffers.Message.{Message}
use Rattle.process.specs.Process.{overflow_marked_of}
use Rattle.table.specs.declared.configs.Config.{Config}
use Rattle.table.specs.declared.Table.{Table}
use Rattle.table.specs.Configuration.{configured_of}
use Rattle.table.proofs.Configured.{configured_level}
use Rattle.calls.specs.Levels.{process_at, process_of}
use Rattle.posting.specs.declared.Origin.TheVariants.{Sent}
use Rattle.posting.specs.Posting.{letter, all_of}
use Rattle.posting.proofs.Letters.{or_nothing}
use Rattle.posting.proofs.Serving.{each_served, others_same, full_marks, nobody_served}
use Rattle.messages.specs.Receivers.{receivers_of}
use Rattle.messages.specs.Sending.{send_posted}

module _ (t : Table) where
  -- number 3 to one receiver sets its overflow mark and changes nothing else, and nobody wakes
  pub one_full : (level : ℕ) (m : Message) → (send_posted t.config (Level level) Always m t.processes).full ≡ true
      → ((send_posted t.config (Level level) Always m t.processes).processes ≡ set t.processes level (overflow_marked_of (process_of t level)))
      × ((send_posted t.config (Level level) Always m t.processes).wakes ≡ [])
  unfolding send_posted all_of
  one_full level m full =
      let marks = full_marks t.config.places (letter level Always m) t.processes (sym (or_nothing _) ∙ full) in
      (marks.0, append-nil _ ∙ marks.1)

  -- the message for all is for each configured level what the message for it alone is
  pub broadcast_each : (condition : Condition) (m : Message) (level : ℕ) → length t.processes ≡ 12 → configured_of t.config level ≡ true
      → process_at (send_posted t.config All condition m t.processes).processes level
      ≡ process_at (send_posted t.config (Level level) condition m t.processes).processes level
  unfolding send_posted all_of
  broadcast_each condition m level twelve configured =
      each_served Sent t.config.places condition m (rising_of 12 0 (configured_of t.config)) t.processes level
      (rising_once 12 0 (configured_of t.config))
      (passes_rising 12 0 (configured_of t.config) level zero-le (omega (arith, configured_level t.config level configured)) configured)
      (omega (arith, twelve, configured_level t.config level configured))

  -- and every level that is not configured is as before
  pub broadcast_others : (condition : Condition) (m : Message) (level : ℕ) → configured_of t.config level ≡ false
      → process_at (send_posted t.config All condition m t.processes).processes level ≡ process_of t level
  unfolding send_posted
  broadcast_others condition m level other =
      others_same Sent t.config.places condition m (rising_of 12 0 (configured_of t.config)) t.processes level
      (by_test (stands_in level (rising_of 12 0 (configured_of t.config)))
      (λ stands. absurd (never_both (stands_rising 12 0 (configured_of t.config) level stands) other))
      (λ none. none))

-- with WAITING, where nobody waited, the processes are the same
pub nobody_waited : (c : Config) (target : Target) (m : Message) (processes : List Process) → (send_posted c target Waiting m processes).wakes ≡ []
    → (send_posted c target Waiting m processes).processes ≡ processes
unfolding send_posted
nobody_waited c target m processes none = nobody_served c.places m (receivers_of c target) processes none
