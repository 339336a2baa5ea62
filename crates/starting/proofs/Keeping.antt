-- START and SETPRIORITY leave a table that shows no break. Assumes nothing.
use mathlib.Core.Path.{◌≡◌, refl}
use mathlib.Core.Bool.{true}
use Prim.Native.Nat.{ℕ}
use lib.Dec.{leb}
use Rattle.std.specs.Prelude.{Ok}
use Rattle.process.specs.declared.Process.{Process}
use Rattle.process.specs.declared.states.State.TheVariants.{Inactive, Ready}
use Rattle.process.specs.declared.states.Cause.TheVariants.{Start}
use Rattle.process.specs.Process.{moved_of, with_priority_of}
use Rattle.process.specs.States.{is_of, next_of}
use Rattle.table.specs.declared.answers.Answer.TheVariants.{ParameterError, NoUser, Started}
use Rattle.table.specs.declared.Table.{Table}
use Rattle.table.specs.Configuration.{configured_of}
use Rattle.calls.specs.Levels.{process_of}
use Rattle.calls.specs.Verdicts.{also_of, by_caller}
use Rattle.calls.proofs.Obeying.{last_passed}
use Rattle.calls.proofs.Keeping.{Steady, Keeps, Tame, keeps_obeyed}
use Rattle.calls.proofs.Changing.{steady_process, tame_moved}
use Rattle.starting.specs.Starting.{start_of, set_priority_of}

module _ (places : ℕ) (p : Process) (priority : ℕ) (small : leb priority 63 ≡ true) where
  -- a process may have any priority up to 63
  tame_priority : Tame places p (with_priority_of p priority)
  tame_priority = record { priority = λ within. small; kept = λ within none. (within, none); queued = refl }

  -- a process that was never started starts with one
  tame_started : is_of p.state Inactive ≡ true → Tame places p (with_priority_of (moved_of p Start) priority)
  unfolding next_of
  tame_started inactive =
      let tame = tame_moved p Inactive Ready Start inactive refl places refl refl in
      record { priority = λ within. small; kept = tame.kept; queued = tame.queued }

-- START keeps the table steady
pub start_keeps : (t : Table) (level priority : ℕ) → Steady t → Keeps (start_of t level priority)
unfolding start_of Keeps
start_keeps t level priority steady =
    keeps_obeyed _ t _ steady
    (λ passed.
    let level_known = also_of (Ok tt) (configured_of t.config level) NoUser in
    let inactive = last_passed (also_of level_known (leb priority 63) ParameterError) (is_of (process_of t level).state Inactive) Started passed in
    let small = last_passed level_known (leb priority 63) ParameterError inactive.0 in
    steady_process t level _ steady (tame_started t.config.places (process_of t level) priority small.1 inactive.1))

-- SETPRIORITY keeps the table steady
pub set_priority_keeps : (t : Table) (caller priority : ℕ) → Steady t → Keeps (set_priority_of t caller priority)
unfolding set_priority_of Keeps
set_priority_keeps t caller priority steady =
    keeps_obeyed _ t _ steady
    (λ passed.
    let small = last_passed (by_caller t.config (process_of t caller) caller) (leb priority 63) ParameterError passed in
    steady_process t caller _ steady (tame_priority t.config.places (process_of t caller) priority small.1))
