-- What START and SETPRIORITY decide on one record comes to what they do. Assumes nothing.
use mathlib.Core.Path.{◌≡◌, refl}
use mathlib.Core.List.{[], ◌∷◌}
use Prim.Native.Nat.{ℕ, min}
use lib.Dec.{leb}
use lib.ListN.{length, get_or}
use Rattle.process.specs.declared.Process.{Process}
use Rattle.process.specs.declared.states.Cause.TheVariants.{Start}
use Rattle.process.specs.declared.states.State.TheVariants.{Inactive, Ready}
use Rattle.process.specs.Process.{moved_of, with_priority_of}
use Rattle.process.specs.States.{is_of}
use Rattle.table.specs.declared.answers.Answer.{Answer}
use Rattle.table.specs.declared.answers.Answer.TheVariants.{ParameterError, NotReady, Started}
use Rattle.table.specs.declared.Table.{Table}
use Rattle.calls.specs.Decisions.{decided, told_of, decided_at}
use Rattle.calls.specs.Effects.{nothing, done, outcome_of}
use Rattle.calls.specs.Levels.{with_process}
use Rattle.calls.specs.Verdicts.{check}
use Rattle.calls.proofs.Deciding.{decided_call}
use Rattle.starting.specs.Starting.{start_of, set_priority_of, started_of, prioritized_of}

-- 0, and another record at a level
done_told : (t : Table) (level : ℕ) (p : Process) → decided_at t level (decided Answer.Ok nothing p) ≡ outcome_of (done (with_process t level p))
unfolding told_of outcome_of
done_told t level p = refl

module _ (t : Table) (level priority : ℕ) (other : Process) (whole : length t.processes ≡ 12) where
  -- the record that the code looks at: the level's own, or one that makes no difference
  abbrev seen : Process
  seen = get_or t.processes (min level 11) other

  pub started_all : decided_at t (min level 11) (started_of t.config seen level priority) ≡ outcome_of (start_of t level priority)
  unfolding started_of start_of
  started_all =
      decided_call t level other whole
      (λ p. check (leb priority 63) ParameterError ∷ check (is_of p.state Inactive) Started ∷ [])
      (λ p. decided Answer.Ok nothing (with_priority_of (moved_of p Start) priority)) _ (done_told t level _)

  pub prioritized_all : decided_at t (min level 11) (prioritized_of t.config seen level priority) ≡ outcome_of (set_priority_of t level priority)
  unfolding prioritized_of set_priority_of
  prioritized_all =
      decided_call t level other whole
      (λ p. check (is_of p.state Ready) NotReady ∷ check (leb priority 63) ParameterError ∷ [])
      (λ p. decided Answer.Ok nothing (with_priority_of p priority)) _ (done_told t level _)
