-- What AWAITINTERRUPT and an event decide on one process's record comes to what they do. Assumes nothing.
use mathlib.Core.Path.{◌≡◌, ◌∙◌, refl, ap}
use mathlib.Core.Bool.{Bool, true, false, ◌&&◌}
use mathlib.Core.List.{[], ◌∷◌}
use Prim.Native.Nat.{ℕ, min}
use native.Mathlib.Omega.{arith}
use lib.Dec.{eqb, ltb}
use lib.ListN.{length, get_or, get_or-eq_default}
use lib.Seq.{set-get_or}
use borrow.Author.Tests.{ltb-true, ltb-false}
use Rattle.std.specs.Prelude.{Option, Some, None}
use Rattle.common.proofs.Cases.{by_test}
use Rattle.common.proofs.Lists.{get_or_within}
use Rattle.inputs.specs.InputSet.{count_of}
use Rattle.process.specs.declared.Process.{Process}
use Rattle.process.specs.declared.states.State.TheVariants.{Ready}
use Rattle.process.specs.Process.{fresh_of}
use Rattle.process.specs.States.{is_of}
use Rattle.table.specs.declared.answers.Answer.TheVariants.{Ok, NotReady}
use Rattle.table.specs.declared.configs.Privileged.{Privileged}
use Rattle.table.specs.declared.Outcome.{Outcome}
use Rattle.table.specs.declared.Table.{Table}
use Rattle.table.specs.Configuration.{privilege_of}
use Rattle.calls.specs.Decisions.{told_of, decided_at}
use Rattle.calls.specs.Effects.{outcome_of}
use Rattle.calls.specs.Levels.{process_at, process_of, with_process}
use Rattle.calls.specs.Outcomes.{answered_of}
use Rattle.calls.specs.Verdicts.{check}
use Rattle.calls.proofs.Deciding.{decided_call}
use Rattle.calls.proofs.Obeying.{outcome_alone, outcome_waking}
use Rattle.interrupts.specs.declared.AfterEvent.{AfterEvent}
use Rattle.interrupts.specs.Interrupts.{came_of, awaiting_of, awaiting_by, await_interrupt_of, open_of, opened_of, awaiting_for, awaited_by, awaited_of, opened_for}

-- ---- AWAITINTERRUPT

module _ (t : Table) (caller : ℕ) where
  -- of a process that may call, whether it owns inputs or not
  awaits_told : (owned : Option Privileged) → decided_at t caller (awaited_by owned (process_of t caller) t.mask t.latch) ≡ outcome_of (awaiting_by owned t caller)
  unfolding told_of outcome_of process_at awaiting_for awaiting_of
  awaits_told (Some place) =
      by_test (eqb (count_of (came_of t place)) 0)
      (λ none. rw none)
      (λ some. rw (some, set-get_or))
  awaits_told None = rw set-get_or

-- the record that is looked at is the caller's own, or it makes no difference
module _ (t : Table) (caller : ℕ) (other : Process) (whole : length t.processes ≡ 12) where
  pub awaited_all : decided_at t (min caller 11) (awaited_of t.config (get_or t.processes (min caller 11) other) t.mask t.latch caller)
      ≡ outcome_of (await_interrupt_of t caller)
  unfolding awaited_of await_interrupt_of
  awaited_all =
      decided_call t caller other whole (λ p. check (is_of p.state Ready) NotReady ∷ [])
      (λ p. awaited_by (privilege_of t.config caller) p t.mask t.latch) (awaiting_by (privilege_of t.config caller) t caller)
      (awaits_told t caller (privilege_of t.config caller))

-- ---- an event

-- the table with what an event came to, at the place of a record
abbrev opened_at : Table → ℕ → AfterEvent → Outcome
opened_at t at x = answered_of (with_process t at x.process) Ok x.wakes

-- a test beside one that holds, and beside one that fails
beside_true : (a b : Bool) → b ≡ true → a && b ≡ a
beside_true true b holds = holds
beside_true false b holds = refl

beside_false : (a b : Bool) → b ≡ false → a && b ≡ false
beside_false true b fails = fails
beside_false false b fails = refl

module _ (t : Table) (input : ℕ) (place : Privileged) where
  -- the owner's own record
  opened_own : ltb place.level 12 ≡ true
      → opened_at t place.level (opened_for (process_of t place.level) t.mask input place.level) ≡ outcome_of (opened_of t input place)
  unfolding opened_for opened_of process_at
  opened_own level =
      rw (beside_true (open_of t input place) (ltb place.level 12) level)
      (by_test (open_of t input place)
      (λ opens. rw opens (outcome_waking _ _ _))
      (λ closed. rw (closed, set-get_or) (outcome_alone _ _)))

  module _ (other : Process) (whole : length t.processes ≡ 12) where
    -- where the owner has none, it is a fresh one that does not wait, and any that is looked at instead stays as it is
    opened_none : ltb place.level 12 ≡ false → (at : ℕ)
        → opened_at t at (opened_for (get_or t.processes at other) t.mask input place.level) ≡ outcome_of (opened_of t input place)
    unfolding opened_for opened_of process_at
    opened_none above at =
        rw (
          beside_false _ (ltb place.level 12) above,
          set-get_or,
          get_or-eq_default t.processes fresh_of {n = place.level} (omega (arith, ltb-false place.level 12 above)),
        )
        (outcome_alone _ _)

    pub opened_all : opened_at t (min place.level 11) (opened_for (get_or t.processes (min place.level 11) other) t.mask input place.level)
        ≡ outcome_of (opened_of t input place)
    unfolding process_at
    opened_all =
        by_test (ltb place.level 12)
        (λ level.
        let here : min place.level 11 ≡ place.level = omega (arith, ltb-true place.level 12 level) in
        let same : get_or t.processes place.level other ≡ process_of t place.level =
        get_or_within t.processes place.level other fresh_of (omega (arith, ltb-true place.level 12 level)) in
        ap (λ (at : ℕ). opened_at t at (opened_for (get_or t.processes at other) t.mask input place.level)) here
        ∙ ap (λ (p : Process). opened_at t place.level (opened_for p t.mask input place.level)) same
        ∙ opened_own level)
        (λ above. opened_none above (min place.level 11))
