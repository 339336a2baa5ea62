-- What is decided on one process's record comes to what the call does. Assumes nothing.
use mathlib.Core.Path.{◌≡◌, ◌∙◌, refl, ap, sym, subst}
use mathlib.Core.Bool.{Bool, false}
use mathlib.Core.List.{List, [], ◌∷◌}
use Prim.Native.Nat.{ℕ, min}
use native.Mathlib.Omega.{arith}
use lib.ListN.{length, get_or}
use lib.Seq.{set-get_or}
use Rattle.std.specs.Prelude.{Ok, Err}
use Rattle.common.proofs.Cases.{by_test}
use Rattle.common.proofs.Lists.{get_or_within}
use Rattle.process.specs.declared.Process.{Process}
use Rattle.process.specs.Process.{fresh_of}
use Rattle.table.specs.declared.answers.Answer.{Answer}
use Rattle.table.specs.declared.answers.Answer.TheVariants.{NoUser}
use Rattle.table.specs.declared.Table.{Table}
use Rattle.table.specs.Configuration.{configured_of}
use Rattle.table.proofs.Configured.{configured_level}
use Rattle.calls.specs.declared.Decided.{Decided}
use Rattle.calls.specs.Decisions.{decided, decided_by, told_of, decided_at}
use Rattle.calls.specs.Effects.{Effect, nothing, refuse, outcome_of}
use Rattle.calls.specs.Levels.{process_at, process_of}
use Rattle.calls.specs.Verdicts.{Checked, Check, check, after, also_of, obeyed, by_caller, checked}

-- A level above 11 is not configured, so no call looks at its record: the code looks at the one at 11 instead, and puts it back. Of the place and the record
-- there is what holds of a configured level and its own record, and what holds of any place and the record there where the level is not configured.
module _ (t : Table) (level : ℕ) (other : Process) (whole : length t.processes ≡ 12) where
  pub own_or_other : (P : ℕ → Process → Type 0) → P level (process_of t level)
      → (configured_of t.config level ≡ false → (at : ℕ) → P at (get_or t.processes at other))
      → P (min level 11) (get_or t.processes (min level 11) other)
  unfolding process_at
  own_or_other P own others =
      by_test (configured_of t.config level)
      (λ configured.
      let here : min level 11 ≡ level = omega (arith, configured_level t.config level configured) in
      let same : get_or t.processes level other ≡ process_of t level =
      get_or_within t.processes level other fresh_of (omega (arith, configured_level t.config level configured)) in
      subst (λ (at : ℕ). P at (get_or t.processes at other)) (sym here) (subst (P level) (sym same) own))
      (λ nobody. others nobody (min level 11))

-- the caller's two checks, on the record that is looked at
module _ (t : Table) (caller : ℕ) (other : Process) (whole : length t.processes ≡ 12) where
  pub seen_caller : by_caller t.config (get_or t.processes (min caller 11) other) caller ≡ by_caller t.config (process_of t caller) caller
  unfolding also_of
  seen_caller =
      own_or_other t caller other whole (λ at p. by_caller t.config p caller ≡ by_caller t.config (process_of t caller) caller) refl
      (λ nobody at. rw nobody)

-- a refusal leaves the record where it is
decided_refused : (t : Table) (at : ℕ) (other : Process) (answer : Answer)
    → decided_at t at (decided answer nothing (get_or t.processes at other)) ≡ outcome_of (refuse t answer)
unfolding told_of outcome_of
decided_refused t at other answer = rw set-get_or

-- by what the checks decide
decided_verdict : (v : Checked) (t : Table) (at : ℕ) (x : Decided Process) (effect : Effect) → decided_at t at x ≡ outcome_of effect
    → decided_at t at (decided_by v (process_of t at) x) ≡ outcome_of (obeyed v t effect)
unfolding obeyed process_at
decided_verdict (Ok tt) t at x effect obeys = obeys
decided_verdict (Err answer) t at x effect obeys = decided_refused t at fresh_of answer

-- checks behind one that failed make no difference
pub after_refused : (answer : Answer) (l : List Check) → after (Err answer) l ≡ Err answer
unfolding also_of
after_refused answer [] = refl
after_refused answer (c ∷ l) = after_refused answer l

-- where the first fails, it refuses
first_fails : (holds : Bool) (answer : Answer) (l : List Check) → holds ≡ false → after (Ok tt) (check holds answer ∷ l) ≡ Err answer
unfolding also_of
first_fails holds answer l fails = rw fails (after_refused answer l)

-- a call of a level, whose first check is that the level is configured
module _ (t : Table) (level : ℕ) (other : Process) (whole : length t.processes ≡ 12) (rest : Process → List Check) (decide : Process → Decided Process) (effect : Effect) where
  abbrev checks : Process → List Check
  checks p = check (configured_of t.config level) NoUser ∷ rest p

  pub decided_call : decided_at t level (decide (process_of t level)) ≡ outcome_of effect
      → decided_at t (min level 11)
      (decided_by (after (Ok tt) (checks (get_or t.processes (min level 11) other))) (get_or t.processes (min level 11) other) (decide (get_or t.processes (min level 11) other)))
      ≡ outcome_of (checked t (checks (process_of t level)) effect)
  unfolding obeyed
  decided_call obeys =
      own_or_other t level other whole
      (λ at p. decided_at t at (decided_by (after (Ok tt) (checks p)) p (decide p)) ≡ outcome_of (checked t (checks (process_of t level)) effect))
      (decided_verdict (after (Ok tt) (checks (process_of t level))) t level (decide (process_of t level)) effect obeys)
      (λ nobody at. ap (λ (v : Checked). decided_at t at (decided_by v (get_or t.processes at other) (decide (get_or t.processes at other)))) (first_fails _ NoUser (rest (get_or t.processes at other)) nobody)
      ∙ decided_refused t at other NoUser
      ∙ sym (ap (λ (v : Checked). outcome_of (obeyed v t effect)) (first_fails _ NoUser (rest (process_of t level)) nobody)))
