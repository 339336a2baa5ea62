-- What the checks of a call decide. Assumes nothing.
use mathlib.Core.Path.{◌≡◌, ◌∙◌, refl, ap, sym}
use mathlib.Core.Bool.{Bool, true, false}
use mathlib.Core.List.{List, []}
use Prim.Native.Nat.{ℕ}
use native.Mathlib.Omega.{arith}
use Rattle.std.specs.Prelude.{Ok, Err}
use Rattle.table.specs.declared.answers.Answer.{Answer}
use Rattle.table.specs.declared.answers.Answer.TheVariants.{Ok}
use Rattle.table.specs.declared.Outcome.{Outcome}
use Rattle.table.specs.declared.Table.{Table}
use Rattle.table.specs.declared.Said.{Said}
use Rattle.table.specs.Table.{refused_of, said_of}
use Rattle.table.specs.declared.wakes.Wake.{Wake}
use Rattle.table.specs.Wakes.{no_wakes_of, wakes_of}
use Rattle.calls.specs.Effects.{Effect, Has, number, waking, refuse, outcome_of}
use Rattle.calls.specs.Outcomes.{answered_of, carries_number}
use Rattle.calls.specs.Verdicts.{Checked, also_of, obeyed}

-- a refusal, as it lies in the code's result
pub outcome_refuse : (t : Table) (answer : Answer) → outcome_of (refuse t answer) ≡ refused_of t answer
unfolding outcome_of refused_of
outcome_refuse t answer = refl

-- an answer with wakes, and one with none
pub outcome_waking : (t : Table) (answer : Answer) (wakes : List Wake) → answered_of t answer (wakes_of wakes) ≡ outcome_of (waking answer wakes t)
unfolding outcome_of answered_of
outcome_waking t answer wakes = refl

pub outcome_alone : (t : Table) (answer : Answer) → answered_of t answer no_wakes_of ≡ outcome_of (waking answer [] t)
unfolding outcome_of answered_of
outcome_alone t answer = refl

-- a number with wakes
pub outcome_number : (t : Table) (n : ℕ) (wakes : List Wake) → carries_number t n (wakes_of wakes) ≡ outcome_of (record { answer = Ok; carried = number n; wakes = wakes; table = t })
unfolding outcome_of carries_number
outcome_number t n wakes = refl

-- what is said, beside the table that is left
abbrev beside : Said → Table → Outcome
beside said left = record { answer = said.answer; shown = said.shown; wakes = said.wakes; table = left }

-- a table changed in place, by the outcome of the effect
pub has_of : (e : Effect) (said : Said) (left : Table) → beside said left ≡ outcome_of e → Has e said left
unfolding outcome_of
has_of e said left same = record { says = ap (λ (o : Outcome). said_of o) same; leaves = ap (λ (o : Outcome). o.table) same }

-- a call whose checks refuse it
pub refused_by : (v : Checked) (t : Table) (effect : Effect) (answer : Answer) (r : Outcome)
    → r ≡ refused_of t answer → v ≡ Err answer → r ≡ outcome_of (obeyed v t effect)
unfolding obeyed
refused_by v t effect answer r result refused = rw refused (result ∙ sym (outcome_refuse t answer))

-- a call whose checks all pass
pub passed_all : (v : Checked) (t : Table) (effect : Effect) (r : Outcome) → r ≡ outcome_of effect → v ≡ Ok tt → r ≡ outcome_of (obeyed v t effect)
unfolding obeyed
passed_all v t effect r result passed = rw passed result

first_refused : (answer : Answer) → ◌≡◌ {A = Checked} (Err answer) (Ok tt) → ⊥
first_refused answer same = let z : ◌≡◌ {A = ℕ} 0 1 = cc in absurd (omega arith)

-- where all checks passed, so did the last, and all before it
pub last_passed : (v : Checked) (holds : Bool) (answer : Answer) → also_of v holds answer ≡ Ok tt → (v ≡ Ok tt) × (holds ≡ true)
unfolding also_of
last_passed (Ok tt) true answer passed = (refl, refl)
last_passed (Ok tt) false answer passed = absurd (first_refused answer passed)
last_passed (Err first) holds answer passed = absurd (first_refused _ passed)
