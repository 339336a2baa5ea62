-- Document 01, "Answer numbers": "Each process's call checks NOUSER, then NOTREADY, then its own list."
use Rattle.std.specs.Prelude.{Bool, List, [], ◌∷◌, ℕ, Result, Ok, Err}
use Rattle.common.specs.Choice.{pick}
use Rattle.common.specs.Fold.{fold_of}
use Rattle.process.specs.declared.Process.{Process}
use Rattle.process.specs.declared.states.State.TheVariants.{Ready}
use Rattle.process.specs.States.{is_of}
use Rattle.table.specs.declared.answers.Answer.{Answer}
use Rattle.table.specs.declared.answers.Answer.TheVariants.{NoUser, NotReady}
use Rattle.table.specs.declared.configs.Config.{Config}
use Rattle.table.specs.declared.Table.{Table}
use Rattle.table.specs.Configuration.{configured_of}
use Rattle.calls.specs.declared.Caller.{Caller}
use Rattle.calls.specs.Effects.{Effect, refuse}
use Rattle.calls.specs.Levels.{process_of}

-- what must hold, and the number that refuses the call where it does not
pub record Check : Type 0 where
  pub holds : Bool
  pub answer : Answer

abbrev pub check : Bool → Answer → Check
check holds answer = record { holds = holds; answer = answer }

-- what became of a call's checks: all passed, or the first that failed refuses the call by its number
abbrev pub Checked : Type 0
Checked = Result (Unit {0}) Answer

-- one check
abbrev pub check_of : Bool → Answer → Checked
check_of holds answer = pick holds (Ok tt) (Err answer)

-- one check more: it counts where all before it passed
unfoldable pub also_of : Checked → Bool → Answer → Checked
also_of (Ok tt) holds answer = pick holds (Ok tt) (Err answer)
also_of (Err first) holds answer = Err first

-- checks in their order, after others that were made
abbrev pub after : Checked → List Check → Checked
after before checks = fold_of (λ v c. also_of v c.holds c.answer) before checks

-- a call that is obeyed where all its checks pass, and else refused by the first that fails
unfoldable pub obeyed : Checked → Table → Effect → Effect
obeyed (Ok tt) t effect = effect
obeyed (Err answer) t effect = refuse t answer

-- "NOUSER, then NOTREADY"
abbrev pub by_caller : Config → Process → ℕ → Checked
by_caller c p caller = after (Ok tt) (check (configured_of c caller) NoUser ∷ check (is_of p.state Ready) NotReady ∷ [])

-- who calls, by its level
abbrev pub caller_of : Table → ℕ → Caller
caller_of t level = record { config = t.config; process = process_of t level; level = level }

-- a call of no process: its own list
abbrev pub checked : Table → List Check → Effect → Effect
checked t checks effect = obeyed (after (Ok tt) checks) t effect

-- a process's call: "NOUSER, then NOTREADY, then its own list"
abbrev pub called : Table → ℕ → List Check → Effect → Effect
called t caller checks effect = obeyed (after (by_caller t.config (process_of t caller) caller) checks) t effect
