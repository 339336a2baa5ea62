-- Document 01, "States": START and SETPRIORITY.
use Rattle.std.specs.Prelude.{List, [], ◌∷◌, ℕ, leb, Ok}
use Rattle.process.specs.declared.Process.{Process}
use Rattle.process.specs.declared.states.State.TheVariants.{Inactive}
use Rattle.process.specs.declared.states.Cause.TheVariants.{Start}
use Rattle.process.specs.States.{is_of}
use Rattle.process.specs.Process.{moved_of, with_priority_of}
use Rattle.table.specs.declared.answers.Answer.{Answer}
use Rattle.table.specs.declared.answers.Answer.TheVariants.{ParameterError, NoUser, Started}
use Rattle.table.specs.declared.configs.Config.{Config}
use Rattle.table.specs.declared.Table.{Table}
use Rattle.table.specs.Configuration.{configured_of}
use Rattle.calls.specs.declared.Decided.{Decided}
use Rattle.calls.specs.Decisions.{decided, decided_by}
use Rattle.calls.specs.Effects.{Effect, nothing, done}
use Rattle.calls.specs.Levels.{process_of, with_process}
use Rattle.calls.specs.Verdicts.{Check, check, after, checked, by_caller, called}

-- of START: "Checks 10, 6, 34."
abbrev pub start_checks : Config → Process → ℕ → ℕ → List Check
start_checks c p level priority =
    check (configured_of c level) NoUser
    ∷ check (leb priority 63) ParameterError
    ∷ check (is_of p.state Inactive) Started
    ∷ []

-- "START (operator): level, priority 0..63."
unfoldable pub start_of : Table → ℕ → ℕ → Effect
start_of t level priority =
    checked t (start_checks t.config (process_of t level) level priority)
    (done (with_process t level (with_priority_of (moved_of (process_of t level) Start) priority)))

-- of SETPRIORITY: "priority, 0..63, else 6"
abbrev pub priority_checks : ℕ → List Check
priority_checks priority = check (leb priority 63) ParameterError ∷ []

-- "SETPRIORITY changes the caller's priority .., and nothing more in its record."
unfoldable pub set_priority_of : Table → ℕ → ℕ → Effect
set_priority_of t caller priority =
    called t caller (priority_checks priority) (done (with_process t caller (with_priority_of (process_of t caller) priority)))

-- ---- how the code comes to that: both change one record alone, and what they come to is decided on it

unfoldable pub started_of : Config → Process → ℕ → ℕ → Decided Process
started_of c p level priority =
    decided_by (after (Ok tt) (start_checks c p level priority)) p (decided Answer.Ok nothing (with_priority_of (moved_of p Start) priority))

unfoldable pub prioritized_of : Config → Process → ℕ → ℕ → Decided Process
prioritized_of c p caller priority =
    decided_by (after (by_caller c p caller) (priority_checks priority)) p (decided Answer.Ok nothing (with_priority_of p priority))
