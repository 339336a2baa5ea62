-- What a call decides that changes one part of a table alone, and how a table takes it.
use Rattle.std.specs.Prelude.{ℕ, min, get_or, Ok, Err}
use Rattle.process.specs.declared.Process.{Process}
use Rattle.process.specs.Process.{fresh_of}
use Rattle.table.specs.declared.answers.Answer.{Answer}
use Rattle.table.specs.declared.Outcome.{Outcome}
use Rattle.table.specs.declared.Table.{Table}
use Rattle.table.specs.Wakes.{no_wakes_of}
use Rattle.calls.specs.declared.Decided.{Decided}
use Rattle.calls.specs.Effects.{Carried, nothing, shown_by}
use Rattle.calls.specs.Levels.{with_process}
use Rattle.calls.specs.Verdicts.{Checked}

-- an answer, what it carries, and the part
abbrev pub decided : {T : Type 0} → Answer → Carried → T → Decided T
decided answer carried part =
    record { answer = answer; shown = shown_by carried; part = part }

-- where the checks refuse the call, the part stays as it is
abbrev pub decided_by : {T : Type 0} → Checked → T → Decided T → Decided T
decided_by (Ok tt) part x = x
decided_by (Err answer) part x = decided answer nothing part

-- beside a table
unfoldable pub told_of : {T : Type 0} → Table → Decided T → Outcome
told_of t x =
    record { answer = x.answer; shown = x.shown; wakes = no_wakes_of; table = t }

-- a process's record, at its place
abbrev pub decided_at : Table → ℕ → Decided Process → Outcome
decided_at t at x = told_of (with_process t at x.part) x

-- the record that is looked at: the level's own, or one that makes no difference, since a level above 11 is not configured
abbrev pub looked_at : Table → ℕ → Process
looked_at t level = get_or t.processes (min level 11) fresh_of
