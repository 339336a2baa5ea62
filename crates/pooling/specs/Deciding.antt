-- How the code comes to what the four calls do: each decides on small parts, and a table takes what was decided.
use Rattle.std.specs.Prelude.{[], ℕ}
use Rattle.pool.specs.declared.Control.{Control}
use Rattle.pool.specs.Control.{began_of, stated_of}
use Rattle.process.specs.declared.Process.{Process}
use Rattle.table.specs.declared.answers.Answer.{Answer}
use Rattle.table.specs.declared.configs.Config.{Config}
use Rattle.table.specs.declared.Outcome.{Outcome}
use Rattle.table.specs.declared.Shown.{Shown}
use Rattle.table.specs.declared.Shown.TheVariants.{Nothing, Data}
use Rattle.table.specs.declared.Table.{Table}
use Rattle.calls.specs.declared.Decided.{Decided}
use Rattle.calls.specs.Decisions.{decided, decided_by, told_of}
use Rattle.calls.specs.Effects.{nothing}
use Rattle.calls.specs.Levels.{with_pool}
use Rattle.calls.specs.Verdicts.{Checked, after, by_caller}
use Rattle.pooling.specs.Pooling.{stating_checks}

-- who uses the pool, beside an answer that carries nothing
abbrev pub alone : Answer → Control → Decided Control
alone answer control = decided answer nothing control

-- beside a table in which it stands who uses the pool
abbrev pub told_in : Table → Decided Control → Outcome
told_in t x = told_of (with_pool t x.part) x

-- INITPOOL
unfoldable pub entered_of : Config → Process → Control → ℕ → Decided Control
entered_of c p control caller = decided_by (after (by_caller c p caller) []) control (alone Answer.Ok (began_of control caller))

-- POOLCHECK
unfoldable pub stated_by : Config → Process → Control → ℕ → ℕ → Decided Control
stated_by c p control caller stated =
    decided_by (after (by_caller c p caller) (stating_checks c control caller stated)) control (alone Answer.Ok (stated_of control caller stated))

-- GETPOOL and PUTPOOL, by their checks, with what is shown where they are answered 0: the users stay as they are
unfoldable pub accessed_of : Checked → Control → Shown → Decided Control
accessed_of v control shown = decided_by v control (record { answer = Answer.Ok; shown = shown; part = control })

-- GETPOOL, by its checks
abbrev pub brought_of : Checked → Control → ℕ → Decided Control
brought_of v control count = accessed_of v control (Data count)

-- PUTPOOL, by its checks
abbrev pub given_of : Checked → Control → Decided Control
given_of v control = accessed_of v control Nothing
