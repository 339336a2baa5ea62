-- Document 01, "Messages": whom a call names.
use Rattle.std.specs.Prelude.{List, [], ◌∷◌, ℕ, set}
use Rattle.inputs.specs.InputSet.{rising_of}
use Rattle.process.specs.declared.Process.{Process}
use Rattle.process.specs.declared.Target.{Target}
use Rattle.process.specs.declared.Target.TheVariants.{All, Level, Unknown}
use Rattle.process.specs.Process.{cleared_of}
use Rattle.table.specs.declared.configs.Config.{Config}
use Rattle.table.specs.Configuration.{configured_of}
use Rattle.calls.specs.Levels.{process_at}

-- "Broadcast takes levels in rising order, the sender included"
abbrev pub receivers_of : Config → Target → List ℕ
receivers_of c All = rising_of 12 0 (configured_of c)
receivers_of c (Level level) = level ∷ []
receivers_of c Unknown = []

-- "empties buffers, leaves marks", of one process
abbrev pub cleared_at : List Process → ℕ → List Process
cleared_at processes level = set processes level (cleared_of (process_at processes level))
