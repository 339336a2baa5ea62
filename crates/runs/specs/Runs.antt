-- Demand 3: "Over every sequence of calls, events and ticks from a fresh configuration ..". What a run is, that no table of a run shows a break,
-- and that a run of ticks in one record is as many single ticks.
use Rattle.std.specs.Prelude.{◌≡◌, true, List, [], ◌∷◌, ◌++◌, ℕ, zero, suc, ◌+◌, replicate}
use Rattle.table.specs.declared.configs.Config.{Config}
use Rattle.table.specs.declared.Table.{Table}
use Rattle.table.specs.declared.wakes.Wake.{Wake}
use Rattle.table.specs.Answers.{number_of}
use Rattle.table.specs.Configuration.{good_of}
use Rattle.table.specs.Sound.{sound_of}
use Rattle.table.specs.Table.{fresh_of}
use Rattle.calls.specs.Effects.{number_by, number}
use Rattle.rtms.specs.Calls.{Call, TICK, TICKS, effect_of, done_by}

-- A step is a `Call`: a call of any kind by any caller with any parameters, an event, a START, a start of the scheduler, a tick, or ticks.

-- the table that a step leaves
abbrev pub leaves : Call → Table → Table
leaves call t = (done_by call t).table

-- the table after steps, one after the other
unfoldable pub after_of : List Call → Table → Table
after_of [] t = t
after_of (call ∷ steps) t = after_of steps (leaves call t)

-- a run: any steps from a fresh table of a configuration
abbrev pub run_of : Config → List Call → Table
run_of c steps = after_of steps (fresh_of c)

-- what one sees of a step from outside: the call, the number that answers it, and who wakes
pub record Seen : Type 0 where
  pub call : Call
  pub answer : ℕ
  pub wakes : List Wake

abbrev pub seen_as : Call → Table → Seen
seen_as call t = record { call = call; answer = number_of (done_by call t).answer; wakes = (done_by call t).wakes }

-- and of steps
unfoldable pub seen_of : List Call → Table → List Seen
seen_of [] t = []
seen_of (call ∷ steps) t = seen_as call t ∷ seen_of steps (leaves call t)

-- ---- "a table .. that shows one of these breaks .. is refused before all else with 35": no table of a run does

-- what holds of a table of a run, whatever is called next
pub record Unbroken (call : Call) (t : Table) : Type 0 where
  -- none of the breaks shows
  pub sound : sound_of t ≡ true
  -- so the call is not answered 35
  pub not_35 : number_of (done_by call t).answer ≡ 35 → ⊥
  -- and the function that looks for a break first does what the one does that is told there is none
  pub agree : done_by call t ≡ effect_of call t

abbrev pub NeverBroken : Type 0
NeverBroken = (c : Config) → good_of c ≡ true → (steps : List Call) (call : Call) → Unbroken call (run_of c steps)

-- ---- "ticks": so many in one record

-- the wakes of steps, in order
unfoldable pub wakes_in : List Seen → List Wake
wakes_in [] = []
wakes_in (x ∷ seen) = x.wakes ++ wakes_in seen

-- how many orders so many single ticks report, all together
unfoldable pub reported_in : ℕ → Table → ℕ
reported_in zero t = 0
reported_in (suc n) t = number_by (done_by TICK t).carried + reported_in n (leaves TICK t)

-- ticks in one record are as many single ticks
pub record AsSingleTicks (n : ℕ) (t : Table) : Type 0 where
  pub table : leaves (TICKS n) t ≡ after_of (replicate n TICK) t
  pub wakes : (done_by (TICKS n) t).wakes ≡ wakes_in (seen_of (replicate n TICK) t)
  pub reports : (done_by (TICKS n) t).carried ≡ number (reported_in n t)

abbrev pub TicksAreTicks : Type 0
TicksAreTicks = (c : Config) → good_of c ≡ true → (steps : List Call) (n : ℕ) → AsSingleTicks n (run_of c steps)
