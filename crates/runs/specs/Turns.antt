-- Demand 3: "A process that begins to wait for a semaphore with k-1 waiters before it becomes the holder at the k-th release of that semaphore
-- after that, and not earlier."
use Rattle.std.specs.Prelude.{◌≡◌, true, List, [], ◌∷◌, ◌++◌, ℕ, ◌+◌, ◌<◌, length}
use Rattle.common.specs.Stands.{stands_in}
use Rattle.process.specs.declared.states.State.TheVariants.{WaitingForSemaphore}
use Rattle.semaphores.specs.Semaphores.{holder_of, waiters_of}
use Rattle.table.specs.declared.configs.Config.{Config}
use Rattle.table.specs.declared.Table.{Table}
use Rattle.table.specs.Answers.{number_of}
use Rattle.table.specs.Configuration.{good_of}
use Rattle.table.specs.Table.{fresh_of}
use Rattle.calls.specs.Levels.{process_of}
use Rattle.rtms.specs.Calls.{Call, REQSEMA, done_by}
use Rattle.runs.specs.Runs.{leaves, after_of, run_of, seen_as, seen_of}
use Rattle.runs.specs.Sight.{Sight, unseen, sight_of, is_release, releases_seen, handed_levels}

-- "a process that begins to wait for a semaphore with k-1 waiters before it": after these steps it requests the number and is answered 32
pub record BeginsToWait (c : Config) (before : List Call) (level number k : ℕ) : Type 0 where
  pub good : good_of c ≡ true
  pub answered_32 : number_of (done_by (REQSEMA level number) (run_of c before)).answer ≡ 32
  pub k_1_before : length (waiters_of (run_of c before).semaphores number) + 1 ≡ k

-- the steps up to its request, the table then, and what was seen of the semaphore by then
abbrev pub asking : List Call → ℕ → ℕ → List Call
asking before level number = before ++ (REQSEMA level number ∷ [])

abbrev pub asked_at : Config → List Call → ℕ → ℕ → Table
asked_at c before level number = run_of c (asking before level number)

abbrev pub sight_then : Config → List Call → ℕ → ℕ → Sight
sight_then c before level number = sight_of number (seen_of (asking before level number) (fresh_of c)) unseen

-- it waits, and is not the holder
pub record Waits (level number : ℕ) (t : Table) : Type 0 where
  pub in_WR : (process_of t level).state ≡ WaitingForSemaphore
  pub queued : stands_in level (waiters_of t.semaphores number) ≡ true
  pub not_holder : holder_of t.semaphores number ≡ level → ⊥

-- it is the holder, by a step that wakes it
pub record Obtains (level number : ℕ) (x : Call) (t : Table) : Type 0 where
  pub holder : holder_of (leaves x t).semaphores number ≡ level
  pub wakes : stands_in level (handed_levels (done_by x t).wakes) ≡ true

-- "becomes the holder at the k-th release of that semaphore after that, and not earlier", whatever comes later
pub record TurnComes (c : Config) (before : List Call) (level number k : ℕ) : Type 0 where
  -- while fewer than k releases are seen, it waits
  pub not_earlier : (later : List Call)
      → releases_seen number (seen_of later (asked_at c before level number)) (sight_then c before level number) < k
      → Waits level number (after_of later (asked_at c before level number))
  -- where k - 1 were seen and the next step is seen to be the k-th, that step hands it over
  pub at_the_kth : (later : List Call) (x : Call)
      → releases_seen number (seen_of later (asked_at c before level number)) (sight_then c before level number) + 1 ≡ k
      → is_release number (seen_as x (after_of later (asked_at c before level number)))
      (sight_of number (seen_of later (asked_at c before level number)) (sight_then c before level number)) ≡ true
      → Obtains level number x (after_of later (asked_at c before level number))

abbrev pub TurnsAreKept : Type 0
TurnsAreKept = (c : Config) (before : List Call) (level number k : ℕ) → BeginsToWait c before level number k → TurnComes c before level number k
