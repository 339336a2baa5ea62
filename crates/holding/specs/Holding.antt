-- Document 01, "Semaphores", and document 02, §3: REQSEMA and RELSEMA on the whole table.
use Rattle.std.specs.Prelude.{Option, Some, None, Result, Ok, Err, List, [], ◌∷◌, map, ℕ, eqb, set}
use Rattle.common.specs.Choice.{pick}
use Rattle.common.specs.Filled.{items_of}
use Rattle.common.specs.Fold.{fold_of}
use Rattle.process.specs.declared.Process.{Process}
use Rattle.process.specs.declared.states.Cause.TheVariants.{WaitForSemaphore, Handover}
use Rattle.process.specs.Process.{moved_of}
use Rattle.semaphores.specs.declared.Unusable.{Unusable}
use Rattle.semaphores.specs.declared.Requested.{Requested}
use Rattle.semaphores.specs.declared.Requested.TheVariants.{Held, Waits}
use Rattle.semaphores.specs.declared.NotReleased.{NotReleased}
use Rattle.semaphores.specs.declared.NotReleased.TheVariants.{NotHolder}
use Rattle.semaphores.specs.declared.Semaphores.{Semaphores}
use Rattle.semaphores.specs.Queues.{Levels, none_of, with_of}
use Rattle.semaphores.specs.Semaphores.{requested_in, released_in, after_request, after_release, request_of as requests_of, release_of as releases_of, released_from, woken_from, release_all_of}
use Rattle.table.specs.declared.answers.Answer.{Answer}
use Rattle.table.specs.declared.answers.Answer.TheVariants.{ParameterError, NoSemaphoreNumber, Suspended}
use Rattle.table.specs.declared.configs.Config.{Config}
use Rattle.table.specs.declared.wakes.Wake.{Wake}
use Rattle.table.specs.declared.wakes.Woken.TheVariants.{ByHandover}
use Rattle.table.specs.declared.Table.{Table}
use Rattle.table.specs.Wakes.{Wakes, wake_push_of}
use Rattle.table.specs.Words.{minus_one}
use Rattle.calls.specs.declared.Decided.{Decided}
use Rattle.calls.specs.Decisions.{decided, decided_by}
use Rattle.calls.specs.Effects.{Carried, nothing, Effect, refuse, refuse_telling, done, suspended, waking}
use Rattle.calls.specs.Effects as Effects
use Rattle.calls.specs.Levels.{process_at, with_processes, with_semaphores, moving}
use Rattle.calls.specs.Verdicts.{Checked, by_caller, called}
use Rattle.holding.specs.declared.AfterRequest.{AfterRequest}
use Rattle.holding.specs.declared.AfterRelease.{AfterRelease}

-- "6 if not usable; free: the caller holds it; already its own: OK, held once; held by another: 32, WR, last in that queue"
abbrev pub requested_by : Result Requested Unusable → Table → Semaphores → ℕ → Effect
requested_by (Err why) t semaphores caller = refuse t ParameterError
requested_by (Ok Held) t semaphores caller = done (with_semaphores t semaphores)
requested_by (Ok Waits) t semaphores caller = suspended (moving (with_semaphores t semaphores) caller WaitForSemaphore)

unfoldable pub requested_of : Table → ℕ → ℕ → Effect
requested_of t caller number =
    requested_by (requested_in (requests_of t.semaphores caller number)) t (after_request t.semaphores (requests_of t.semaphores caller number)) caller

-- "REQSEMA: .."
unfoldable pub request_of : Table → ℕ → ℕ → Effect
request_of t caller number = called t caller [] (requested_of t caller number)

-- who waited for a semaphore wakes when it is its own: 0 alone
abbrev pub handover_wake : ℕ → Wake
handover_wake level = record { level = level; woken = ByHandover }

abbrev pub handed_at : List Process → ℕ → List Process
handed_at processes level = set processes level (moved_of (process_at processes level) Handover)

-- the processes after these have woken, in order
abbrev pub handed_to : List Process → List ℕ → List Process
handed_to processes levels = fold_of handed_at processes levels

-- a table of these semaphores, and these levels woken
abbrev pub handing : Table → Semaphores → List ℕ → Effect
handing t semaphores levels = waking Answer.Ok (map handover_wake levels) (with_processes (with_semaphores t semaphores) (handed_to t.processes levels))

-- "one number, .." and document 02, §3: "15, then 37 NOTHOLDER with the holder's level, or 255 if free". "At a release the first waiter becomes holder and
-- wakes."
abbrev pub released_by : Result (Option ℕ) NotReleased → Table → Semaphores → Effect
released_by (Err NotReleased.Unusable) t semaphores = refuse t NoSemaphoreNumber
released_by (Err (NotHolder level)) t semaphores = refuse_telling t level
released_by (Ok None) t semaphores = handing t semaphores []
released_by (Ok (Some level)) t semaphores = handing t semaphores (level ∷ [])

unfoldable pub released_of : Table → ℕ → ℕ → Effect
released_of t caller number = released_by (released_in (releases_of t.semaphores caller number)) t (after_release t.semaphores (releases_of t.semaphores caller number))

-- "-1 for all that the caller holds, rising, OK even if none"
unfoldable pub released_all_of : Table → ℕ → Effect
released_all_of t caller = handing t (released_from 96 0 caller t.semaphores) (woken_from 96 0 caller t.semaphores)

-- "RELSEMA: one number, or -1 for all that the caller holds"
unfoldable pub release_of : Table → ℕ → ℕ → Effect
release_of t caller number = called t caller [] (pick (eqb number minus_one) (released_all_of t caller) (released_of t caller number))

-- ---- how the code comes to that: what a call does is decided on the parts that it needs

abbrev pub requesting : Process → Semaphores → AfterRequest
requesting p s = record { process = p; semaphores = s }

abbrev pub asking : Answer → Process → Semaphores → Decided AfterRequest
asking answer p s = decided answer nothing (requesting p s)

abbrev pub asked_by : Result Requested Unusable → Process → Semaphores → Semaphores → Decided AfterRequest
asked_by (Err why) p s then = asking ParameterError p s
asked_by (Ok Held) p s then = asking Answer.Ok p then
asked_by (Ok Waits) p s then = asking Suspended (moved_of p WaitForSemaphore) then

unfoldable pub requested_for : Process → Semaphores → ℕ → ℕ → Decided AfterRequest
requested_for p s caller number = asked_by (requested_in (requests_of s caller number)) p s (after_request s (requests_of s caller number))

abbrev pub asked_as : Checked → Process → Semaphores → Decided AfterRequest → Decided AfterRequest
asked_as v p s asked = decided_by v (requesting p s) asked

unfoldable pub asked_of : Config → Process → Semaphores → ℕ → ℕ → Decided AfterRequest
asked_of c p s caller number = asked_as (by_caller c p caller) p s (requested_for p s caller number)

abbrev pub releasing : Levels → Semaphores → AfterRelease
releasing woken s = record { woken = woken; semaphores = s }

-- none was handed over
abbrev pub to_nobody : Semaphores → AfterRelease
to_nobody s = releasing none_of s

abbrev pub giving : Answer → Carried → Levels → Semaphores → Decided AfterRelease
giving answer carried woken s = decided answer carried (releasing woken s)

abbrev pub given_by : Result (Option ℕ) NotReleased → Semaphores → Semaphores → Decided AfterRelease
given_by (Err NotReleased.Unusable) s then = giving NoSemaphoreNumber nothing none_of s
given_by (Err (NotHolder level)) s then = giving Answer.NotHolder (Effects.number level) none_of s
given_by (Ok None) s then = giving Answer.Ok nothing none_of then
given_by (Ok (Some level)) s then = giving Answer.Ok nothing (with_of none_of level) then

unfoldable pub released_for : Semaphores → ℕ → ℕ → Decided AfterRelease
released_for s caller number =
    pick (eqb number minus_one)
    (giving Answer.Ok nothing (release_all_of s caller).woken (release_all_of s caller).semaphores)
    (given_by (released_in (releases_of s caller number)) s (after_release s (releases_of s caller number)))

abbrev pub given_as : Checked → Semaphores → Decided AfterRelease → Decided AfterRelease
given_as v s given = decided_by v (to_nobody s) given

unfoldable pub given_of : Config → Process → Semaphores → ℕ → ℕ → Decided AfterRelease
given_of c p s caller number = given_as (by_caller c p caller) s (released_for s caller number)

-- the levels that an array of levels has
abbrev pub listed_of : Levels → List ℕ
listed_of woken = items_of 12 woken

-- processes to which semaphores were handed over, and their wakes
pub record Handed : Type 0 where
  pub processes : List Process
  pub wakes : Wakes

-- one more wakes
unfoldable pub handed_to_of : Handed → ℕ → Handed
handed_to_of handed level = record { processes = handed_at handed.processes level; wakes = wake_push_of handed.wakes (handover_wake level) }
