-- What is decided on the parts of a table comes to what the call does. Assumes nothing.
use mathlib.Core.Path.{◌≡◌, ◌∙◌, refl, ap}
use Rattle.std.specs.Prelude.{Option, Some, None, Result, Ok, Err}
use mathlib.Core.List.{[], map}
use Prim.Native.Nat.{ℕ, min}
use lib.Dec.{eqb}
use lib.ListN.{length, get_or, set}
use lib.Seq.{set-get_or}
use Rattle.std.specs.Prelude.{Ok, Err}
use Rattle.common.specs.Choice.{pick}
use Rattle.common.specs.Packing.{packed_of}
use Rattle.common.proofs.Cases.{by_test}
use Rattle.process.specs.declared.Process.{Process}
use Rattle.common.specs.Filled.{filled_of, pushed_of, items_of}
use Rattle.semaphores.specs.declared.Unusable.{Unusable}
use Rattle.semaphores.specs.declared.Requested.{Requested}
use Rattle.semaphores.specs.declared.Requested.TheVariants.{Held, Waits}
use Rattle.semaphores.specs.declared.NotReleased.{NotReleased}
use Rattle.semaphores.specs.declared.NotReleased.TheVariants.{NotHolder}
use Rattle.semaphores.specs.declared.Semaphores.{Semaphores}
use Rattle.semaphores.specs.Queues.{none_of}
use Rattle.semaphores.specs.Semaphores.{requested_in, released_in, after_request, after_release, request_of as requests_of, release_of as releases_of, release_all_of}
use Rattle.table.specs.declared.answers.Answer.{Answer}
use Rattle.table.specs.declared.Outcome.{Outcome}
use Rattle.table.specs.declared.Table.{Table}
use Rattle.table.specs.Wakes.{wakes_of}
use Rattle.table.specs.Words.{minus_one}
use Rattle.calls.specs.declared.Decided.{Decided}
use Rattle.calls.specs.Decisions.{told_of}
use Rattle.calls.specs.Effects.{nothing, waking, outcome_of}
use Rattle.calls.specs.Levels.{process_at, process_of, with_processes, with_semaphores}
use Rattle.calls.specs.Outcomes.{replied_of}
use Rattle.calls.specs.Verdicts.{Checked, also_of, obeyed, by_caller}
use Rattle.calls.proofs.Deciding.{own_or_other}
use Rattle.holding.specs.declared.AfterRequest.{AfterRequest}
use Rattle.holding.specs.declared.AfterRelease.{AfterRelease}
use Rattle.holding.specs.Holding.{requested_by, requested_of, request_of, handover_wake, handed_to, released_by, released_of, released_all_of, release_of, asked_by, requested_for, asked_as, asked_of, giving, given_by, released_for, given_as, given_of, listed_of}
use Rattle.holding.proofs.Room.{all_listed}

-- ---- a request

-- the table with what a request came to, at the place of the caller's record
abbrev pub asked_at : Table → ℕ → Decided AfterRequest → Outcome
asked_at t at x = told_of (with_semaphores (with_processes t (set t.processes at x.part.process)) x.part.semaphores) x

module _ (t : Table) (at : ℕ) where
  -- of a process that may make one
  asked_passed : (requested : Result Requested Unusable) (then : Semaphores)
      → asked_at t at (asked_by requested (process_of t at) t.semaphores then) ≡ outcome_of (requested_by requested t then at)
  unfolding told_of outcome_of process_at
  asked_passed (Err why) then = rw set-get_or
  asked_passed (Ok Held) then = rw set-get_or
  asked_passed (Ok Waits) then = refl

  -- by what the checks decide
  asked_by_lem : (v : Checked) (number : ℕ)
      → asked_at t at (asked_as v (process_of t at) t.semaphores (requested_for (process_of t at) t.semaphores at number)) ≡ outcome_of (obeyed v t (requested_of t at number))
  unfolding obeyed requested_for requested_of told_of outcome_of process_at
  asked_by_lem (Ok tt) number = asked_passed (requested_in (requests_of t.semaphores at number)) (after_request t.semaphores (requests_of t.semaphores at number))
  asked_by_lem (Err answer) number = rw set-get_or

-- the record that is looked at is the caller's own, or it makes no difference
module _ (t : Table) (caller number : ℕ) (other : Process) (whole : length t.processes ≡ 12) where
  pub asked_all : asked_at t (min caller 11) (asked_of t.config (get_or t.processes (min caller 11) other) t.semaphores caller number) ≡ outcome_of (request_of t caller number)
  unfolding request_of asked_of
  asked_all =
      own_or_other t caller other whole
      (λ at p. asked_at t at (asked_of t.config p t.semaphores caller number) ≡ outcome_of (request_of t caller number))
      (asked_by_lem t caller (by_caller t.config (process_of t caller) caller) number)
      (λ nobody at. unfold also_of obeyed told_of outcome_of in rw (nobody, set-get_or))

-- ---- a release

-- the table with what a release came to
abbrev pub given_at : Table → Decided AfterRelease → Outcome
given_at t x =
    replied_of (with_processes (with_semaphores t x.part.semaphores) (handed_to t.processes (listed_of x.part.woken))) x.answer x.shown
    (wakes_of (map handover_wake (listed_of x.part.woken)))

module _ (t : Table) where
  -- nobody is listed in an empty array
  given_none : (answer : Answer) (s : Semaphores) → given_at t (giving answer nothing none_of s) ≡ outcome_of (waking answer [] (with_semaphores t s))
  unfolding outcome_of items_of filled_of
  given_none answer s = refl

  -- of one number, by a process that may make it
  given_one : (released : Result (Option ℕ) NotReleased) (then : Semaphores) → given_at t (given_by released t.semaphores then) ≡ outcome_of (released_by released t then)
  unfolding outcome_of items_of filled_of pushed_of packed_of
  given_one (Err NotReleased.Unusable) then = given_none _ _
  given_one (Err (NotHolder level)) then = refl
  given_one (Ok None) then = given_none _ _
  given_one (Ok (Some level)) then = refl

  -- of all numbers
  given_every : (caller : ℕ) → given_at t (giving Answer.Ok nothing (release_all_of t.semaphores caller).woken (release_all_of t.semaphores caller).semaphores) ≡ outcome_of (released_all_of t caller)
  unfolding outcome_of release_all_of released_all_of
  given_every caller = rw all_listed

  -- by what the checks decide
  given_by_lem : (v : Checked) (caller number : ℕ)
      → given_at t (given_as v t.semaphores (released_for t.semaphores caller number))
      ≡ outcome_of (obeyed v t (pick (eqb number minus_one) (released_all_of t caller) (released_of t caller number)))
  unfolding obeyed released_for released_of
  given_by_lem (Ok tt) caller number =
      by_test (eqb number minus_one)
      (λ all. rw all (given_every caller))
      (λ one. rw one (given_one (released_in (releases_of t.semaphores caller number)) (after_release t.semaphores (releases_of t.semaphores caller number))))
  given_by_lem (Err answer) caller number = given_none answer t.semaphores

-- only the caller's two checks look at a record: the caller's own, or one on which they come to the same
pub given_all : (t : Table) (caller number : ℕ) (seen : Process)
    → by_caller t.config seen caller ≡ by_caller t.config (process_of t caller) caller
    → given_at t (given_of t.config seen t.semaphores caller number) ≡ outcome_of (release_of t caller number)
unfolding release_of given_of
given_all t caller number seen same =
    ap (λ (v : Checked). given_at t (given_as v t.semaphores (released_for t.semaphores caller number))) same
    ∙ given_by_lem t (by_caller t.config (process_of t caller) caller) caller number
