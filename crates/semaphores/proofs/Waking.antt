-- Whom a release wakes. Assumes nothing.
use mathlib.Core.Path.{◌≡◌, refl, ap, sym}
use mathlib.Core.Bool.{true, false}
use Rattle.std.specs.Prelude.{Option, Some, None, Result, Ok, Err}
use mathlib.Core.List.{List, [], ◌∷◌, map}
use Prim.Native.Nat.{ℕ, zero, suc, ◌+◌, ◌≤◌}
use native.Mathlib.Omega.{arith}
use lib.Dec.{eqb}
use lib.ListN.{length, take, length-append}
use Rattle.common.specs.Keep.{keep_of}
use Rattle.common.specs.Stands.{stands_in, Once}
use Rattle.common.proofs.Cases.{by_test, never_both}
use Rattle.common.proofs.Once.{stands_cases, stands_part, stands_either, once_part, once_append}
use Rattle.common.proofs.Parts.{Part, part_all, part_map, part_length}
use Rattle.semaphores.specs.declared.queues.Waiter.{Waiter}
use Rattle.semaphores.specs.declared.NotReleased.{NotReleased}
use Rattle.semaphores.specs.declared.Semaphores.{Semaphores}
use Rattle.semaphores.specs.Queues.{Queue, list_of, queued, waits_for, levels_for, without_first, leaving_as, leaving_of}
use Rattle.semaphores.specs.Semaphores.{released_in, after_release, waiters_of, handed_on, holds_of, release_of, woken_of, woken_from}
use Rattle.semaphores.specs.Turns.{waiting_of}
use Rattle.semaphores.proofs.Effects.{release_not_held}
use Rattle.semaphores.proofs.Waiting.{list_short, list_queued, without_none, part_without, levels_part}

-- of a list of levels that wait
handed_wakes : (s : Semaphores) (number : ℕ) (levels : List ℕ) (q : Queue) → woken_of (Ok (handed_on s number (leaving_as levels q)).handed_to) ≡ take 1 levels
handed_wakes s number [] q = refl
handed_wakes s number (level ∷ levels) q = refl

-- a release wakes the first that waits, the one that holds the semaphore then, and nobody where nobody waits
pub release_wakes : (s : Semaphores) (level number : ℕ) → holds_of s level number ≡ true → woken_of (released_in (release_of s level number)) ≡ take 1 (waiters_of s number)
unfolding release_of leaving_of waiters_of
release_wakes s level number holds = rw holds (handed_wakes s number (levels_for number (list_of s.queue)) _)

-- who does not hold it wakes nobody, whyever it is refused
pub release_wakes_none : (s : Semaphores) (level number : ℕ) → holds_of s level number ≡ false → woken_of (released_in (release_of s level number)) ≡ []
release_wakes_none s level number fails = rw (release_not_held s level number fails)

-- who wakes has left the queue
first_leaves : (number : ℕ) (l : List Waiter) → length (take 1 (levels_for number l)) + length (without_first number l) ≤ length l
unfolding levels_for without_first keep_of
first_leaves number [] = omega arith
first_leaves number (w ∷ l) =
    by_test (waits_for number w)
    (λ e. rw e (omega arith))
    (λ e. rw e (omega (arith, first_leaves number l)))

-- whatever list of levels waits
handed_leaves : (s : Semaphores) (number : ℕ) (levels : List ℕ)
    → length (take 1 levels) + length (without_first number (list_of s.queue)) ≤ length (list_of s.queue)
    → length (woken_of (Ok (handed_on s number (leaving_as levels (queued (without_first number (list_of s.queue))))).handed_to))
    + length (list_of (handed_on s number (leaving_as levels (queued (without_first number (list_of s.queue))))).semaphores.queue)
    ≤ length (list_of s.queue)
handed_leaves s number [] less = omega arith
handed_leaves s number (level ∷ levels) less =
    rw (list_queued (without_first number (list_of s.queue)) (omega (arith, less, list_short s.queue))) (omega (arith, less))

-- so each release leaves so many less in the queue
release_leaves : (s : Semaphores) (level number : ℕ)
    → length (woken_of (released_in (release_of s level number))) + length (list_of (after_release s (release_of s level number)).queue) ≤ length (list_of s.queue)
unfolding release_of leaving_of
release_leaves s level number =
    by_test (holds_of s level number)
    (λ e. rw e (handed_leaves s number (levels_for number (list_of s.queue)) (first_leaves number (list_of s.queue))))
    (λ e. rw e (omega arith))

-- and so do many
releases_leave : (many number level : ℕ) (s : Semaphores) → length (woken_from many number level s) ≤ length (list_of s.queue)
unfolding woken_from
releases_leave zero number level s = omega arith
releases_leave (suc many) number level s =
    rw length-append
    (omega (
      arith,
      release_leaves s level number,
      releases_leave many (suc number) level (after_release s (release_of s level number)),
    ))

-- whom a release of all wakes are twelve at most, however the semaphores stand, so that the list of levels has a place for each
pub all_woken : (level : ℕ) (s : Semaphores) → length (woken_from 96 0 level s) ≤ 12
all_woken level s = omega (arith, releases_leave 96 0 level s, list_short s.queue)

-- ---- who wakes was waiting, and wakes once

-- the levels of a list of waiters
abbrev levels_in : List Waiter → List ℕ
levels_in l = map (λ w. w.level) l

-- the first of a list stands in it
pub stands_first : (level : ℕ) (levels : List ℕ) → stands_in level (take 1 levels) ≡ true → stands_in level levels ≡ true
unfolding stands_in
stands_first level [] stands = stands
stands_first level (x ∷ levels) stands = by_test (eqb x level) (λ e. rw e) (λ e. absurd (never_both (rw e at stands) refl))

module _ (number level : ℕ) where
  -- the first that waits for a number waits
  first_waits : (l : List Waiter) → stands_in level (take 1 (levels_for number l)) ≡ true → stands_in level (levels_in l) ≡ true
  first_waits l stands = stands_part level (levels_part number l) (stands_first level (levels_for number l) stands)

  -- and where each level waits once, it waits no more when it has left
  first_gone : (l : List Waiter) → Once (levels_in l) → stands_in level (take 1 (levels_for number l)) ≡ true → stands_in level (levels_in (without_first number l)) ≡ false
  unfolding levels_for keep_of without_first Once stands_in
  first_gone [] once stands = refl
  first_gone (w ∷ l) once stands =
      by_test (waits_for number w)
      (λ own. stands_cases level w.level [] (rw own at stands)
      (λ here. rw own (rw here at once).0)
      (λ later. absurd (never_both later refl)))
      (λ other. rw other (by_test (stands_in level (levels_in (w ∷ without_first number l)))
      (λ again. absurd
      (stands_cases level w.level (levels_in (without_first number l)) again
      (λ here. never_both (first_waits l (rw other at stands)) (rw here at once).0)
      (λ later. never_both later (first_gone l once.1 (rw other at stands)))))
      (λ none. none)))

-- whatever list of levels waits, what is handed on leaves the queue without the first that waits for the number
handed_list : (s : Semaphores) (number : ℕ) (levels : List ℕ) → levels_for number (list_of s.queue) ≡ levels
    → list_of (handed_on s number (leaving_as levels (queued (without_first number (list_of s.queue))))).semaphores.queue ≡ without_first number (list_of s.queue)
handed_list s number [] e = sym (without_none number (list_of s.queue) e)
handed_list s number (level ∷ levels) e = list_queued _ (omega (arith, list_short s.queue, part_length (part_without number (list_of s.queue))))

-- and so does a release by the holder
release_list : (s : Semaphores) (by number : ℕ) → holds_of s by number ≡ true → list_of (after_release s (release_of s by number)).queue ≡ without_first number (list_of s.queue)
unfolding release_of leaving_of
release_list s by number holds = rw holds (handed_list s number (levels_for number (list_of s.queue)) refl)

module _ (s : Semaphores) (by number : ℕ) where
  -- who waits after a release waited before it, in the same order
  release_part : Part (waiting_of (after_release s (release_of s by number))) (waiting_of s)
  unfolding waiting_of
  release_part =
      by_test (holds_of s by number)
      (λ holds. rw (release_list s by number holds) (part_map _ (part_without number (list_of s.queue))))
      (λ fails. rw (release_not_held s by number fails) (part_all _))

  -- whom a release wakes was waiting
  pub release_waiting : (level : ℕ) → stands_in level (woken_of (released_in (release_of s by number))) ≡ true → stands_in level (waiting_of s) ≡ true
  unfolding waiting_of waiters_of stands_in
  release_waiting level stands =
      by_test (holds_of s by number)
      (λ holds. first_waits number level (list_of s.queue) (rw (release_wakes s by number holds) at stands))
      (λ fails. absurd (never_both stands (ap (stands_in level) (release_wakes_none s by number fails))))

  -- and where each level waits once, it waits no more
  release_gone : Once (waiting_of s) → (level : ℕ) → stands_in level (woken_of (released_in (release_of s by number))) ≡ true
      → stands_in level (waiting_of (after_release s (release_of s by number))) ≡ false
  unfolding waiting_of waiters_of stands_in
  release_gone once level stands =
      by_test (holds_of s by number)
      (λ holds. rw (release_list s by number holds) (first_gone number level (list_of s.queue) once (rw (release_wakes s by number holds) at stands)))
      (λ fails. absurd (never_both stands (ap (stands_in level) (release_wakes_none s by number fails))))

-- nobody wakes twice in one release
pub release_once : (r : Result (Option ℕ) NotReleased) → Once (woken_of r)
unfolding Once stands_in
release_once (Err why) = tt
release_once (Ok None) = tt
release_once (Ok (Some level)) = (refl, tt)

-- which wakes one at most
pub release_few : (r : Result (Option ℕ) NotReleased) → length (woken_of r) ≤ 1
release_few (Err why) = omega arith
release_few (Ok None) = omega arith
release_few (Ok (Some level)) = omega arith

-- whom the releases of many numbers wake were waiting
pub woken_waiting : (many number by : ℕ) (s : Semaphores) (level : ℕ) → stands_in level (woken_from many number by s) ≡ true → stands_in level (waiting_of s) ≡ true
unfolding woken_from stands_in
woken_waiting zero number by s level stands = absurd (never_both stands refl)
woken_waiting (suc many) number by s level stands =
    stands_either level (woken_of (released_in (release_of s by number))) (woken_from many (suc number) by (after_release s (release_of s by number))) stands
    (release_waiting s by number level)
    (λ later. stands_part level (release_part s by number) (woken_waiting many (suc number) by (after_release s (release_of s by number)) level later))

-- and where each level waits once, each wakes once
pub woken_once : (many number by : ℕ) (s : Semaphores) → Once (waiting_of s) → Once (woken_from many number by s)
unfolding woken_from Once
woken_once zero number by s once = tt
woken_once (suc many) number by s once =
    once_append (woken_of (released_in (release_of s by number))) (woken_from many (suc number) by (after_release s (release_of s by number)))
    (release_once (released_in (release_of s by number)))
    (woken_once many (suc number) by (after_release s (release_of s by number)) (once_part (release_part s by number) once))
    (λ level stands. by_test (stands_in level (woken_from many (suc number) by (after_release s (release_of s by number))))
    (λ again. absurd
    (never_both
    (woken_waiting many (suc number) by (after_release s (release_of s by number)) level again)
    (release_gone s by number once level stands)))
    (λ none. none))
