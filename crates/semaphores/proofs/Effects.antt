-- What a request and a release do to the holders and to the queue, by cases. Assumes nothing.
use mathlib.Core.Path.{◌≡◌, ◌∙◌, refl, ap, sym}
use mathlib.Core.Bool.{Bool, true, false}
use Rattle.std.specs.Prelude.{Result, Ok, Err}
use mathlib.Core.List.{List, [], ◌∷◌}
use Prim.Native.Nat.{ℕ, ◌<◌, ◌≤◌}
use native.Mathlib.Omega.{arith}
use lib.Dec.{eqb}
use lib.ListN.{length, get_or, drop, set}
use lib.Seq.{get_or-set_same, get_or-set_other}
use borrow.Author.Tests.{eqb-true, eqb-false}
use Rattle.common.specs.Choice.{pick}
use Rattle.common.proofs.Cases.{by_test}
use Rattle.common.proofs.Packing.{length_packed}
use Rattle.common.proofs.Parts.{part_length}
use Rattle.common.specs.Filled.{filled_of}
use Rattle.semaphores.specs.declared.Semaphores.{Semaphores}
use Rattle.semaphores.specs.declared.Unusable.{Unusable}
use Rattle.semaphores.specs.declared.Request.{Request}
use Rattle.semaphores.specs.declared.Requested.TheVariants.{Held, Waits}
use Rattle.semaphores.specs.Queues.{nobody, list_of, queued, push_of, without_first, leaving_as, leaving_of, levels_for}
use Rattle.semaphores.specs.Semaphores.{after_release, usable_of, free, semaphores_of, holder_of, waiters_of, held_by, waiter, request_of, handed_on, holds_of, not_held_of, release_of}
use Rattle.semaphores.specs.Turns.{Orderly}
use Rattle.semaphores.proofs.Waiting.{list_short, list_queued, part_without, levels_without, levels_other, without_none}

-- the four ways of a request: the number is not usable, is free, is the level's own already, or is another's
pub by_request : (P : Result Request Unusable → Type 0) (s : Semaphores) (level number : ℕ)
    → (usable_of number ≡ false → P (Err (record {})))
    → (usable_of number ≡ true → holder_of s number ≡ free → P (Ok (record { requested = Held; semaphores = held_by s number level })))
    → (usable_of number ≡ true → holder_of s number ≡ level → P (Ok (record { requested = Held; semaphores = s })))
    → (usable_of number ≡ true → (holder_of s number ≡ free → ⊥) → (holder_of s number ≡ level → ⊥)
    → P (Ok (record { requested = Waits; semaphores = semaphores_of s.holders (push_of s.queue (waiter level number)) })))
    → P (request_of s level number)
unfolding request_of
by_request P s level number unusable taken own waits =
    by_test (usable_of number)
    (λ u. rw u
    (by_test (eqb (holder_of s number) free)
    (λ e. rw e (taken u (eqb-true _ _ e)))
    (λ e. rw e
    (by_test (eqb (holder_of s number) level)
    (λ f. rw f (own u (eqb-true _ _ f)))
    (λ f. rw f (waits u (eqb-false _ _ e) (eqb-false _ _ f)))))))
    (λ u. rw u (unusable u))

-- the semaphores after a release of a number: the first that waits for it has left the queue and is its holder, or it is free
pub record Passed (number : ℕ) (s t : Semaphores) : Type 0 where
  pub holders : t.holders ≡ set s.holders number (get_or (waiters_of s number) 0 free)
  pub queue : list_of t.queue ≡ without_first number (list_of s.queue)
  pub places : length t.queue.items ≡ 12
  pub count : t.queue.count ≤ 12

-- so it is with whatever list of levels waits
handed_passed : (s : Semaphores) (number : ℕ) → Orderly s → (levels : List ℕ) → waiters_of s number ≡ levels
    → Passed number s (handed_on s number (leaving_as levels (queued (without_first number (list_of s.queue))))).semaphores
unfolding waiters_of filled_of
handed_passed s number orderly [] e = record {
  holders = rw e;
  queue = sym (without_none number (list_of s.queue) e);
  places = orderly.places;
  count = orderly.count;
}
handed_passed s number orderly (level ∷ levels) e = record {
  holders = rw e;
  queue = list_queued _ (omega (arith, list_short s.queue, part_length (part_without number (list_of s.queue))));
  places = length_packed nobody 12 _;
  count = omega arith;
}

-- so it is where the level holds the number
pub release_held : (s : Semaphores) (level number : ℕ) → Orderly s → holds_of s level number ≡ true → Passed number s (after_release s (release_of s level number))
unfolding release_of leaving_of waiters_of
release_held s level number orderly holds = rw holds (handed_passed s number orderly (levels_for number (list_of s.queue)) refl)

-- and where it does not, it is refused: there are no other semaphores
pub release_not_held : (s : Semaphores) (level number : ℕ) → holds_of s level number ≡ false → release_of s level number ≡ Err (not_held_of s number)
unfolding release_of
release_not_held s level number holds = rw holds

-- ---- what that is for a semaphore

-- a number's queue and holder, from one state to a later one in which it was released once, or not at all
pub record Turn (released : Bool) (number : ℕ) (s t : Semaphores) : Type 0 where
  pub queue : waiters_of t number ≡ drop (pick released 1 0) (waiters_of s number)
  pub holder : holder_of t number ≡ pick released (get_or (waiters_of s number) 0 free) (holder_of s number)

-- where nothing changed it was not released
pub turn_same : (number : ℕ) (s : Semaphores) → Turn false number s s
turn_same number s = record { queue = refl; holder = refl }

-- and where it was not released after that
pub turn_then : {released : Bool} {number : ℕ} {s t u : Semaphores} → Turn released number s t → Turn false number t u → Turn released number s u
turn_then first second = record { queue = second.queue ∙ first.queue; holder = second.holder ∙ first.holder }

-- or before
pub turn_before : {released : Bool} {number : ℕ} {s t u : Semaphores} → Turn false number s t → Turn released number t u → Turn released number s u
turn_before {released} first second = record {
  queue = second.queue ∙ ap (drop (pick released 1 0)) first.queue;
  holder = rw (← first.queue, ← first.holder) second.holder;
}

-- a release is a turn of its number
pub passed_own : {number : ℕ} {s t : Semaphores} → number < length s.holders → Passed number s t → Turn true number s t
unfolding holder_of waiters_of
passed_own {number} {s} within passed = record {
  queue = ap (levels_for number) passed.queue ∙ levels_without number (list_of s.queue);
  holder = rw passed.holders (get_or-set_same s.holders number _ 0 within);
}

-- and none of any other
pub passed_other : {number other : ℕ} {s t : Semaphores} → (number ≡ other → ⊥) → Passed number s t → Turn false other s t
unfolding holder_of waiters_of
passed_other {number} {other} {s} differs passed = record {
  queue = ap (levels_for other) passed.queue ∙ levels_other number other differs (list_of s.queue);
  holder = rw passed.holders (get_or-set_other s.holders number other _ 0 (λ e. differs (sym e)));
}
