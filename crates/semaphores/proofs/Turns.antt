-- Demand 3 for semaphores: a process that begins to wait for a semaphore with k - 1 waiters before it becomes its holder at the k-th release
-- of it after that, and not earlier. That there are never two holders is the shape of the record itself: `holders` has one level for each
-- number, so whoever is written there takes the place of the holder before. Assumes nothing.
use mathlib.Core.Path.{◌≡◌, ◌∙◌, refl, ap, sym}
use mathlib.Core.Bool.{Bool, true, false}
use Rattle.std.specs.Prelude.{Ok}
use mathlib.Core.List.{List, [], ◌∷◌, ◌++◌, append-nil}
use Prim.Native.Nat.{ℕ, zero, suc, ◌+◌, ◌-◌, ◌<◌, ◌≤◌}
use native.Mathlib.Omega.{arith}
use lib.Dec.{eqb, ltb}
use lib.ListN.{length, get_or, drop, length-append, length-drop, get_or-append}
use lib.Seq.{get_or-drop, get_or-set_other, get_or-append_seam}
use borrow.Author.Tests.{eqb-true, eqb-false, eq-eqb, ltb-true, ltb-false}
use Rattle.common.specs.Choice.{pick}
use Rattle.common.proofs.Cases.{by_test, never_both}
use Rattle.common.proofs.Lists.{get_or_within}
use Rattle.common.proofs.Once.{stands_at}
use Rattle.semaphores.specs.declared.Semaphores.{Semaphores}
use Rattle.semaphores.specs.declared.Requested.TheVariants.{Waits}
use Rattle.semaphores.specs.Semaphores.{requested_in, after_request, after_release, free, holder_of, waiters_of, request_of, holds_of, release_of, released_from}
use Rattle.semaphores.specs.Turns.{Step, requests, releases, releases_all, may_request, step_of, after_of, releases_number, releases_of, joined_by, joins_of, Orderly, OneStep, WaitsAt, BeginsToWait, TurnComes}
use Rattle.semaphores.proofs.Numbers.{usable_below, holds_usable}
use Rattle.semaphores.proofs.Effects.{by_request, release_held, release_not_held, Turn, turn_same, turn_then, turn_before, passed_own, passed_other}
use Rattle.semaphores.proofs.Orderly.{joined_waiters, release_orderly, step_orderly, after_orderly}

-- ---- what a release does to a semaphore

module _ (level number : ℕ) where
  -- a release of the number turns its queue, if the level holds it
  release_own : (s : Semaphores) → Orderly s → Turn (holds_of s level number) number s (after_release s (release_of s level number))
  release_own s orderly =
      by_test (holds_of s level number)
      (λ e. rw e (passed_own (rw orderly.numbers (usable_below number (holds_usable s level number e))) (release_held s level number orderly e)))
      (λ e. rw (e, release_not_held s level number e) (turn_same number s))

  -- a release of another number changes neither its holder nor its queue
  pub release_other : (other : ℕ) (s : Semaphores) → Orderly s → (other ≡ number → ⊥) → Turn false number s (after_release s (release_of s level other))
  release_other other s orderly differs =
      by_test (holds_of s level other)
      (λ e. passed_other differs (release_held s level other orderly e))
      (λ e. rw (release_not_held s level other e) (turn_same number s))

  -- nor do releases of many others
  releases_others : (many from : ℕ) (s : Semaphores) → Orderly s → ((other : ℕ) → from ≤ other → other < from + many → other ≡ number → ⊥)
      → Turn false number s (released_from many from level s)
  unfolding released_from
  releases_others zero from s orderly others = turn_same number s
  releases_others (suc many) from s orderly others =
      turn_before (release_other from s orderly (others from (omega arith) (omega arith)))
      (releases_others many (suc from) _ (release_orderly s level from orderly) (λ other above below. others other (omega arith) (omega arith)))

  -- who holds the number is the same where its holder is
  holds_same : (s t : Semaphores) → holder_of t number ≡ holder_of s number → holds_of t level number ≡ holds_of s level number
  unfolding holds_of
  holds_same s t same = rw same

  -- releases of many numbers, the number among them, turn its queue once, if the level holds it
  releases_own : (many from : ℕ) (s : Semaphores) → Orderly s → from ≤ number → number < from + many → Turn (holds_of s level number) number s (released_from many from level s)
  unfolding released_from
  releases_own zero from s orderly above below = absurd (omega arith)
  releases_own (suc many) from s orderly above below =
      let after : Semaphores = after_release s (release_of s level from) in
      let later : Orderly after = release_orderly s level from orderly in
      by_test (eqb from number)
      (λ e. let here : from ≡ number = eqb-true _ _ e in
      turn_then (rw here (release_own s orderly)) (releases_others many (suc from) after later (λ other above' below' same. omega arith)))
      (λ e. let differs : from ≡ number → ⊥ = eqb-false _ _ e in
      let first : Turn false number s after = release_other from s orderly differs in
      turn_before first (rw (← holds_same s after first.holder) (releases_own many (suc from) after later (omega arith) (omega arith))))

  -- a release of all turns the queue of each number that the level holds, and of no other
  pub release_all : (s : Semaphores) → Orderly s → Turn (holds_of s level number) number s (released_from 96 0 level s)
  release_all s orderly =
      by_test (ltb number 96)
      (λ e. releases_own 96 0 s orderly (omega arith) (ltb-true _ _ e))
      (λ e. let high : 96 ≤ number = ltb-false _ _ e in
      by_test (holds_of s level number)
      (λ f. absurd (omega (arith, usable_below number (holds_usable s level number f))))
      (λ f. rw f (releases_others 96 0 s orderly (λ other above below same. omega arith))))

-- ---- what a step does to a semaphore

module _ (number level other : ℕ) (s : Semaphores) (orderly : Orderly s) where
  -- a step that requests changes a queue only by who has to wait, and joins it behind all others
  request_queue : waiters_of (step_of (requests level other) s) number ≡ waiters_of s number ++ joins_of number (requests level other) s
  unfolding step_of joins_of waiters_of
  request_queue =
      by_test (may_request s level)
      (λ e. rw e
      (by_request (λ request. waiters_of (after_request s request) number ≡ waiters_of s number ++ joined_by (requested_in request) (pick (eqb other number) (level ∷ []) [])) s level other
      (λ unusable. sym (append-nil _))
      (λ usable was_free. sym (append-nil _))
      (λ usable own. sym (append-nil _))
      (λ usable not_free not_own. joined_waiters s level other orderly e number)))
      (λ e. rw e (sym (append-nil _)))

  -- and gives no other holder to a semaphore that is held
  request_holder : (holder_of s number ≡ free → ⊥) → holder_of (step_of (requests level other) s) number ≡ holder_of s number
  unfolding step_of holder_of
  request_holder not_free =
      by_test (may_request s level)
      (λ e. rw e
      (by_request (λ request. holder_of (after_request s request) number ≡ holder_of s number) s level other
      (λ unusable. refl)
      (λ usable was_free. get_or-set_other s.holders other number level 0 (λ same. not_free (rw same was_free)))
      (λ usable own. refl)
      (λ usable not_free' not_own. refl)))
      (λ e. rw e)

-- a step that releases turns the queue of a number, or does not, as it releases the number
turn_step : (number : ℕ) (x : Step) (s : Semaphores) → joins_of number x s ≡ [] → Turn (releases_number number x s) number s (step_of x s) → OneStep number x s
turn_step number x s none turn = record {
  queue = turn.queue ∙ rw (none, append-nil);
  handed = λ released. rw released at turn.holder;
  kept = λ not_released not_free. rw not_released at turn.holder;
}

-- the law of one step, from which all others follow
pub one_step : (number : ℕ) (x : Step) (s : Semaphores) → Orderly s → OneStep number x s
unfolding releases_number step_of joins_of
one_step number (requests level other) s orderly = record {
  queue = request_queue number level other s orderly;
  handed = λ released. absurd (never_both released refl);
  kept = λ not_released. request_holder number level other s orderly;
}
one_step number (releases level other) s orderly =
    turn_step number (releases level other) s refl
    (by_test (eqb other number)
    (λ e. let here : other ≡ number = eqb-true _ _ e in rw (e, here) (release_own level number s orderly))
    (λ e. rw e (release_other level number other s orderly (eqb-false _ _ e))))
one_step number (releases_all level) s orderly = turn_step number (releases_all level) s refl (release_all level number s orderly)

-- who has to wait joins its queue as the last
pub joins_last : (s : Semaphores) (level number : ℕ) → Orderly s → may_request s level ≡ true → requested_in (request_of s level number) ≡ Ok Waits
    → waiters_of (step_of (requests level number) s) number ≡ waiters_of s number ++ (level ∷ [])
unfolding joins_of
joins_last s level number orderly lets waits = request_queue number level number s orderly ∙ rw (lets, waits, eq-eqb number number refl)

-- ---- over any steps

-- who stands in a queue stands one place further on after a release, and where it stood after any other step
place_after_lem : (released : Bool) (l joins m : List ℕ) (place level : ℕ) → place < length l → get_or l place 0 ≡ level → pick released 1 0 ≤ place
    → m ≡ drop (pick released 1 0) l ++ joins → (place - pick released 1 0 < length m) × (get_or m (place - pick released 1 0) 0 ≡ level)
place_after_lem released l joins m place level within there less e =
    let gone : ℕ = pick released 1 0 in
    let long : length (drop gone l) ≡ length l - gone = length-drop gone l in
    let before : place - gone < length (drop gone l) = omega arith in
    let same : gone + (place - gone) ≡ place = omega arith in
    rw e (
      rw length-append (omega arith),
      get_or-append (drop gone l) joins 0 (place - gone) before ∙ get_or-drop gone l (place - gone) 0 ∙ ap (λ (i : ℕ). get_or l i 0) same ∙ there,
    )

-- who waits stands, after so many releases, so many places further on, and does not hold the semaphore
pub turn_waits : (s : Semaphores) (number level place : ℕ) → Orderly s → place < length (waiters_of s number) → get_or (waiters_of s number) place 0 ≡ level
    → (steps : List Step) → releases_of number steps s ≤ place → WaitsAt (place - releases_of number steps s) level number (after_of steps s)
unfolding releases_of after_of
turn_waits s number level place orderly within there [] few =
    let same : place - 0 ≡ place = omega arith in
    rw same (record { within = within; there = there; not_holder = (orderly.held number level (stands_at level (waiters_of s number) place within there)).2 })
turn_waits s number level place orderly within there (x ∷ steps) few =
    let step = one_step number x s orderly in
    let gone : ℕ = pick (releases_number number x s) 1 0 in
    let next = place_after_lem (releases_number number x s) (waiters_of s number) (joins_of number x s) _ place level within there (omega arith) step.queue in
    let same : place - gone - releases_of number steps (step_of x s) ≡ place - (gone + releases_of number steps (step_of x s)) = omega arith in
    rw same at (turn_waits (step_of x s) number level (place - gone) (step_orderly x s orderly) next.0 next.1 steps (omega arith))

-- and as many releases as there were before it make it the first, which the next release makes the holder
pub turn_comes : (s : Semaphores) (number level place : ℕ) → Orderly s → place < length (waiters_of s number) → get_or (waiters_of s number) place 0 ≡ level
    → (steps : List Step) → releases_of number steps s ≡ place → (x : Step) → releases_number number x (after_of steps s) ≡ true
    → holder_of (step_of x (after_of steps s)) number ≡ level
turn_comes s number level place orderly within there steps all x released =
    let waits = turn_waits s number level place orderly within there steps (omega arith) in
    let first : place - releases_of number steps s ≡ 0 = omega arith in
    let some : 0 < length (waiters_of (after_of steps s) number) = rw first at waits.within in
    (one_step number x (after_of steps s) (after_orderly steps s orderly)).handed released
    ∙ get_or_within (waiters_of (after_of steps s) number) 0 free 0 some
    ∙ (rw first at waits.there)

-- the theorem: who begins to wait with k - 1 waiters before it holds the semaphore at its k-th release after that, and not earlier
pub turns : (level number k : ℕ) (s : Semaphores) → BeginsToWait level number k s → TurnComes level number k (step_of (requests level number) s)
turns level number k s begins =
    let before : List ℕ = waiters_of s number in
    let after : Semaphores = step_of (requests level number) s in
    let joins : waiters_of after number ≡ before ++ (level ∷ []) = joins_last s level number begins.orderly begins.lets begins.waits in
    let orderly : Orderly after = step_orderly (requests level number) s begins.orderly in
    let within : length before < length (waiters_of after number) = rw (joins, length-append) (omega arith) in
    let there : get_or (waiters_of after number) (length before) 0 ≡ level = rw joins (get_or-append_seam before level [] 0) in
    let place : length before ≡ k - 1 = omega (arith, begins.before) in
    record {
      not_earlier = λ steps few. rw place at (turn_waits after number level (length before) orderly within there steps (omega (arith, begins.before)));
      at_the_kth = λ steps x all released. turn_comes after number level (length before) orderly within there steps (omega (arith, begins.before)) x released;
    }
