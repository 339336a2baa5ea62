-- Semaphores stand orderly from fresh ones on, whatever is requested and released. Assumes nothing.
use mathlib.Core.Path.{◌≡◌, ◌∙◌, refl, ap, sym}
use mathlib.Core.Bool.{true, false}
use mathlib.Core.List.{List, [], ◌∷◌, ◌++◌, map, append-nil, map-append}
use Prim.Native.Nat.{ℕ, zero, suc, ◌<◌, ◌≤◌}
use native.Mathlib.Omega.{arith}
use lib.Dec.{eqb, ltb}
use lib.ListN.{length, get_or, drop, length-map, length-replicate, length-set}
use lib.Seq.{get_or-set_other}
use borrow.Author.Tests.{eqb-true, eqb-false, ltb-true, lt-ltb, not-true}
use Rattle.common.specs.Choice.{pick}
use Rattle.common.specs.Keep.{keep_of}
use Rattle.common.specs.Stands.{stands_in, Once}
use Rattle.common.proofs.Cases.{by_test, never_both, both}
use Rattle.common.proofs.Packing.{length_packed}
use Rattle.common.proofs.Parts.{Part, part_map}
use Rattle.common.proofs.Once.{stands_cases, stands_here, stands_behind, stands_part, once_part, once_behind, once_below}
use Rattle.common.specs.Filled.{filled_of, pushed_of}
use Rattle.semaphores.specs.declared.Semaphores.{Semaphores}
use Rattle.semaphores.specs.Queues.{nobody, list_of, push_of, levels_for}
use Rattle.semaphores.specs.Semaphores.{after_request, after_release, usable_of, free, semaphores_of, fresh_of, holder_of, waiters_of, held_by, waiter, request_of, holds_of, release_of, released_from}
use Rattle.semaphores.specs.Turns.{waiting_of, Step, requests, releases, releases_all, may_request, step_of, after_of, Orderly}
use Rattle.semaphores.proofs.Numbers.{usable_below, holds_usable}
use Rattle.semaphores.proofs.Waiting.{list_length, list_push, list_queued, part_without, levels_behind, levels_part}
use Rattle.semaphores.proofs.Effects.{by_request, Passed, release_held, release_not_held, Turn, passed_own, passed_other}

-- nobody stands in an empty list
stands_nowhere : {P : Type 0} (level : ℕ) (l : List ℕ) → l ≡ [] → stands_in level l ≡ true → P
unfolding stands_in
stands_nowhere level l e stands = absurd (never_both stands (ap (stands_in level) e))

-- in fresh semaphores nobody waits
fresh_list : list_of fresh_of.queue ≡ []
unfolding fresh_of filled_of
fresh_list = list_queued [] (omega arith)

-- fresh semaphores stand orderly
pub fresh_orderly : Orderly fresh_of
unfolding fresh_of filled_of waiting_of waiters_of levels_for keep_of Once
fresh_orderly = record {
  numbers = length-replicate 96 free;
  places = length_packed nobody 12 [];
  count = omega arith;
  known = λ w stands. stands_nowhere w _ (ap (map (λ v. v.level)) fresh_list) stands;
  once = rw fresh_list tt;
  held = λ number w stands. stands_nowhere w _ (ap (levels_for number) fresh_list) stands;
}

module _ (s : Semaphores) (orderly : Orderly s) where
  -- who waits for a number is one of the twelve
  pub waiters_known : (number w : ℕ) → stands_in w (waiters_of s number) ≡ true → w < 12
  unfolding waiters_of waiting_of
  waiters_known number w stands = orderly.known w (stands_part w (levels_part number (list_of s.queue)) stands)

  -- and stands in its queue once
  pub waiters_once : (number : ℕ) → Once (waiters_of s number)
  unfolding waiters_of waiting_of
  waiters_once number = once_part (levels_part number (list_of s.queue)) orderly.once

-- the first of a queue is a level, and another one than who waits behind it
behind_first : (levels : List ℕ) (w : ℕ) → Once levels → ((v : ℕ) → stands_in v levels ≡ true → v < 12) → stands_in w (drop 1 levels) ≡ true
    → (get_or levels 0 free ≡ free → ⊥) × (get_or levels 0 free ≡ w → ⊥)
unfolding Once
behind_first [] w once below stands = stands_nowhere w [] refl stands
behind_first (first ∷ levels) w once below stands = (
  (λ e. let level : first < 12 = below first (stands_here first levels) in omega arith),
  (λ e. never_both stands (rw (← e) once.0)),
)

-- after a release the semaphores stand orderly
passed_orderly : (number : ℕ) (s t : Semaphores) → Orderly s → usable_of number ≡ true → Passed number s t → Orderly t
unfolding waiting_of
passed_orderly number s t orderly usable passed =
    let less : number < 96 = usable_below number usable in
    let own : Turn true number s t = passed_own (omega (arith, orderly.numbers)) passed in
    let part : Part (waiting_of t) (waiting_of s) = rw passed.queue (part_map _ (part_without number (list_of s.queue))) in
    record {
      numbers = ap length passed.holders ∙ length-set s.holders number _ ∙ orderly.numbers;
      places = passed.places;
      count = passed.count;
      known = λ w stands. orderly.known w (stands_part w part stands);
      once = once_part part orderly.once;
      held = λ other w stands.
          by_test (eqb number other)
          (λ e. let here : other ≡ number = sym (eqb-true _ _ e) in
          let behind = behind_first (waiters_of s number) w (waiters_once s orderly number) (waiters_known s orderly number) (rw (here, own.queue) at stands) in
          rw (here, own.holder) (usable, behind.0, behind.1))
          (λ e. let else : Turn false other s t = passed_other (eqb-false _ _ e) passed in rw else.holder (orderly.held other w (rw else.queue at stands)));
    }

-- and so they do after a call that releases, or is refused
pub release_orderly : (s : Semaphores) (level number : ℕ) → Orderly s → Orderly (after_release s (release_of s level number))
release_orderly s level number orderly =
    by_test (holds_of s level number)
    (λ e. passed_orderly number s _ orderly (holds_usable s level number e) (release_held s level number orderly e))
    (λ e. rw (release_not_held s level number e) orderly)

-- ---- a request that has to wait

-- the semaphores after a level has joined a number's queue
abbrev pub joined : Semaphores → ℕ → ℕ → Semaphores
joined s level number = semaphores_of s.holders (push_of s.queue (waiter level number))

-- who may request is one of the twelve
pub requester_level : (s : Semaphores) (level : ℕ) → may_request s level ≡ true → level < 12
unfolding may_request
requester_level s level lets = ltb-true _ _ (both (ltb level 12) _ lets).0

module _ (s : Semaphores) (level number : ℕ) (orderly : Orderly s) (lets : may_request s level ≡ true) where
  -- it waits for nothing yet
  requester_free : stands_in level (waiting_of s) ≡ false
  unfolding may_request
  requester_free = not-true _ (both (ltb level 12) _ lets).1

  -- so there is a place for it
  pub room : s.queue.count < 12
  unfolding Once
  room =
      let known : (w : ℕ) → stands_in w (level ∷ waiting_of s) ≡ true → w < 12 =
      (λ w stands. stands_cases w level (waiting_of s) stands (λ e. rw (← e) (requester_level s level lets)) (orderly.known w)) in
      let few : suc (length (waiting_of s)) ≤ 12 = once_below 12 (level ∷ waiting_of s) (requester_free, orderly.once) known in
      let many : length (waiting_of s) ≡ s.queue.count = unfold waiting_of in length-map (list_of s.queue) _ ∙ list_length s.queue orderly.places orderly.count in
      omega arith

  -- in the queue it stands behind all others
  joined_list : list_of (joined s level number).queue ≡ list_of s.queue ++ (waiter level number ∷ [])
  joined_list = list_push s.queue (waiter level number) orderly.places room

  -- and so it does among the levels that wait
  joined_waiting : waiting_of (joined s level number) ≡ waiting_of s ++ (level ∷ [])
  unfolding waiting_of
  joined_waiting = ap (map (λ w. w.level)) joined_list ∙ map-append _ (list_of s.queue) _

  -- and among those that wait for its number, while the others' queues stay as they are
  pub joined_waiters : (other : ℕ) → waiters_of (joined s level number) other ≡ waiters_of s other ++ pick (eqb number other) (level ∷ []) []
  unfolding waiters_of
  joined_waiters other = ap (levels_for other) joined_list ∙ levels_behind other (list_of s.queue) _

  -- who stands in a list with the level behind it stands in the list, or is the level
  stands_joined : {P : Type 0} (w : ℕ) (l : List ℕ) → stands_in w (l ++ (level ∷ [])) ≡ true → (stands_in w l ≡ true → P) → (level ≡ w → P) → P
  stands_joined w l stands before last =
      by_test (stands_in w l) before (λ e. last (eqb-true _ _ (rw (stands_behind w level l, e) at stands)))

  -- the queue has its twelve places
  joined_places : length (joined s level number).queue.items ≡ 12
  unfolding pushed_of
  joined_places = rw (lt-ltb _ _ room) (length-set s.queue.items _ _ ∙ orderly.places)

  -- and no more in them
  joined_count : (joined s level number).queue.count ≤ 12
  unfolding pushed_of
  joined_count = rw (lt-ltb _ _ room) (omega (arith, room))

  -- so the semaphores stand orderly after that, if another holds the number
  joined_orderly : usable_of number ≡ true → (holder_of s number ≡ free → ⊥) → (holder_of s number ≡ level → ⊥) → Orderly (joined s level number)
  unfolding holder_of
  joined_orderly usable not_free not_own = record {
    numbers = orderly.numbers;
    places = joined_places;
    count = joined_count;
    known = λ w stands. stands_joined w (waiting_of s) (rw joined_waiting at stands) (orderly.known w) (λ e. rw (← e) (requester_level s level lets));
    once = rw joined_waiting (once_behind level (waiting_of s) orderly.once requester_free);
    held = λ other w stands.
        by_test (eqb number other)
        (λ e. let here : number ≡ other = eqb-true _ _ e in
        stands_joined w (waiters_of s other) (rw (joined_waiters other, e) at stands) (orderly.held other w) (λ f. rw (← here, ← f) (usable, not_free, not_own)))
        (λ e. orderly.held other w (rw (joined_waiters other, e, append-nil) at stands));
  }

-- ---- every step

-- a semaphore that was free is held
held_orderly : (s : Semaphores) (level number : ℕ) → Orderly s → holder_of s number ≡ free → Orderly (held_by s number level)
unfolding waiting_of waiters_of holder_of
held_orderly s level number orderly was_free = record {
  numbers = length-set s.holders number level ∙ orderly.numbers;
  places = orderly.places;
  count = orderly.count;
  known = orderly.known;
  once = orderly.once;
  held = λ other w stands.
      by_test (eqb other number)
      (λ e. let here : other ≡ number = eqb-true _ _ e in absurd ((orderly.held number w (rw here at stands)).1 was_free))
      (λ e. rw (get_or-set_other s.holders number other level 0 (eqb-false _ _ e)) (orderly.held other w stands));
}

-- after each of the four ways of a request they stand orderly
request_orderly : (s : Semaphores) (level number : ℕ) → Orderly s → may_request s level ≡ true → Orderly (after_request s (request_of s level number))
request_orderly s level number orderly lets =
    by_request (λ request. Orderly (after_request s request)) s level number
    (λ unusable. orderly)
    (λ usable was_free. held_orderly s level number orderly was_free)
    (λ usable own. orderly)
    (λ usable not_free not_own. joined_orderly s level number orderly lets usable not_free not_own)

-- and after the releases of many numbers
releases_orderly : (many number level : ℕ) (s : Semaphores) → Orderly s → Orderly (released_from many number level s)
unfolding released_from
releases_orderly zero number level s orderly = orderly
releases_orderly (suc many) number level s orderly = releases_orderly many (suc number) level _ (release_orderly s level number orderly)

-- every step leaves orderly semaphores orderly
pub step_orderly : (x : Step) (s : Semaphores) → Orderly s → Orderly (step_of x s)
unfolding step_of
step_orderly (requests level number) s orderly = by_test (may_request s level) (λ e. rw e (request_orderly s level number orderly e)) (λ e. rw e orderly)
step_orderly (releases level number) s orderly = release_orderly s level number orderly
step_orderly (releases_all level) s orderly = releases_orderly 96 0 level s orderly

-- and so does every sequence of steps
pub after_orderly : (steps : List Step) (s : Semaphores) → Orderly s → Orderly (after_of steps s)
unfolding after_of
after_orderly [] s orderly = orderly
after_orderly (x ∷ steps) s orderly = after_orderly steps (step_of x s) (step_orderly x s orderly)

-- whatever was requested and released, from fresh semaphores on
pub always_orderly : (steps : List Step) → Orderly (after_of steps fresh_of)
always_orderly steps = after_orderly steps fresh_of fresh_orderly
