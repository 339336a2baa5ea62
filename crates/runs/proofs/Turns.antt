-- Demand 3 for semaphores, over every run: a process that begins to wait for a semaphore with k - 1 waiters before it becomes its holder at the
-- k-th release of it after that, and not earlier. Assumes nothing.
use mathlib.Core.Path.{◌≡◌, ◌∙◌, refl, sym, ap, subst}
use mathlib.Core.Bool.{Bool, true, ◌&&◌}
use Rattle.std.specs.Prelude.{Ok}
use mathlib.Core.List.{List, [], ◌∷◌, ◌++◌}
use Prim.Native.Nat.{ℕ, ◌+◌, ◌-◌, ◌<◌, ◌≤◌}
use native.Mathlib.Omega.{arith}
use lib.Dec.{eqb}
use lib.ListN.{length, get_or, take, length-append}
use lib.Seq.{get_or-append_seam}
use borrow.Author.Tests.{eq-eqb}
use Rattle.common.specs.Choice.{pick}
use Rattle.common.specs.Stands.{stands_in}
use Rattle.common.proofs.Cases.{both_true, never_both}
use Rattle.common.proofs.Lists.{get_or_within}
use Rattle.common.proofs.Once.{stands_at, stands_part}
use Rattle.semaphores.specs.declared.Semaphores.{Semaphores}
use Rattle.semaphores.specs.declared.Requested.TheVariants as Requested
use Rattle.semaphores.specs.Queues.{list_of}
use Rattle.semaphores.specs.Semaphores.{requested_in, usable_of, free, holder_of, waiters_of, request_of}
use Rattle.semaphores.specs.Turns.{Step, requests as request_step, waiting_of, step_of, after_of as steps_after, releases_number, releases_of, Orderly, WaitsAt}
use Rattle.semaphores.proofs.Effects.{by_request}
use Rattle.semaphores.proofs.Turns.{joins_last, turn_waits}
use Rattle.semaphores.proofs.Waiting.{levels_part}
use Rattle.table.specs.declared.Table.{Table}
use Rattle.calls.proofs.Keeping.{Steady}
use Rattle.rtms.specs.Calls.{Call, REQSEMA}
use Rattle.runs.specs.Runs.{leaves, after_of, run_of, seen_as, seen_of}
use Rattle.runs.specs.Sight.{Act, Sight, sight_after, sight_of, released_by, is_release, releases_seen, AsSeen}
use Rattle.runs.specs.Turns.{asking, asked_at, sight_then, Obtains, TurnsAreKept}
use Rattle.runs.proofs.Acting.{step_deed, HasToWait, step_waits, waiting_WR}
use Rattle.runs.proofs.Seeing.{Way, turned, requested, way_of}
use Rattle.runs.proofs.Sights.{step_seen, steps_seen, held_as_seen}
use Rattle.runs.proofs.Steady.{step_steady, steps_steady, run_steady}

-- ---- one step

-- a step of a table as steps of its semaphores, which release a number where the step is seen to
record Moved (number : ℕ) (act : Act) (answer : ℕ) (s then : Semaphores) : Type 0 where
  steps : List Step
  after : then ≡ steps_after steps s
  count : (sight : Sight) → ((level : ℕ) → level < 12 → sight.holds level ≡ eqb (holder_of s number) level)
      → pick (released_by number act answer sight) 1 0 ≡ releases_of number steps s

-- two tests that hold, together
and_holds : (a b : Bool) → a ≡ true → b ≡ true → a && b ≡ true
and_holds a b first second = rw (first, second)

module _ (number : ℕ) (s : Semaphores) {act : Act} {answer : ℕ} {handed : List ℕ} {then : Semaphores} where
  -- every step is so
  way_moved : Way number act answer handed s then → Moved number act answer s then
  unfolding steps_after step_of releases_of releases_number
  way_moved (turned t) = record {
    steps = t.steps;
    after = t.after;
    count = λ sight held. ap (λ (b : Bool). pick b 1 0) (t.seen sight held) ∙ sym t.count;
  }
  way_moved (requested caller asked may act-is answer-is handed-is then_is) = record {
    steps = request_step caller asked ∷ [];
    after = rw may then_is;
    count = λ sight held. rw act-is;
  }

  -- a step that is seen to release a number gives it to the first that waits for it, and wakes that one
  way_hands : Way number act answer handed s then → (sight : Sight) → ((level : ℕ) → level < 12 → sight.holds level ≡ eqb (holder_of s number) level)
      → released_by number act answer sight ≡ true
      → (holder_of then number ≡ get_or (waiters_of s number) 0 free)
      × ((level : ℕ) → stands_in level (take 1 (waiters_of s number)) ≡ true → stands_in level handed ≡ true)
  way_hands (turned t) sight held is_relsema =
      let released : t.released ≡ true = sym (t.seen sight held) ∙ is_relsema in
      let given : pick t.released (get_or (waiters_of s number) 0 free) (holder_of s number) ≡ get_or (waiters_of s number) 0 free =
      ap (λ (b : Bool). pick b (get_or (waiters_of s number) 0 free) (holder_of s number)) released in
      let wakes : (level : ℕ) → stands_in level (take 1 (waiters_of s number)) ≡ true → stands_in level handed ≡ true =
      (λ level first. (both_true (stands_in level (waiters_of s number)) (stands_in level handed) (t.wakes level ∙ and_holds t.released _ released first)).1) in
      (t.turn.holder ∙ given, wakes)
  way_hands (requested caller asked may act-is answer-is handed-is then_is) sight held is_relsema =
      absurd (never_both is_relsema (rw act-is))

-- who stands at the first place is the first
first_at_lem : (level : ℕ) (l : List ℕ) → 0 < length l → get_or l 0 0 ≡ level → stands_in level (take 1 l) ≡ true
unfolding stands_in
first_at_lem level [] some there = absurd (omega arith)
first_at_lem level (x ∷ l) some there = rw (eq-eqb x level there)

-- who waits for a number waits
waiters_wait : (s : Semaphores) (number level : ℕ) → stands_in level (waiters_of s number) ≡ true → stands_in level (waiting_of s) ≡ true
unfolding waiters_of waiting_of
waiters_wait s number level stands = stands_part level (levels_part number (list_of s.queue)) stands

-- ---- over any steps

module _ (number : ℕ) (usable : usable_of number ≡ true) (level : ℕ) where
  -- who waits stands, after so many releases as are seen, so many places further on, and does not hold the semaphore
  calls_wait : (later : List Call) (t : Table) (sight : Sight) (place : ℕ) → Steady t → AsSeen number sight t.semaphores
      → place < length (waiters_of t.semaphores number) → get_or (waiters_of t.semaphores number) place 0 ≡ level
      → releases_seen number (seen_of later t) sight ≤ place
      → WaitsAt (place - releases_seen number (seen_of later t) sight) level number (after_of later t).semaphores
  unfolding releases_seen seen_of after_of releases_of steps_after
  calls_wait [] t sight place steady seen within there few = turn_waits t.semaphores number level place steady.orderly within there [] few
  calls_wait (call ∷ later) t sight place steady seen within there few =
      let s : Semaphores = t.semaphores in
      let moved = way_moved number s (way_of number usable s steady.orderly (step_deed call t steady)) in
      let gone : ℕ = pick (is_release number (seen_as call t) sight) 1 0 in
      let rest : ℕ = releases_seen number (seen_of later (leaves call t)) (sight_after number (seen_as call t) sight) in
      let same : gone ≡ releases_of number moved.steps s = moved.count sight seen.holds in
      let waits : WaitsAt (place - releases_of number moved.steps s) level number (steps_after moved.steps s) =
      turn_waits s number level place steady.orderly within there moved.steps (omega arith) in
      let then : WaitsAt (place - gone) level number (leaves call t).semaphores =
      subst (λ (u : Semaphores). WaitsAt (place - gone) level number u) (sym moved.after)
      (subst (λ (n : ℕ). WaitsAt (place - n) level number (steps_after moved.steps s)) (sym same) waits) in
      let both : place - gone - rest ≡ place - (gone + rest) = omega arith in
      rw both at
      (calls_wait later (leaves call t) (sight_after number (seen_as call t) sight) (place - gone)
      (step_steady call t steady) (step_seen number usable call t sight steady seen) then.within then.there (omega arith))

  -- who is the first of a queue obtains the semaphore with a step that is seen to release it
  first_obtains : (x : Call) (t : Table) (sight : Sight) → Steady t → AsSeen number sight t.semaphores
      → 0 < length (waiters_of t.semaphores number) → get_or (waiters_of t.semaphores number) 0 0 ≡ level
      → is_release number (seen_as x t) sight ≡ true → Obtains level number x t
  first_obtains x t sight steady seen some there is_relsema =
      let hands = way_hands number t.semaphores (way_of number usable t.semaphores steady.orderly (step_deed x t steady)) sight seen.holds is_relsema in
      record {
        holder = hands.0 ∙ get_or_within (waiters_of t.semaphores number) 0 free 0 some ∙ there;
        wakes = hands.1 level (first_at_lem level (waiters_of t.semaphores number) some there);
      }

-- ---- from a request that has to wait

-- a table after steps and one more
after_one : (steps : List Call) (x : Call) (t : Table) → after_of (steps ++ (x ∷ [])) t ≡ leaves x (after_of steps t)
unfolding after_of
after_one [] x t = refl
after_one (call ∷ steps) x t = after_one steps x (leaves call t)

-- a request that has to wait is of a usable number
waits_usable : (s : Semaphores) (level number : ℕ) → requested_in (request_of s level number) ≡ Ok Requested.Waits → usable_of number ≡ true
waits_usable s level number =
    by_request (λ request. requested_in request ≡ Ok Requested.Waits → usable_of number ≡ true) s level number
    (λ unusable waits. let z : ◌≡◌ {A = ℕ} 0 1 = cc in absurd (omega arith))
    (λ usable was_free waits. usable)
    (λ usable own waits. usable)
    (λ usable not_free not_own waits. usable)

-- who has to wait stands behind all others
waits_last : (s then : Semaphores) (level number : ℕ) → Orderly s → HasToWait level number s then → waiters_of then number ≡ waiters_of s number ++ (level ∷ [])
unfolding step_of
waits_last s then level number orderly has =
    rw has.after (rw has.may at (joins_last s level number orderly has.may has.waits))

-- the theorem
pub turns_are_kept : TurnsAreKept
turns_are_kept c before level number k begins =
    let t : Table = run_of c before in
    let then : Table = asked_at c before level number in
    let sight : Sight = sight_then c before level number in
    let has : HasToWait level number t.semaphores (leaves (REQSEMA level number) t).semaphores =
    step_waits t level number (run_steady c begins.good before) begins.answered_32 in
    let usable : usable_of number ≡ true = waits_usable t.semaphores level number has.waits in
    let steady : Steady then = run_steady c begins.good (asking before level number) in
    let seen : AsSeen number sight then.semaphores = held_as_seen c begins.good (asking before level number) number usable in
    let ahead : List ℕ = waiters_of t.semaphores number in
    let joins : waiters_of then.semaphores number ≡ ahead ++ (level ∷ []) =
    ap (λ (u : Table). waiters_of u.semaphores number) (after_one before (REQSEMA level number) _)
    ∙ waits_last t.semaphores _ level number (run_steady c begins.good before).orderly has in
    let within : length ahead < length (waiters_of then.semaphores number) = rw (joins, length-append) (omega arith) in
    let there : get_or (waiters_of then.semaphores number) (length ahead) 0 ≡ level = rw joins (get_or-append_seam ahead level [] 0) in
    record {
      not_earlier = λ later few.
          let waits = calls_wait number usable level later then sight (length ahead) steady seen within there (omega (arith, begins.k_1_before)) in
          let queued : stands_in level (waiters_of (after_of later then).semaphores number) ≡ true = stands_at level _ _ waits.within waits.there in
          record {
            in_WR = waiting_WR (after_of later then) (steps_steady later then steady) level (waiters_wait (after_of later then).semaphores number level queued);
            queued = queued;
            not_holder = waits.not_holder;
          };
      at_the_kth = λ later x all is_relsema.
          let waits = calls_wait number usable level later then sight (length ahead) steady seen within there (omega (arith, begins.k_1_before)) in
          let first : length ahead - releases_seen number (seen_of later then) sight ≡ 0 = omega (arith, begins.k_1_before) in
          first_obtains number usable level x (after_of later then) (sight_of number (seen_of later then) sight)
          (steps_steady later then steady) (steps_seen number usable later then sight steady seen)
          (rw first at waits.within) (rw first at waits.there) is_relsema;
    }
