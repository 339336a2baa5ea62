-- REQSEMA and RELSEMA leave a table that stands as tables stand along a run. Assumes nothing.
use mathlib.Core.Path.{◌≡◌, ◌∙◌, ap, refl, sym, subst}
use mathlib.Core.Bool.{true, false, ◌&&◌}
use Rattle.std.specs.Prelude.{Option, Some, None, Result, Ok, Err}
use mathlib.Core.List.{List, [], ◌∷◌, ◌++◌, map, map-append}
use Prim.Native.Nat.{ℕ, zero, suc, ◌+◌, ◌<◌, min}
use native.Mathlib.Omega.{arith}
use lib.Dec.{eqb}
use lib.ListN.{length, get_or, set, take, length-set, length-append, length-take}
use lib.Seq.{get_or-set_same, get_or-set_other, get_or-take}
use borrow.Author.Tests.{eqb-true, eqb-false, eq-eqb, ne_eqb, lt-ltb, le-leb}
use Rattle.std.specs.Prelude.{Option, Some}
use Rattle.common.specs.Choice.{pick}
use Rattle.common.specs.Keep.{keep_of}
use Rattle.common.specs.Stands.{stands_in}
use Rattle.common.proofs.Cases.{by_test, by_pick, both_true, either_true, never_both}
use Rattle.common.proofs.Every.{every_below_lem, below_every}
use Rattle.common.proofs.Fold.{fold_append}
use Rattle.common.proofs.Keep.{keep_append}
use Rattle.common.proofs.Once.{stands_here, stands_part, stands_either, stands_cases}
use Rattle.common.proofs.Parts.{left, part_all, part_map}
use Rattle.process.specs.declared.Process.{Process}
use Rattle.process.specs.declared.states.Cause.TheVariants.{WaitForSemaphore, Handover}
use Rattle.process.specs.declared.states.State.{State}
use Rattle.process.specs.declared.states.State.TheVariants.{Ready, WaitingForMessage, WaitingForSemaphore}
use Rattle.process.specs.Process.{process_of, moved_to, moved_of}
use Rattle.process.specs.States.{is_of, next_of}
use Rattle.common.specs.Filled.{items_of}
use Rattle.semaphores.specs.declared.queues.Waiter.{Waiter}
use Rattle.semaphores.specs.declared.NotReleased.{NotReleased}
use Rattle.semaphores.specs.declared.Semaphores.{Semaphores}
use Rattle.semaphores.specs.Queues.{Queue, list_of, waits_for, levels_for, without_first}
use Rattle.semaphores.specs.Semaphores.{requested_in, released_in, after_request, after_release, free, holder_of, waiters_of, waiter, held_by, holds_of, request_of as requests_of, release_of as releases_of, woken_of, released_from, woken_from}
use Rattle.semaphores.specs.Turns.{waiting_of, requests, may_request, step_of, Orderly}
use Rattle.semaphores.proofs.Effects.{by_request, Passed, release_held, release_not_held}
use Rattle.semaphores.proofs.Orderly.{release_orderly, step_orderly, joined, room}
use Rattle.semaphores.proofs.Waiting.{list_push, part_without, levels_part}
use Rattle.semaphores.proofs.Waking.{release_wakes, release_wakes_none}
use Rattle.table.specs.declared.configs.Config.{Config}
use Rattle.table.specs.declared.Table.{Table}
use Rattle.table.specs.Configuration.{configured_of}
use Rattle.table.specs.Sound.{at_level, times_of, process_within, none_kept, queued_as_it_waits, level_sound, levels_sound, no_process, holder_sound, holders_sound, waiter_sound, no_waiter, queue_sound}
use Rattle.table.specs.Words.{minus_one}
use Rattle.table.proofs.Configured.{configured_level}
use Rattle.table.proofs.Parts.{parts_sound}
use Rattle.table.proofs.Queued.{waiting_configured}
use Rattle.calls.specs.Levels.{process_at, with_processes, with_semaphores}
use Rattle.calls.proofs.Changing.{state_known}
use Rattle.calls.proofs.Keeping.{Steady, Keeps, keeps_obeyed, passed_caller, level_at}
use Rattle.holding.specs.Holding.{requested_by, requested_of, request_of, handed_to, released_by, released_of, released_all_of, release_of}

-- how semaphores and processes stand together in a table that is steady
pub record Fits (c : Config) (s : Semaphores) (ps : List Process) : Type 0 where
  pub processes : length ps ≡ 12
  pub levels : levels_sound c s.queue ps ≡ true
  pub holders : holders_sound c s.holders ≡ true
  -- who waits is configured
  pub waiting : (level : ℕ) → stands_in level (waiting_of s) ≡ true → configured_of c level ≡ true
  pub orderly : Orderly s

-- ---- how often a level is queued

-- how often a level stands among levels
abbrev count_in : ℕ → List ℕ → ℕ
count_in level l = length (keep_of (λ other. eqb other level) l)

-- the first that waits for a number is queued once less when it has left, and all others as often as before
times_without : (number level : ℕ) (l : List Waiter)
    → length (keep_of (at_level level) l) ≡ count_in level (take 1 (levels_for number l)) + length (keep_of (at_level level) (without_first number l))
unfolding levels_for without_first keep_of
times_without number level [] = refl
times_without number level (w ∷ l) =
    by_test (waits_for number w)
    (λ own. by_test (eqb w.level level) (λ e. rw (own, e) (omega arith)) (λ e. rw (own, e) (omega arith)))
    (λ other. by_test (eqb w.level level)
    (λ e. rw (other, e) (omega (arith, times_without number level l)))
    (λ e. rw (other, e) (times_without number level l)))

-- so it is after a release
times_passed : (number : ℕ) (s then : Semaphores) → Passed number s then
    → (level : ℕ) → times_of level s.queue ≡ count_in level (take 1 (waiters_of s number)) + times_of level then.queue
unfolding times_of waiters_of
times_passed number s then passed level = rw passed.queue (times_without number level (list_of s.queue))

-- one more behind the others is queued once more
times_behind : (level number by : ℕ) (q r : Queue) → list_of r ≡ list_of q ++ (waiter by number ∷ []) → times_of level r ≡ times_of level q + pick (eqb by level) 1 0
unfolding times_of keep_of
times_behind level number by q r behind =
    rw (behind, keep_append (at_level level) (list_of q) (waiter by number ∷ []), length-append)
    (by_test (eqb by level) (λ e. rw e) (λ e. rw e))

-- who is queued no time does not stand in the queue
pub times_none : (level : ℕ) (l : List Waiter) → length (keep_of (at_level level) l) ≡ 0 → stands_in level (map (λ w. w.level) l) ≡ false
unfolding keep_of stands_in
times_none level [] none = refl
times_none level (w ∷ l) none =
    by_test (eqb w.level level)
    (λ e. let some : suc (length (keep_of (at_level level) l)) ≡ 0 = rw e at none in absurd (omega arith))
    (λ e. rw e (times_none level l (rw e at none)))

-- who stands at a place of a list of waiters stands among those that wait for its number
listed_waits : (l : List Waiter) (i : ℕ) (d : Waiter) → i < length l → stands_in (get_or l i d).level (levels_for (get_or l i d).number l) ≡ true
unfolding levels_for keep_of
listed_waits [] i d less = absurd (omega arith)
listed_waits (w ∷ l) zero d less = rw (eq-eqb w.number w.number refl) (stands_here w.level _)
listed_waits (w ∷ l) (suc i) d less =
    by_test (waits_for (get_or l i d).number w)
    (λ e. rw e (stands_part (get_or l i d).level (left (part_all _)) (listed_waits l i d (omega arith))))
    (λ e. rw e (listed_waits l i d (omega arith)))

-- so does who stands at a place of a queue
queued_waits : (s : Semaphores) → length s.queue.items ≡ 12 → (i : ℕ) → i < min s.queue.count 12
    → stands_in (get_or s.queue.items i no_waiter).level (waiters_of s (get_or s.queue.items i no_waiter).number) ≡ true
unfolding waiters_of items_of
queued_waits s places i less =
    let q : Queue = s.queue in
    let long : length (take (min q.count 12) q.items) ≡ min q.count 12 = simp length-take (omega arith) in
    subst (λ (w : Waiter). stands_in w.level (levels_for w.number (take (min q.count 12) q.items)) ≡ true)
    (get_or-take (min q.count 12) q.items i no_waiter less)
    (listed_waits (take (min q.count 12) q.items) i no_waiter (omega arith))

-- ---- levels under another queue

module _ (c : Config) where
  -- the tests of a sound level that is configured
  level_tests : (q : Queue) (level : ℕ) (p : Process) → configured_of c level ≡ true → level_sound c q level p ≡ true
      → (process_within c p ≡ true) × (times_of level q ≡ pick (is_of p.state WaitingForSemaphore) 1 0)
  unfolding level_sound
  level_tests q level p configured sound =
      let tests : process_within c p && none_kept p && queued_as_it_waits q level p ≡ true = rw configured at sound in
      let queued = both_true (process_within c p && none_kept p) (queued_as_it_waits q level p) tests in
      ((both_true (process_within c p) (none_kept p) queued.0).0, eqb-true _ _ queued.1)

  -- a level is sound in a state in which it does not wait for a message, if it is queued as that state says
  level_in : (q : Queue) (level : ℕ) (p : Process) (state : State) → configured_of c level ≡ true → process_within c p ≡ true
      → is_of state WaitingForMessage ≡ false → times_of level q ≡ pick (is_of state WaitingForSemaphore) 1 0
      → level_sound c q level (process_of state p.priority p.marks p.buffer) ≡ true
  unfolding level_sound
  level_in q level p state configured within awake times = rw (configured, within, awake) (eq-eqb _ _ times)

  -- a level is sound in another queue in which it stands as often
  level_times : (q r : Queue) (level : ℕ) (p : Process) → times_of level r ≡ times_of level q → level_sound c q level p ≡ true → level_sound c r level p ≡ true
  unfolding level_sound
  level_times q r level p same sound = rw same sound

  -- and so are all levels, each queued as often as before
  levels_times : (q r : Queue) (ps : List Process) → ((level : ℕ) → times_of level r ≡ times_of level q) → levels_sound c q ps ≡ true → levels_sound c r ps ≡ true
  unfolding levels_sound
  levels_times q r ps same sound =
      below_every 12 _ (λ level less. level_times q r level _ (same level) (every_below_lem 12 (λ at. level_sound c q at (get_or ps at no_process)) sound level less))

  -- all levels are sound where one process is changed with the queue to a sound one, and every other level is queued as often as before
  levels_changed : (q r : Queue) (ps : List Process) (level : ℕ) (p : Process) → length ps ≡ 12 → levels_sound c q ps ≡ true
      → level_sound c r level p ≡ true → ((other : ℕ) → (other ≡ level → ⊥) → times_of other r ≡ times_of other q)
      → levels_sound c r (set ps level p) ≡ true
  unfolding levels_sound
  levels_changed q r ps level p whole sound here-sound same =
      below_every 12 _
      (λ other less. by_test (eqb other level)
      (λ e. let here : other ≡ level = eqb-true other level e in rw (here, get_or-set_same ps level p no_process (omega arith)) here-sound)
      (λ e. rw (get_or-set_other ps level other p no_process (eqb-false other level e))
      (level_times q r other _ (same other (eqb-false other level e)) (every_below_lem 12 (λ at. level_sound c q at (get_or ps at no_process)) sound other less))))

-- ---- holders and waiters

module _ (c : Config) where
  -- sound holders with one of them changed to a sound one
  holders_set : (holders : List ℕ) (number holder : ℕ) → length holders ≡ 96 → holders_sound c holders ≡ true → holder_sound c holder ≡ true
      → holders_sound c (set holders number holder) ≡ true
  unfolding holders_sound
  holders_set holders number holder whole sound here-sound =
      below_every 96 _
      (λ at less. by_test (eqb at number)
      (λ e. let here : at ≡ number = eqb-true at number e in rw (here, get_or-set_same holders number holder 0 (omega arith)) here-sound)
      (λ e. rw (get_or-set_other holders number at holder 0 (eqb-false at number e)) (every_below_lem 96 (λ i. holder_sound c (get_or holders i 0)) sound at less)))

  -- a configured level may hold a semaphore
  holder_configured : (level : ℕ) → configured_of c level ≡ true → holder_sound c level ≡ true
  unfolding holder_sound
  holder_configured level configured = either_true (eqb level free) (configured_of c level) configured

  -- nobody may too
  holder_free : holder_sound c free ≡ true
  unfolding holder_sound
  holder_free = refl

  -- a waiter in a queue is sound where the semaphores stand orderly and who waits is configured
  waiter_fits : (s : Semaphores) → Orderly s → ((level : ℕ) → stands_in level (waiting_of s) ≡ true → configured_of c level ≡ true)
      → (w : Waiter) → stands_in w.level (waiters_of s w.number) ≡ true → waiter_sound c s.holders w ≡ true
  unfolding waiter_sound holder_of waiters_of waiting_of
  waiter_fits s orderly configured w stands =
      let held = orderly.held w.number w.level stands in
      let known = configured w.level (stands_part w.level (levels_part w.number (list_of s.queue)) stands) in
      rw (held.0, ne_eqb (get_or s.holders w.number 0) free held.1, known)

  -- and so is the whole queue
  queue_fits : (s : Semaphores) → Orderly s → ((level : ℕ) → stands_in level (waiting_of s) ≡ true → configured_of c level ≡ true)
      → queue_sound c s.holders s.queue ≡ true
  unfolding queue_sound
  queue_fits s orderly configured =
      rw (le-leb s.queue.count 12 orderly.count)
      (below_every (min s.queue.count 12) _
      (λ i less. waiter_fits s orderly configured (get_or s.queue.items i no_waiter) (queued_waits s orderly.places i less)))

-- ---- the two moves

-- a handover takes who waits for a semaphore to READY
handed_next : (s : State) → is_of s WaitingForSemaphore ≡ true → next_of s Handover ≡ Some Ready
unfolding next_of
handed_next s waits = ap (λ (state : State). next_of state Handover) (state_known s WaitingForSemaphore waits)

-- a request that has to wait takes who is READY to WR
waits_next : (s : State) → is_of s Ready ≡ true → next_of s WaitForSemaphore ≡ Some WaitingForSemaphore
unfolding next_of
waits_next s ready = ap (λ (state : State). next_of state WaitForSemaphore) (state_known s Ready ready)

-- who is READY waits for no semaphore
ready_waits : (s : State) → is_of s Ready ≡ true → is_of s WaitingForSemaphore ≡ false
ready_waits s ready = ap (λ (state : State). is_of state WaitingForSemaphore) (state_known s Ready ready)

module _ (c : Config) (q r : Queue) (level : ℕ) (p : Process) (configured : configured_of c level ≡ true) (sound : level_sound c q level p ≡ true) where
  -- who leaves the queue with its semaphore handed to it is sound
  level_handed : times_of level q ≡ suc (times_of level r) → level_sound c r level (moved_of p Handover) ≡ true
  unfolding moved_of
  level_handed left-queue =
      let tests = level_tests c q level p configured sound in
      let times : times_of level q ≡ pick (is_of p.state WaitingForSemaphore) 1 0 = tests.1 in
      by_test (is_of p.state WaitingForSemaphore)
      (λ waits. let once : times_of level q ≡ 1 = rw waits at times in
      subst (λ (next : Option State). level_sound c r level (moved_to next p) ≡ true) (sym (handed_next p.state waits))
      (level_in c r level p Ready configured tests.0 refl (omega arith)))
      (λ other. let none : times_of level q ≡ 0 = rw other at times in absurd (omega arith))

  -- who is READY is not queued
  ready_times : is_of p.state Ready ≡ true → times_of level q ≡ 0
  ready_times ready = rw (ready_waits p.state ready) at (level_tests c q level p configured sound).1

  -- who joins the queue and goes to WR is sound
  level_waits : is_of p.state Ready ≡ true → times_of level r ≡ 1 → level_sound c r level (moved_of p WaitForSemaphore) ≡ true
  unfolding moved_of
  level_waits ready once =
      subst (λ (next : Option State). level_sound c r level (moved_to next p) ≡ true) (sym (waits_next p.state ready))
      (level_in c r level p WaitingForSemaphore configured (level_tests c q level p configured sound).0 refl once)

-- ---- a release

module _ (c : Config) (number : ℕ) (s then : Semaphores) (ps : List Process) (fits : Fits c s ps) (passed : Passed number s then) where
  -- who waits for the number is configured
  first_configured : (first : ℕ) (rest : List ℕ) → waiters_of s number ≡ first ∷ rest → configured_of c first ≡ true
  unfolding waiters_of waiting_of
  first_configured first rest e =
      fits.waiting first
      (stands_part first (levels_part number (list_of s.queue)) (subst (λ (l : List ℕ). stands_in first l ≡ true) (sym e) (stands_here first rest)))

  -- the levels are sound after the first that waited is READY
  passed_levels : (levels : List ℕ) → waiters_of s number ≡ levels → levels_sound c then.queue (handed_to ps (take 1 levels)) ≡ true
  unfolding keep_of
  passed_levels [] e =
      levels_times c s.queue then.queue ps
      (λ level. let times : times_of level s.queue ≡ 0 + times_of level then.queue = rw e at (times_passed number s then passed level) in omega arith)
      fits.levels
  passed_levels (first ∷ rest) e =
      let configured : configured_of c first ≡ true = first_configured first rest e in
      let within : first < 12 = omega (arith, configured_level c first configured) in
      let times : (level : ℕ) → times_of level s.queue ≡ count_in level (first ∷ []) + times_of level then.queue =
      (λ level. rw e at (times_passed number s then passed level)) in
      let own : times_of first s.queue ≡ 1 + times_of first then.queue = rw (eq-eqb first first refl) at (times first) in
      levels_changed c s.queue then.queue ps first (moved_of (process_at ps first) Handover) fits.processes fits.levels
      (level_handed c s.queue then.queue first (process_at ps first) configured
      (level_at c s.queue ps first fits.processes fits.levels within)
      (omega arith))
      (λ other differs.
      let same : times_of other s.queue ≡ 0 + times_of other then.queue = rw (ne_eqb first other (λ e. differs (sym e))) at (times other) in
      omega arith)

  -- there are as many processes as before
  passed_length : (levels : List ℕ) → length (handed_to ps (take 1 levels)) ≡ 12
  passed_length [] = fits.processes
  passed_length (first ∷ rest) = length-set ps first _ ∙ fits.processes

  -- the first that waited may hold the semaphore
  passed_holder : (levels : List ℕ) → waiters_of s number ≡ levels → holder_sound c (get_or levels 0 free) ≡ true
  passed_holder [] e = holder_free c
  passed_holder (first ∷ rest) e = holder_configured c first (first_configured first rest e)

  -- who waits after it waited before
  passed_waiting : (level : ℕ) → stands_in level (waiting_of then) ≡ true → configured_of c level ≡ true
  unfolding waiting_of
  passed_waiting level stands =
      fits.waiting level (stands_part level (part_map _ (part_without number (list_of s.queue))) (rw passed.queue at stands))

  -- so a release with its handover keeps semaphores and processes as they fit
  passed_fits : Orderly then → Fits c then (handed_to ps (take 1 (waiters_of s number)))
  passed_fits orderly = record {
    processes = passed_length (waiters_of s number);
    levels = passed_levels (waiters_of s number) refl;
    holders = rw passed.holders (holders_set c s.holders number _ fits.orderly.numbers fits.holders (passed_holder (waiters_of s number) refl));
    waiting = passed_waiting;
    orderly = orderly;
  }

-- and so does a release that is refused
pub release_fits : (c : Config) (s : Semaphores) (ps : List Process) (level number : ℕ) → Fits c s ps
    → Fits c (after_release s (releases_of s level number)) (handed_to ps (woken_of (released_in (releases_of s level number))))
release_fits c s ps level number fits =
    by_test (holds_of s level number)
    (λ holds. rw (release_wakes s level number holds)
    (passed_fits c number s _ ps fits (release_held s level number fits.orderly holds) (release_orderly s level number fits.orderly)))
    (λ fails. rw (release_wakes_none s level number fails, release_not_held s level number fails) fits)

-- the releases of many numbers keep them too
pub releases_fit : (many number level : ℕ) (c : Config) (s : Semaphores) (ps : List Process) → Fits c s ps
    → Fits c (released_from many number level s) (handed_to ps (woken_from many number level s))
unfolding released_from woken_from
releases_fit zero number level c s ps fits = fits
releases_fit (suc many) number level c s ps fits =
    rw (fold_append _ ps (woken_of (released_in (releases_of s level number))))
    (releases_fit many (suc number) level c _ _ (release_fits c s ps level number fits))

-- ---- a request

module _ (c : Config) (s : Semaphores) (ps : List Process) (caller number : ℕ) (fits : Fits c s ps) (configured : configured_of c caller ≡ true)
    (ready : is_of (process_at ps caller).state Ready ≡ true) where
  -- the caller is one of the twelve
  caller_level : caller < 12
  caller_level = omega (arith, configured_level c caller configured)

  -- it is sound
  caller_sound : level_sound c s.queue caller (process_at ps caller) ≡ true
  caller_sound = level_at c s.queue ps caller fits.processes fits.levels caller_level

  -- it is not queued
  caller_times : times_of caller s.queue ≡ 0
  caller_times = ready_times c s.queue s.queue caller (process_at ps caller) configured caller_sound ready

  -- so it may request
  pub caller_may : may_request s caller ≡ true
  unfolding may_request waiting_of times_of
  caller_may = rw (lt-ltb caller 12 caller_level, times_none caller (list_of s.queue) caller_times)

  -- a semaphore that was free is the caller's
  held_fits : Orderly (held_by s number caller) → Fits c (held_by s number caller) ps
  unfolding waiting_of
  held_fits orderly = record {
    processes = fits.processes;
    levels = fits.levels;
    holders = holders_set c s.holders number caller fits.orderly.numbers fits.holders (holder_configured c caller configured);
    waiting = fits.waiting;
    orderly = orderly;
  }

  -- the queue has the caller behind all others
  behind_list : list_of (joined s caller number).queue ≡ list_of s.queue ++ (waiter caller number ∷ [])
  behind_list = list_push s.queue (waiter caller number) fits.orderly.places (room s caller number fits.orderly caller_may)

  -- so who waits is configured
  joined_configured : (level : ℕ) → stands_in level (waiting_of (joined s caller number)) ≡ true → configured_of c level ≡ true
  unfolding waiting_of
  joined_configured level stands =
      stands_either level (map (λ w. w.level) (list_of s.queue)) (caller ∷ []) (rw (behind_list, map-append) at stands)
      (fits.waiting level)
      (λ last. stands_cases level caller [] last
      (λ here. subst (λ (at : ℕ). configured_of c at ≡ true) here configured)
      (λ none. unfold stands_in in absurd (never_both none refl)))

  -- where another holds it the caller waits, in WR
  joined_fits : Orderly (joined s caller number) → Fits c (joined s caller number) (set ps caller (moved_of (process_at ps caller) WaitForSemaphore))
  joined_fits orderly =
      let q : Queue = s.queue in
      let r : Queue = (joined s caller number).queue in
      let own : times_of caller r ≡ 1 = rw (times_behind caller number caller q r behind_list, eq-eqb caller caller refl, caller_times) in
      record {
        processes = length-set ps caller _ ∙ fits.processes;
        levels =
            levels_changed c q r ps caller (moved_of (process_at ps caller) WaitForSemaphore) fits.processes fits.levels
            (level_waits c q r caller (process_at ps caller) configured caller_sound ready own)
            (λ other differs. rw (times_behind other number caller q r behind_list, ne_eqb caller other (λ same. differs (sym same))) (omega arith));
        holders = fits.holders;
        waiting = joined_configured;
        orderly = orderly;
      }

-- ---- the calls

module _ (t : Table) (steady : Steady t) where
  -- in a steady table semaphores and processes fit
  pub steady_fits : Fits t.config t.semaphores t.processes
  steady_fits = record {
    processes = steady.processes;
    levels = steady.parts.levels;
    holders = steady.parts.holders;
    waiting = waiting_configured t (parts_sound t steady.parts);
    orderly = steady.orderly;
  }

  -- and with others that fit it is steady
  pub fits_steady : (s : Semaphores) (ps : List Process) → Fits t.config s ps → Steady (with_processes (with_semaphores t s) ps)
  fits_steady s ps fits = record {
    processes = fits.processes;
    places = steady.places;
    parts = record {
      good = steady.parts.good;
      clock = steady.parts.clock;
      levels = fits.levels;
      orders = steady.parts.orders;
      holders = fits.holders;
      queue = queue_fits t.config s fits.orderly fits.waiting;
      mask = steady.parts.mask;
      latch = steady.parts.latch;
      pool = steady.parts.pool;
    };
    orderly = fits.orderly;
  }

  -- a request of a caller that is configured and READY, each of its four ways
  requested_keeps : (caller number : ℕ) → configured_of t.config caller ≡ true → is_of (process_at t.processes caller).state Ready ≡ true
      → Keeps (requested_of t caller number)
  unfolding requested_of Keeps step_of
  requested_keeps caller number configured ready =
      let s : Semaphores = t.semaphores in
      let ps : List Process = t.processes in
      let lets : may_request s caller ≡ true = caller_may t.config s ps caller number steady_fits configured ready in
      let orderly : Orderly (after_request s (requests_of s caller number)) = rw lets at (step_orderly (requests caller number) s steady.orderly) in
      by_request
      (λ request. Orderly (after_request s request) → Steady (requested_by (requested_in request) t (after_request s request) caller).table)
      s caller number
      (λ unusable then. steady)
      (λ usable was_free then. fits_steady _ ps (held_fits t.config s ps caller number steady_fits configured ready then))
      (λ usable own then. steady)
      (λ usable not_free not_own then. fits_steady _ _ (joined_fits t.config s ps caller number steady_fits configured ready then))
      orderly

  -- what a release of one number came to
  by_released : (r : Result (Option ℕ) NotReleased) (s : Semaphores) → Fits t.config s (handed_to t.processes (woken_of r)) → Keeps (released_by r t s)
  unfolding Keeps
  by_released (Err NotReleased.Unusable) s fits = steady
  by_released (Err (NotReleased.NotHolder level)) s fits = steady
  by_released (Ok None) s fits = fits_steady s _ fits
  by_released (Ok (Some level)) s fits = fits_steady s _ fits

  -- a release of one number
  released_keeps : (caller number : ℕ) → Keeps (released_of t caller number)
  unfolding released_of
  released_keeps caller number =
      by_released (released_in (releases_of t.semaphores caller number)) (after_release t.semaphores (releases_of t.semaphores caller number))
      (release_fits t.config t.semaphores t.processes caller number steady_fits)

  -- a release of all that the caller holds
  released_all_keeps : (caller : ℕ) → Keeps (released_all_of t caller)
  unfolding released_all_of Keeps
  released_all_keeps caller = fits_steady _ _ (releases_fit 96 0 caller t.config t.semaphores t.processes steady_fits)

-- REQSEMA leaves a steady table
pub request_keeps : (t : Table) (caller number : ℕ) → Steady t → Keeps (request_of t caller number)
unfolding request_of
request_keeps t caller number steady =
    keeps_obeyed _ t _ steady
    (λ passed. let own = passed_caller t.config (process_at t.processes caller) caller [] passed in requested_keeps t steady caller number own.0 own.1)

-- RELSEMA leaves a steady table
pub release_keeps : (t : Table) (caller number : ℕ) → Steady t → Keeps (release_of t caller number)
unfolding release_of
release_keeps t caller number steady =
    keeps_obeyed _ t _ steady
    (λ passed. by_pick Keeps (eqb number minus_one) _ _ (released_all_keeps t steady caller) (released_keeps t steady caller number))
