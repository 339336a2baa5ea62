-- What a step does to semaphores: nothing, or what one request or one release does; and what is seen of it. Assumes nothing.
use mathlib.Core.Path.{◌≡◌, ◌∙◌, refl, sym, ap, subst}
use mathlib.Core.Bool.{Bool, true, false, ◌&&◌}
use Rattle.std.specs.Prelude.{Option, Some, None, Result, Ok, Err}
use mathlib.Core.List.{List, [], ◌∷◌}
use Prim.Native.Nat.{ℕ}
use native.Mathlib.Omega.{arith}
use lib.Dec.{eqb}
use borrow.Author.Tests.{eqb-true}
use Rattle.common.specs.Choice.{pick}
use Rattle.common.specs.Stands.{stands_in}
use Rattle.common.proofs.Cases.{by_test, both_true, never_both}
use Rattle.process.specs.declared.Process.{Process}
use Rattle.process.specs.declared.states.State.TheVariants.{Ready, WaitingForSemaphore}
use Rattle.process.specs.States.{is_of}
use Rattle.semaphores.specs.declared.Unusable.{Unusable}
use Rattle.semaphores.specs.declared.Requested.{Requested}
use Rattle.semaphores.specs.declared.Requested.TheVariants.{Held, Waits}
use Rattle.semaphores.specs.declared.NotReleased.{NotReleased}
use Rattle.semaphores.specs.declared.NotReleased.TheVariants.{NotHolder}
use Rattle.semaphores.specs.declared.Semaphores.{Semaphores}
use Rattle.semaphores.specs.Queues.{list_of, leaving_of}
use Rattle.semaphores.specs.Semaphores.{requested_in, released_in, after_request, after_release, usable_of, requested_number, released_number, request_of as requests_of, holds_of, not_held_of, release_of as releases_of, woken_of, released_from, woken_from}
use Rattle.semaphores.specs.Turns.{waiting_of, may_request}
use Rattle.semaphores.proofs.Effects.{by_request}
use Rattle.semaphores.proofs.Waiting.{by_leaving}
use Rattle.table.specs.declared.answers.Answer.TheVariants.{NoUser, NotReady}
use Rattle.table.specs.declared.Table.{Table}
use Rattle.table.specs.Answers.{number_of}
use Rattle.table.specs.Configuration.{configured_of}
use Rattle.table.specs.Sound.{times_of, process_within, none_kept, queued_as_it_waits, level_sound}
use Rattle.table.specs.Words.{minus_one}
use Rattle.table.proofs.Configured.{configured_level}
use Rattle.table.proofs.Parts.{parts_sound}
use Rattle.table.proofs.Queued.{waiting_configured}
use Rattle.calls.specs.Effects.{Effect, refuse}
use Rattle.calls.specs.Levels.{process_of}
use Rattle.calls.specs.Verdicts.{also_of, obeyed, called}
use Rattle.calls.proofs.Keeping.{Steady, level_at}
use Rattle.holding.specs.Holding.{requested_by, requested_of, request_of, released_by, released_of, released_all_of, release_of}
use Rattle.calls.proofs.Changing.{state_known}
use Rattle.holding.proofs.Keeping.{times_none, steady_fits, caller_may}
use Rattle.rtms.specs.Calls.{Call, START, SETPRIORITY, SEND, RECEIVE, AWAITMESSAGE, CLEARMESSAGE, SCHEDULE, CANCELSCHEDULE, SHUTDOWN, STARTSCHEDULER, READTIME, ENABLE, DISABLE, AWAITINTERRUPT, RESETINT, EVENT, REQSEMA, RELSEMA, INITPOOL, POOLCHECK, GETPOOL, PUTPOOL, TICK, TICKS, effect_of, done_by}
use Rattle.runs.specs.Runs.{leaves}
use Rattle.runs.specs.Sight.{Act, requests, releases, neither, act_of, handed_levels}
use Rattle.runs.proofs.Steady.{steady_done}
use Rattle.runs.proofs.Still.{handed_none, handed_all, still_semaphores, still_handed}

-- ---- the caller

module _ (t : Table) (steady : Steady t) where
  -- who waits for a semaphore is in WR
  pub waiting_WR : (level : ℕ) → stands_in level (waiting_of t.semaphores) ≡ true → (process_of t level).state ≡ WaitingForSemaphore
  unfolding level_sound times_of waiting_of
  waiting_WR level stands =
      let configured : configured_of t.config level ≡ true = waiting_configured t (parts_sound t steady.parts) level stands in
      let p : Process = process_of t level in
      let sound : level_sound t.config t.semaphores.queue level p ≡ true =
      level_at t.config t.semaphores.queue t.processes level steady.processes steady.parts.levels
      (omega (arith, configured_level t.config level configured)) in
      let tests : process_within t.config p && none_kept p && queued_as_it_waits t.semaphores.queue level p ≡ true = rw configured at sound in
      let times : times_of level t.semaphores.queue ≡ pick (is_of p.state WaitingForSemaphore) 1 0 =
      eqb-true _ _ (both_true (process_within t.config p && none_kept p) (queued_as_it_waits t.semaphores.queue level p) tests).1 in
      by_test (is_of p.state WaitingForSemaphore)
      (λ e. state_known p.state WaitingForSemaphore e)
      (λ e. let none : times_of level t.semaphores.queue ≡ 0 = rw e at times in absurd (never_both stands (times_none level (list_of t.semaphores.queue) none)))

-- a call is refused with 10 or with 33, or its caller is configured and READY
pub by_caller_lem : (P : Effect → Type 0) (t : Table) (caller : ℕ) (effect : Effect) → P (refuse t NoUser) → P (refuse t NotReady)
    → (configured_of t.config caller ≡ true → is_of (process_of t caller).state Ready ≡ true → P effect) → P (called t caller [] effect)
unfolding also_of obeyed
by_caller_lem P t caller effect unknown not-ready may =
    by_test (configured_of t.config caller)
    (λ configured. rw configured
    (by_test (is_of (process_of t caller).state Ready) (λ ready. rw ready (may configured ready)) (λ other. rw other not-ready)))
    (λ other. rw other unknown)

-- ---- the two calls

module _ (t : Table) (caller number : ℕ) where
  -- what a request answers
  asked_answer : number_of (requested_of t caller number).answer ≡ requested_number (requested_in (requests_of t.semaphores caller number))
  unfolding requested_of
  asked_answer = by_ways (requested_in (requests_of t.semaphores caller number)) (after_request t.semaphores (requests_of t.semaphores caller number))
    where
      by_ways : (r : Result Requested Unusable) (s : Semaphores) → number_of (requested_by r t s caller).answer ≡ requested_number r
      by_ways (Err why) s = refl
      by_ways (Ok Held) s = refl
      by_ways (Ok Waits) s = refl

  -- it hands nothing over
  asked_handed : handed_levels (requested_of t caller number).wakes ≡ []
  unfolding requested_of
  asked_handed = by_ways (requested_in (requests_of t.semaphores caller number)) (after_request t.semaphores (requests_of t.semaphores caller number))
    where
      by_ways : (r : Result Requested Unusable) (s : Semaphores) → handed_levels (requested_by r t s caller).wakes ≡ []
      by_ways (Err why) s = handed_none
      by_ways (Ok Held) s = handed_none
      by_ways (Ok Waits) s = handed_none

  -- and leaves such semaphores
  asked_semaphores : (requested_of t caller number).table.semaphores ≡ after_request t.semaphores (requests_of t.semaphores caller number)
  unfolding requested_of
  asked_semaphores =
      by_request (λ request. (requested_by (requested_in request) t (after_request t.semaphores request) caller).table.semaphores ≡ after_request t.semaphores request) t.semaphores caller number
      (λ unusable. refl)
      (λ usable was_free. refl)
      (λ usable own. refl)
      (λ usable not_free not_own. refl)

  -- what a release answers
  pub gave_answer : number_of (released_of t caller number).answer ≡ released_number (released_in (releases_of t.semaphores caller number))
  unfolding released_of
  gave_answer = by_ways (released_in (releases_of t.semaphores caller number)) (after_release t.semaphores (releases_of t.semaphores caller number))
    where
      by_ways : (r : Result (Option ℕ) NotReleased) (s : Semaphores) → number_of (released_by r t s).answer ≡ released_number r
      by_ways (Err NotReleased.Unusable) s = refl
      by_ways (Err (NotHolder level)) s = refl
      by_ways (Ok None) s = refl
      by_ways (Ok (Some level)) s = refl

  -- to whom it hands the semaphore
  gave_handed : handed_levels (released_of t caller number).wakes ≡ woken_of (released_in (releases_of t.semaphores caller number))
  unfolding released_of
  gave_handed = by_ways (released_in (releases_of t.semaphores caller number)) (after_release t.semaphores (releases_of t.semaphores caller number))
    where
      by_ways : (r : Result (Option ℕ) NotReleased) (s : Semaphores) → handed_levels (released_by r t s).wakes ≡ woken_of r
      by_ways (Err NotReleased.Unusable) s = handed_none
      by_ways (Err (NotHolder level)) s = handed_none
      by_ways (Ok None) s = handed_none
      by_ways (Ok (Some level)) s = handed_all (level ∷ [])

  -- and the semaphores that it leaves
  gave_semaphores : (released_of t caller number).table.semaphores ≡ after_release t.semaphores (releases_of t.semaphores caller number)
  unfolding released_of releases_of not_held_of
  gave_semaphores =
      by_test (holds_of t.semaphores caller number)
      (λ holds. rw holds (by_leaving (leaving_of t.semaphores.queue number) (λ e. rw e) (λ leaving e. rw e)))
      (λ fails. rw fails (by_test (usable_of number) (λ e. rw e) (λ e. rw e)))

-- ---- what a step is to semaphores

-- a step with such an act, such an answer and such levels woken by handovers takes semaphores to others
pub data Deed (act : Act) (answer : ℕ) (handed : List ℕ) (s then : Semaphores) : Type 0 where
  -- the call has nothing to do with them
  outside : act ≡ neither → handed ≡ [] → then ≡ s → Deed act answer handed s then
  -- its caller is refused
  refused : eqb answer 0 ≡ false → eqb answer 32 ≡ false → handed ≡ [] → then ≡ s → Deed act answer handed s then
  -- a level that does not wait requests a number
  asks : (caller asked : ℕ) → may_request s caller ≡ true → act ≡ requests caller asked → answer ≡ requested_number (requested_in (requests_of s caller asked))
      → handed ≡ [] → then ≡ after_request s (requests_of s caller asked) → Deed act answer handed s then
  -- a level releases one number
  gives : (caller given : ℕ) → may_request s caller ≡ true → act ≡ releases caller given → eqb given minus_one ≡ false
      → answer ≡ released_number (released_in (releases_of s caller given)) → handed ≡ woken_of (released_in (releases_of s caller given))
      → then ≡ after_release s (releases_of s caller given) → Deed act answer handed s then
  -- a level releases all that it holds
  gives_all : (caller : ℕ) → may_request s caller ≡ true → act ≡ releases caller minus_one → answer ≡ 0
      → handed ≡ woken_from 96 0 caller s → then ≡ released_from 96 0 caller s → Deed act answer handed s then

-- of a call with an effect
abbrev DeedBy : Call → Table → Effect → Type 0
DeedBy call t e = Deed (act_of call) (number_of e.answer) (handed_levels e.wakes) t.semaphores e.table.semaphores

-- what holds of the one that a test picks, where it picks it
by_choice : (P : Effect → Type 0) (b : Bool) (x y : Effect) → (b ≡ true → P x) → (b ≡ false → P y) → P (pick b x y)
by_choice P true x y first second = first refl
by_choice P false x y first second = second refl

module _ (t : Table) (steady : Steady t) (caller number : ℕ) where
  -- REQSEMA
  request_deed : DeedBy (REQSEMA caller number) t (request_of t caller number)
  unfolding request_of act_of
  request_deed =
      by_caller_lem (DeedBy (REQSEMA caller number) t) t caller (requested_of t caller number)
      (refused refl refl handed_none refl)
      (refused refl refl handed_none refl)
      (λ configured ready.
      asks caller number (caller_may t.config t.semaphores t.processes caller number (steady_fits t steady) configured ready) refl
      (asked_answer t caller number) (asked_handed t caller number) (asked_semaphores t caller number))

  -- RELSEMA of all
  all_deed : number ≡ minus_one → may_request t.semaphores caller ≡ true → DeedBy (RELSEMA caller number) t (released_all_of t caller)
  unfolding released_all_of act_of
  all_deed all may = gives_all caller may (ap (releases caller) all) refl (handed_all (woken_from 96 0 caller t.semaphores)) refl

  -- RELSEMA
  release_deed : DeedBy (RELSEMA caller number) t (release_of t caller number)
  unfolding release_of act_of
  release_deed =
      by_caller_lem (DeedBy (RELSEMA caller number) t) t caller _
      (refused refl refl handed_none refl)
      (refused refl refl handed_none refl)
      (λ configured ready. let may : may_request t.semaphores caller ≡ true = caller_may t.config t.semaphores t.processes caller number (steady_fits t steady) configured ready in
      by_choice (DeedBy (RELSEMA caller number) t) (eqb number minus_one) (released_all_of t caller) (released_of t caller number)
      (λ e. all_deed (eqb-true number minus_one e) may)
      (λ e. gives caller number may refl e (gave_answer t caller number) (gave_handed t caller number) (gave_semaphores t caller number)))

-- every call that leaves them alone
still_deed : (call : Call) (t : Table) → act_of call ≡ neither → DeedBy call t (effect_of call t)
still_deed call t none = outside none (still_handed call t none) (still_semaphores call t none)

-- every call: the two, and the others, which have nothing to do with semaphores
deed_of_lem : (call : Call) (t : Table) → Steady t → DeedBy call t (effect_of call t)
deed_of_lem (REQSEMA caller asked) t steady = request_deed t steady caller asked
deed_of_lem (RELSEMA caller given) t steady = release_deed t steady caller given
deed_of_lem (START level priority) t steady = still_deed (START level priority) t (unfold act_of in refl)
deed_of_lem (SETPRIORITY caller priority) t steady = still_deed (SETPRIORITY caller priority) t (unfold act_of in refl)
deed_of_lem (SEND caller receiver condition m) t steady = still_deed (SEND caller receiver condition m) t (unfold act_of in refl)
deed_of_lem (RECEIVE caller) t steady = still_deed (RECEIVE caller) t (unfold act_of in refl)
deed_of_lem (AWAITMESSAGE caller) t steady = still_deed (AWAITMESSAGE caller) t (unfold act_of in refl)
deed_of_lem (CLEARMESSAGE caller receiver) t steady = still_deed (CLEARMESSAGE caller receiver) t (unfold act_of in refl)
deed_of_lem (SCHEDULE caller new) t steady = still_deed (SCHEDULE caller new) t (unfold act_of in refl)
deed_of_lem (CANCELSCHEDULE caller sender receiver) t steady = still_deed (CANCELSCHEDULE caller sender receiver) t (unfold act_of in refl)
deed_of_lem (SHUTDOWN caller) t steady = still_deed (SHUTDOWN caller) t (unfold act_of in refl)
deed_of_lem STARTSCHEDULER t steady = still_deed STARTSCHEDULER t (unfold act_of in refl)
deed_of_lem (READTIME caller) t steady = still_deed (READTIME caller) t (unfold act_of in refl)
deed_of_lem (ENABLE caller input) t steady = still_deed (ENABLE caller input) t (unfold act_of in refl)
deed_of_lem (DISABLE caller input) t steady = still_deed (DISABLE caller input) t (unfold act_of in refl)
deed_of_lem (AWAITINTERRUPT caller) t steady = still_deed (AWAITINTERRUPT caller) t (unfold act_of in refl)
deed_of_lem (RESETINT caller input) t steady = still_deed (RESETINT caller input) t (unfold act_of in refl)
deed_of_lem (EVENT input) t steady = still_deed (EVENT input) t (unfold act_of in refl)
deed_of_lem (INITPOOL caller) t steady = still_deed (INITPOOL caller) t (unfold act_of in refl)
deed_of_lem (POOLCHECK caller stated) t steady = still_deed (POOLCHECK caller stated) t (unfold act_of in refl)
deed_of_lem (GETPOOL caller offset count own) t steady = still_deed (GETPOOL caller offset count own) t (unfold act_of in refl)
deed_of_lem (PUTPOOL caller offset count given) t steady = still_deed (PUTPOOL caller offset count given) t (unfold act_of in refl)
deed_of_lem TICK t steady = still_deed TICK t (unfold act_of in refl)
deed_of_lem (TICKS n) t steady = still_deed (TICKS n) t (unfold act_of in refl)

-- every step of a steady table
pub step_deed : (call : Call) (t : Table) → Steady t
    → Deed (act_of call) (number_of (done_by call t).answer) (handed_levels (done_by call t).wakes) t.semaphores (leaves call t).semaphores
step_deed call t steady = subst (DeedBy call t) (sym (steady_done call t steady)) (deed_of_lem call t steady)

-- ---- a request that has to wait

-- a request that was let through, has to wait, and leaves such semaphores
pub record HasToWait (caller number : ℕ) (s then : Semaphores) : Type 0 where
  pub may : may_request s caller ≡ true
  pub waits : requested_in (requests_of s caller number) ≡ Ok Waits
  pub after : then ≡ after_request s (requests_of s caller number)

-- a request with 32 for its number has to wait
number_waits : (r : Result Requested Unusable) → requested_number r ≡ 32 → r ≡ Ok Waits
number_waits (Err why) answered = absurd (omega arith)
number_waits (Ok Held) answered = absurd (omega arith)
number_waits (Ok Waits) answered = refl

-- and so has a request that is answered 32
asked_waits : (t : Table) (caller number : ℕ) → Steady t → number_of (request_of t caller number).answer ≡ 32
    → HasToWait caller number t.semaphores (request_of t caller number).table.semaphores
unfolding request_of
asked_waits t caller number steady =
    by_caller_lem (λ (e : Effect). number_of e.answer ≡ 32 → HasToWait caller number t.semaphores e.table.semaphores) t caller (requested_of t caller number)
    (λ answered. absurd (omega arith))
    (λ answered. absurd (omega arith))
    (λ configured ready answered. record {
      may = caller_may t.config t.semaphores t.processes caller number (steady_fits t steady) configured ready;
      waits = number_waits _ (sym (asked_answer t caller number) ∙ answered);
      after = asked_semaphores t caller number;
    })

-- as a step of a steady table
pub step_waits : (t : Table) (caller number : ℕ) → Steady t → number_of (done_by (REQSEMA caller number) t).answer ≡ 32
    → HasToWait caller number t.semaphores (leaves (REQSEMA caller number) t).semaphores
step_waits t caller number steady =
    subst (λ (e : Effect). number_of e.answer ≡ 32 → HasToWait caller number t.semaphores e.table.semaphores)
    (sym (steady_done (REQSEMA caller number) t steady))
    (asked_waits t caller number steady)
