-- How a step changes one semaphore and what is seen of it. Assumes nothing.
use mathlib.Core.Path.{◌≡◌, ◌∙◌, refl, sym, ap}
use mathlib.Core.Bool.{Bool, true, false, not, ◌&&◌, ◌||◌, and-false, or-true}
use mathlib.Core.List.{List, [], ◌∷◌}
use Prim.Native.Nat.{ℕ, ◌<◌}
use native.Mathlib.Omega.{arith}
use lib.Dec.{eqb}
use lib.ListN.{take}
use borrow.Author.Tests.{eqb-true, eqb-false, eq-eqb, ne_eqb}
use Rattle.common.specs.Choice.{pick}
use Rattle.common.specs.Stands.{stands_in}
use Rattle.common.proofs.Cases.{by_test, both}
use Rattle.semaphores.specs.declared.Semaphores.{Semaphores}
use Rattle.semaphores.specs.Queues.{leaving_of}
use Rattle.semaphores.specs.Semaphores.{requested_in, released_in, after_request, after_release, usable_of, holder_of, waiters_of, requested_number, released_number, request_of, holds_of, not_held_of, release_of, woken_of, released_from, woken_from}
use Rattle.semaphores.specs.Turns.{Step, releases as release_step, releases_all, may_request, step_of, after_of, releases_number, releases_of, Orderly}
use Rattle.semaphores.proofs.Effects.{Turn, turn_same, release_not_held}
use Rattle.semaphores.proofs.Turns.{release_all}
use Rattle.semaphores.proofs.Orderly.{requester_level}
use Rattle.semaphores.proofs.Waiting.{by_leaving}
use Rattle.semaphores.proofs.Waking.{stands_first, release_wakes, release_wakes_none}
use Rattle.table.specs.Words.{minus_one}
use Rattle.runs.specs.Sight.{Act, requests, releases, neither, asks_for, gives_back, Sight, released_by}
use Rattle.runs.proofs.Acting.{Deed, outside, refused, asks, gives, gives_all}
use Rattle.runs.proofs.Handing.{first_none, waits_apart, all_wakes, one_turn}

-- ---- a step that requests nothing

-- what such a step does to a number, and what is seen of that
pub record Turned (number : ℕ) (act : Act) (answer : ℕ) (handed : List ℕ) (s then : Semaphores) : Type 0 where
  -- whether it releases the number
  pub released : Bool
  pub turn : Turn released number s then
  -- it is no request that was answered 0 or 32
  pub no_request : (level : ℕ) → (asks_for number level act && eqb answer 0 ≡ false) × (asks_for number level act && eqb answer 32 ≡ false)
  -- it wakes the first that waits for the number where it releases the number, and no other that waits for it
  pub wakes : (level : ℕ) → stands_in level (waiters_of s number) && stands_in level handed ≡ released && stands_in level (take 1 (waiters_of s number))
  -- the holder has given it up where it was released, and not else
  pub gone : (level : ℕ) → eqb (holder_of s number) level && not (gives_back number level act && eqb answer 0) ≡ eqb (holder_of s number) level && not released
  -- and it is seen to be released where it is
  pub seen : (sight : Sight) → ((level : ℕ) → level < 12 → sight.holds level ≡ eqb (holder_of s number) level) → released_by number act answer sight ≡ released
  -- the step as one of the semaphores
  pub steps : List Step
  pub after : then ≡ after_of steps s
  pub count : releases_of number steps s ≡ pick released 1 0

-- what a step is to a number
pub data Way (number : ℕ) (act : Act) (answer : ℕ) (handed : List ℕ) (s then : Semaphores) : Type 0 where
  turned : Turned number act answer handed s then → Way number act answer handed s then
  requested : (caller asked : ℕ) → may_request s caller ≡ true → act ≡ requests caller asked → answer ≡ requested_number (requested_in (request_of s caller asked))
      → handed ≡ [] → then ≡ after_request s (request_of s caller asked) → Way number act answer handed s then

-- a call that is not answered 0 is not seen to release
refused_seen : (number : ℕ) (act : Act) (answer : ℕ) (sight : Sight) → eqb answer 0 ≡ false → released_by number act answer sight ≡ false
refused_seen number (requests caller asked) answer sight not_0 = refl
refused_seen number (releases caller given) answer sight not_0 = rw (not_0, and-false (eqb given number || eqb given minus_one))
refused_seen number neither answer sight not_0 = refl

-- a step that leaves the semaphores as they were, and is seen to
quiet : {number : ℕ} {act : Act} {answer : ℕ} {handed : List ℕ} {s then : Semaphores} → handed ≡ [] → then ≡ s
    → ((level : ℕ) → (asks_for number level act && eqb answer 0 ≡ false) × (asks_for number level act && eqb answer 32 ≡ false))
    → ((level : ℕ) → gives_back number level act && eqb answer 0 ≡ false)
    → ((sight : Sight) → released_by number act answer sight ≡ false)
    → Turned number act answer handed s then
unfolding stands_in releases_of after_of
quiet {number} {s = s} none same no_request not-given not_seen = record {
  released = false;
  turn = rw same (turn_same number s);
  no_request = no_request;
  wakes = λ level. rw none (and-false (stands_in level (waiters_of s number)));
  gone = λ level. rw (not-given level);
  seen = λ sight held. not_seen sight;
  steps = [];
  after = same;
  count = refl;
}

-- ---- a release of one number

module _ (s : Semaphores) (caller given : ℕ) where
  -- where the caller does not hold the number it is not answered 0, but 15 or 37
  not_held_number : holds_of s caller given ≡ false → eqb (released_number (released_in (release_of s caller given))) 0 ≡ false
  unfolding release_of not_held_of
  not_held_number fails = rw fails (by_test (usable_of given) (λ e. rw e) (λ e. rw e))

  -- where it does, it is
  pub held_number : holds_of s caller given ≡ true → released_number (released_in (release_of s caller given)) ≡ 0
  unfolding release_of
  held_number holds = rw holds (by_leaving (leaving_of s.queue given) (λ e. rw e) (λ leaving e. rw e))

  -- who holds a number is its holder
  holds_holder : holds_of s caller given ≡ true → holder_of s given ≡ caller
  unfolding holds_of
  holds_holder holds = eqb-true _ _ (both (usable_of given) _ holds).1

module _ (number : ℕ) (s : Semaphores) (orderly : Orderly s) (caller : ℕ) (less : caller < 12) (given : ℕ) (single : eqb given minus_one ≡ false)
    (holds : holds_of s caller given ≡ true) where
  -- whom it wakes among those that wait for the number
  given_wakes : (level : ℕ)
      → stands_in level (waiters_of s number) && stands_in level (take 1 (waiters_of s given)) ≡ eqb given number && stands_in level (take 1 (waiters_of s number))
  given_wakes level =
      by_test (eqb given number)
      (λ e. let here : given ≡ number = eqb-true _ _ e in
      rw (e, here)
      (by_test (stands_in level (take 1 (waiters_of s number)))
      (λ first. rw (stands_first level (waiters_of s number) first, first))
      (λ other. rw other (and-false (stands_in level (waiters_of s number))))))
      (λ e. rw e
      (by_test (stands_in level (waiters_of s number))
      (λ waits. rw waits
      (first_none level (waiters_of s given) (waits_apart level number given (λ same. eqb-false _ _ e (sym same)) s orderly waits)))
      (λ none. rw none)))

  -- who has given the number up
  given_gone : (level : ℕ)
      → eqb (holder_of s number) level && not (gives_back number level (releases caller given) && true) ≡ eqb (holder_of s number) level && not (eqb given number)
  given_gone level =
      by_test (eqb given number)
      (λ e. let here : given ≡ number = eqb-true _ _ e in
      let holder : holder_of s number ≡ caller = rw here at (holds_holder s caller given holds) in
      rw (e, holder) (by_test (eqb caller level) (λ f. rw f) (λ f. rw f)))
      (λ e. rw (e, single) (by_test (eqb caller level) (λ f. rw f) (λ f. rw f)))

  -- whether the number is seen to be released
  given_seen : (sight : Sight) → ((level : ℕ) → level < 12 → sight.holds level ≡ eqb (holder_of s number) level)
      → released_by number (releases caller given) 0 sight ≡ eqb given number
  given_seen sight held =
      by_test (eqb given number)
      (λ e. let here : given ≡ number = eqb-true _ _ e in
      let holder : holder_of s number ≡ caller = rw here at (holds_holder s caller given holds) in
      rw e (held caller less ∙ eq-eqb (holder_of s number) caller holder))
      (λ e. rw (e, single))

  -- and how often it is released
  given_count : releases_of number (release_step caller given ∷ []) s ≡ pick (eqb given number) 1 0
  unfolding releases_of releases_number
  given_count =
      by_test (eqb given number)
      (λ e. let here : given ≡ number = eqb-true _ _ e in let own : holds_of s caller number ≡ true = rw here at holds in rw (e, own))
      (λ e. rw e)

  -- all together
  given_turned : Turned number (releases caller given) 0 (take 1 (waiters_of s given)) s (after_release s (release_of s caller given))
  unfolding after_of step_of
  given_turned = record {
    released = eqb given number;
    turn = one_turn caller number given s orderly holds;
    no_request = λ level. (refl, refl);
    wakes = given_wakes;
    gone = given_gone;
    seen = given_seen;
    steps = release_step caller given ∷ [];
    after = refl;
    count = given_count;
  }

-- ---- a release of all

module _ (number : ℕ) (usable : usable_of number ≡ true) (s : Semaphores) (orderly : Orderly s) (caller : ℕ) (less : caller < 12) where
  -- whom it wakes among those that wait for the number
  all_woken : (level : ℕ)
      → stands_in level (waiters_of s number) && stands_in level (woken_from 96 0 caller s) ≡ holds_of s caller number && stands_in level (take 1 (waiters_of s number))
  all_woken level =
      by_test (stands_in level (waiters_of s number))
      (λ waits. rw waits (all_wakes caller number level s orderly usable waits))
      (λ none. rw (none, first_none level (waiters_of s number) none) (sym (and-false (holds_of s caller number))))

  -- whether the caller holds the number
  holds_usable_number : holds_of s caller number ≡ eqb (holder_of s number) caller
  unfolding holds_of
  holds_usable_number = rw usable

  -- who has given the number up
  all_gone : (level : ℕ)
      → eqb (holder_of s number) level && not (gives_back number level (releases caller minus_one) && true)
      ≡ eqb (holder_of s number) level && not (holds_of s caller number)
  all_gone level =
      rw (holds_usable_number, or-true (eqb minus_one number))
      (by_test (eqb (holder_of s number) level)
      (λ e. let here : holder_of s number ≡ level = eqb-true _ _ e in
      rw here
      (by_test (eqb caller level)
      (λ f. let same : caller ≡ level = eqb-true _ _ f in rw (f, eq-eqb level caller (sym same)))
      (λ f. rw (f, ne_eqb level caller (λ same. eqb-false _ _ f (sym same))))))
      (λ e. rw e))

  -- all together
  all_turned : Turned number (releases caller minus_one) 0 (woken_from 96 0 caller s) s (released_from 96 0 caller s)
  unfolding after_of step_of releases_of releases_number
  all_turned = record {
    released = holds_of s caller number;
    turn = release_all caller number s orderly;
    no_request = λ level. (refl, refl);
    wakes = all_woken;
    gone = all_gone;
    seen = λ sight held. rw (or-true (eqb minus_one number)) (held caller less ∙ sym holds_usable_number);
    steps = releases_all caller ∷ [];
    after = refl;
    count = omega arith;
  }

-- ---- every step

module _ (number : ℕ) (usable : usable_of number ≡ true) (s : Semaphores) (orderly : Orderly s) where
  -- a release of one number, by its holder or not
  gives_turned : {act : Act} {answer : ℕ} {handed : List ℕ} {then : Semaphores} (caller given : ℕ) → may_request s caller ≡ true → act ≡ releases caller given
      → eqb given minus_one ≡ false → answer ≡ released_number (released_in (release_of s caller given)) → handed ≡ woken_of (released_in (release_of s caller given))
      → then ≡ after_release s (release_of s caller given) → Turned number act answer handed s then
  gives_turned {act} {answer} {handed} {then} caller given may act-is single answer-is handed-is then_is =
      by_test (holds_of s caller given)
      (λ holds. rw (act-is, answer-is ∙ held_number s caller given holds, handed-is ∙ release_wakes s caller given holds, then_is)
      (given_turned number s orderly caller (requester_level s caller may) given single holds))
      (λ fails. let not_0 : eqb answer 0 ≡ false = rw answer-is (not_held_number s caller given fails) in
      quiet (handed-is ∙ release_wakes_none s caller given fails) (then_is ∙ ap (after_release s) (release_not_held s caller given fails))
      (λ level. rw act-is (refl, refl))
      (λ level. rw not_0 (and-false (gives_back number level act)))
      (λ sight. refused_seen number act answer sight not_0))

  -- what a deed is to a number
  pub way_of : {act : Act} {answer : ℕ} {handed : List ℕ} {then : Semaphores} → Deed act answer handed s then → Way number act answer handed s then
  way_of {act} (outside act-is handed-is then_is) =
      turned (quiet handed-is then_is (λ level. rw act-is (refl, refl)) (λ level. rw act-is) (λ sight. rw act-is))
  way_of {act} {answer} (refused not_0 not-32 handed-is then_is) =
      turned (quiet handed-is then_is
      (λ level. (rw not_0 (and-false (asks_for number level act)), rw not-32 (and-false (asks_for number level act))))
      (λ level. rw not_0 (and-false (gives_back number level act)))
      (λ sight. refused_seen number act answer sight not_0))
  way_of (asks caller asked may act-is answer-is handed-is then_is) = requested caller asked may act-is answer-is handed-is then_is
  way_of (gives caller given may act-is single answer-is handed-is then_is) = turned (gives_turned caller given may act-is single answer-is handed-is then_is)
  way_of (gives_all caller may act-is answer-is handed-is then_is) =
      turned (rw (act-is, answer-is, handed-is, then_is) (all_turned number usable s orderly caller (requester_level s caller may)))
