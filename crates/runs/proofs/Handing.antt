-- Whom releases hand a semaphore to: of those that wait for a number they wake its first, where they release it, and nobody else. Assumes nothing.
use mathlib.Core.Path.{◌≡◌, ◌∙◌, refl, sym}
use mathlib.Core.Bool.{true, false, not, ◌&&◌, ◌||◌, and-true}
use mathlib.Core.List.{List, [], ◌∷◌, ◌++◌, map}
use Prim.Native.Nat.{ℕ, zero, suc, ◌+◌, ◌<◌, ◌≤◌}
use native.Mathlib.Omega.{arith}
use lib.Dec.{eqb}
use lib.ListN.{get_or, take, drop}
use borrow.Author.Tests.{eqb-true, eqb-false, ne_eqb}
use Rattle.common.specs.Keep.{keep_of}
use Rattle.common.specs.Stands.{stands_in, Once}
use Rattle.common.proofs.Cases.{by_test, never_both}
use Rattle.common.proofs.Once.{stands_cases, stands_part, stands_no_part}
use Rattle.semaphores.specs.declared.queues.Waiter.{Waiter}
use Rattle.semaphores.specs.declared.Semaphores.{Semaphores}
use Rattle.semaphores.specs.Queues.{list_of, waits_for, levels_for}
use Rattle.semaphores.specs.Semaphores.{released_in, after_release, usable_of, free, waiters_of, holds_of, release_of, woken_of, woken_from}
use Rattle.semaphores.specs.Turns.{waiting_of, Orderly}
use Rattle.semaphores.proofs.Effects.{Turn, release_held, release_not_held, passed_own}
use Rattle.semaphores.proofs.Numbers.{usable_below, holds_usable}
use Rattle.semaphores.proofs.Orderly.{waiters_once, release_orderly}
use Rattle.semaphores.proofs.Turns.{release_other}
use Rattle.semaphores.proofs.Waiting.{levels_part}
use Rattle.semaphores.proofs.Waking.{release_wakes, release_wakes_none}

-- ---- the first of a list, and the others

module _ (level : ℕ) where
  -- a level stands in two lists together where it stands in the one or in the other
  stands_append : (l m : List ℕ) → stands_in level (l ++ m) ≡ stands_in level l || stands_in level m
  unfolding stands_in
  stands_append [] m = refl
  stands_append (x ∷ l) m = by_test (eqb x level) (λ e. rw e) (λ e. rw e (stands_append l m))

  -- who does not stand in a list is not its first
  pub first_none : (l : List ℕ) → stands_in level l ≡ false → stands_in level (take 1 l) ≡ false
  unfolding stands_in
  first_none [] none = refl
  first_none (x ∷ l) none = by_test (eqb x level) (λ e. absurd (never_both refl (rw e at none))) (λ e. rw e)

  -- one of the twelve is the first where it is what stands there
  pub first_is : (l : List ℕ) → level < 12 → eqb (get_or l 0 free) level ≡ stands_in level (take 1 l)
  unfolding stands_in
  first_is [] less = ne_eqb free level (λ e. omega arith)
  first_is (x ∷ l) less = by_test (eqb x level) (λ e. rw e) (λ e. rw e)

  -- and behind the first stand all that are not the first, where each stands once
  pub rest_is : (l : List ℕ) → Once l → stands_in level l && not (stands_in level (take 1 l)) ≡ stands_in level (drop 1 l)
  unfolding stands_in Once
  rest_is [] once = refl
  rest_is (x ∷ l) once =
      by_test (eqb x level)
      (λ e. let here : x ≡ level = eqb-true _ _ e in rw e (sym (rw here at once.0)))
      (λ e. rw e (and-true (stands_in level l)))

-- ---- who waits for one number

-- where each level waits once, who waits for a number waits for no other
listed_apart : (level number other : ℕ) → (number ≡ other → ⊥) → (l : List Waiter) → Once (map (λ w. w.level) l)
    → stands_in level (levels_for number l) ≡ true → stands_in level (levels_for other l) ≡ false
unfolding levels_for keep_of stands_in Once
listed_apart level number other differs [] once stands = refl
listed_apart level number other differs (w ∷ l) once stands =
    by_test (waits_for number w)
    (λ own. let not_other : waits_for other w ≡ false = ne_eqb _ _ (λ e. differs (sym (eqb-true _ _ own) ∙ e)) in
    rw not_other
    (stands_cases level w.level (levels_for number l) (rw own at stands)
    (λ here. stands_no_part level (levels_part other l) (rw here at once.0))
    (λ later. listed_apart level number other differs l once.1 later)))
    (λ else. let later : stands_in level (levels_for number l) ≡ true = rw else at stands in
    by_test (waits_for other w)
    (λ e. by_test (eqb w.level level)
    (λ same. let here : w.level ≡ level = eqb-true _ _ same in
    absurd (never_both (stands_part level (levels_part number l) later) (rw here at once.0)))
    (λ there. rw (e, there) (listed_apart level number other differs l once.1 later)))
    (λ e. rw e (listed_apart level number other differs l once.1 later)))

-- and so it is in semaphores that stand orderly
pub waits_apart : (level number other : ℕ) → (number ≡ other → ⊥) → (s : Semaphores) → Orderly s
    → stands_in level (waiters_of s number) ≡ true → stands_in level (waiters_of s other) ≡ false
unfolding waiters_of waiting_of
waits_apart level number other differs s orderly stands = listed_apart level number other differs (list_of s.queue) orderly.once stands

-- ---- whom releases wake among those that wait for a number

module _ (by number level : ℕ) where
  -- the release of another number wakes none of them
  other_wakes : (other : ℕ) (s : Semaphores) → Orderly s → (other ≡ number → ⊥) → stands_in level (waiters_of s number) ≡ true
      → stands_in level (woken_of (released_in (release_of s by other))) ≡ false
  unfolding stands_in
  other_wakes other s orderly differs waits =
      by_test (holds_of s by other)
      (λ holds. rw (release_wakes s by other holds)
      (first_none level (waiters_of s other) (waits_apart level number other (λ e. differs (sym e)) s orderly waits)))
      (λ fails. rw (release_wakes_none s by other fails))

  -- nor do the releases of many others
  others_wake : (many from : ℕ) (s : Semaphores) → Orderly s → ((other : ℕ) → from ≤ other → other < from + many → other ≡ number → ⊥)
      → stands_in level (waiters_of s number) ≡ true → stands_in level (woken_from many from by s) ≡ false
  unfolding woken_from stands_in
  others_wake zero from s orderly others waits = refl
  others_wake (suc many) from s orderly others waits =
      let after : Semaphores = after_release s (release_of s by from) in
      let differs : from ≡ number → ⊥ = others from (omega arith) (omega arith) in
      let same : Turn false number s after = release_other by number from s orderly differs in
      rw (stands_append level (woken_of (released_in (release_of s by from))) (woken_from many (suc from) by after), other_wakes from s orderly differs waits)
      (others_wake many (suc from) after (release_orderly s by from orderly) (λ other above below. others other (omega arith) (omega arith))
      (rw same.queue waits))

  -- the release of the number, and of others behind it, wakes its first, if who releases holds it
  here_wakes : (many : ℕ) (s : Semaphores) → Orderly s → stands_in level (waiters_of s number) ≡ true
      → stands_in level (woken_from (suc many) number by s) ≡ holds_of s by number && stands_in level (take 1 (waiters_of s number))
  unfolding woken_from stands_in
  here_wakes many s orderly waits =
      let after : Semaphores = after_release s (release_of s by number) in
      let behind : (other : ℕ) → suc number ≤ other → other < suc number + many → other ≡ number → ⊥ = (λ other above below same. omega arith) in
      rw (stands_append level (woken_of (released_in (release_of s by number))) (woken_from many (suc number) by after))
      (by_test (holds_of s by number)
      (λ holds. rw (release_wakes s by number holds, holds)
      (by_test (stands_in level (take 1 (waiters_of s number)))
      (λ first. rw first)
      (λ later.
      let turn : Turn true number s after =
      passed_own (omega (arith, usable_below number (holds_usable s by number holds), orderly.numbers)) (release_held s by number orderly holds) in
      let still : stands_in level (drop 1 (waiters_of s number)) ≡ true =
      sym (rest_is level (waiters_of s number) (waiters_once s orderly number)) ∙ rw (waits, later) in
      rw later (others_wake many (suc number) after (release_orderly s by number orderly) behind (rw turn.queue still)))))
      (λ fails. rw (release_wakes_none s by number fails, release_not_held s by number fails, fails) (others_wake many (suc number) s orderly behind waits)))

  -- and so do the releases of many numbers, the number among them
  own_wakes : (many from : ℕ) (s : Semaphores) → Orderly s → from ≤ number → number < from + many → stands_in level (waiters_of s number) ≡ true
      → stands_in level (woken_from many from by s) ≡ holds_of s by number && stands_in level (take 1 (waiters_of s number))
  unfolding woken_from holds_of
  own_wakes zero from s orderly above below waits = absurd (omega arith)
  own_wakes (suc many) from s orderly above below waits =
      let after : Semaphores = after_release s (release_of s by from) in
      by_test (eqb from number)
      (λ e. let here : from ≡ number = eqb-true _ _ e in rw here (here_wakes many s orderly waits))
      (λ e. let differs : from ≡ number → ⊥ = eqb-false _ _ e in
      let same : Turn false number s after = release_other by number from s orderly differs in
      let later : stands_in level (woken_from many (suc from) by after) ≡ holds_of after by number && stands_in level (take 1 (waiters_of after number)) =
      own_wakes many (suc from) after (release_orderly s by from orderly) (omega arith) (omega arith) (rw same.queue waits) in
      rw (stands_append level (woken_of (released_in (release_of s by from))) (woken_from many (suc from) by after), other_wakes from s orderly differs waits)
      (rw (same.holder, same.queue) at later))

  -- who waits for a usable number wakes with a release of all exactly where who releases holds the number, and it is the first
  pub all_wakes : (s : Semaphores) → Orderly s → usable_of number ≡ true → stands_in level (waiters_of s number) ≡ true
      → stands_in level (woken_from 96 0 by s) ≡ holds_of s by number && stands_in level (take 1 (waiters_of s number))
  all_wakes s orderly usable waits = own_wakes 96 0 s orderly (omega arith) (usable_below number usable) waits

-- ---- what becomes of a number

module _ (by number : ℕ) where
  -- the release of one number by its holder turns the queue of that number, and of no other
  pub one_turn : (given : ℕ) (s : Semaphores) → Orderly s → holds_of s by given ≡ true → Turn (eqb given number) number s (after_release s (release_of s by given))
  one_turn given s orderly holds =
      by_test (eqb given number)
      (λ e. let here : given ≡ number = eqb-true _ _ e in
      rw (e, ← here) (passed_own (omega (arith, usable_below given (holds_usable s by given holds), orderly.numbers)) (release_held s by given orderly holds)))
      (λ e. rw e (release_other by number given s orderly (eqb-false _ _ e)))
