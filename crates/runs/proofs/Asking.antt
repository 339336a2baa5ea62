-- How a request changes what is seen of a semaphore. Assumes nothing.
use mathlib.Core.Path.{◌≡◌, ◌∙◌, refl, sym}
use mathlib.Core.Bool.{Bool, true, false, ◌&&◌, ◌||◌, and-true, and-false, or-false}
use mathlib.Core.List.{append-nil}
use Prim.Native.Nat.{ℕ, ◌<◌}
use native.Mathlib.Omega.{arith}
use lib.Dec.{eqb}
use lib.Seq.{get_or-set_same, get_or-set_other}
use borrow.Author.Tests.{eqb-true, eqb-false, ne_eqb}
use Rattle.common.specs.Stands.{stands_in}
use Rattle.common.proofs.Cases.{by_test}
use Rattle.common.proofs.Once.{stands_behind}
use Rattle.semaphores.specs.declared.Semaphores.{Semaphores}
use Rattle.semaphores.specs.Semaphores.{requested_in, after_request, usable_of, free, holder_of, waiters_of, held_by, requested_number, request_of}
use Rattle.semaphores.specs.Turns.{may_request, Orderly}
use Rattle.semaphores.proofs.Effects.{by_request}
use Rattle.semaphores.proofs.Numbers.{usable_below}
use Rattle.semaphores.proofs.Orderly.{joined, joined_waiters}

-- ---- tests together

-- a test that fails adds nothing to two others
holds_same : (a w h : Bool) → (a && false) || (w && false) || (h && true) ≡ h
holds_same a w h = rw (and-false a, and-false w, and-true h)

-- and one that may hold adds itself
holds_also : (a w h : Bool) → (a && true) || (w && false) || (h && true) ≡ a || h
holds_also a w h = rw (and-true a, and-false w, and-true h, or-false a)

-- the same of one other
waits_same : (a w : Bool) → (a && false) || (w && true) ≡ w
waits_same a w = rw (and-false a, and-true w)

-- ---- the ways of a request

module _ (number : ℕ) (s : Semaphores) (caller asked : ℕ) where
  -- who takes a number holds it
  held_here : Orderly s → usable_of asked ≡ true → asked ≡ number → holder_of (held_by s asked caller) number ≡ caller
  unfolding holder_of
  held_here orderly usable here =
      let within : asked < 96 = usable_below asked usable in rw (← here) (get_or-set_same s.holders asked caller 0 (omega (arith, orderly.numbers)))

  -- and every other number has the holder that it had
  held_other : (asked ≡ number → ⊥) → holder_of (held_by s asked caller) number ≡ holder_of s number
  unfolding holder_of
  held_other differs = get_or-set_other s.holders asked number caller 0 (λ same. differs (sym same))

  -- who waits for it waits on
  held_waiters : waiters_of (held_by s asked caller) number ≡ waiters_of s number
  unfolding waiters_of
  held_waiters = refl

  -- who joins a queue gives no number another holder
  joined_holder : holder_of (joined s caller asked) number ≡ holder_of s number
  unfolding holder_of
  joined_holder = refl

module _ (number : ℕ) (s : Semaphores) (orderly : Orderly s) (caller asked : ℕ) (level : ℕ) where
  -- a number that was free is the caller's
  taken_holds : level < 12 → usable_of asked ≡ true → holder_of s asked ≡ free
      → (eqb caller level && eqb asked number) || eqb (holder_of s number) level ≡ eqb (holder_of (held_by s asked caller) number) level
  taken_holds less usable was_free =
      by_test (eqb asked number)
      (λ e. let here : asked ≡ number = eqb-true _ _ e in
      let old : eqb (holder_of s number) level ≡ false = rw (← here, was_free) (ne_eqb free level (λ same. omega arith)) in
      rw (e, held_here number s caller asked orderly usable here, old) (rw (and-true (eqb caller level)) (or-false (eqb caller level))))
      (λ e. rw (e, held_other number s caller asked (eqb-false _ _ e), and-false (eqb caller level)))

  -- one that was its own stays its own
  own_holds : holder_of s asked ≡ caller → (eqb caller level && eqb asked number) || eqb (holder_of s number) level ≡ eqb (holder_of s number) level
  own_holds own =
      by_test (eqb asked number)
      (λ e. let here : asked ≡ number = eqb-true _ _ e in
      let holder : holder_of s number ≡ caller = rw here at own in
      rw (e, holder) (by_test (eqb caller level) (λ f. rw f) (λ f. rw f)))
      (λ e. rw (e, and-false (eqb caller level)))

  -- who has to wait stands in the queue of its number
  joined_stands : may_request s caller ≡ true
      → ((eqb caller level && eqb asked number) && true) || (stands_in level (waiters_of s number) && true) ≡ stands_in level (waiters_of (joined s caller asked) number)
  joined_stands may =
      rw (joined_waiters s caller asked orderly may number)
      (by_test (eqb asked number)
      (λ e. rw (e, stands_behind level caller (waiters_of s number))
      (by_test (stands_in level (waiters_of s number))
      (λ w. rw w (by_test (eqb caller level) (λ f. rw f) (λ f. rw f)))
      (λ w. rw w (by_test (eqb caller level) (λ f. rw f) (λ f. rw f)))))
      (λ e. rw (e, append-nil (waiters_of s number), and-false (eqb caller level), and-true (stands_in level (waiters_of s number)))))

  -- who holds a number after a request: who held it, or the caller, if it asked for it and is answered 0
  pub request_holds : level < 12
      → ((eqb caller level && eqb asked number) && eqb (requested_number (requested_in (request_of s caller asked))) 0)
      || (stands_in level (waiters_of s number) && false)
      || (eqb (holder_of s number) level && true)
      ≡ eqb (holder_of (after_request s (request_of s caller asked)) number) level
  request_holds less =
      let asks : Bool = eqb caller level && eqb asked number in
      let waits : Bool = stands_in level (waiters_of s number) in
      let holds : Bool = eqb (holder_of s number) level in
      by_request
      (λ request. ((eqb caller level && eqb asked number) && eqb (requested_number (requested_in request)) 0)
      || (stands_in level (waiters_of s number) && false)
      || (eqb (holder_of s number) level && true)
      ≡ eqb (holder_of (after_request s request) number) level)
      s caller asked
      (λ unusable. holds_same asks waits holds)
      (λ usable was_free. holds_also asks waits holds ∙ taken_holds less usable was_free)
      (λ usable own. holds_also asks waits holds ∙ own_holds own)
      (λ usable not_free not_own. rw (joined_holder number s caller asked) (holds_same asks waits holds))

  -- who waits for a number after a request: who waited for it, and the caller, if it asked for it and is answered 32
  pub request_waits : may_request s caller ≡ true
      → ((eqb caller level && eqb asked number) && eqb (requested_number (requested_in (request_of s caller asked))) 32) || (stands_in level (waiters_of s number) && true)
      ≡ stands_in level (waiters_of (after_request s (request_of s caller asked)) number)
  request_waits may =
      let asks : Bool = eqb caller level && eqb asked number in
      let waits : Bool = stands_in level (waiters_of s number) in
      by_request
      (λ request. ((eqb caller level && eqb asked number) && eqb (requested_number (requested_in request)) 32) || (stands_in level (waiters_of s number) && true)
      ≡ stands_in level (waiters_of (after_request s request) number))
      s caller asked
      (λ unusable. waits_same asks waits)
      (λ usable was_free. rw (held_waiters number s caller asked) (waits_same asks waits))
      (λ usable own. waits_same asks waits)
      (λ usable not_free not_own. joined_stands may)
