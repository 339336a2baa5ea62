-- What is seen of a semaphore from outside is what stands in the table, so there are never two holders. Assumes nothing.
use mathlib.Core.Path.{◌≡◌, ◌∙◌, refl, sym}
use mathlib.Core.Bool.{Bool, true, false, not, ◌&&◌, ◌||◌, and-true, and-false, or-false}
use mathlib.Core.List.{List, [], ◌∷◌}
use Prim.Native.Nat.{ℕ, ◌<◌, ◌≤◌}
use native.Mathlib.Omega.{arith}
use lib.Dec.{eqb, ltb}
use lib.ListN.{take, get_or-replicate}
use borrow.Author.Tests.{eqb-true, ne_eqb, ltb-true, ltb-false}
use Rattle.common.specs.Stands.{stands_in}
use Rattle.common.proofs.Cases.{by_test, never_both}
use Rattle.semaphores.specs.declared.Semaphores.{Semaphores}
use Rattle.semaphores.specs.Semaphores.{usable_of, free, fresh_of as fresh_semaphores, holder_of, waiters_of}
use Rattle.semaphores.specs.Turns.{Orderly}
use Rattle.semaphores.proofs.Effects.{Turn}
use Rattle.semaphores.proofs.Numbers.{usable_below}
use Rattle.semaphores.proofs.Orderly.{fresh_orderly, requester_level, waiters_once}
use Rattle.table.specs.declared.Table.{Table}
use Rattle.table.specs.Table.{fresh_of}
use Rattle.calls.proofs.Keeping.{Steady}
use Rattle.rtms.specs.Calls.{Call}
use Rattle.runs.specs.Runs.{leaves, after_of, seen_as, seen_of}
use Rattle.runs.specs.Sight.{Act, asks_for, gives_back, Sight, unseen, sight_after, sight_of, AsSeen, HeldAsSeen, NeverTwoHolders}
use Rattle.runs.proofs.Acting.{step_deed}
use Rattle.runs.proofs.Asking.{request_holds, request_waits}
use Rattle.runs.proofs.Handing.{first_is, rest_is}
use Rattle.runs.proofs.Seeing.{Way, turned, requested, way_of}
use Rattle.runs.proofs.Steady.{fresh_steady, step_steady}

-- ---- a number that is released, or not

module _ (number : ℕ) (s then : Semaphores) (orderly : Orderly s) (level : ℕ) where
  -- its first waiter holds it after a release, and else its holder
  turn_holds : (released : Bool) → Turn released number s then → level < 12
      → (released && stands_in level (take 1 (waiters_of s number))) || (eqb (holder_of s number) level && not released) ≡ eqb (holder_of then number) level
  turn_holds true turn less =
      rw (turn.holder, and-false (eqb (holder_of s number) level), or-false (stands_in level (take 1 (waiters_of s number))))
      (sym (first_is level (waiters_of s number) less))
  turn_holds false turn less = rw turn.holder (and-true (eqb (holder_of s number) level))

  -- the others wait on
  turn_waits : (released : Bool) → Turn released number s then
      → stands_in level (waiters_of s number) && not (released && stands_in level (take 1 (waiters_of s number))) ≡ stands_in level (waiters_of then number)
  turn_waits true turn = rw turn.queue (rest_is level (waiters_of s number) (waiters_once s orderly number))
  turn_waits false turn = rw turn.queue (and-true (stands_in level (waiters_of s number)))

-- of two tests, the first without the second is the first without both
without_both : (a b : Bool) → a && not b ≡ a && not (a && b)
without_both true b = refl
without_both false b = refl

-- ---- what is seen after a step

-- who holds a number, and who waits for it, by what was seen before and what is seen of the step
abbrev holds_after : ℕ → ℕ → Act → ℕ → List ℕ → Bool → Bool → Bool
holds_after number level act answer handed waits holds =
    (asks_for number level act && eqb answer 0) || (waits && stands_in level handed) || (holds && not (gives_back number level act && eqb answer 0))

abbrev waits_after : ℕ → ℕ → Act → ℕ → List ℕ → Bool → Bool
waits_after number level act answer handed waits = (asks_for number level act && eqb answer 32) || (waits && not (stands_in level handed))

module _ (number : ℕ) (s : Semaphores) (orderly : Orderly s) {act : Act} {answer : ℕ} {handed : List ℕ} {then : Semaphores} where
  -- one of the twelve is seen to hold the number where it is the holder
  way_holds : Way number act answer handed s then → (level : ℕ) → level < 12
      → holds_after number level act answer handed (stands_in level (waiters_of s number)) (eqb (holder_of s number) level) ≡ eqb (holder_of then number) level
  unfolding stands_in
  way_holds (turned t) level less =
      rw ((t.no_request level).0, t.wakes level, t.gone level) (turn_holds number s then orderly level t.released t.turn less)
  way_holds (requested caller asked may act-is answer-is handed-is then_is) level less =
      rw (act-is, answer-is, handed-is, then_is) (request_holds number s orderly caller asked level less)

  -- and to wait for it where it stands in its queue
  way_waits : Way number act answer handed s then → (level : ℕ)
      → waits_after number level act answer handed (stands_in level (waiters_of s number)) ≡ stands_in level (waiters_of then number)
  unfolding stands_in
  way_waits (turned t) level =
      rw ((t.no_request level).1, without_both (stands_in level (waiters_of s number)) (stands_in level handed), t.wakes level)
      (turn_waits number s then orderly level t.released t.turn)
  way_waits (requested caller asked may act-is answer-is handed-is then_is) level =
      rw (act-is, answer-is, handed-is, then_is) (request_waits number s orderly caller asked level may)

  -- nobody else is seen to do either
  way_else : Way number act answer handed s then → (level : ℕ) → 12 ≤ level
      → (holds_after number level act answer handed false false ≡ false) × (waits_after number level act answer handed false ≡ false)
  way_else (turned t) level high = (rw (t.no_request level).0, rw (t.no_request level).1)
  way_else (requested caller asked may act-is answer-is handed-is then_is) level high =
      let less : caller < 12 = requester_level s caller may in
      let other : eqb caller level ≡ false = ne_eqb caller level (λ same. omega arith) in
      (rw (act-is, other), rw (act-is, other))

-- ---- over any steps

module _ (number : ℕ) (usable : usable_of number ≡ true) where
  -- what is seen after a step of a steady table is what stands in the table that it leaves
  pub step_seen : (call : Call) (t : Table) (sight : Sight) → Steady t → AsSeen number sight t.semaphores
      → AsSeen number (sight_after number (seen_as call t) sight) (leaves call t).semaphores
  unfolding sight_after
  step_seen call t sight steady seen =
      let way = way_of number usable t.semaphores steady.orderly (step_deed call t steady) in
      record {
        holds = λ level less. rw (seen.holds level less, seen.waits level less) (way_holds number t.semaphores steady.orderly way level less);
        waits = λ level less. rw (seen.waits level less) (way_waits number t.semaphores steady.orderly way level);
        none_else = λ level high. rw ((seen.none_else level high).0, (seen.none_else level high).1)
            (way_else number t.semaphores steady.orderly way level high);
      }

  -- and so after any steps
  pub steps_seen : (steps : List Call) (t : Table) (sight : Sight) → Steady t → AsSeen number sight t.semaphores
      → AsSeen number (sight_of number (seen_of steps t) sight) (after_of steps t).semaphores
  unfolding sight_of seen_of after_of
  steps_seen [] t sight steady seen = seen
  steps_seen (call ∷ steps) t sight steady seen =
      steps_seen steps (leaves call t) (sight_after number (seen_as call t) sight) (step_steady call t steady) (step_seen call t sight steady seen)

  -- in fresh semaphores the number is free
  fresh_free : holder_of fresh_semaphores number ≡ free
  unfolding holder_of fresh_semaphores
  fresh_free = get_or-replicate 96 number free 0 (usable_below number usable)

  -- so nobody is seen to hold it, or to wait
  fresh_seen : AsSeen number unseen fresh_semaphores
  fresh_seen = record {
    holds = λ level less. rw fresh_free (sym (ne_eqb free level (λ same. omega arith)));
    waits = λ level less. by_test (stands_in level (waiters_of fresh_semaphores number))
        (λ stands. absurd ((fresh_orderly.held number level stands).1 fresh_free))
        (λ none. sym none);
    none_else = λ level high. (refl, refl);
  }

-- what is seen of a semaphore is what stands in the table
pub held_as_seen : HeldAsSeen
unfolding fresh_of
held_as_seen c good steps number usable = steps_seen number usable steps (fresh_of c) unseen (fresh_steady c good) (fresh_seen number usable)

-- who is seen to hold a semaphore is its holder
seen_holder : (number : ℕ) (sight : Sight) (s : Semaphores) → AsSeen number sight s → (level : ℕ) → sight.holds level ≡ true → holder_of s number ≡ level
seen_holder number sight s seen level holds =
    by_test (ltb level 12)
    (λ e. eqb-true _ _ (sym (seen.holds level (ltb-true _ _ e)) ∙ holds))
    (λ e. absurd (never_both holds (seen.none_else level (ltb-false _ _ e)).0))

-- there are never two holders
pub never_two_holders : NeverTwoHolders
never_two_holders c good steps number usable level other holds also =
    let seen = held_as_seen c good steps number usable in
    sym (seen_holder number _ _ seen level holds) ∙ seen_holder number _ _ seen other also
