-- What 37 tells of a semaphore is what is seen of it from outside. Assumes nothing.
use mathlib.Core.Path.{◌≡◌, ◌∙◌, refl, sym, ap, subst}
use mathlib.Core.Bool.{true, false, ◌||◌}
use mathlib.Core.Logic.{◌⊎◌, inl, inr}
use Prim.Native.Nat.{ℕ, ◌<◌}
use native.Mathlib.Omega.{arith}
use lib.Dec.{eqb, ltb}
use lib.ListN.{get_or}
use borrow.Author.Tests.{eqb-true, eq-eqb, ne_eqb, ltb-true, ltb-false}
use Rattle.common.specs.Choice.{pick}
use Rattle.common.proofs.Cases.{by_test}
use Rattle.common.proofs.Every.{every_below_lem}
use Rattle.semaphores.specs.declared.Semaphores.{Semaphores}
use Rattle.semaphores.specs.Semaphores.{released_in, usable_of, free, holder_of, holds_of, not_held_of, release_of as releases_of, released_number}
use Rattle.semaphores.proofs.Numbers.{usable_below}
use Rattle.table.specs.declared.Table.{Table}
use Rattle.table.specs.Answers.{number_of}
use Rattle.table.specs.Configuration.{configured_of}
use Rattle.table.specs.Sound.{holder_sound, holders_sound}
use Rattle.table.specs.Words.{minus_one}
use Rattle.table.proofs.Configured.{configured_level}
use Rattle.calls.specs.Effects.{Effect}
use Rattle.calls.proofs.Keeping.{Steady}
use Rattle.holding.specs.Holding.{release_of}
use Rattle.rtms.specs.Calls.{RELSEMA}
use Rattle.rtms.specs.Refusals.{TellsHolder}
use Rattle.rtms.proofs.Refusing.{told_holder}
use Rattle.runs.specs.Runs.{run_of}
use Rattle.runs.specs.Sight.{Sight, AsSeen, sight_at, ToldAsSeen, ReleasedAsSeen}
use Rattle.runs.proofs.Acting.{by_caller_lem, gave_answer}
use Rattle.runs.proofs.Seeing.{held_number}
use Rattle.runs.proofs.Sights.{held_as_seen}
use Rattle.runs.proofs.Steady.{steady_done, run_steady}

-- in a steady table a usable number is free, or one of the twelve holds it
holder_known : (t : Table) → Steady t → (number : ℕ) → usable_of number ≡ true → (holder_of t.semaphores number ≡ free) ⊎ (holder_of t.semaphores number < 12)
unfolding holder_of holders_sound holder_sound
holder_known t steady number usable =
    let holder : ℕ = get_or t.semaphores.holders number 0 in
    let sound : eqb holder free || configured_of t.config holder ≡ true =
    every_below_lem 96 (λ i. holder_sound t.config (get_or t.semaphores.holders i 0)) steady.parts.holders number (usable_below number usable) in
    by_test (eqb holder free)
    (λ is. inl (eqb-true holder free is))
    (λ other. inr (omega (arith, configured_level t.config holder (rw other at sound))))

module _ {number : ℕ} {sight : Sight} {s : Semaphores} (seen : AsSeen number sight s) where
  -- who does not hold a number is not seen to
  not_seen : (level : ℕ) → (holder_of s number ≡ level → ⊥) → sight.holds level ≡ false
  not_seen level other =
      by_test (ltb level 12)
      (λ less. seen.holds level (ltb-true level 12 less) ∙ ne_eqb (holder_of s number) level other)
      (λ high. (seen.none_else level (ltb-false level 12 high)).0)

  -- the holder is seen to hold it, and nobody is where it is free
  holder_seen : (holder_of s number ≡ free) ⊎ (holder_of s number < 12)
      → (sight.holds (holder_of s number) ≡ true) ⊎ ((holder_of s number ≡ free) × ((level : ℕ) → sight.holds level ≡ false))
  holder_seen (inl is_free) =
      inr (
        is_free,
        λ level. by_test (ltb level 12)
            (λ less. not_seen level (λ same. let near : level < 12 = ltb-true level 12 less in omega arith))
            (λ high. (seen.none_else level (ltb-false level 12 high)).0),
      )
  holder_seen (inr less) = inl (seen.holds (holder_of s number) less ∙ eq-eqb (holder_of s number) (holder_of s number) refl)

-- what 37 tells is the holder as it is seen from outside
pub told_as_seen : ToldAsSeen
told_as_seen c good steps call answered =
    let t : Table = run_of c steps in
    let tells : TellsHolder call t = told_holder call t answered in
    let seen : AsSeen tells.number (sight_at c steps tells.number) t.semaphores = held_as_seen c good steps tells.number tells.usable in
    record {
      caller = tells.caller;
      number = tells.number;
      is_relsema = tells.is_relsema;
      usable = tells.usable;
      not_its_own = not_seen seen tells.caller tells.not_its_own;
      told = holder_of t.semaphores tells.number;
      carries = ap (λ (e : Effect). e.carried) tells.exactly;
      as_seen = holder_seen seen (holder_known t (run_steady c good steps) tells.number tells.usable);
    }

-- ---- what a release is answered

-- of a usable number, by its holder and by another
module _ (s : Semaphores) (caller number : ℕ) (usable : usable_of number ≡ true) where
  release_number : released_number (released_in (releases_of s caller number)) ≡ pick (eqb (holder_of s number) caller) 0 37
  unfolding holds_of
  release_number =
      by_test (eqb (holder_of s number) caller)
      (λ own. rw own (held_number s caller number (rw (usable, own))))
      (λ other. unfold releases_of not_held_of in rw (usable, other))

-- an effect that is not refused with 10 or 33 is answered 0 or 37, as the caller is seen to hold the number or not
abbrev Answered : ℕ → Sight → Effect → Type 0
Answered caller sight e = (number_of e.answer ≡ 10 → ⊥) → (number_of e.answer ≡ 33 → ⊥) → number_of e.answer ≡ pick (sight.holds caller) 0 37

-- so is a release of one usable number
pub released_as_seen : ReleasedAsSeen
unfolding release_of
released_as_seen c good steps caller number usable =
    let t : Table = run_of c steps in
    let sight : Sight = sight_at c steps number in
    let seen : AsSeen number sight t.semaphores = held_as_seen c good steps number usable in
    let one : eqb number minus_one ≡ false = ne_eqb number minus_one (λ all. omega (arith, usable_below number usable)) in
    subst (Answered caller sight)
    (sym (steady_done (RELSEMA caller number) t (run_steady c good steps)))
    (by_caller_lem (Answered caller sight) t caller _
    (λ not_10 not_33. absurd (not_10 refl))
    (λ not_10 not_33. absurd (not_33 refl))
    (λ configured ready not_10 not_33.
    rw (one, seen.holds caller (omega (arith, configured_level t.config caller configured)))
    (gave_answer t caller number ∙ release_number t.semaphores caller number usable)))
