-- The loop that releases all that a level holds. Assumes nothing.
use mathlib.Core.Path.{◌≡◌, refl}
use mathlib.Core.Bool.{false}
use Prim.Native.Nat.{ℕ, suc}
use lib.Dec.{eqb}
use Rattle.common.specs.Fold.{fold_of}
use Rattle.semaphores.specs.declared.Semaphores.{Semaphores}
use Rattle.semaphores.specs.declared.ReleaseAll.{ReleaseAll}
use Rattle.semaphores.specs.Queues.{with_of, none_of}
use Rattle.semaphores.specs.Semaphores.{released_in, usable_of, holder_of, holds_of, woken_of, not_held_of, release_of, also_of, released_from, woken_from, release_all_of}
use Rattle.common.proofs.Cases.{by_test}
use Rattle.common.proofs.Fold.{fold_append}
use Rattle.semaphores.proofs.Waiting.{with_list}

-- a number that the level does not hold makes no difference
pub also_passed : (all : ReleaseAll) (level number : ℕ) → eqb (holder_of all.semaphores number) level ≡ false → also_of all level number ≡ all
unfolding also_of release_of not_held_of holds_of
also_passed all level number other = by_test (usable_of number) (λ usable. rw (usable, other)) (λ not_usable. rw not_usable)

-- where a release of all ends that has so many numbers left, from a first one on
unfoldable pub finished_of : ℕ → ℕ → ℕ → ReleaseAll → ReleaseAll
finished_of many number level all =
    record {
      woken = fold_of with_of all.woken (woken_from many number level all.semaphores);
      semaphores = released_from many number level all.semaphores;
    }

-- with none left it is at its end
pub finished_none : (number level : ℕ) (all : ReleaseAll) → finished_of 0 number level all ≡ all
unfolding finished_of woken_from released_from
finished_none number level all = refl

-- one turn of the loop leaves one number less
pub finished_turn : (many number level : ℕ) (all : ReleaseAll) → finished_of (suc many) number level all ≡ finished_of many (suc number) level (also_of all level number)
unfolding finished_of also_of woken_from released_from
finished_turn many number level all = rw (fold_append with_of all.woken (woken_of (released_in (release_of all.semaphores level number))))

-- with all of them left, and nobody woken yet, it is the release of all
pub finished_all : (level : ℕ) (s : Semaphores) → finished_of 96 0 level (record { woken = none_of; semaphores = s }) ≡ release_all_of s level
unfolding finished_of release_all_of
finished_all level s = rw with_list
