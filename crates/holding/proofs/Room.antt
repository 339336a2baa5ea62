-- Whom a release of all wakes are all listed. Assumes nothing.
use mathlib.Core.Path.{◌≡◌}
use mathlib.Core.List.{List}
use Prim.Native.Nat.{ℕ, ◌≤◌}
use lib.ListN.{length}
use Rattle.common.proofs.Filling.{standing_filled}
use Rattle.semaphores.specs.declared.Semaphores.{Semaphores}
use Rattle.semaphores.specs.Queues.{levelled}
use Rattle.semaphores.specs.Semaphores.{woken_from}
use Rattle.semaphores.proofs.Waking.{all_woken}
use Rattle.holding.specs.Holding.{listed_of}

-- twelve levels at most are found again in their places
listed_levelled : (l : List ℕ) → length l ≤ 12 → listed_of (levelled l) ≡ l
listed_levelled l fits = standing_filled 12 0 l fits

-- so all that wake are listed
pub all_listed : (level : ℕ) (s : Semaphores) → listed_of (levelled (woken_from 96 0 level s)) ≡ woken_from 96 0 level s
all_listed level s = listed_levelled (woken_from 96 0 level s) (all_woken level s)
