-- Demand 3 at the level of the semaphores: "A process that begins to wait for a semaphore with k-1 waiters before it becomes the holder at
-- the k-th release of that semaphore after that, and not earlier; there are never two holders." What happens is any sequence of requests and
-- releases; a request by a level that waits already, or by none of the twelve, is refused before it comes here, and so is no step.
use Rattle.std.specs.Prelude.{◌≡◌, Bool, true, false, not, Result, Ok, Err, List, [], ◌∷◌, ◌++◌, map, ℕ, ◌+◌, ◌-◌, ◌<◌, ◌≤◌, eqb, ltb, length, get_or, drop}
use Rattle.common.specs.Choice.{pick}
use Rattle.common.specs.Stands.{stands_in, Once}
use Rattle.semaphores.specs.declared.Semaphores.{Semaphores}
use Rattle.semaphores.specs.declared.Unusable.{Unusable}
use Rattle.semaphores.specs.declared.Requested.{Requested}
use Rattle.semaphores.specs.declared.Requested.TheVariants.{Held, Waits}
use Rattle.semaphores.specs.Queues.{list_of}
use Rattle.semaphores.specs.Semaphores.{requested_in, after_request, after_release, usable_of, free, holder_of, holds_of, waiters_of, request_of, release_of, released_from}

-- the levels that wait, for whichever number
unfoldable pub waiting_of : Semaphores → List ℕ
waiting_of s = map (λ w. w.level) (list_of s.queue)

pub data Step : Type 0 where
  requests : ℕ → ℕ → Step
  releases : ℕ → ℕ → Step
  releases_all : ℕ → Step

-- one of the twelve levels, and it does not wait
unfoldable pub may_request : Semaphores → ℕ → Bool
may_request s level = pick (ltb level 12) (not (stands_in level (waiting_of s))) false

-- the semaphores after a step, and after a sequence of steps
unfoldable pub step_of : Step → Semaphores → Semaphores
step_of (requests level number) s = pick (may_request s level) (after_request s (request_of s level number)) s
step_of (releases level number) s = after_release s (release_of s level number)
step_of (releases_all level) s = released_from 96 0 level s

unfoldable pub after_of : List Step → Semaphores → Semaphores
after_of [] s = s
after_of (x ∷ steps) s = after_of steps (step_of x s)

-- whether a step releases a number: its holder says so, or releases all that it holds
unfoldable pub releases_number : ℕ → Step → Semaphores → Bool
releases_number number (requests level other) s = false
releases_number number (releases level other) s = pick (eqb other number) (holds_of s level number) false
releases_number number (releases_all level) s = holds_of s level number

-- how often a sequence of steps releases a number
unfoldable pub releases_of : ℕ → List Step → Semaphores → ℕ
releases_of number [] s = 0
releases_of number (x ∷ steps) s = pick (releases_number number x s) 1 0 + releases_of number steps (step_of x s)

-- where a request has to wait, these join a queue
abbrev pub joined_by : Result Requested Unusable → List ℕ → List ℕ
joined_by (Err why) levels = []
joined_by (Ok Held) levels = []
joined_by (Ok Waits) levels = levels

-- who joins the queue of a number in a step: the level that requests it and has to wait, and nobody else
unfoldable pub joins_of : ℕ → Step → Semaphores → List ℕ
joins_of number (requests level other) s = pick (may_request s level) (joined_by (requested_in (request_of s level other)) (pick (eqb other number) (level ∷ []) [])) []
joins_of number (releases level other) s = []
joins_of number (releases_all level) s = []

-- how semaphores stand, from fresh ones on
pub record Orderly (s : Semaphores) : Type 0 where
  -- the arrays are whole, and the count says how many wait
  pub numbers : length s.holders ≡ 96
  pub places : length s.queue.items ≡ 12
  pub count : s.queue.count ≤ 12
  -- each level that waits is one of the twelve, and waits once
  pub known : (w : ℕ) → stands_in w (waiting_of s) ≡ true → w < 12
  pub once : Once (waiting_of s)
  -- who waits for a number waits for a usable one, which another holds
  pub held : (number w : ℕ) → stands_in w (waiters_of s number) ≡ true → (usable_of number ≡ true) × (holder_of s number ≡ free → ⊥) × (holder_of s number ≡ w → ⊥)

-- what one step does to a semaphore
pub record OneStep (number : ℕ) (x : Step) (s : Semaphores) : Type 0 where
  -- its queue loses its first with a release, and never else, and who joins it stands behind all others
  pub queue : waiters_of (step_of x s) number ≡ drop (pick (releases_number number x s) 1 0) (waiters_of s number) ++ joins_of number x s
  -- with a release the first of the queue holds it, or nobody
  pub handed : releases_number number x s ≡ true → holder_of (step_of x s) number ≡ get_or (waiters_of s number) 0 free
  -- without one it keeps its holder, if it has one
  pub kept : releases_number number x s ≡ false → (holder_of s number ≡ free → ⊥) → holder_of (step_of x s) number ≡ holder_of s number

-- a level stands at a place of a semaphore's queue, and does not hold the semaphore
pub record WaitsAt (place level number : ℕ) (s : Semaphores) : Type 0 where
  pub within : place < length (waiters_of s number)
  pub there : get_or (waiters_of s number) place 0 ≡ level
  pub not_holder : holder_of s number ≡ level → ⊥

-- "a process that begins to wait for a semaphore with k-1 waiters before it"
pub record BeginsToWait (level number k : ℕ) (s : Semaphores) : Type 0 where
  pub orderly : Orderly s
  -- its request is let through, and has to wait
  pub lets : may_request s level ≡ true
  pub waits : requested_in (request_of s level number) ≡ Ok Waits
  -- and k - 1 wait already
  pub before : length (waiters_of s number) + 1 ≡ k

-- "becomes the holder at the k-th release of that semaphore after that, and not earlier", over any steps that follow
pub record TurnComes (level number k : ℕ) (s : Semaphores) : Type 0 where
  -- while fewer than k releases have happened, it waits, with one waiter less before it for each release
  pub not_earlier : (steps : List Step) → releases_of number steps s < k → WaitsAt (k - 1 - releases_of number steps s) level number (after_of steps s)
  -- where k - 1 have happened, and the next step is the k-th, that step makes it the holder
  pub at_the_kth : (steps : List Step) (x : Step) → releases_of number steps s + 1 ≡ k → releases_number number x (after_of steps s) ≡ true
      → holder_of (step_of x (after_of steps s)) number ≡ level
