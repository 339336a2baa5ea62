-- Who waits, in order of arrival. Definitions go by the list of those that wait; `queued` says how such a list lies in the code's array.
use Rattle.std.specs.Prelude.{Bool, Option, Some, None, List, [], ◌∷◌, map, ℕ, eqb}
use Rattle.common.specs.Choice.{pick}
use Rattle.common.specs.Keep.{keep_of}
use Rattle.common.specs.declared.filled.Filled.{Filled}
use Rattle.common.specs.Filled.{items_of, filled_of, pushed_of}
use Rattle.semaphores.specs.declared.queues.Waiter.{Waiter}
use Rattle.semaphores.specs.declared.queues.Leaving.{Leaving}

-- those that wait, and a list of levels, in twelve places
abbrev pub Queue : Type 0
Queue = Filled Waiter 12

abbrev pub Levels : Type 0
Levels = Filled ℕ 12

abbrev pub nobody : Waiter
nobody = record { level = 0; number = 0 }

-- the waiters of a queue, the first to arrive first
abbrev pub list_of : Queue → List Waiter
list_of q = items_of 12 q

-- a list of waiters in a queue of twelve places
abbrev pub queued : List Waiter → Queue
queued l = filled_of 12 nobody l

abbrev pub empty_of : Queue
empty_of = queued []

-- behind all others
abbrev pub push_of : Queue → Waiter → Queue
push_of q w = pushed_of 12 q w

abbrev pub waits_for : ℕ → Waiter → Bool
waits_for number w = eqb w.number number

-- the levels that wait for a number, in order of arrival: the part of the queue with that number
unfoldable pub levels_for : ℕ → List Waiter → List ℕ
levels_for number l = map (λ w. w.level) (keep_of (waits_for number) l)

-- the queue without the first that waits for a number
unfoldable pub without_first : ℕ → List Waiter → List Waiter
without_first number [] = []
without_first number (w ∷ l) = pick (waits_for number w) l (w ∷ without_first number l)

-- a first one of a list of levels, if there is one
abbrev pub leaving_as : List ℕ → Queue → Option Leaving
leaving_as [] q = None
leaving_as (level ∷ others) q = Some (record { level = level; queue = q })

-- "the first waiter" of a number, and the queue that it leaves
unfoldable pub leaving_of : Queue → ℕ → Option Leaving
leaving_of q number = leaving_as (levels_for number (list_of q)) (queued (without_first number (list_of q)))

-- ---- lists of levels

abbrev pub levelled : List ℕ → Levels
levelled l = filled_of 12 0 l

abbrev pub none_of : Levels
none_of = levelled []

abbrev pub with_of : Levels → ℕ → Levels
with_of ls level = pushed_of 12 ls level
