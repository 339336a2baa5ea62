-- Document 01, "Semaphores", and document 02, §2 and §3.
use Rattle.std.specs.Prelude.{Bool, false, Option, Some, None, Result, Ok, Err, ◌&&◌, ◌||◌, List, [], ◌∷◌, ◌++◌, ℕ, zero, suc, eqb, leb, get_or, set, replicate}
use Rattle.common.specs.Choice.{pick}
use Rattle.common.specs.Fold.{fold_of}
use Rattle.semaphores.specs.declared.queues.Waiter.{Waiter}
use Rattle.semaphores.specs.declared.queues.Leaving.{Leaving}
use Rattle.semaphores.specs.declared.Semaphores.{Semaphores}
use Rattle.semaphores.specs.declared.Unusable.{Unusable}
use Rattle.semaphores.specs.declared.Request.{Request}
use Rattle.semaphores.specs.declared.Requested.{Requested}
use Rattle.semaphores.specs.declared.Requested.TheVariants.{Held, Waits}
use Rattle.semaphores.specs.declared.Release.{Release}
use Rattle.semaphores.specs.declared.NotReleased.{NotReleased}
use Rattle.semaphores.specs.declared.NotReleased.TheVariants.{NotHolder}
use Rattle.semaphores.specs.declared.ReleaseAll.{ReleaseAll}
use Rattle.semaphores.specs.Queues.{Queue, empty_of, push_of, leaving_of, levels_for, list_of, levelled, with_of}

-- document 02, §2: "Its text is right: usable are 0..31 and 50..95; .. and 49 is not usable." (Document 01 had the manual's table, 51..95.)
unfoldable pub usable_of : ℕ → Bool
usable_of number = leb number 31 || (leb 50 number && leb number 95)

-- a number that is usable, or the refusal of one that is not
unfoldable pub checked_of : ℕ → Result ℕ Unusable
checked_of number = pick (usable_of number) (Ok number) (Err (record {}))

-- how a request came out, and a release: to whom the semaphore was handed over, if somebody waited
abbrev pub requested_in : Result Request Unusable → Result Requested Unusable
requested_in (Ok request) = Ok request.requested
requested_in (Err why) = Err why

abbrev pub released_in : Result Release NotReleased → Result (Option ℕ) NotReleased
released_in (Ok release) = Ok release.handed_to
released_in (Err why) = Err why

-- the semaphores after it: who is refused changes nothing
abbrev pub after_request : Semaphores → Result Request Unusable → Semaphores
after_request s (Ok request) = request.semaphores
after_request s (Err why) = s

abbrev pub after_release : Semaphores → Result Release NotReleased → Semaphores
after_release s (Ok release) = release.semaphores
after_release s (Err why) = s

-- document 01, "Answer numbers": 6 PARAMERROR, 0 OK, 32 SUSPENDED
abbrev pub requested_number : Result Requested Unusable → ℕ
requested_number (Err why) = 6
requested_number (Ok Held) = 0
requested_number (Ok Waits) = 32

-- 15 NOSEMANUMBER, 37 NOTHOLDER, 0 OK
abbrev pub released_number : Result (Option ℕ) NotReleased → ℕ
released_number (Err NotReleased.Unusable) = 15
released_number (Err (NotHolder level)) = 37
released_number (Ok None) = 0
released_number (Ok (Some level)) = 0

-- a holder's place where there is none
abbrev pub free : ℕ
free = 255

abbrev pub semaphores_of : List ℕ → Queue → Semaphores
semaphores_of holders queue = record { holders = holders; queue = queue }

unfoldable pub fresh_of : Semaphores
fresh_of = semaphores_of (replicate 96 free) empty_of

-- who holds a semaphore, and who waits for it, the first to arrive first
unfoldable pub holder_of : Semaphores → ℕ → ℕ
holder_of s number = get_or s.holders number 0

unfoldable pub waiters_of : Semaphores → ℕ → List ℕ
waiters_of s number = levels_for number (list_of s.queue)

abbrev pub held_by : Semaphores → ℕ → ℕ → Semaphores
held_by s number level = semaphores_of (set s.holders number level) s.queue

abbrev pub waiter : ℕ → ℕ → Waiter
waiter level number = record { level = level; number = number }

-- "REQSEMA: 6 if not usable; free: the caller holds it; already its own: OK, held once; held by another: 32, WR, last in that queue."
unfoldable pub request_of : Semaphores → ℕ → ℕ → Result Request Unusable
request_of s level number =
    pick (usable_of number)
    (pick (eqb (holder_of s number) free) (Ok (record { requested = Held; semaphores = held_by s number level }))
    (pick (eqb (holder_of s number) level) (Ok (record { requested = Held; semaphores = s }))
    (Ok (record { requested = Waits; semaphores = semaphores_of s.holders (push_of s.queue (waiter level number)) }))))
    (Err (record {}))

-- "At a release the first waiter becomes holder and wakes."
abbrev pub handed_on : Semaphores → ℕ → Option Leaving → Release
handed_on s number None = record { handed_to = None; semaphores = held_by s number free }
handed_on s number (Some leaving) =
    record { handed_to = Some leaving.level; semaphores = semaphores_of (set s.holders number leaving.level) leaving.queue }

-- the number is usable and held by the level
unfoldable pub holds_of : Semaphores → ℕ → ℕ → Bool
holds_of s level number = pick (usable_of number) (eqb (holder_of s number) level) false

-- document 02, §3: "NOSEMANUMBER stays for unusable numbers. .. Refusals: 15, then 37 NOTHOLDER with the holder's level, or 255 if free." (`holder_of` is 255
-- where the semaphore is free.)
unfoldable pub not_held_of : Semaphores → ℕ → NotReleased
not_held_of s number = pick (usable_of number) (NotHolder (holder_of s number)) NotReleased.Unusable

-- "RELSEMA: one number, .."; who does not hold it changes nothing
unfoldable pub release_of : Semaphores → ℕ → ℕ → Result Release NotReleased
release_of s level number =
    pick (holds_of s level number)
    (Ok (handed_on s number (leaving_of s.queue number)))
    (Err (not_held_of s number))

-- the level that a release wakes
abbrev pub woken_of : Result (Option ℕ) NotReleased → List ℕ
woken_of (Err why) = []
woken_of (Ok None) = []
woken_of (Ok (Some level)) = level ∷ []

-- one number more is released, and whom that wakes stands behind those that were woken before
unfoldable pub also_of : ReleaseAll → ℕ → ℕ → ReleaseAll
also_of all level number =
    record {
      woken = fold_of with_of all.woken (woken_of (released_in (release_of all.semaphores level number)));
      semaphores = after_release all.semaphores (release_of all.semaphores level number);
    }

-- so many numbers from a first one on, each released in its turn: the semaphores after that
unfoldable pub released_from : ℕ → ℕ → ℕ → Semaphores → Semaphores
released_from zero number level s = s
released_from (suc many) number level s = released_from many (suc number) level (after_release s (release_of s level number))

-- and whom these releases wake, in order
unfoldable pub woken_from : ℕ → ℕ → ℕ → Semaphores → List ℕ
woken_from zero number level s = []
woken_from (suc many) number level s = woken_of (released_in (release_of s level number)) ++ woken_from many (suc number) level (after_release s (release_of s level number))

-- "-1 for all that the caller holds, rising, OK even if none"
unfoldable pub release_all_of : Semaphores → ℕ → ReleaseAll
release_all_of s level = record { woken = levelled (woken_from 96 0 level s); semaphores = released_from 96 0 level s }
