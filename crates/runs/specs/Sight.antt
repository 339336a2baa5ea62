-- What one knows of a semaphore from outside, from the calls, their answers and the wakes alone: who holds it and who waits for it. "There are
-- never two holders", and who is told to hold it is the holder.
use Rattle.std.specs.Prelude.{◌≡◌, Bool, true, false, not, ◌&&◌, ◌||◌, List, [], ◌∷◌, map, ◌⊎◌, ℕ, ◌+◌, ◌<◌, ◌≤◌, eqb}
use Rattle.common.specs.Choice.{pick}
use Rattle.common.specs.Keep.{keep_of}
use Rattle.common.specs.Stands.{stands_in}
use Rattle.semaphores.specs.declared.Semaphores.{Semaphores}
use Rattle.semaphores.specs.Semaphores.{usable_of, free, holder_of, waiters_of}
use Rattle.table.specs.declared.configs.Config.{Config}
use Rattle.table.specs.declared.wakes.Wake.{Wake}
use Rattle.table.specs.declared.wakes.Woken.{Woken}
use Rattle.table.specs.declared.wakes.Woken.TheVariants.{ByMessage, ByEvent, ByHandover}
use Rattle.table.specs.Answers.{number_of}
use Rattle.table.specs.Configuration.{good_of}
use Rattle.table.specs.Table.{fresh_of}
use Rattle.table.specs.Words.{minus_one}
use Rattle.calls.specs.Effects as Effects
use Rattle.rtms.specs.Calls.{Call, START, SETPRIORITY, SEND, RECEIVE, AWAITMESSAGE, CLEARMESSAGE, SCHEDULE, CANCELSCHEDULE, SHUTDOWN, STARTSCHEDULER, READTIME, ENABLE, DISABLE, AWAITINTERRUPT, RESETINT, EVENT, REQSEMA, RELSEMA, INITPOOL, POOLCHECK, GETPOOL, PUTPOOL, TICK, TICKS, done_by}
use Rattle.runs.specs.Runs.{run_of, Seen, seen_of}

-- what a call has to do with semaphores: the caller, and the number
pub data Act : Type 0 where
  requests : ℕ → ℕ → Act
  releases : ℕ → ℕ → Act
  neither : Act

unfoldable pub act_of : Call → Act
act_of (REQSEMA caller number) = requests caller number
act_of (RELSEMA caller number) = releases caller number
act_of (START level priority) = neither
act_of (SETPRIORITY caller priority) = neither
act_of (SEND caller receiver condition m) = neither
act_of (RECEIVE caller) = neither
act_of (AWAITMESSAGE caller) = neither
act_of (CLEARMESSAGE caller receiver) = neither
act_of (SCHEDULE caller new) = neither
act_of (CANCELSCHEDULE caller sender receiver) = neither
act_of (SHUTDOWN caller) = neither
act_of STARTSCHEDULER = neither
act_of (READTIME caller) = neither
act_of (ENABLE caller input) = neither
act_of (DISABLE caller input) = neither
act_of (AWAITINTERRUPT caller) = neither
act_of (RESETINT caller input) = neither
act_of (EVENT input) = neither
act_of (INITPOOL caller) = neither
act_of (POOLCHECK caller stated) = neither
act_of (GETPOOL caller offset count own) = neither
act_of (PUTPOOL caller offset count given) = neither
act_of TICK = neither
act_of (TICKS n) = neither

-- it requests this number for this level
abbrev pub asks_for : ℕ → ℕ → Act → Bool
asks_for number level (requests caller asked) = eqb caller level && eqb asked number
asks_for number level (releases caller given) = false
asks_for number level neither = false

-- it releases this number, or all, for this level
abbrev pub gives_back : ℕ → ℕ → Act → Bool
gives_back number level (requests caller asked) = false
gives_back number level (releases caller given) = eqb caller level && (eqb given number || eqb given minus_one)
gives_back number level neither = false

-- "REQSEMA answered 0"
abbrev pub obtains : ℕ → ℕ → Seen → Bool
obtains number level x = asks_for number level (act_of x.call) && eqb x.answer 0

-- REQSEMA answered 32
abbrev pub begins_to_wait : ℕ → ℕ → Seen → Bool
begins_to_wait number level x = asks_for number level (act_of x.call) && eqb x.answer 32

-- RELSEMA answered 0
abbrev pub gives_up : ℕ → ℕ → Seen → Bool
gives_up number level x = gives_back number level (act_of x.call) && eqb x.answer 0

-- "a handover's wake"
abbrev pub by_handover : Woken → Bool
by_handover (ByMessage told m) = false
by_handover (ByEvent set) = false
by_handover ByHandover = true

-- the levels that a handover wakes
unfoldable pub handed_levels : List Wake → List ℕ
handed_levels wakes = map (λ w. w.level) (keep_of (λ w. by_handover w.woken) wakes)

abbrev pub is_handed : ℕ → Seen → Bool
is_handed level x = stands_in level (handed_levels x.wakes)

-- a semaphore as it is seen: which levels hold it, and which wait for it
pub record Sight : Type 0 where
  pub holds : ℕ → Bool
  pub waits : ℕ → Bool

-- before the first step nobody holds it and nobody waits
abbrev pub unseen : Sight
unseen = record { holds = λ level. false; waits = λ level. false }

-- after a step. "'p holds s' as seen from outside": it requested s and was answered 0, or waited for s and was woken by a handover, and has not
-- released since. It waits for s if it requested s, was answered 32, and has not been woken by a handover since.
unfoldable pub sight_after : ℕ → Seen → Sight → Sight
sight_after number x sight = record {
  holds = λ level. obtains number level x || (sight.waits level && is_handed level x) || (sight.holds level && not (gives_up number level x));
  waits = λ level. begins_to_wait number level x || (sight.waits level && not (is_handed level x));
}

-- after steps
unfoldable pub sight_of : ℕ → List Seen → Sight → Sight
sight_of number [] sight = sight
sight_of number (x ∷ seen) sight = sight_of number seen (sight_after number x sight)

-- "a RELSEMA of s, or of -1, by its holder"
abbrev pub released_by : ℕ → Act → ℕ → Sight → Bool
released_by number (requests caller asked) answer sight = false
released_by number (releases caller given) answer sight = (eqb given number || eqb given minus_one) && eqb answer 0 && sight.holds caller
released_by number neither answer sight = false

abbrev pub is_release : ℕ → Seen → Sight → Bool
is_release number x sight = released_by number (act_of x.call) x.answer sight

-- how many releases of a number there are in what was seen: "counted from the steps and their answers alone"
unfoldable pub releases_seen : ℕ → List Seen → Sight → ℕ
releases_seen number [] sight = 0
releases_seen number (x ∷ seen) sight = pick (is_release number x sight) 1 0 + releases_seen number seen (sight_after number x sight)

-- what is seen is what stands in the table
pub record AsSeen (number : ℕ) (sight : Sight) (s : Semaphores) : Type 0 where
  pub holds : (level : ℕ) → level < 12 → sight.holds level ≡ eqb (holder_of s number) level
  pub waits : (level : ℕ) → level < 12 → sight.waits level ≡ stands_in level (waiters_of s number)
  -- nobody is seen who is none of the twelve
  pub none_else : (level : ℕ) → 12 ≤ level → (sight.holds level ≡ false) × (sight.waits level ≡ false)

abbrev pub HeldAsSeen : Type 0
HeldAsSeen = (c : Config) → good_of c ≡ true → (steps : List Call) (number : ℕ) → usable_of number ≡ true
    → AsSeen number (sight_of number (seen_of steps (fresh_of c)) unseen) (run_of c steps).semaphores

-- "there are never two holders"
abbrev pub NeverTwoHolders : Type 0
NeverTwoHolders = (c : Config) → good_of c ≡ true → (steps : List Call) (number : ℕ) → usable_of number ≡ true → (level other : ℕ)
    → (sight_of number (seen_of steps (fresh_of c)) unseen).holds level ≡ true
    → (sight_of number (seen_of steps (fresh_of c)) unseen).holds other ≡ true
    → level ≡ other

-- ---- document 02, §3: "A usable one that the caller doesn't hold gets an answer that tells the holder's level; .. or 255 if free"

-- a semaphore as it is seen after steps from a fresh table
abbrev pub sight_at : Config → List Call → ℕ → Sight
sight_at c steps number = sight_of number (seen_of steps (fresh_of c)) unseen

-- what a call that is answered 37 after such steps tells
pub record TellsAsSeen (c : Config) (steps : List Call) (call : Call) : Type 0 where
  -- it is a RELSEMA of a usable number
  pub caller : ℕ
  pub number : ℕ
  pub is_relsema : call ≡ RELSEMA caller number
  pub usable : usable_of number ≡ true
  -- which its caller is not seen to hold
  pub not_its_own : (sight_at c steps number).holds caller ≡ false
  -- the answer carries a level
  pub told : ℕ
  pub carries : (done_by call (run_of c steps)).carried ≡ Effects.number told
  -- and that level is seen to hold the number, or 255 is told and nobody is seen to
  pub as_seen : ((sight_at c steps number).holds told ≡ true) ⊎ ((told ≡ free) × ((level : ℕ) → (sight_at c steps number).holds level ≡ false))

-- what 37 tells is the holder as it is seen from outside
abbrev pub ToldAsSeen : Type 0
ToldAsSeen = (c : Config) → good_of c ≡ true → (steps : List Call) (call : Call)
    → number_of (done_by call (run_of c steps)).answer ≡ 37 → TellsAsSeen c steps call

-- and a RELSEMA of a usable number by a process that may call is answered 0 where that process is seen to hold the number, and 37 where it is not
abbrev pub ReleasedAsSeen : Type 0
ReleasedAsSeen = (c : Config) → good_of c ≡ true → (steps : List Call) (caller number : ℕ) → usable_of number ≡ true
    → (number_of (done_by (RELSEMA caller number) (run_of c steps)).answer ≡ 10 → ⊥)
    → (number_of (done_by (RELSEMA caller number) (run_of c steps)).answer ≡ 33 → ⊥)
    → number_of (done_by (RELSEMA caller number) (run_of c steps)).answer ≡ pick ((sight_at c steps number).holds caller) 0 37
