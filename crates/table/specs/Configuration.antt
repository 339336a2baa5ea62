-- Document 01, "Configuration", with the pool's size of document 02, §1.
use Rattle.std.specs.Prelude.{Bool, not, ◌&&◌, ◌||◌, ℕ, ◌+◌, eqb, leb, ltb, get_or, Option, Some, None}
use Rattle.common.specs.Choice.{pick}
use Rattle.day.specs.TimeOfDay.{day}
use Rattle.table.specs.declared.configs.Config.{Config}
use Rattle.process.specs.declared.Target.{Target}
use Rattle.process.specs.declared.Target.TheVariants.{All, Level, Unknown}
use Rattle.table.specs.declared.configs.Privileged.{Privileged}
use Rattle.table.specs.Words.{minus_one}

-- "Lowest level L, 0 or more, and number of processes P, 1 to 11, with L + P - 1 at most 11."
abbrev pub levels_good : Config → Bool
levels_good c = leb 1 c.processes && leb c.processes 11 && leb (c.lowest + c.processes) 12

-- a configured level: L..L+P-1; no level is above 11
unfoldable pub configured_of : Config → ℕ → Bool
configured_of c level = leb c.lowest level && ltb level (c.lowest + c.processes) && leb level 11

-- "Scheduler level 0 to 11, outside that run."
abbrev pub scheduler_good : Config → Bool
scheduler_good c = leb c.scheduler 11 && not (configured_of c c.scheduler)

-- "Message places per process NP 1 to 16. Order places A 1 to 64. Card type 8 .. or 16"
abbrev pub places_good : Config → Bool
places_good c =
    leb 1 c.places
    && leb c.places 16
    && leb 1 c.orders
    && leb c.orders 64
    && (eqb c.card 8 || eqb c.card 16)

-- "Card type 8 (inputs 0..127) or 16 (inputs 0..255)."
unfoldable pub inputs_of : Config → ℕ
inputs_of c = pick (eqb c.card 8) 128 256

-- a privileged place whose level is 255 is not used
abbrev pub unused : Privileged → Bool
unused p = eqb p.level 255

-- "levels in L..L+P-1, each owning one run of inputs, first <= last", on the card
abbrev pub privileged_good : Config → Privileged → Bool
privileged_good c p = unused p || (configured_of c p.level && leb p.first p.last && ltb p.last (inputs_of c))

-- "distinct levels .. the runs do not meet"
abbrev pub apart_of : Privileged → Privileged → Bool
apart_of p q = unused p || unused q || (not (eqb p.level q.level) && (ltb p.last q.first || ltb q.last p.first))

-- one of the three privileged places
abbrev pub privileged_at : Config → ℕ → Privileged
privileged_at c i = get_or c.privileged i (record { level = 0; first = 0; last = 0 })

-- "Up to three privileged processes"
abbrev pub all_privileged_good : Config → Bool
all_privileged_good c =
    privileged_good c (privileged_at c 0)
    && privileged_good c (privileged_at c 1)
    && privileged_good c (privileged_at c 2)
    && apart_of (privileged_at c 0) (privileged_at c 1)
    && apart_of (privileged_at c 0) (privileged_at c 2)
    && apart_of (privileged_at c 1) (privileged_at c 2)

-- document 02, §1: "the pool's size, 0 to 4,096 .. A size above 4,096 is 35."
abbrev pub pool_good : Config → Bool
pool_good c = leb c.pool 4096

-- "Start clock 0..86,399,999. All else is BADCONFIG, and no table comes of it."
unfoldable pub good_of : Config → Bool
good_of c = levels_good c && scheduler_good c && places_good c && all_privileged_good c && ltb c.clock.milliseconds day && pool_good c

-- "receiver -1 or configured": whom a call names as its receiver
unfoldable pub receiver_of : Config → ℕ → Target
receiver_of c word = pick (eqb word minus_one) All (pick (configured_of c word) (Level word) Unknown)

-- "sender -1 or 0..11": whose orders a cancel names
unfoldable pub sender_of : ℕ → Target
sender_of word = pick (eqb word minus_one) All (pick (leb word 11) (Level word) Unknown)

-- a used place is a level's, and its run has an input
abbrev pub of_level : ℕ → Privileged → Bool
of_level level p = not (unused p) && eqb p.level level

abbrev pub has_input : ℕ → Privileged → Bool
has_input input p = not (unused p) && leb p.first input && leb input p.last

-- the first of the three places of which something is said
unfoldable pub first_place : Config → Bool → Bool → Bool → Option Privileged
first_place c first second third =
    pick first (Some (privileged_at c 0)) (pick second (Some (privileged_at c 1)) (pick third (Some (privileged_at c 2)) None))

-- a level's place, and the place that owns an input: levels are distinct and runs do not meet, so there is one at most
unfoldable pub privilege_of : Config → ℕ → Option Privileged
privilege_of c level = first_place c (of_level level (privileged_at c 0)) (of_level level (privileged_at c 1)) (of_level level (privileged_at c 2))

unfoldable pub owner_of : Config → ℕ → Option Privileged
owner_of c input = first_place c (has_input input (privileged_at c 0)) (has_input input (privileged_at c 1)) (has_input input (privileged_at c 2))
