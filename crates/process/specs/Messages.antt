-- Document 01, "Messages": "Sixteen bytes. Buffers are first in, first out, NP places, freed places used again."
use Rattle.std.specs.Prelude.{Bool, Option, Some, None, List, [], ◌∷◌, ◌++◌, ℕ, ◌-◌, min, eqb, ltb, get_or, drop, replicate}
use Rattle.common.specs.Choice.{pick}
use Rattle.common.specs.Filled.{items_of, filled_of, pushed_of}
use Rattle.process.specs.declared.buffers.Message.{Message}
use Rattle.process.specs.declared.buffers.Buffer.{Buffer}

abbrev pub zeros : Message
zeros = record { bytes = replicate 16 0 }

-- the messages that a buffer keeps, the oldest first
abbrev pub messages_of : Buffer → List Message
messages_of b = items_of 16 b.list

abbrev pub empty_of : Buffer
empty_of = record { list = filled_of 16 zeros [] }

-- one of NP places is left, and NP is at most 16
abbrev pub room_of : Buffer → ℕ → Bool
room_of b places = ltb b.list.count (min places 16)

-- the message at the first free place
abbrev pub behind_of : Buffer → Message → Buffer
behind_of b m = record { list = pushed_of 16 b.list m }

-- a buffer with the message behind the others, if one of the places is left
unfoldable pub put_of : Buffer → ℕ → Message → Option Buffer
put_of b places m = pick (room_of b places) (Some (behind_of b m)) None

-- "oldest message"; sixteen zeros where there is none
unfoldable pub oldest_of : Buffer → Message
oldest_of b = get_or (messages_of b) 0 zeros

-- all but the first, one place further on; the place that is freed at the end is zeros
abbrev pub shifted_of : List Message → List Message
shifted_of kept = drop 1 kept ++ (zeros ∷ [])

-- a buffer without its oldest message
unfoldable pub rest_of : Buffer → Buffer
rest_of b = pick (eqb b.list.count 0) b (record { list = record { items = shifted_of b.list.items; count = b.list.count - 1 } })
