-- Document 02, §1: the pool's bytes, and parts of them.
use Rattle.std.specs.Prelude.{Bool, List, ◌++◌, ℕ, ◌+◌, leb, length, take, drop}
use Rattle.common.specs.Choice.{pick}

-- a part that begins at an offset
abbrev pub part_of : List ℕ → ℕ → ℕ → List ℕ
part_of pool offset count = take count (drop offset pool)

-- a part lies within the pool
abbrev pub lies : ℕ → ℕ → List ℕ → Bool
lies offset count pool = leb (offset + count) (length pool)

-- "PUTPOOL writes a part of the pool that begins anywhere, and every other byte of the pool stays": what lies before the part, the data, and what
-- lies behind the part. A part that does not lie within what is lent as the pool changes nothing.
unfoldable pub put_of : List ℕ → ℕ → List ℕ → List ℕ
put_of pool offset given =
    pick (lies offset (length given) pool)
    (take offset pool ++ given ++ drop (offset + length given) pool)
    pool

-- GETPOOL: the caller's buffer holds the part
unfoldable pub get_of : List ℕ → ℕ → List ℕ → List ℕ
get_of pool offset buffer = pick (lies offset (length buffer) pool) (part_of pool offset (length buffer)) buffer
