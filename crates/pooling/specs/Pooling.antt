-- Document 02, §1, "The common data pool": INITPOOL, POOLCHECK, GETPOOL and PUTPOOL.
use Rattle.std.specs.Prelude.{Bool, not, ◌&&◌, List, [], ◌∷◌, ℕ, ◌+◌, eqb, leb}
use Rattle.common.specs.Choice.{pick}
use Rattle.pool.specs.declared.Control.{Control}
use Rattle.pool.specs.Control.{begun_of, agrees_of, began_of, stated_of}
use Rattle.pool.specs.Parts.{put_of, get_of}
use Rattle.process.specs.declared.Process.{Process}
use Rattle.table.specs.declared.answers.Answer.{Answer}
use Rattle.table.specs.declared.answers.Answer.TheVariants.{Ok, NoPoolInit, PoolOverflow, DataLengthFault, PoolLengthFault}
use Rattle.table.specs.declared.configs.Config.{Config}
use Rattle.table.specs.declared.Table.{Table}
use Rattle.table.specs.Answers.{number_of}
use Rattle.table.specs.Words.{negative16}
use Rattle.calls.specs.Effects.{Effect, bytes, done, carrying}
use Rattle.calls.specs.Levels.{with_pool}
use Rattle.calls.specs.Verdicts.{Checked, Check, check, after, by_caller, called}

-- "18 DATALENFAULT if the part and the caller's data differ in length": a negative length of a part is no length of data
unfoldable pub same_length : ℕ → ℕ → Bool
same_length count own = not (negative16 count) && eqb count own

-- "17 POOLOVERFLOW beyond the pool's end. A negative offset .. counts as beyond the end."
unfoldable pub within_pool : Config → ℕ → ℕ → Bool
within_pool c offset count = not (negative16 offset) && leb (offset + count) c.pool

-- "A negative .. POOLCHECK length, counts as beyond the end."
unfoldable pub length_good : Config → ℕ → Bool
length_good c stated = not (negative16 stated) && leb stated c.pool

-- of GETPOOL and PUTPOOL: "16 NOPOOLINIT ..; then 18 DATALENFAULT ..; then 19 POOLLENFAULT ..; then 17 POOLOVERFLOW"
abbrev pub access_checks : Config → Control → ℕ → ℕ → ℕ → ℕ → List Check
access_checks c control caller offset count own =
    check (begun_of control caller) NoPoolInit
    ∷ check (same_length count own) DataLengthFault
    ∷ check (agrees_of control caller) PoolLengthFault
    ∷ check (within_pool c offset count) PoolOverflow
    ∷ []

-- "POOLCHECK gives 16, then 17."
abbrev pub stating_checks : Config → Control → ℕ → ℕ → List Check
stating_checks c control caller stated = check (begun_of control caller) NoPoolInit ∷ check (length_good c stated) PoolOverflow ∷ []

-- "INITPOOL again changes nothing"
unfoldable pub init_pool_of : Table → ℕ → Effect
init_pool_of t caller = called t caller [] (done (with_pool t (began_of t.pool caller)))

-- "POOLCHECK keeps the length that the caller states, for itself and as the common length."
unfoldable pub pool_check_of : Table → ℕ → ℕ → Effect
pool_check_of t caller stated =
    called t caller (stating_checks t.config t.pool caller stated) (done (with_pool t (stated_of t.pool caller stated)))

-- GETPOOL of a part, by a caller whose own buffer has so many bytes
unfoldable pub get_pool_of : Table → ℕ → ℕ → ℕ → ℕ → Effect
get_pool_of t caller offset count own =
    called t caller (access_checks t.config t.pool caller offset count own) (carrying Ok (bytes count) t)

-- PUTPOOL of a part, by a caller whose own data has so many bytes: no table changes
unfoldable pub put_pool_of : Table → ℕ → ℕ → ℕ → ℕ → Effect
put_pool_of t caller offset count own = called t caller (access_checks t.config t.pool caller offset count own) (done t)

-- ---- the bytes, which move where the call is answered 0

abbrev pub granted : Answer → Bool
granted answer = eqb (number_of answer) 0

-- "PUTPOOL writes a part of the pool .., and every other byte of the pool stays"
unfoldable pub pool_by : Answer → List ℕ → ℕ → List ℕ → List ℕ
pool_by answer pool offset given = pick (granted answer) (put_of pool offset given) pool

-- "a refused GETPOOL leaves the caller's buffer untouched"
unfoldable pub buffer_by : Answer → List ℕ → ℕ → List ℕ → List ℕ
buffer_by answer pool offset buffer = pick (granted answer) (get_of pool offset buffer) buffer

-- ---- the checks as the code makes them, on small parts

unfoldable pub access_of : Config → Process → Control → ℕ → ℕ → ℕ → ℕ → Checked
access_of c p control caller offset count own = after (by_caller c p caller) (access_checks c control caller offset count own)
