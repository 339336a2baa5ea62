-- INITPOOL, called again, and lengths as numbers. Assumes nothing.
use mathlib.Core.Path.{◌≡◌, ap}
use mathlib.Core.Bool.{true, ◌||◌}
use Prim.Native.Nat.{ℕ}
use lib.Dec.{eqb, ltb}
use lib.ListN.{length, set}
use lib.Seq.{set-get_or, set_out, get_or-set_same}
use borrow.Author.Tests.{eqb-true, ltb-true, ltb-false}
use Rattle.common.proofs.Cases.{by_test}
use Rattle.pool.specs.declared.User.{User}
use Rattle.pool.specs.declared.Control.{Control}
use Rattle.pool.specs.Control.{never, no_user, user_of, beginning, begun_of, agreeing, began_of, kept_of}

-- INITPOOL again changes nothing
pub begun_stays : (control : Control) (level : ℕ) → begun_of control level ≡ true → began_of control level ≡ control
unfolding begun_of began_of
begun_stays control level begun =
    let same : set control.users level (beginning (user_of control level)) ≡ control.users =
    rw (← begun) (set-get_or control.users level no_user) in
    rw same

-- so calling it twice is calling it once
pub begun_again : (control : Control) (level : ℕ) → began_of (began_of control level) level ≡ began_of control level
unfolding began_of begun_of
begun_again control level =
    let user : User = beginning (user_of control level) in
    by_test (ltb level (length control.users))
    (λ there. begun_stays (began_of control level) level (ap (λ (u : User). u.begun) (get_or-set_same control.users level user no_user (ltb-true level _ there))))
    (λ past. let same : set control.users level user ≡ control.users = set_out control.users level user (ltb-false level _ past) in rw (same, same))

-- by the numbers that were stated: who stated `never` agrees, and who stated the common length
pub agreeing_kept : (own common : ℕ) → agreeing (kept_of own) (kept_of common) ≡ (eqb own never || eqb own common)
agreeing_kept own common =
    by_test (eqb own never)
    (λ e. rw e)
    (λ e. by_test (eqb common never)
    (λ none. let same : common ≡ never = eqb-true common never none in rw (same, e))
    (λ one. rw (e, one)))
