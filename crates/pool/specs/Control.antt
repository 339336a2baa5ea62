-- Document 02, §1: who has called INITPOOL, and the lengths that POOLCHECK keeps.
use Rattle.std.specs.Prelude.{Bool, true, false, Option, Some, None, ℕ, eqb, get_or, set, replicate}
use Rattle.common.specs.Choice.{pick}
use Rattle.pool.specs.declared.User.{User}
use Rattle.pool.specs.declared.Control.{Control}

-- stands for a length that was never stated, where a length is given as a number
abbrev pub never : ℕ
never = 65535

-- called neither INITPOOL nor POOLCHECK
abbrev pub no_user : User
no_user = record { begun = false; stated = None }

-- at the start nobody has called either
unfoldable pub fresh_of : Control
fresh_of = record { users = replicate 12 no_user; common = None }

-- the process at a level
abbrev pub user_of : Control → ℕ → User
user_of control level = get_or control.users level no_user

-- "NOPOOLINIT if this process never called INITPOOL"
unfoldable pub begun_of : Control → ℕ → Bool
begun_of control level = (user_of control level).begun

-- "POOLLENFAULT if the caller has checked and its length is not the common one"
abbrev pub agreeing : Option ℕ → Option ℕ → Bool
agreeing None common = true
agreeing (Some own) None = false
agreeing (Some own) (Some common) = eqb own common

unfoldable pub agrees_of : Control → ℕ → Bool
agrees_of control level = agreeing (user_of control level).stated control.common

-- "INITPOOL again changes nothing": it is only said that the process has called it
abbrev pub beginning : User → User
beginning user = record { begun = true; stated = user.stated }

unfoldable pub began_of : Control → ℕ → Control
began_of control level = record { users = set control.users level (beginning (user_of control level)); common = control.common }

-- what is kept of a length that is stated
abbrev pub kept_of : ℕ → Option ℕ
kept_of length = pick (eqb length never) None (Some length)

-- "POOLCHECK keeps the length that the caller states, for itself and as the common length."
abbrev pub stating : User → ℕ → User
stating user length = record { begun = user.begun; stated = kept_of length }

unfoldable pub stated_of : Control → ℕ → ℕ → Control
stated_of control level length = record { users = set control.users level (stating (user_of control level) length); common = kept_of length }
