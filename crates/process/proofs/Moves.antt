-- The table of five rows by seven has the seven moves of document 01 and no other: one test over all of it, which is computed.
-- Assumes nothing.
use mathlib.Core.Path.{◌≡◌, ◌∙◌, refl, ap, sym}
use mathlib.Core.Bool.{Bool, true, false}
use mathlib.Core.List.{List, [], ◌∷◌}
use Prim.Native.Nat.{ℕ, ◌+◌, ◌<◌}
use lib.Dec.{eqb, lit<}
use borrow.Author.Rules.{rules}
use borrow.Author.Tests.{eqb-true}
use denote.Enum.Bare.{sameb}
use lib.ListN.{get_or}
use Rattle.std.specs.Prelude.{Option, Some, None}
use Rattle.common.specs.Choice.{pick}
use Rattle.common.specs.Every.{every}
use Rattle.common.proofs.Cases.{never_both}
use Rattle.common.proofs.Every.{every_at}
use Rattle.process.specs.declared.states.State.{State}
use Rattle.process.specs.declared.states.State.TheVariants.{Inactive, Ready, WaitingForMessage, WaitingForEvent, WaitingForSemaphore}
use Rattle.process.specs.declared.states.Cause.{Cause}
use Rattle.process.specs.declared.states.Cause.TheVariants.{Start, WaitForMessage, Message, WaitForEvent, Event, WaitForSemaphore, Handover}
use Rattle.process.specs.contracts.states.State.{the_type}
use Rattle.process.specs.contracts.states.StatePartialEq.TheImpl as equality
use Rattle.process.specs.States.{row_of, is_of, column_of, next_of}

abbrev pub states : List State
states = Inactive ∷ Ready ∷ WaitingForMessage ∷ WaitingForEvent ∷ WaitingForSemaphore ∷ []

abbrev pub causes : List Cause
causes = Start ∷ WaitForMessage ∷ Message ∷ WaitForEvent ∷ Event ∷ WaitForSemaphore ∷ Handover ∷ []

-- each state has a row of its own, and each cause a column
pub row_known : (s : State) → (row_of s < 5) × (get_or states (row_of s) Inactive ≡ s)
row_known Inactive = (lit< tt, refl)
row_known Ready = (lit< tt, refl)
row_known WaitingForMessage = (lit< tt, refl)
row_known WaitingForEvent = (lit< tt, refl)
row_known WaitingForSemaphore = (lit< tt, refl)

pub column_known : (c : Cause) → (column_of c < 7) × (get_or causes (column_of c) Start ≡ c)
column_known Start = (lit< tt, refl)
column_known WaitForMessage = (lit< tt, refl)
column_known Message = (lit< tt, refl)
column_known WaitForEvent = (lit< tt, refl)
column_known Event = (lit< tt, refl)
column_known WaitForSemaphore = (lit< tt, refl)
column_known Handover = (lit< tt, refl)

-- the derived `==` says of two states what the document's order says
pub same_state : (s t : State) → sameb the_type s t ≡ is_of s t
same_state s t = search rules

-- and so does the `==` that the code has, derived or written out
pub equal_state : (s t : State) → equality.ghosts.eq s t ≡ is_of s t
equal_state s t = search rules

-- two entries are the same
abbrev same : Option State → Option State → Bool
same None None = true
same None (Some t) = false
same (Some s) None = false
same (Some s) (Some t) = eqb (row_of s) (row_of t)

same_is : (m n : Option State) → same m n ≡ true → m ≡ n
same_is None None h = refl
same_is None (Some t) h = absurd (never_both h refl)
same_is (Some s) None h = absurd (never_both h refl)
same_is (Some s) (Some t) h =
    ap Some (sym (row_known s).1 ∙ ap (λ (i : ℕ). get_or states i Inactive) (eqb-true (row_of s) (row_of t) h) ∙ (row_known t).1)

-- the table as the code has it: a row for each state, an entry for each cause
abbrev pub rows : List (List (Option State))
rows =
    (Some Ready ∷ None ∷ None ∷ None ∷ None ∷ None ∷ None ∷ [])
    ∷ (None ∷ Some WaitingForMessage ∷ None ∷ Some WaitingForEvent ∷ None ∷ Some WaitingForSemaphore ∷ None ∷ [])
    ∷ (None ∷ None ∷ Some Ready ∷ None ∷ None ∷ None ∷ None ∷ [])
    ∷ (None ∷ None ∷ None ∷ None ∷ Some Ready ∷ None ∷ None ∷ [])
    ∷ (None ∷ None ∷ None ∷ None ∷ None ∷ None ∷ Some Ready ∷ [])
    ∷ []

-- its entry for a state and a cause
abbrev pub entry_of : State → Cause → Option State
entry_of s c = get_or (get_or rows (row_of s) []) (column_of c) None

abbrev right : State → Cause → Bool
right s c = same (entry_of s c) (next_of s c)

-- the test: at each state and each cause the table has the document's entry
all_right : every (λ s. every (right s) causes) states ≡ true
unfolding next_of
all_right = refl

pub entry_next : (s : State) (c : Cause) → entry_of s c ≡ next_of s c
entry_next s c =
    let row = every_at (λ x. every (right x) causes) states Inactive all_right (row_of s) (row_known s).0 in
    let entry = every_at (right s) causes Start (rw (row_known s).1 at row) (column_of c) (column_known c).0 in
    same_is (entry_of s c) (next_of s c) (rw (column_known c).1 at entry)

-- the same at a row and a column that are theirs
pub entry_at : (s : State) (c : Cause) (row column : ℕ) → row ≡ row_of s → column ≡ column_of c → get_or (get_or rows row []) column None ≡ next_of s c
entry_at s c row column at_row at_column = rw (at_row, at_column) (entry_next s c)

-- how many of the causes lead anywhere from a state, and from all of them
abbrev leading : State → List Cause → ℕ
leading s [] = 0
leading s (c ∷ l) = pick (same (next_of s c) None) 0 1 + leading s l

abbrev leadings : List State → ℕ
leadings [] = 0
leadings (s ∷ l) = leading s causes + leadings l

-- "of the 35 pairs of state and cause exactly seven lead anywhere"
pub exactly_seven : leadings states ≡ 7
unfolding next_of
exactly_seven = refl
