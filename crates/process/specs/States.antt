-- Document 01, "States": "Of the 35 pairs of state and cause exactly seven lead anywhere".
use Rattle.std.specs.Prelude.{List, [], ◌∷◌, Bool, false, ℕ, eqb, Option, Some, None}
use Rattle.common.specs.Choice.{pick}
use Rattle.process.specs.declared.states.State.{State}
use Rattle.process.specs.declared.states.State.TheVariants.{Inactive, Ready, WaitingForMessage, WaitingForEvent, WaitingForSemaphore}
use Rattle.process.specs.declared.states.Cause.{Cause}
use Rattle.process.specs.declared.states.Cause.TheVariants.{Start, WaitForMessage, Message, WaitForEvent, Event, WaitForSemaphore, Handover}

-- the states and the causes in the document's order, counted from 0
abbrev pub row_of : State → ℕ
row_of Inactive = 0
row_of Ready = 1
row_of WaitingForMessage = 2
row_of WaitingForEvent = 3
row_of WaitingForSemaphore = 4

-- two states are the same
abbrev pub is_of : State → State → Bool
is_of state other = eqb (row_of state) (row_of other)

abbrev pub column_of : Cause → ℕ
column_of Start = 0
column_of WaitForMessage = 1
column_of Message = 2
column_of WaitForEvent = 3
column_of Event = 4
column_of WaitForSemaphore = 5
column_of Handover = 6

pub record Move : Type 0 where
  pub from : State
  pub cause : Cause
  pub to : State

abbrev move : State → Cause → State → Move
move from cause to = record { from = from; cause = cause; to = to }

-- "start makes INACT READY; the three waits take READY to WM, WE, WR; message, event and handover take WM, WE, WR to READY"
abbrev pub seven_moves : List Move
seven_moves =
    move Inactive Start Ready
    ∷ move Ready WaitForMessage WaitingForMessage
    ∷ move Ready WaitForEvent WaitingForEvent
    ∷ move Ready WaitForSemaphore WaitingForSemaphore
    ∷ move WaitingForMessage Message Ready
    ∷ move WaitingForEvent Event Ready
    ∷ move WaitingForSemaphore Handover Ready
    ∷ []

abbrev pub is_move : State → Cause → Move → Bool
is_move state cause m = pick (eqb (row_of state) (row_of m.from)) (eqb (column_of cause) (column_of m.cause)) false

abbrev pub among_moves : State → Cause → List Move → Option State
among_moves state cause [] = None
among_moves state cause (m ∷ others) = pick (is_move state cause m) (Some m.to) (among_moves state cause others)

-- where a cause leads from a state: where one of the seven moves says, and else nowhere
unfoldable pub next_of : State → Cause → Option State
next_of state cause = among_moves state cause seven_moves
