-- ENABLE, DISABLE, AWAITINTERRUPT, RESETINT and an outside event leave a table that shows no break. Assumes nothing.
use mathlib.Core.Path.{◌≡◌, ◌∙◌, refl, sym, ap}
use mathlib.Core.Bool.{Bool, true, false, not}
use mathlib.Core.List.{List, [], ◌∷◌}
use Prim.Native.Nat.{ℕ, zero, suc, ◌+◌, ◌-◌, ◌<◌, ◌≤◌, zero-le}
use native.Mathlib.Omega.{arith}
use lib.Dec.{eqb, leb, leb-zero}
use lib.ListN.{length}
use borrow.Author.Tests.{eqb-true, eq-eqb, ne_eqb, leb-false, lt-leb, ltb-true}
use Rattle.std.specs.Prelude.{Ok}
use Rattle.std.specs.Prelude.{Option, Some, None}
use Rattle.common.specs.Choice.{pick}
use Rattle.common.specs.Stands.{stands_in}
use Rattle.common.proofs.Cases.{by_test, by_pick, never_both, both_true}
use Rattle.inputs.specs.declared.InputSet.{InputSet}
use Rattle.inputs.specs.InputSet.{has_of, insert_of, remove_of, except_of, run_of, rising_of, members_of, count_of}
use Rattle.inputs.proofs.Sets.{has_insert, has_remove, has_except, has_run}
use Rattle.inputs.proofs.Walk.{rising_stands}
use Rattle.process.specs.declared.states.State.TheVariants.{Ready, WaitingForEvent}
use Rattle.process.specs.declared.states.Cause.TheVariants.{WaitForEvent, Event}
use Rattle.process.specs.States.{is_of, next_of}
use Rattle.table.specs.declared.answers.Answer.TheVariants.{CommandPrivileged, IllegalInput}
use Rattle.table.specs.declared.configs.Config.{Config}
use Rattle.table.specs.declared.configs.Privileged.{Privileged}
use Rattle.table.specs.declared.Table.{Table}
use Rattle.table.specs.Configuration.{inputs_of, privilege_of, owner_of}
use Rattle.table.specs.Sound.{on_card}
use Rattle.table.proofs.Configured.{inputs_range}
use Rattle.calls.specs.Levels.{process_of, with_latch, moving}
use Rattle.calls.specs.Verdicts.{check, by_caller}
use Rattle.calls.proofs.Keeping.{Steady, Keeps, keeps_obeyed, steady_mask, steady_latch, passed_caller, passed_check}
use Rattle.calls.proofs.Changing.{steady_process, tame_moved}
use Rattle.interrupts.specs.Interrupts.{is_input, owns_input, enable_of, disable_of, reset_interrupt_of, came_of, awaiting_of, awaiting_by, await_interrupt_of, open_of, opened_of, opened_by, latched_of, event_of}

-- ---- sets on a card

-- where no number passes a test, nothing is found
rising_none : (many from : ℕ) (test : ℕ → Bool) → ((n : ℕ) → from ≤ n → n < from + many → test n ≡ false) → rising_of many from test ≡ []
unfolding rising_of
rising_none zero from test none = refl
rising_none (suc many) from test none =
    rw (none from (omega arith) (omega arith)) (rising_none many (suc from) test (λ n above below. none n (omega arith) (omega arith)))

-- a set that holds no input counts none
count_none : (set : InputSet) → ((n : ℕ) → n < 256 → has_of set n ≡ false) → count_of set ≡ 0
unfolding count_of members_of
count_none set none = ap length (rising_none 256 0 (has_of set) (λ n above below. none n (omega arith)))

-- nothing stands in a list of none
stands_none : (n : ℕ) (l : List ℕ) → length l ≡ 0 → stands_in n l ≡ false
unfolding stands_in
stands_none n [] empty = refl
stands_none n (x ∷ l) empty = absurd (omega arith)

-- a set that counts none holds no input
none_counted : (set : InputSet) → count_of set ≡ 0 → (n : ℕ) → n < 256 → has_of set n ≡ false
unfolding count_of members_of
none_counted set empty n input = sym (rising_stands 256 0 (has_of set) n zero-le (omega arith)) ∙ stands_none n (rising_of 256 0 (has_of set)) empty

module _ (c : Config) where
  -- what a set holds beyond the card
  abbrev beyond : InputSet → InputSet
  beyond set = except_of set (run_of 0 (inputs_of c - 1))

  -- that is what it holds and the card does not have
  has_beyond : (set : InputSet) (n : ℕ) → n < 256 → has_of (beyond set) n ≡ pick (has_of set n) (not (leb n (inputs_of c - 1))) false
  has_beyond set n input = has_except n input set (run_of 0 (inputs_of c - 1)) ∙ rw (has_run n input 0 (inputs_of c - 1), leb-zero n)

  -- a set on the card holds no input beyond it
  card_none : (set : InputSet) → on_card c set ≡ true → (n : ℕ) → n < 256 → inputs_of c ≤ n → has_of set n ≡ false
  unfolding on_card
  card_none set card n input above =
      let none : has_of (beyond set) n ≡ false = none_counted (beyond set) (eqb-true (count_of (beyond set)) 0 card) n input in
      let past : leb n (inputs_of c - 1) ≡ false = lt-leb n (inputs_of c - 1) (omega (arith, inputs_range c)) in
      let left : pick (has_of set n) (not (leb n (inputs_of c - 1))) false ≡ false = sym (has_beyond set n input) ∙ none in
      by_test (has_of set n) (λ holds. absurd (never_both refl (rw (holds, past) at left))) (λ fails. fails)

  -- and a set that holds none is on the card
  none_card : (set : InputSet) → ((n : ℕ) → n < 256 → inputs_of c ≤ n → has_of set n ≡ false) → on_card c set ≡ true
  unfolding on_card
  none_card set none =
      eq-eqb (count_of (beyond set)) 0
      (count_none (beyond set) (λ n input. has_beyond set n input
      ∙ by_test (leb n (inputs_of c - 1))
      (λ within. rw within (by_pick (λ b. b ≡ false) (has_of set n) false false refl refl))
      (λ past. let above : inputs_of c ≤ n = omega (arith, leb-false n (inputs_of c - 1) past) in rw (none n input above))))

  -- one more input of the card may be inserted
  insert_on_card : (set : InputSet) (i : ℕ) → on_card c set ≡ true → i < inputs_of c → on_card c (insert_of set i) ≡ true
  insert_on_card set i card less =
      none_card (insert_of set i)
      (λ n input above. has_insert n input set i ∙ rw (ne_eqb n i (omega arith), card_none set card n input above))

  -- any input may be removed
  remove_on_card : (set : InputSet) (i : ℕ) → on_card c set ≡ true → on_card c (remove_of set i) ≡ true
  remove_on_card set i card =
      none_card (remove_of set i)
      (λ n input above. has_remove n input set i ∙ by_pick (λ b. b ≡ false) (eqb n i) false (has_of set n) refl (card_none set card n input above))

-- ---- the calls

module _ (t : Table) (caller : ℕ) where
  -- ENABLE keeps the table steady: the input is one of the card's
  pub enable_keeps : (input : ℕ) → Steady t → Keeps (enable_of t caller input)
  unfolding enable_of Keeps
  enable_keeps input steady =
      keeps_obeyed _ t _ steady
      (λ passed.
      let owns = check (owns_input t.config caller input) CommandPrivileged in
      let on = (passed_check (by_caller t.config (process_of t caller) caller) (is_input t input) IllegalInput (owns ∷ []) passed).1 in
      steady_mask t _ steady (insert_on_card t.config t.mask input steady.parts.mask (ltb-true input (inputs_of t.config) on)))

  -- DISABLE keeps it steady
  pub disable_keeps : (input : ℕ) → Steady t → Keeps (disable_of t caller input)
  unfolding disable_of Keeps
  disable_keeps input steady = keeps_obeyed _ t _ steady (λ passed. steady_mask t _ steady (remove_on_card t.config t.mask input steady.parts.mask))

  -- RESETINT keeps it steady
  pub reset_interrupt_keeps : (input : ℕ) → Steady t → Keeps (reset_interrupt_of t caller input)
  unfolding reset_interrupt_of Keeps
  reset_interrupt_keeps input steady = keeps_obeyed _ t _ steady (λ passed. steady_latch t _ steady (remove_on_card t.config t.latch input steady.parts.latch))

  -- a READY process may begin to wait for an event
  waiting_steady : Steady t → is_of (process_of t caller).state Ready ≡ true → Steady (moving t caller WaitForEvent)
  unfolding next_of
  waiting_steady steady ready =
      steady_process t caller _ steady (tame_moved (process_of t caller) Ready WaitingForEvent WaitForEvent ready refl t.config.places refl refl)

  -- whether it owns inputs or not
  awaiting_keeps : (owned : Option Privileged) → Steady t → is_of (process_of t caller).state Ready ≡ true → Keeps (awaiting_by owned t caller)
  unfolding awaiting_of Keeps
  awaiting_keeps (Some place) steady ready = by_pick Keeps (eqb (count_of (came_of t place)) 0) _ _ (waiting_steady steady ready) steady
  awaiting_keeps None steady ready = steady

  -- AWAITINTERRUPT keeps it steady
  pub await_interrupt_keeps : Steady t → Keeps (await_interrupt_of t caller)
  unfolding await_interrupt_of
  await_interrupt_keeps steady =
      keeps_obeyed _ t _ steady
      (λ passed. awaiting_keeps (privilege_of t.config caller) steady (passed_caller t.config (process_of t caller) caller [] passed).1)

-- ---- an outside event

-- its owner may be READY again
woken_steady : (t : Table) (level : ℕ) → Steady t → is_of (process_of t level).state WaitingForEvent ≡ true → Steady (moving t level Event)
unfolding next_of
woken_steady t level steady waits =
    steady_process t level _ steady (tame_moved (process_of t level) WaitingForEvent Ready Event waits refl t.config.places refl refl)

-- whether it has an owner or not
opened_keeps : (owner : Option Privileged) (t : Table) (input : ℕ) → Steady t → Keeps (opened_by owner t input)
unfolding opened_of Keeps
opened_keeps (Some place) t input steady =
    by_test (open_of t input place)
    (λ opens. rw opens
    (woken_steady t place.level steady (both_true (is_of (process_of t place.level).state WaitingForEvent) (has_of t.mask input) opens).0))
    (λ closed. rw closed steady)
opened_keeps None t input steady = steady

-- an event keeps the table steady: it latches an input of the card, and may wake its owner
pub event_keeps : (t : Table) (input : ℕ) → Steady t → Keeps (event_of t input)
unfolding event_of latched_of
event_keeps t input steady =
    keeps_obeyed _ t _ steady
    (λ passed.
    let on = (passed_check (Ok tt) (is_input t input) IllegalInput [] passed).1 in
    let card = insert_on_card t.config t.latch input steady.parts.latch (ltb-true input (inputs_of t.config) on) in
    opened_keeps (owner_of t.config input) (with_latch t (insert_of t.latch input)) input (steady_latch t (insert_of t.latch input) steady card))
