-- What the same message does to each of its receivers, and to everybody else. Assumes nothing.
use mathlib.Core.Path.{◌≡◌, ◌∙◌, refl, ap, sym}
use mathlib.Core.Bool.{true, false}
use mathlib.Core.List.{List, [], ◌∷◌, ◌++◌, map}
use Prim.Native.Nat.{ℕ, ◌<◌}
use native.Mathlib.Omega.{arith}
use lib.Dec.{eqb}
use lib.ListN.{length, set}
use lib.Seq.{set-get_or}
use borrow.Author.Tests.{eqb-true, eqb-false}
use Rattle.std.specs.Prelude.{Option, Some, None}
use Rattle.common.specs.Stands.{stands_in, Once}
use Rattle.common.proofs.Cases.{by_test, never_both}
use Rattle.common.proofs.Once.{stands_cases, stands_none}
use Rattle.process.specs.declared.Condition.{Condition}
use Rattle.process.specs.declared.Condition.TheVariants.{Always, Waiting}
use Rattle.process.specs.Process.{Delivery}
use Rattle.process.specs.declared.Fate.TheVariants.{Full}
use Rattle.process.specs.declared.Process.{Process}
use Rattle.process.specs.declared.buffers.Buffer.{Buffer}
use Rattle.process.specs.declared.buffers.Message.{Message}
use Rattle.process.specs.declared.states.State.TheVariants.{Ready}
use Rattle.process.specs.Messages.{put_of}
use Rattle.process.specs.Process.{fresh_of, overflow_marked_of, deliver_of, handed_of, stored_as, stored_of, kept_of}
use Rattle.calls.specs.Levels.{process_at}
use Rattle.posting.specs.declared.Origin.{Origin}
use Rattle.posting.specs.declared.Origin.TheVariants.{Sent}
use Rattle.posting.specs.Posting.{Letter, letter, is_full, marked_by, one_of, all_of}
use Rattle.posting.proofs.Waking.{waits, deliver_waits, deliver_keeps, served_of, length_one, one_here, one_other, one_wakes}

-- ---- receivers, one after the other

module _ (origin : Origin) (places : ℕ) (condition : Condition) (m : Message) where
  -- the message for a level leaves such processes for those behind it
  abbrev after : ℕ → List Process → List Process
  after level processes = (one_of origin places (letter level condition m) processes).processes

  -- who is no receiver is as before
  pub others_same : (receivers : List ℕ) (processes : List Process) (level : ℕ) → stands_in level receivers ≡ false
      → process_at (all_of origin places (map (λ to. letter to condition m) receivers) processes).processes level ≡ process_at processes level
  unfolding all_of
  others_same [] processes level none = refl
  others_same (first ∷ receivers) processes level none =
      let others = stands_none level first receivers none in
      others_same receivers (after first processes) level others.1 ∙ one_other origin places (letter first condition m) processes level others.0

  -- a letter makes of its receiver the same where others were served before
  same_alone : (first level : ℕ) (processes : List Process) → (level ≡ first → ⊥) → level < length processes
      → process_at (after level (after first processes)) level ≡ process_at (after level processes) level
  same_alone first level processes other within =
      let x = letter level condition m in
      one_here origin places x (after first processes) (rw (length_one origin places (letter first condition m) processes) within)
      ∙ ap (served_of origin places x) (one_other origin places (letter first condition m) processes level other)
      ∙ sym (one_here origin places x processes within)

  -- each receiver is served as if the message were for it alone, whatever became of the others
  pub each_served : (receivers : List ℕ) (processes : List Process) (level : ℕ) → Once receivers → stands_in level receivers ≡ true → level < length processes
      → process_at (all_of origin places (map (λ to. letter to condition m) receivers) processes).processes level
      ≡ process_at (one_of origin places (letter level condition m) processes).processes level
  unfolding all_of stands_in Once
  each_served [] processes level once stands within = absurd (never_both stands refl)
  each_served (first ∷ receivers) processes level once stands within =
      by_test (eqb level first)
      (λ e. let here : level ≡ first = eqb-true _ _ e in
      rw here (others_same receivers (after first processes) first once.0))
      (λ e. let other : level ≡ first → ⊥ = eqb-false _ _ e in
      each_served receivers (after first processes) level once.1
      (stands_cases level first receivers stands (λ here. absurd (other (sym here))) (λ later. later))
      (rw (length_one origin places (letter first condition m) processes) within)
      ∙ same_alone first level processes other within)

-- ---- a receiver whose buffer is full

-- what a full buffer loses leaves the process as it was
stored_full : (p : Process) (put : Option Buffer) → is_full (stored_as p put).fate ≡ true → stored_as p put ≡ record { fate = Full; process = p }
stored_full p None full = refl
stored_full p (Some kept) full = absurd (never_both full refl)

kept_full : (p : Process) (condition : Condition) (places : ℕ) (m : Message) → is_full (kept_of p condition places m).fate ≡ true
    → kept_of p condition places m ≡ record { fate = Full; process = p }
unfolding stored_of
kept_full p Always places m full = stored_full p (put_of p.buffer places m) full
kept_full p Waiting places m full = absurd (never_both full refl)

-- and nothing that is handed over is lost
handed_not_full : (p : Process) → is_full (handed_of p Ready).fate ≡ false
unfolding handed_of
handed_not_full p = refl

-- so a message that a full buffer loses leaves its receiver as it was
deliver_full : (p : Process) (condition : Condition) (places : ℕ) (m : Message) → is_full (deliver_of p condition places m).fate ≡ true
    → deliver_of p condition places m ≡ record { fate = Full; process = p }
deliver_full p condition places m full =
    by_test (waits p)
    (λ holds. absurd (never_both full (ap (λ (d : Delivery). is_full d.fate) (deliver_waits p condition places m holds) ∙ handed_not_full p)))
    (λ fails. let keeps = deliver_keeps p condition places m fails in keeps ∙ kept_full p condition places m (rw keeps at full))

-- where a full buffer loses what a process sent, its overflow mark is set, and nothing else happens
pub full_marks : (places : ℕ) (x : Letter) (processes : List Process) → (one_of Sent places x processes).full ≡ true
    → ((one_of Sent places x processes).processes ≡ set processes x.receiver (overflow_marked_of (process_at processes x.receiver)))
    × ((one_of Sent places x processes).wakes ≡ [])
unfolding one_of marked_by
full_marks places x processes full =
    let lost = deliver_full (process_at processes x.receiver) x.condition places x.message full in
    (rw lost, rw lost)

-- ---- WAITING, where nobody waits

-- two lists that are nothing together are nothing each
both_none : {A : Type 0} (l m : List A) → l ++ m ≡ [] → (l ≡ []) × (m ≡ [])
both_none [] m none = (refl, none)
both_none (x ∷ l) m none = let z : ◌≡◌ {A = ℕ} 0 1 = cc in absurd (omega arith)

module _ (places : ℕ) (m : Message) where
  -- a message for a process that does not wait for one changes nothing
  waiting_same : (level : ℕ) (processes : List Process) → (one_of Sent places (letter level Waiting m) processes).wakes ≡ []
      → (one_of Sent places (letter level Waiting m) processes).processes ≡ processes
  unfolding one_of marked_by process_at
  waiting_same level processes none =
      by_test (waits (process_at processes level))
      (λ holds. let woken : map (λ w. w.level) (one_of Sent places (letter level Waiting m) processes).wakes ≡ level ∷ [] = one_wakes Sent places (letter level Waiting m) processes holds in
      let z : ◌≡◌ {A = ℕ} 0 1 = cc in absurd (omega arith))
      (λ fails. rw (deliver_keeps (process_at processes level) Waiting places m fails) (set-get_or processes level fresh_of))

  -- so where the same message for each of some levels wakes nobody, the processes are the same
  pub nobody_served : (receivers : List ℕ) (processes : List Process) → (all_of Sent places (map (λ to. letter to Waiting m) receivers) processes).wakes ≡ []
      → (all_of Sent places (map (λ to. letter to Waiting m) receivers) processes).processes ≡ processes
  unfolding all_of
  nobody_served [] processes none = refl
  nobody_served (first ∷ receivers) processes none =
      let nobody = both_none _ _ none in
      nobody_served receivers _ nobody.1 ∙ waiting_same first processes nobody.0
