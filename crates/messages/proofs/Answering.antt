-- What SEND answers and leaves, by what became of its message. Assumes nothing.
use mathlib.Core.Path.{◌≡◌, ◌∙◌, refl, ap, sym}
use mathlib.Core.Bool.{true, false}
use mathlib.Core.List.{List, [], ◌∷◌}
use Prim.Native.Nat.{ℕ, ◌<◌}
use native.Mathlib.Omega.{arith}
use lib.ListN.{length, get_or, set}
use lib.Seq.{set-get_or}
use borrow.Author.Tests.{eq-eqb, ne_eqb}
use Rattle.common.specs.Filled.{filled_of, pushed_of}
use Rattle.common.proofs.Cases.{by_test, never_both}
use Rattle.process.specs.declared.Condition.{Condition}
use Rattle.process.specs.declared.Condition.TheVariants.{Always, Waiting}
use Rattle.process.specs.Process.{Delivery, handed_of}
use Rattle.process.specs.declared.Fate.{Fate}
use Rattle.process.specs.declared.Fate.TheVariants.{Handed, Stored, NotWaiting, Full}
use Rattle.process.specs.declared.Process.{Process}
use Rattle.process.specs.declared.Target.TheVariants.{Level}
use Rattle.process.specs.declared.buffers.Message.{Message}
use Rattle.table.specs.declared.answers.Answer.TheVariants.{Ok, ReceiverNotReady, ReceiverBufferOverflow}
use Rattle.table.specs.declared.Outcome.{Outcome}
use Rattle.table.specs.declared.Table.{Table}
use Rattle.table.specs.declared.wakes.Wake.{Wake}
use Rattle.table.specs.Table.{refused_of}
use Rattle.table.specs.Wakes.{Wakes, wakes_of, no_wakes_of}
use Rattle.calls.specs.Effects.{outcome_of}
use Rattle.calls.specs.Levels.{with_processes}
use Rattle.calls.specs.Outcomes.{answered_of}
use Rattle.calls.proofs.Obeying.{outcome_refuse, outcome_waking}
use Rattle.posting.specs.declared.Origin.TheVariants.{Sent}
use Rattle.posting.specs.Posting.{Posted, letter, is_handed, is_full, marked_by, delivered_to, pushed_for, begin_of, posting_of, Delivered}
use Rattle.posting.proofs.Letters.{posts_begin}
use Rattle.posting.proofs.Stepping.{step_within, pushed_none}
use Rattle.posting.proofs.Waking.{waits, deliver_waits, deliver_keeps}
use Rattle.messages.specs.Sending.{send_posted, sent_by, sent_of, sent_answer}

-- where no place of the wakes is taken, nobody wakes
wakes_none : (l : List Wake) → (wakes_of l).count ≡ 0 → length l ≡ 0
unfolding filled_of
wakes_none l none = omega arith

-- and where one is, somebody does
wakes_some : (l : List Wake) → ((wakes_of l).count ≡ 0 → ⊥) → length l ≡ 0 → ⊥
unfolding filled_of
wakes_some l some none = some (omega arith)

-- and so there is no wake
none_there : (l : List Wake) → length l ≡ 0 → l ≡ []
none_there [] none = refl
none_there (w ∷ l) none = absurd (omega (arith, none))

module _ (t : Table) (condition : Condition) (p : Delivered) (posted : Posted) (same : p ≡ posting_of posted) where
  -- WAITING, and nobody waited
  pub waiting_none : condition ≡ Waiting → p.wakes.count ≡ 0 → refused_of t ReceiverNotReady ≡ outcome_of (sent_by condition t posted)
  unfolding posting_of
  waiting_none waiting none =
      rw (waiting, eq-eqb (length posted.wakes) 0 (wakes_none posted.wakes (sym (ap (λ (x : Delivered). x.wakes.count) same) ∙ none)))
      (sym (outcome_refuse t ReceiverNotReady))

  -- then the processes are as they were, and so is the table that is left
  pub waiting_kept : condition ≡ Waiting → p.wakes.count ≡ 0 → (posted.wakes ≡ [] → posted.processes ≡ t.processes)
      → refused_of (with_processes t p.processes) ReceiverNotReady ≡ outcome_of (sent_by condition t posted)
  unfolding posting_of
  waiting_kept waiting none kept =
      let nobody = wakes_none posted.wakes (sym (ap (λ (x : Delivered). x.wakes.count) same) ∙ none) in
      ap (λ (left : List Process). refused_of (with_processes t left) ReceiverNotReady) (ap (λ (x : Delivered). x.processes) same ∙ kept (none_there posted.wakes nobody))
      ∙ waiting_none waiting none

  -- WAITING, and somebody waited
  pub waiting_some : condition ≡ Waiting → (p.wakes.count ≡ 0 → ⊥) → answered_of (with_processes t p.processes) Ok p.wakes ≡ outcome_of (sent_by condition t posted)
  unfolding posting_of
  waiting_some waiting some =
      rw (waiting, ne_eqb (length posted.wakes) 0 (wakes_some posted.wakes (λ none. some (ap (λ (x : Delivered). x.wakes.count) same ∙ none))), same)
      (outcome_waking (with_processes t posted.processes) Ok posted.wakes)

  -- ALWAYS, and a full buffer lost the message
  pub always_full : condition ≡ Always → p.full ≡ true → answered_of (with_processes t p.processes) ReceiverBufferOverflow p.wakes ≡ outcome_of (sent_by condition t posted)
  unfolding posting_of
  always_full always full =
      rw (always, sym (ap (λ (x : Delivered). x.full) same) ∙ full, same)
      (outcome_waking (with_processes t posted.processes) ReceiverBufferOverflow posted.wakes)

  -- ALWAYS, and none did
  pub always_served : condition ≡ Always → p.full ≡ false → answered_of (with_processes t p.processes) Ok p.wakes ≡ outcome_of (sent_by condition t posted)
  unfolding posting_of
  always_served always full =
      rw (always, sym (ap (λ (x : Delivered). x.full) same) ∙ full, same)
      (outcome_waking (with_processes t posted.processes) Ok posted.wakes)

-- ---- one receiver

-- where WAITING finds nobody waiting, the record stays as it is
unserved : (p : Process) (places : ℕ) (m : Message) → is_handed (delivered_to Sent places Waiting m p).fate ≡ false → (delivered_to Sent places Waiting m p).process ≡ p
unfolding delivered_to marked_by handed_of
unserved p places m not =
    by_test (waits p)
    (λ waiting. absurd (never_both (rw (deliver_waits p Waiting places m waiting)) not))
    (λ other. rw (deliver_keeps p Waiting places m other))

-- a message that is handed over wakes somebody
handed_some : (level : ℕ) (fate : Fate) (m : Message) → is_handed fate ≡ true → (pushed_for no_wakes_of level fate m).count ≡ 0 → ⊥
unfolding filled_of pushed_of
handed_some level (Handed told) m handed none = omega arith
handed_some level Stored m handed none = never_both handed refl
handed_some level NotWaiting m handed none = never_both handed refl
handed_some level Full m handed none = never_both handed refl

-- any other nobody
handed_none : (level : ℕ) (fate : Fate) (m : Message) → is_handed fate ≡ false → (pushed_for no_wakes_of level fate m).count ≡ 0
unfolding filled_of
handed_none level fate m not = ap (λ (w : Wakes). w.count) (pushed_none no_wakes_of level fate m not)

module _ (t : Table) (level : ℕ) (m : Message) (d : Process) (twelve : length t.processes ≡ 12) (within : level < 12) where
  -- what becomes of the message
  abbrev delivered_as : Condition → Delivery
  delivered_as condition = delivered_to Sent t.config.places condition m (get_or t.processes level d)

  abbrev posting_as : Condition → Delivered
  posting_as condition = record {
    processes = set t.processes level (delivered_as condition).process;
    wakes = pushed_for no_wakes_of level (delivered_as condition).fate m;
    full = is_full (delivered_as condition).fate;
  }

  abbrev posted_as : Condition → Posted
  posted_as condition = send_posted t.config (Level level) condition m t.processes

  posted_one : (condition : Condition) → posting_as condition ≡ posting_of (posted_as condition)
  unfolding send_posted begin_of
  posted_one condition =
      sym (step_within Sent t.config.places (begin_of t.processes) (letter level condition m) twelve d within)
      ∙ posts_begin Sent t.config.places t.processes (letter level condition m ∷ [])

  -- what the code makes of it
  abbrev sent_as : Condition → Outcome
  sent_as condition = answered_of (with_processes t (posting_as condition).processes) (sent_answer condition (delivered_as condition).fate) (posting_as condition).wakes

  pub sent_one : (condition : Condition) → sent_as condition ≡ outcome_of (sent_of t (Level level) condition m)
  unfolding sent_of answered_of refused_of
  sent_one Always =
      by_test (is_full (delivered_as Always).fate)
      (λ full. rw full (always_full t Always (posting_as Always) (posted_as Always) (posted_one Always) refl full))
      (λ kept. rw kept (always_served t Always (posting_as Always) (posted_as Always) (posted_one Always) refl kept))
  sent_one Waiting =
      by_test (is_handed (delivered_as Waiting).fate)
      (λ handed. rw handed (waiting_some t Waiting (posting_as Waiting) (posted_as Waiting) (posted_one Waiting) refl (handed_some level (delivered_as Waiting).fate m handed)))
      (λ not. rw (not, unserved (get_or t.processes level d) t.config.places m not, set-get_or, pushed_none no_wakes_of level (delivered_as Waiting).fate m not)
      (waiting_none t Waiting (posting_as Waiting) (posted_as Waiting) (posted_one Waiting) refl (handed_none level (delivered_as Waiting).fate m not)))
