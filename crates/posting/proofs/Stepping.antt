-- One letter, where its receiver is one of the twelve levels and where there is no such level. Assumes nothing.
use mathlib.Core.Path.{◌≡◌, refl}
use mathlib.Core.Bool.{false, ◌||◌}
use mathlib.Core.List.{List}
use Prim.Native.Nat.{ℕ, ◌<◌, ◌≤◌}
use native.Mathlib.Omega.{arith}
use lib.ListN.{length, get_or, set, get_or-eq_default}
use lib.Seq.{set_out}
use Rattle.common.specs.Fold.{fold_of}
use Rattle.common.proofs.Cases.{never_both}
use Rattle.common.proofs.Lists.{get_or_within}
use Rattle.process.specs.Process.{Delivery}
use Rattle.process.specs.declared.Fate.{Fate}
use Rattle.process.specs.declared.Fate.TheVariants.{Handed, Stored, NotWaiting, Full}
use Rattle.process.specs.declared.Process.{Process}
use Rattle.process.specs.declared.buffers.Message.{Message}
use Rattle.process.specs.Process.{delivery, fresh_of, deliver_of}
use Rattle.table.specs.Wakes.{Wakes, wake_push_of}
use Rattle.calls.specs.Levels.{process_at}
use Rattle.posting.specs.declared.Origin.{Origin}
use Rattle.posting.specs.Posting.{Delivered, Letter, is_handed, is_full, delivered_to, pushed_for, one_of, added_of, step_of}

module _ (origin : Origin) (places : ℕ) (posting : Delivered) (x : Letter) (twelve : length posting.processes ≡ 12) where
  -- what became of it at a receiver
  abbrev delivered_as : Process → Delivery
  delivered_as p = delivered_to origin places x.condition x.message p

  -- the receiver's record changes, and its wake is told, or the loss
  abbrev pub within_of : Process → Delivered
  within_of p = record {
    processes = set posting.processes x.receiver (delivered_as p).process;
    wakes = pushed_for posting.wakes x.receiver (delivered_as p).fate x.message;
    full = posting.full || is_full (delivered_as p).fate;
  }

  pub step_within : (d : Process) → x.receiver < 12 → step_of origin places posting x ≡ within_of (get_or posting.processes x.receiver d)
  unfolding step_of added_of one_of delivered_to process_at
  step_within d within = rw (get_or_within posting.processes x.receiver fresh_of d (omega arith))

  -- the same, by what became of it and the record afterwards
  pub step_left : (d : Process) (fate : Fate) (after : Process) → x.receiver < 12 → delivery fate after ≡ delivered_as (get_or posting.processes x.receiver d)
      → record {
        processes = set posting.processes x.receiver after;
        wakes = pushed_for posting.wakes x.receiver fate x.message;
        full = posting.full || is_full fate;
      }
      ≡ step_of origin places posting x
  step_left d fate after within same = rw (step_within d within, ← same)

  -- where there is no such level, no record changes
  pub step_outside : 12 ≤ x.receiver → step_of origin places posting x ≡ record {
    processes = posting.processes;
    wakes = pushed_for posting.wakes x.receiver (deliver_of fresh_of x.condition places x.message).fate x.message;
    full = posting.full || is_full (deliver_of fresh_of x.condition places x.message).fate;
  }
  unfolding step_of added_of one_of process_at
  step_outside outside =
      rw (get_or-eq_default posting.processes fresh_of {n = x.receiver} (omega arith), set_out posting.processes x.receiver _ (omega arith))

-- a letter that is not handed over adds no wake
pub pushed_none : (wakes : Wakes) (level : ℕ) (fate : Fate) (m : Message) → is_handed fate ≡ false → pushed_for wakes level fate m ≡ wakes
pushed_none wakes level (Handed told) m not = absurd (never_both refl not)
pushed_none wakes level Stored m not = refl
pushed_none wakes level NotWaiting m not = refl
pushed_none wakes level Full m not = refl

module _ (origin : Origin) (places : ℕ) (x : Letter) (processes : List Process) (d : Process) (within : x.receiver < length processes) where
  -- what became of it at its receiver
  abbrev delivered_there : Delivery
  delivered_there = delivered_to origin places x.condition x.message (get_or processes x.receiver d)

  -- the receiver's record changes
  pub one_record : set processes x.receiver delivered_there.process ≡ (one_of origin places x processes).processes
  unfolding one_of delivered_to process_at
  one_record = rw (get_or_within processes x.receiver fresh_of d within)

  -- and it wakes where the letter is handed over
  pub one_wake : (wakes : Wakes) → pushed_for wakes x.receiver delivered_there.fate x.message ≡ fold_of wake_push_of wakes (one_of origin places x processes).wakes
  unfolding one_of delivered_to process_at
  one_wake wakes = rw (get_or_within processes x.receiver fresh_of d within)
