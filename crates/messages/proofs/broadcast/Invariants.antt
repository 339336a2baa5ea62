use mathlib.Core.Path.{◌≡◌}
use Prim.Native.Nat.{ℕ, ◌-◌}
use Rattle.common.specs.Fold.{fold_of}
use Rattle.inputs.specs.InputSet.{rising_of}
use Rattle.process.specs.declared.Condition.{Condition}
use Rattle.process.specs.declared.buffers.Message.{Message}
use Rattle.table.specs.Configuration.{configured_of}
use Rattle.posting.specs.declared.Origin.TheVariants.{Sent}
use Rattle.posting.specs.Posting.{Delivered, delivered_in, letter, step_of}
use Rattle.messages.proofs.broadcast.Given as goal

-- the message for one level more
abbrev pub sending : ℕ → Condition → Message → Delivered → ℕ → Delivered
sending places condition message posting level = step_of Sent places posting (letter level condition message)

abbrev pub invariant-loop-receiver : goal.invariant-loop-receiver
invariant-loop-receiver l =
    fold_of (sending l.places l.condition l.message) (delivered_in l.processes l.posting) (rising_of (12 - l.receiver) l.receiver (configured_of l.config))
    ≡ fold_of (sending l.places l.condition l.message) (delivered_in l.initial.processes l.initial.posting) (rising_of 12 0 (configured_of l.config))
