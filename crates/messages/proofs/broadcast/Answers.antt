use mathlib.Core.Path.{◌≡◌, ◌∙◌, refl, ap, sym}
use mathlib.Core.Bool.{Bool}
use mathlib.Core.List.{List}
use Rattle.common.specs.Choice.{pick}
use Rattle.common.specs.Fold.{fold_of}
use Rattle.common.proofs.Fold.{fold_map}
use Rattle.inputs.specs.InputSet.{rising_of}
use Rattle.inputs.proofs.Rising.{rising_turn, rising_end}
use Rattle.process.specs.declared.Condition.{Condition}
use Rattle.process.specs.declared.Process.{Process}
use Rattle.process.specs.declared.buffers.Message.{Message}
use Rattle.table.specs.declared.configs.Config.{Config}
use Rattle.table.specs.Configuration.{configured_of}
use Rattle.posting.specs.declared.Origin.TheVariants.{Sent}
use Rattle.posting.specs.Posting.{letter, delivered_in, begin_of, posting_of, step_of}
use Rattle.posting.proofs.Letters.{posts_begin}
use Rattle.messages.specs.Sending.{send_posted, broadcast_posted}
use Rattle.messages.proofs.broadcast.Invariants.{sending}
use Rattle.messages.proofs.broadcast.Goals.{then-has_level, else-has_level}
use Rattle.messages.proofs.broadcast.Goals as goal

-- the message for every configured level, one after the other
all_sent : (config : Config) (condition : Condition) (message : Message) (processes : List Process)
    → fold_of (sending config.places condition message) (begin_of processes) (rising_of 12 0 (configured_of config)) ≡ posting_of (broadcast_posted config condition message processes)
unfolding send_posted
all_sent config condition message processes =
    sym (fold_map (step_of Sent config.places) (λ level. letter level condition message) (begin_of processes) (rising_of 12 0 (configured_of config)))
    ∙ posts_begin Sent config.places processes _

pub loop-receiver-init : goal.loop-receiver-init
loop-receiver-init c = refl

pub loop-receiver-preserved : goal.loop-receiver-preserved
loop-receiver-preserved c =
    let args = c.args in
    let loop = c.loop-receiver in
    let before = delivered_in loop.processes loop.posting in
    let step = sending args.config.places args.condition args.message in
    let one = step before loop.receiver in
    let turned : delivered_in c.if-has_level.processes c.if-has_level.posting ≡ pick c.has_level.result one before =
    elim c.if-has_level.branch [
      | then-has_level w ↦ rw (w.processes-is, w.posting-is) w.post.ensures ∙ sym (ap (λ (wanted : Bool). pick wanted one before) w.if-has_level.true)
      | else-has_level w ↦ rw (w.processes-is, w.posting-is) (sym (ap (λ (wanted : Bool). pick wanted one before) w.if-has_level.false))
    ] in
    rw (turned, c.has_level.ensures)
    (sym (rising_turn step (configured_of args.config) before 12 loop.receiver c.loop-receiver-test.true) ∙ loop.invariant)

pub returns : goal.returns
returns c =
    let args = c.args in
    let loop = c.loop-receiver in
    rising_end (sending args.config.places args.condition args.message) (configured_of args.config) (delivered_in loop.processes loop.posting) _ 12 loop.receiver
    c.loop-receiver-test.false loop.invariant
    ∙ rw (c.begin-posting.ensures args.processes.now) (all_sent args.config args.condition args.message args.processes.now)
