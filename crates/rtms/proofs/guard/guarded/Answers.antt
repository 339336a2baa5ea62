use Rattle.std.proofs.Common.{◌∙◌, sym}
use Rattle.table.specs.declared.answers.Answer.TheVariants.{BadConfig}
use Rattle.calls.proofs.Obeying.{outcome_refuse}
use Rattle.rtms.specs.Calls.{guarded_of}
use Rattle.rtms.proofs.guard.guarded.Goals as goal

pub returns-then-sound : goal.returns-then-sound
unfolding guarded_of
returns-then-sound g c = λ effect comes. rw (← c.sound.ensures, c.if-sound.true) (comes c.call.result c.call.ensures)

pub returns-else-sound : goal.returns-else-sound
unfolding guarded_of
returns-else-sound g c = λ effect comes. rw (← c.sound.ensures, c.if-sound.false) (c.refused.ensures ∙ sym (outcome_refuse c.args.table BadConfig))
