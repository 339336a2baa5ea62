use mathlib.Core.Path.{◌∙◌}
use Rattle.holding.specs.Holding.{asked_of}
use Rattle.holding.proofs.asked.Goals.{in-Ok, in-Err}
use Rattle.holding.proofs.asked.Goals as goal

pub returns : goal.returns
unfolding asked_of
returns c = elim c.match-checked.branch [
  | in-Ok w ↦ c.alone.ensures ∙ rw (w.answer-is, w.parts-is, ← c.checked.ensures, w.in-Ok.is) w.requested-answer.ensures
  | in-Err w ↦ c.alone.ensures ∙ rw (w.answer-is, w.parts-is, ← c.checked.ensures, w.in-Err.is)
]
