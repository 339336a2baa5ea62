use mathlib.Core.Path.{refl}
use Rattle.calls.specs.Effects.{outcome_of}
use Rattle.calls.specs.Verdicts.{obeyed}
use Rattle.calls.proofs.obeyed.Goals.{in-Ok, in-Err}
use Rattle.calls.proofs.obeyed.Goals as goal

pub call-said-requires : goal.call-said-requires
call-said-requires g c = c.requires c.in-Ok.is _ refl

pub returns : goal.returns
unfolding obeyed outcome_of
returns g c = λ effect comes. elim c.match-checked.branch [
  | in-Ok w ↦
      let has = comes _ _ _ w.in-Ok.is refl w.call-said.ensures in
      rw (w.said-is, w.after-is, w.in-Ok.is, has.says, has.leaves)
  | in-Err w ↦ rw (w.said-is, w.after-is, w.in-Err.is, w.said-said.ensures, w.none.ensures)
]
