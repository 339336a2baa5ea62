use mathlib.Core.Path.{◌∙◌, ap}
use Rattle.calls.specs.Effects.{outcome_of}
use Rattle.ticking.specs.Ticking.{run_effect}
use Rattle.ticking.proofs.Quieting.{ticks_one}
use Rattle.ticking.proofs.tick.Goals as goal

pub returns : goal.returns
returns c = c.ticks.ensures ∙ ap (λ x. outcome_of (run_effect x)) (ticks_one c.args.table)
