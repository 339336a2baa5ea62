use mathlib.Core.Path.{◌∙◌, ap, sym}
use Rattle.calls.specs.Effects.{outcome_of}
use Rattle.calls.proofs.Obeying.{outcome_number}
use Rattle.ticking.specs.Ticking.{run_effect}
use Rattle.ticking.proofs.Lulls.{no_lull_runs, lull_run}
use Rattle.ticking.proofs.ticks.Goals as goal

-- where it is no lull, the scheduler runs on
pub running_on-requires : goal.running_on-requires
running_on-requires c = no_lull_runs _ _ _ _ (sym c.in_default.ensures)

pub returns-in-Some : goal.returns-in-Some
returns-in-Some c =
    let args = c.args in
    c.with_number.ensures
    ∙ rw c.none.ensures (outcome_number _ _ _)
    ∙ ap (λ x. outcome_of (run_effect x)) (sym (lull_run args.table args.count c.in-Some.lull (sym c.in-Some.ensures)))
