use Rattle.std.proofs.Common.{sym, ◌∙◌, rules, arith}
use Rattle.timers.specs.Timers.{schedule_of}
use Rattle.timers.proofs.Fitting.{receiver_fits}
use Rattle.timers.proofs.schedule.Goals as goal

pub obeyed-requires : goal.obeyed-requires
obeyed-requires c passed = omega (
  arith,
  receiver_fits c.args.table.config c.args.table.processes c.args.caller c.args.new c.moment_of-moment.result (sym c.schedule_checked-checked.ensures ∙ passed),
)

pub returns : goal.returns
unfolding schedule_of
returns c =
    rw (← c.moment_of-moment.ensures, ← c.schedule_checked-checked.ensures)
    (c.obeyed.ensures _ (λ lent left said passed is_lent ran. search (rules, is_lent)))
