use Rattle.std.proofs.Common.{◌≡◌, ◌∙◌, sym, rules, arith}
use Rattle.calls.specs.Levels.{process_of}
use Rattle.interrupts.specs.Interrupts.{enable_verdict, enable_of}
use Rattle.interrupts.proofs.Fitting.{enable_fits}
use Rattle.interrupts.proofs.enable.Goals.{After-enable_checked-checked}
use Rattle.interrupts.proofs.enable.Goals as goal

-- the checks are made on the caller's record
seen : (c : After-enable_checked-checked) → c.enable_checked-checked.result ≡ enable_verdict c.args.table.config (process_of c.args.table c.args.caller) c.args.caller c.args.input
seen c = c.enable_checked-checked.ensures ∙ rw c.caller_at.ensures

pub obeyed-requires : goal.obeyed-requires
obeyed-requires c passed lent is_lent = omega (
  arith,
  enable_fits c.args.table.config (process_of c.args.table c.args.caller) c.args.caller c.args.input (sym (seen (goal.at.obeyed-requires c).After-enable_checked-checked) ∙ passed),
)

pub returns : goal.returns
unfolding enable_of
returns c =
    rw (← seen (goal.at.returns c).After-enable_checked-checked)
    (c.obeyed.ensures _ (λ lent left said passed is_lent ran. search (rules, is_lent)))
