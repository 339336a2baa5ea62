use Rattle.std.proofs.Common.{◌≡◌, ◌∙◌, sym, rules, arith}
use Rattle.calls.specs.Levels.{process_of}
use Rattle.interrupts.specs.Interrupts.{input_verdict, disable_of}
use Rattle.interrupts.proofs.Fitting.{input_fits}
use Rattle.interrupts.proofs.disable.Goals.{After-input_checked-checked}
use Rattle.interrupts.proofs.disable.Goals as goal

-- the checks are made on the caller's record
seen : (c : After-input_checked-checked) → c.input_checked-checked.result ≡ input_verdict c.args.table.config (process_of c.args.table c.args.caller) c.args.caller c.args.input
seen c = c.input_checked-checked.ensures ∙ rw c.caller_at.ensures

pub obeyed-requires : goal.obeyed-requires
obeyed-requires c passed lent is_lent = omega (
  arith,
  input_fits c.args.table.config (process_of c.args.table c.args.caller) c.args.caller c.args.input (sym (seen (goal.at.obeyed-requires c).After-input_checked-checked) ∙ passed),
)

pub returns : goal.returns
unfolding disable_of
returns c =
    rw (← seen (goal.at.returns c).After-input_checked-checked)
    (c.obeyed.ensures _ (λ lent left said passed is_lent ran. search (rules, is_lent)))
