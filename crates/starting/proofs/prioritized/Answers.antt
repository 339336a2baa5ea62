use Rattle.std.proofs.Common.{◌∙◌, leb, arith, rules, ◌<◌, sym}
use borrow.Author.Tests.{leb-true}
use Rattle.calls.proofs.Obeying.{last_passed}
use Rattle.starting.specs.Starting.{prioritized_of}
use Rattle.starting.proofs.prioritized.Goals as goal

pub ruled-requires : goal.ruled-requires
ruled-requires c passed =
    let small = last_passed _ (leb c.args.priority 63) _ (sym c.priority_checked-checked.ensures ∙ passed) in
    let byte : c.args.priority < 256 = omega (arith, leb-true c.args.priority 63 small.1) in
    search (rules, byte)

pub returns : goal.returns
unfolding prioritized_of
returns c = rw (← c.priority_checked-checked.ensures) (c.ruled.ensures _ (λ decided passed ran. search (rules, ran)))
