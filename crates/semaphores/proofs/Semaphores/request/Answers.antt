use Rattle.std.proofs.Common.{◌≡◌, ◌∙◌, arith}
use Rattle.std.proofs.lemmas.Result.{err_from_is_err_and}
use borrow.Author.Tests.{eq-eqb, ne_eqb}
use Rattle.semaphores.specs.Semaphores.{free, holder_of, request_of}
use Rattle.semaphores.proofs.Numbers.{usable_below, checked_usable, checked_unusable}
use Rattle.semaphores.proofs.Semaphores.request.Goals as goal

pub returns-in_err-number : goal.returns-in_err-number
unfolding request_of
returns-in_err-number c =
    let refused = err_from_is_err_and c.from_residual.result c.from_residual.ensures.1 in rw (refused.1, checked_unusable _ _ c.in_err-number.ensures)

pub bounds-self-at : goal.bounds-self-at
bounds-self-at c = let passed = checked_usable _ _ c.in_ok-number.ensures in omega (arith, usable_below _ passed.0, passed.1, c.from-at.ensures)

pub bounds-semaphores-at : goal.bounds-semaphores-at
bounds-semaphores-at c = let passed = checked_usable _ _ c.in_ok-number.ensures in omega (arith, usable_below _ passed.0, passed.1, c.from-at.ensures)

pub returns-then-holder : goal.returns-then-holder
unfolding request_of holder_of
returns-then-holder c =
    let passed = checked_usable _ _ c.in_ok-number.ensures in
    let at : c.from-at.result ≡ c.args.number = c.from-at.ensures ∙ passed.1 in
    let is_free : holder_of c.args.self c.args.number ≡ free = rw at at c.if-holder.true in
    rw (at, passed.0, eq-eqb _ _ is_free)

pub returns-then-holder-level : goal.returns-then-holder-level
unfolding request_of holder_of
returns-then-holder-level c =
    let passed = checked_usable _ _ c.in_ok-number.ensures in
    let at : c.from-at.result ≡ c.args.number = c.from-at.ensures ∙ passed.1 in
    rw (passed.0, ne_eqb _ _ (rw at at c.if-holder.false), eq-eqb _ _ (rw at at c.if-holder-level.true))

pub returns-else-holder-level : goal.returns-else-holder-level
unfolding request_of holder_of
returns-else-holder-level c =
    let passed = checked_usable _ _ c.in_ok-number.ensures in
    let at : c.from-at.result ≡ c.args.number = c.from-at.ensures ∙ passed.1 in
    rw (c.push-semaphores.ensures, passed.1, passed.0, ne_eqb _ _ (rw at at c.if-holder.false), ne_eqb _ _ (rw at at c.if-holder-level.false))
