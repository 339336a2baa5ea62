use Rattle.std.proofs.Common.{◌≡◌, ◌<◌, ◌∙◌, get_or, arith}
use Rattle.std.proofs.lemmas.Result.{err_from_is_err_and}
use borrow.Author.Tests.{eq-eqb, ne_eqb}
use Rattle.semaphores.specs.Semaphores.{holder_of, holds_of, not_held_of, release_of}
use Rattle.semaphores.proofs.Numbers.{usable_below, checked_usable, checked_unusable}
use Rattle.semaphores.proofs.Semaphores.release.Goals.{After-from-at}
use Rattle.semaphores.proofs.Semaphores.release.Goals as goal

pub returns-in_err-number : goal.returns-in_err-number
unfolding release_of holds_of not_held_of
returns-in_err-number c =
    let refused = err_from_is_err_and c.from_residual.result c.from_residual.ensures.1 in
    rw (refused.1, refused.2, checked_unusable _ _ c.in_err-number.ensures)

-- a usable number has a place among the holders
place : (c : After-from-at) → c.from-at.result < 96
place c = let passed = checked_usable _ _ c.in_ok-number.ensures in omega (arith, usable_below _ passed.0, passed.1, c.from-at.ensures)

pub bounds-self-at : goal.bounds-self-at
bounds-self-at c = place (goal.at.bounds-self-at c).After-from-at

pub bounds-semaphores-at : goal.bounds-semaphores-at
bounds-semaphores-at c = place (goal.at.bounds-semaphores-at c).After-from-at

pub bounds-semaphores-at-2 : goal.bounds-semaphores-at-2
bounds-semaphores-at-2 c = place (goal.at.bounds-semaphores-at-2 c).After-from-at

pub returns-then-holder-level : goal.returns-then-holder-level
unfolding release_of holds_of not_held_of holder_of
returns-then-holder-level c =
    let passed = checked_usable _ _ c.in_ok-number.ensures in
    let at : c.from-at.result ≡ c.args.number = c.from-at.ensures ∙ passed.1 in
    let another : get_or c.args.self.holders c.from-at.result 0 ≡ c.args.level → ⊥ = omega arith in
    rw (at, passed.0, ne_eqb _ _ (rw at at another))

pub returns-in_default : goal.returns-in_default
unfolding release_of holds_of holder_of
returns-in_default c =
    let passed = checked_usable _ _ c.in_ok-number.ensures in
    let at : c.from-at.result ≡ c.args.number = c.from-at.ensures ∙ passed.1 in
    let own : get_or c.args.self.holders c.from-at.result 0 ≡ c.args.level = omega arith in
    rw (at, passed.0, eq-eqb _ _ (rw at at own), ← passed.1, ← c.in_default.ensures)

pub returns : goal.returns
unfolding release_of holds_of holder_of
returns c =
    let passed = checked_usable _ _ c.in_ok-number.ensures in
    let at : c.from-at.result ≡ c.args.number = c.from-at.ensures ∙ passed.1 in
    let own : get_or c.args.self.holders c.from-at.result 0 ≡ c.args.level = omega arith in
    rw (at, passed.0, eq-eqb _ _ (rw at at own), ← passed.1, ← c.in-Some.ensures)
