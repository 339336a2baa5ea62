use mathlib.Core.Path.{◌≡◌, ◌∙◌, sym}
use mathlib.Core.Bool.{true}
use native.Mathlib.Omega.{arith}
use lib.ListN.{length}
use borrow.Author.Tests.{leb-true}
use Rattle.pool.specs.Parts.{lies, get_of}
use Rattle.pool.proofs.Parts.{get_lent}
use Rattle.pool.proofs.get.Goals.{Then-lies}
use Rattle.pool.proofs.get.Goals as goal

-- the test that was passed
within : (c : Then-lies)
    → lies c.args.offset (length c.args.buffer.now) c.args.pool.now ≡ true
within c = sym c.lies.ensures ∙ c.if-lies.true

pub overflow_add-offset : goal.overflow_add-offset
overflow_add-offset c = omega (arith, leb-true, within (goal.at.overflow_add-offset c).Then-lies)

pub slice_bounds-put-end : goal.slice_bounds-put-end
slice_bounds-put-end c = omega (arith, leb-true, within (goal.at.slice_bounds-put-end c).Then-lies)

pub returns-then-lies : goal.returns-then-lies
returns-then-lies c =
    let passed = c in
    let start = passed in
    rw c.put.ensures (get_lent start.args.pool.now start.args.offset start.args.buffer.now (within (goal.at.returns-then-lies c).Then-lies))

pub returns-else-lies : goal.returns-else-lies
unfolding get_of
returns-else-lies c = rw (sym c.lies.ensures ∙ c.if-lies.false)
