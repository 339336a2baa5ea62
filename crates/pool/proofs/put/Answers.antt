use mathlib.Core.Path.{◌≡◌, ◌∙◌, sym}
use mathlib.Core.Bool.{true}
use native.Mathlib.Omega.{arith}
use lib.ListN.{length}
use borrow.Author.Tests.{leb-true}
use Rattle.pool.specs.Parts.{lies, put_of}
use Rattle.pool.proofs.Parts.{put_lent}
use Rattle.pool.proofs.put.Goals.{Then-lies}
use Rattle.pool.proofs.put.Goals as goal

-- the test that was passed
within : (c : Then-lies)
    → lies c.args.offset (length c.args.given.now) c.args.pool.now ≡ true
within c = sym c.lies.ensures ∙ c.if-lies.true

pub slice_bounds-part-count : goal.slice_bounds-part-count
slice_bounds-part-count c = omega (arith, leb-true, within c)

pub slice_bounds-part-start : goal.slice_bounds-part-start
slice_bounds-part-start c = omega (arith, leb-true, within c)

pub returns-then-lies : goal.returns-then-lies
returns-then-lies c =
    let passed = c in
    let start = passed in
    rw c.put.ensures (put_lent start.args.pool.now start.args.offset start.args.given.now (within (goal.at.returns-then-lies c).Then-lies))

pub returns-else-lies : goal.returns-else-lies
unfolding put_of
returns-else-lies c = rw (sym c.lies.ensures ∙ c.if-lies.false)
