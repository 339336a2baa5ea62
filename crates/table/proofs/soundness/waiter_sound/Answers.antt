use Rattle.std.proofs.Common.{◌∙◌, sym, arith}
use Rattle.semaphores.proofs.Numbers.{usable_below}
use Rattle.table.specs.Sound.{waiter_sound}
use Rattle.table.proofs.soundness.waiter_sound.Goals as goal

pub bounds-holders-at : goal.bounds-holders-at
bounds-holders-at c =
    let usable = rw c.from.ensures at (sym c.usable.ensures ∙ c.if-usable.true) in
    omega (arith, c.from-at.ensures, usable_below c.args.waiter.now.number usable)

pub returns-then-usable : goal.returns-then-usable
unfolding waiter_sound
returns-then-usable c =
    let usable = rw c.from.ensures at (sym c.usable.ensures ∙ c.if-usable.true) in
    rw (c.from-at.ensures, c.has_level.ensures, c.from-then-usable.ensures, usable)

pub returns-else-usable : goal.returns-else-usable
unfolding waiter_sound
returns-else-usable c =
    let unusable = rw c.from.ensures at (sym c.usable.ensures ∙ c.if-usable.false) in
    rw (c.if-usable.false, unusable)
