use mathlib.Core.Path.{◌≡◌}
use borrow.Author.Rules.{rules}
use lib.ListN.{length}
use Rattle.common.proofs.Lists.{of_map}
use Rattle.inputs.specs.InputSet.{insert_of}
use Rattle.calls.specs.Levels.{with_latch}
use Rattle.calls.specs.Outcomes.{answered_of}
use Rattle.calls.proofs.Obeying.{has_of}
use Rattle.interrupts.specs.Interrupts.{latched_of}
use Rattle.interrupts.proofs.Deciding.{opened_all}
use Rattle.interrupts.proofs.latched.Goals.{After-opened-opened}
use Rattle.interrupts.proofs.latched.Goals as goal

whole : (c : After-opened-opened) → length c.args.table.now.processes ≡ 12
whole c = search (rules, of_map)

pub returns-in-Some : goal.returns-in-Some
unfolding latched_of answered_of
returns-in-Some c =
    has_of _ _ _
    (rw (c.said.ensures, c.opened-opened.ensures, c.place_of-at.ensures, c.insert-table.ensures, ← c.owner.ensures, c.in-Some.is)
    (opened_all (with_latch c.args.table.now (insert_of c.args.table.now.latch c.args.input)) c.args.input _ _ (whole (goal.at.returns-in-Some c).After-opened-opened)))

pub returns-in-None : goal.returns-in-None
unfolding latched_of
returns-in-None c = record { says = rw (c.done.ensures, ← c.owner.ensures, c.in-None.is); leaves = rw (c.insert-table.ensures, ← c.owner.ensures, c.in-None.is) }
