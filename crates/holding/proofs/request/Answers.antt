use mathlib.Core.Path.{◌≡◌, ◌∙◌}
use borrow.Author.Rules.{rules}
use lib.ListN.{length}
use Rattle.common.proofs.Lists.{of_map}
use Rattle.holding.proofs.Deciding.{asked_all}
use Rattle.holding.proofs.request.Goals.{Start}
use Rattle.holding.proofs.request.Goals as goal

whole : (c : Start) → length c.args.table.processes ≡ 12
whole c = search (rules, of_map)

pub returns : goal.returns
returns c =
    c.told.ensures
    ∙ rw (c.asked-asked.ensures, c.place_of-at.ensures) (asked_all c.args.table c.args.caller c.args.number _ (whole (goal.at.returns c).Start))
