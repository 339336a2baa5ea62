use mathlib.Core.Path.{◌∙◌, ap}
use borrow.Author.Rules.{rules}
use Rattle.orders.specs.Orders.{standing_of, orders_of}
use Rattle.orders.specs.Cancel.{without_of}
use Rattle.orders.specs.Timer.{stays_after}
use Rattle.orders.proofs.Walks.{kept_alone}
use Rattle.orders.proofs.Orders.without.Goals as goal

pub returns : goal.returns
unfolding without_of
returns c =
    let test = stays_after c.args.sender c.args.receiver in
    c.kept.ensures (λ at x. test x) (λ at order passed answered. search rules)
    ∙ ap orders_of (kept_alone test 0 (standing_of c.args.self.now))
