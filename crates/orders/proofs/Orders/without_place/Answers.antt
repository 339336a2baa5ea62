use mathlib.Core.Path.{◌∙◌, ap}
use mathlib.Core.Bool.{not}
use native.Mathlib.Omega.{arith}
use lib.Dec.{eqb}
use borrow.Author.Rules.{rules}
use Rattle.orders.specs.Orders.{standing_of, orders_of}
use Rattle.orders.specs.Advance.{without_place_of}
use Rattle.orders.proofs.Walks.{kept_place}
use Rattle.orders.proofs.Orders.without_place.Goals as goal

pub returns : goal.returns
unfolding without_place_of
returns c =
    let place = c.args.place in
    c.kept.ensures (λ at x. not (eqb at place)) (λ at order passed answered. search rules)
    ∙ ap orders_of (kept_place place place 0 (standing_of c.args.self.now) (omega arith))
