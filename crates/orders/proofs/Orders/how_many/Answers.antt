use mathlib.Core.Path.{◌≡◌, ◌∙◌}
use borrow.Author.Rules.{rules}
use Rattle.std.specs.Prelude.{count_by}
use Rattle.orders.specs.Orders.{standing_of}
use Rattle.orders.specs.Cancel.{matches_of, how_many_of}
use Rattle.orders.proofs.Walks.{count_kept}
use Rattle.orders.proofs.Orders.how_many.Goals as goal

pub returns : goal.returns
unfolding how_many_of
returns c =
    let test = matches_of c.args.sender c.args.receiver in
    let counted : c.count.result ≡ count_by test (standing_of c.args.self.now) = search rules in
    counted ∙ count_kept test (standing_of c.args.self.now)
