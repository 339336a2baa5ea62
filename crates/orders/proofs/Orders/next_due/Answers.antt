use mathlib.Core.Path.{◌≡◌, ◌∙◌, ap, sym}
use mathlib.Core.List.{map}
use Prim.Native.Nat.{min}
use borrow.Author.Rules.{rules}
use Rattle.std.specs.List.{reduce}
use Rattle.std.specs.Option.{unwrap_or}
use Rattle.std.proofs.lemmas.Iterator.{YieldsList-from_slice, YieldsList-from_map}
use Rattle.std.proofs.lemmas.Iterator.Consumers.{min_from_yields_List}
use Rattle.std.proofs.lemmas.Iterator.Adapters.{option_map_id}
use Rattle.day.specs.TimeOfDay.{day}
use Rattle.orders.specs.Orders.{standing_of}
use Rattle.orders.specs.Advance.{next_due_of}
use Rattle.orders.proofs.Walks.{off, nearest_due}
use Rattle.orders.proofs.Orders.next_due.Goals as goal

pub returns : goal.returns
unfolding next_due_of
returns c =
    let stands = standing_of c.args.self.now in
    let least : c.min.result ≡ reduce min (map (off c.args.clock) stands) =
    sym (option_map_id c.min.result)
    ∙ min_from_yields_List _ c.min.result c.min.ensures.ran
    (YieldsList-from_map _ (off c.args.clock) (YieldsList-from_slice stands cc) c.map.ensures.closure (λ x r q k. search rules)) in
    c.unwrap_or.ensures ∙ ap (λ o. unwrap_or o day) least ∙ nearest_due c.args.clock stands
