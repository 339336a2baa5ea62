use Rattle.std.proofs.Common.{◌≡◌, ◌∙◌, length, rules, tests}
use Rattle.std.proofs.lemmas.Iterator.{YieldsList-from_slice, YieldsList-from_take}
use Rattle.std.proofs.lemmas.Iterator.Consumers.{YieldsList-at}
use Rattle.std.proofs.lemmas.Iterator.Search.{all_from_yields_List}
use Rattle.common.proofs.Lists.{of_map}
use Rattle.table.specs.Sound.{no_order, order_sound, orders_sound}
use Rattle.table.proofs.Chains.{all_first}
use Rattle.table.proofs.soundness.orders_sound.Goals as goal

pub returns : goal.returns
unfolding orders_sound
returns c =
    let orders = c.args.orders.now in
    let long : length orders.list.items ≡ 64 = search (rules, of_map) in
    let every_order : c.all-all.result ≡ _ =
    all_from_yields_List (order_sound c.args.config) _ _ c.all-all.result c.all-all.ensures.ran
    (YieldsList-from_take orders.list.count (YieldsList-at c.take.ensures.source (YieldsList-from_slice orders.list.items c.iter.ensures.rest)) c.take.ensures.count)
    (λ x b q k. search (rules, tests))
    ∙ all_first (order_sound c.args.config) no_order orders.list.items orders.list.count in
    rw (every_order, long, c.from.ensures)
