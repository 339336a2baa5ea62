use Rattle.std.proofs.Common.{◌≡◌, ◌∙◌, length, rules, tests}
use Rattle.std.proofs.lemmas.Iterator.{YieldsList-from_slice, YieldsList-from_take}
use Rattle.std.proofs.lemmas.Iterator.Consumers.{YieldsList-at}
use Rattle.std.proofs.lemmas.Iterator.Search.{all_from_yields_List}
use Rattle.common.proofs.Lists.{of_map}
use Rattle.table.specs.Sound.{no_waiter, waiter_sound, queue_sound}
use Rattle.table.proofs.Chains.{all_first}
use Rattle.table.proofs.soundness.queue_sound.Goals as goal

pub returns : goal.returns
unfolding queue_sound
returns c =
    let queue = c.args.queue.now in
    let sound = waiter_sound c.args.config c.args.holders.now in
    let long : length queue.items ≡ 12 = search (rules, of_map) in
    let every_waiter : c.all-all.result ≡ _ =
    all_from_yields_List sound _ _ c.all-all.result c.all-all.ensures.ran
    (YieldsList-from_take queue.count (YieldsList-at c.take.ensures.source (YieldsList-from_slice queue.items c.iter.ensures.rest)) c.take.ensures.count)
    (λ x b q k. search (rules, tests))
    ∙ all_first sound no_waiter queue.items queue.count in
    rw (every_waiter, long)
