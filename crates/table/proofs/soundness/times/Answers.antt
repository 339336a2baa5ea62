use Rattle.std.proofs.Common.{◌∙◌, ap, length, rules, tests}
use Rattle.std.proofs.lemmas.Iterator.{YieldsList-from_slice}
use Rattle.std.proofs.lemmas.Iterator.Consumers.{YieldsList-at, YieldsList-from_filter, count_from_yields_List}
use Rattle.semaphores.specs.Queues.{list_of}
use Rattle.table.specs.Sound.{at_level, times_of}
use Rattle.table.proofs.Chains.{filter_keeps}
use Rattle.table.proofs.soundness.times.Goals as goal

pub returns : goal.returns
unfolding times_of
returns c =
    let here = at_level c.args.level in
    let standing = list_of c.args.queue.now in
    count_from_yields_List c.filter.result c.count.result c.count.ensures.ran
    (YieldsList-from_filter _ here
    (YieldsList-at c.filter.ensures.source (YieldsList-from_slice standing (search rules)))
    c.filter.ensures.closure
    (λ x b q k. search (rules, tests)))
    ∙ ap length (filter_keeps here standing)
