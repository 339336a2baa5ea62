use Rattle.std.proofs.Common.{rules, tests, ◌≡◌, ◌∙◌, sym, length}
use Rattle.std.proofs.lemmas.Iterator.{YieldsList-from_slice}
use Rattle.std.proofs.lemmas.Iterator.Adapters.{option_map_id}
use Rattle.std.proofs.lemmas.Iterator.Consumers.{YieldsList-at, YieldsList-from_copied}
use Rattle.std.proofs.lemmas.Iterator.Search.{find_from_yields_List}
use Rattle.common.proofs.Lists.{of_map}
use Rattle.table.specs.Configuration.{has_input, owner_of}
use Rattle.table.proofs.Places.{found_first}
use Rattle.table.proofs.configs.Config.owner.Goals as goal

pub returns : goal.returns
unfolding owner_of
returns c =
    let places = c.args.self.privileged in
    let long : length places ≡ 3 = search (rules, of_map) in
    sym (option_map_id c.find.result)
    ∙ find_from_yields_List (has_input c.args.input) _ _ c.find.result c.find.ensures.ran
    (YieldsList-from_copied (YieldsList-at c.copied.ensures.source (YieldsList-from_slice places c.iter.ensures.rest)))
    (λ x b q k. search (rules, tests))
    ∙ found_first c.args.self (has_input c.args.input) long
