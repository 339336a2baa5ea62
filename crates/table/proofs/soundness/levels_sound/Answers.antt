use Rattle.std.proofs.Common.{◌≡◌, ◌∙◌, refl, length, rules, tests}
use Rattle.std.proofs.lemmas.Iterator.{YieldsList-from_slice, YieldsList-from_range, YieldsList-from_zip}
use Rattle.std.proofs.lemmas.Iterator.Consumers.{YieldsList-at}
use Rattle.std.proofs.lemmas.Iterator.Search.{all_from_yields_List}
use Rattle.table.specs.Sound.{no_process, level_sound, levels_sound}
use Rattle.common.proofs.Lists.{of_map}
use Rattle.table.proofs.Chains.{all_numbered_from_none}
use Rattle.table.proofs.soundness.levels_sound.Goals as goal

pub returns : goal.returns
unfolding levels_sound
returns c =
    let processes = c.args.processes.now in
    let long : length processes ≡ 12 = search (rules, of_map) in
    let sound = level_sound c.args.config c.args.queue.now in
    all_from_yields_List (λ p. sound p.0 p.1) c.all.new.self _ c.all.result c.all.ensures.ran
    (YieldsList-from_zip (YieldsList-at c.zip.ensures.first (YieldsList-from_range 0 12 12 refl refl)) (YieldsList-from_slice processes c.zip.ensures.second.0))
    (λ x b q k. search (rules, tests))
    ∙ all_numbered_from_none sound no_process processes 12 long
