use Rattle.std.proofs.Common.{◌≡◌, ◌∙◌, refl, length, rules, tests}
use Rattle.std.proofs.lemmas.Iterator.{YieldsList-from_slice, YieldsList-from_range, YieldsList-from_zip}
use Rattle.std.proofs.lemmas.Iterator.Consumers.{YieldsList-at}
use Rattle.std.proofs.lemmas.Iterator.Search.{all_from_yields_List}
use Rattle.common.proofs.Lists.{of_map}
use Rattle.pool.specs.Control.{no_user}
use Rattle.table.specs.Sound.{length_sound, lengths_sound}
use Rattle.table.proofs.Chains.{all_numbered_from_none}
use Rattle.table.proofs.soundness.lengths_sound.Goals as goal

pub returns : goal.returns
unfolding lengths_sound
returns c =
    let users = c.args.users.now in
    let long : length users ≡ 12 = search (rules, of_map) in
    let sound = length_sound c.args.config in
    all_from_yields_List (λ p. sound p.0 p.1.stated) c.all.new.self _ c.all.result c.all.ensures.ran
    (YieldsList-from_zip (YieldsList-at c.zip.ensures.first (YieldsList-from_range 0 12 12 refl refl)) (YieldsList-from_slice users c.zip.ensures.second.0))
    (λ x b q k. search (rules, tests))
    ∙ all_numbered_from_none (λ level user. sound level user.stated) no_user users 12 long
