use Rattle.std.proofs.Common.{◌≡◌, ◌∙◌, length, refl, arith, rules, tests}
use Rattle.std.proofs.lemmas.Iterator.{YieldsList-from_slice}
use Rattle.std.proofs.lemmas.List.{take_all}
use Rattle.std.proofs.lemmas.Iterator.Search.{all_from_yields_List}
use Rattle.table.specs.Sound.{holder_sound, holders_sound}
use Rattle.table.proofs.Chains.{all_of}
use Rattle.table.proofs.soundness.holders_sound.Goals as goal

-- all of them are gone through, also as a part of the array that leaves none out
pub returns : goal.returns
unfolding holders_sound
returns c =
    let holders = c.args.holders.now in
    let long : length holders ≡ 96 = search rules in
    let whole : c.iter.result.rest.now ≡ holders = c.iter.ensures.rest ∙ search (refl, take_all 96 holders (omega (arith, long))) in
    all_from_yields_List (holder_sound c.args.config) _ _ c.all.result c.all.ensures.ran (YieldsList-from_slice holders whole) (λ x b q k. search (rules, tests))
    ∙ all_of (holder_sound c.args.config) 0 holders
    ∙ rw long
