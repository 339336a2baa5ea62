use Rattle.std.proofs.Common.{◌≡◌, ◌<◌, ◌∙◌, refl, sym, get_or, arith, rules}
use lib.Count.{count_trailing_zeros}
use mir.Syntax.{w64}
use mir.Val.{Fits}
use Rattle.inputs.specs.InputSet.{rising_of, members_of, next_of}
use Rattle.inputs.proofs.Members.{next_here, next_later, trailing_within}
use Rattle.inputs.proofs.InputSet.next.Goals.{Then-word-ne0}
use Rattle.inputs.proofs.InputSet.next.Goals as goal

-- the word at hand is not 0, so its lowest bit is one of 64
zeros_within : (c : Then-word-ne0)
    → count_trailing_zeros 64 (get_or c.args.self.words c.loop-at.at 0) < 64
zeros_within c =
    let word : Fits w64 (get_or c.args.self.words c.loop-at.at 0) = search rules in
    trailing_within 64 _ word.fits c.if-word-ne0.true

pub loop-at-init : goal.loop-at-init
unfolding next_of members_of
loop-at-init c = refl

pub overflow_add-result : goal.overflow_add-result
overflow_add-result c = omega (arith, zeros_within (goal.at.overflow_add-result c).Then-word-ne0)

pub returns-then-word-ne0 : goal.returns-then-word-ne0
returns-then-word-ne0 c = sym (next_here _ (search rules) _ (search rules) c.if-word-ne0.true) ∙ c.loop-at.invariant

pub loop-at-preserved : goal.loop-at-preserved
loop-at-preserved c = sym (next_later _ (search rules) _ (search rules) c.if-word-ne0.false) ∙ c.loop-at.invariant

pub returns : goal.returns
unfolding rising_of
returns c = let ended : c.loop-at.at ≡ 4 = omega arith in rw ended at c.loop-at.invariant
