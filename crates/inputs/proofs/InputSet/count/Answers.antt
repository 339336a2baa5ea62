use Rattle.std.proofs.Common.{◌≡◌, ◌<◌, ◌^◌, ◌∙◌, sym, arith, rules}
use Rattle.std.specs.List.{sum_by}
use lib.Count.{ones}
use Rattle.inputs.specs.InputSet.{count_of}
use Rattle.inputs.proofs.Members.{count_sum}
use Rattle.inputs.proofs.Walk.{members_few}
use Rattle.inputs.proofs.InputSet.count.Goals as goal

pub sum-requires : goal.sum-requires
unfolding count_of
sum-requires c =
    let few : sum_by ones c.args.self.words < 2 ^ 32 = omega (arith, count_sum c.args.self (search rules), members_few c.args.self) in
    search rules

pub returns : goal.returns
returns c =
    let total : c.sum.result ≡ sum_by ones c.args.self.words = search rules in
    total ∙ sym (count_sum c.args.self (search rules))
