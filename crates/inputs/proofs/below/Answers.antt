use Rattle.std.proofs.Common.{◌≡◌, ℕ, ◌+◌, ◌*◌, get_or, rules}
use lib.Dec.{ltb}
use Rattle.inputs.specs.InputSet.{word_of, below_of}
use Rattle.inputs.proofs.Sets.{by_four, set_by_words}
use Rattle.inputs.proofs.below.Goals as goal

pub returns : goal.returns
unfolding below_of
returns c =
    let words = c.from_fn.result in
    let limit : ℕ = c.args.limit in
    set_by_words (record { words = words }) (λ n. ltb n limit) c.from_fn.ensures.items.long
    (by_four (λ at. get_or words at 0 ≡ word_of 64 (λ k. ltb (64 * at + k) limit)) (search rules) (search rules) (search rules) (search rules))
