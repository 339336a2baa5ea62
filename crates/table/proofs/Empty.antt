-- A set without inputs is on every card. Assumes nothing.
use mathlib.Core.Path.{◌≡◌, refl}
use mathlib.Core.Bool.{true, false, not}
use Prim.Native.Nat.{◌-◌}
use Rattle.common.specs.Choice.{pick}
use Rattle.inputs.specs.declared.InputSet.{InputSet}
use Rattle.inputs.specs.InputSet.{set_of, word_of, has_of, bit_of, empty_of, except_of, run_of, rising_of, members_of, count_of}
use Rattle.inputs.proofs.Sets.{set_same, has_empty}
use Rattle.table.specs.declared.configs.Config.{Config}
use Rattle.table.specs.Configuration.{inputs_of}
use Rattle.table.specs.Sound.{on_card}

-- nothing but another set is nothing
empty_except : (other : InputSet) → except_of empty_of other ≡ empty_of
unfolding except_of empty_of
empty_except other = set_same (λ n. pick (has_of empty_of n) (not (has_of other n)) false) (λ n. false) (λ n h. rw (has_empty n h))

empty_count : count_of empty_of ≡ 0
unfolding count_of members_of rising_of has_of bit_of empty_of set_of word_of
empty_count = refl

pub empty_on_card : (c : Config) → on_card c empty_of ≡ true
unfolding on_card
empty_on_card c = rw (empty_except (run_of 0 (inputs_of c - 1)), empty_count)
