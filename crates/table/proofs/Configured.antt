-- What a configuration tells. Assumes nothing.
use mathlib.Core.Path.{◌≡◌}
use mathlib.Core.Bool.{true, ◌&&◌}
use Prim.Native.Nat.{ℕ, ◌+◌, ◌<◌, ◌≤◌}
use native.Mathlib.Omega.{arith}
use lib.Dec.{eqb, leb, ltb}
use borrow.Author.Tests.{leb-true}
use Rattle.common.proofs.Cases.{by_test, both_true}
use Rattle.table.specs.declared.configs.Config.{Config}
use Rattle.table.specs.Configuration.{inputs_of, configured_of}

-- a card has some inputs, and at most 256
pub inputs_range : (c : Config) → (0 < inputs_of c) × (inputs_of c ≤ 256)
unfolding inputs_of
inputs_range c = by_test (eqb c.card 8) (λ e. rw e (omega arith)) (λ e. rw e (omega arith))

-- no configured level is above 11
pub configured_level : (c : Config) (level : ℕ) → configured_of c level ≡ true → level ≤ 11
unfolding configured_of
configured_level c level holds =
    leb-true level 11 (both_true (leb c.lowest level && ltb level (c.lowest + c.processes)) (leb level 11) holds).1
