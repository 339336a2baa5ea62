-- What the checks of a call that names an input tell. Assumes nothing.
use mathlib.Core.Path.{◌≡◌}
use Prim.Native.Nat.{ℕ, ◌<◌}
use native.Mathlib.Omega.{arith}
use lib.Dec.{ltb}
use borrow.Author.Tests.{ltb-true}
use Rattle.std.specs.Prelude.{Ok}
use Rattle.process.specs.declared.Process.{Process}
use Rattle.table.specs.declared.configs.Config.{Config}
use Rattle.table.specs.Configuration.{inputs_of}
use Rattle.table.proofs.Configured.{inputs_range}
use Rattle.calls.proofs.Obeying.{last_passed}
use Rattle.interrupts.specs.Interrupts.{input_verdict, enable_verdict}

-- an input that the card has is a byte
pub input_fits : (c : Config) (p : Process) (caller input : ℕ) → input_verdict c p caller input ≡ Ok tt → input < 256
input_fits c p caller input passed =
    let last = last_passed _ (ltb input (inputs_of c)) _ passed in
    omega (arith, ltb-true input (inputs_of c) last.1, inputs_range c)

pub enable_fits : (c : Config) (p : Process) (caller input : ℕ) → enable_verdict c p caller input ≡ Ok tt → input < 256
enable_fits c p caller input passed = input_fits c p caller input (last_passed _ _ _ passed).0
