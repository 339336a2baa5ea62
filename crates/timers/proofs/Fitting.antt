-- What the checks of SCHEDULE tell. Assumes nothing.
use mathlib.Core.Path.{◌≡◌}
use mathlib.Core.List.{List}
use Prim.Native.Nat.{ℕ, ◌≤◌}
use Rattle.std.specs.Prelude.{Ok}
use Rattle.process.specs.declared.Process.{Process}
use Rattle.table.specs.declared.configs.Config.{Config}
use Rattle.table.proofs.Configured.{configured_level}
use Rattle.calls.proofs.Obeying.{last_passed}
use Rattle.timers.specs.declared.NewOrder.{NewOrder}
use Rattle.timers.specs.Timers.{Moment, schedule_verdict}

-- a receiver that is let through is a level
pub receiver_fits : (c : Config) (processes : List Process) (caller : ℕ) (s : NewOrder) (moment : Moment)
    → schedule_verdict c processes caller s moment ≡ Ok tt → s.receiver ≤ 11
receiver_fits c processes caller s moment passed =
    let fourth = last_passed _ _ _ passed in
    let third = last_passed _ _ _ fourth.0 in
    let second = last_passed _ _ _ third.0 in
    let first = last_passed _ _ _ second.0 in
    configured_level c s.receiver first.1
