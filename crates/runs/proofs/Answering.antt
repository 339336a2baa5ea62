-- Which numbers the checks before a call never answer. Assumes nothing.
use mathlib.Core.Path.{◌≡◌}
use mathlib.Core.Bool.{Bool, true, false}
use Prim.Native.Nat.{ℕ}
use lib.Dec.{eqb}
use Rattle.std.specs.Prelude.{Ok, Err}
use Rattle.process.specs.declared.Process.{Process}
use Rattle.process.specs.declared.states.State.TheVariants.{Ready}
use Rattle.process.specs.States.{is_of}
use Rattle.table.specs.declared.answers.Answer.{Answer}
use Rattle.table.specs.declared.answers.Answer.TheVariants.{NoUser, NotReady}
use Rattle.table.specs.declared.configs.Config.{Config}
use Rattle.table.specs.declared.Table.{Table}
use Rattle.table.specs.Answers.{number_of}
use Rattle.table.specs.Configuration.{configured_of}
use Rattle.calls.specs.Effects.{Effect, refuse}
use Rattle.calls.specs.Verdicts.{Checked, also_of, obeyed, by_caller}

-- an answer has another number than this one
abbrev pub Unlike : ℕ → Answer → Type 0
Unlike n answer = eqb (number_of answer) n ≡ false

-- checks do not refuse with a number
unfoldable pub Avoids : ℕ → Checked → Type 0
Avoids n (Ok tt) = Unit
Avoids n (Err answer) = Unlike n answer

-- checks that all pass refuse with none
pub avoids_none : (n : ℕ) → Avoids n (Ok tt)
unfolding Avoids
avoids_none n = tt

-- one check more that does not refuse with it
pub avoids_more : (n : ℕ) (v : Checked) (holds : Bool) (answer : Answer) → Avoids n v → Unlike n answer → Avoids n (also_of v holds answer)
unfolding Avoids also_of
avoids_more n (Ok tt) true answer before other = tt
avoids_more n (Ok tt) false answer before other = other
avoids_more n (Err first) holds answer before other = before

-- the caller's two checks refuse with 10 and 33
pub avoids_caller : (n : ℕ) (c : Config) (p : Process) (caller : ℕ) → eqb 10 n ≡ false → eqb 33 n ≡ false → Avoids n (by_caller c p caller)
avoids_caller n c p caller not_10 not_33 =
    avoids_more n (also_of (Ok tt) (configured_of c caller) NoUser) (is_of p.state Ready) NotReady
    (avoids_more n (Ok tt) (configured_of c caller) NoUser (avoids_none n) not_10) not_33

-- what holds of every refusal with another number, and of the effect where the checks pass, holds of a call that is obeyed after its checks
pub by_obeyed : (P : Effect → Type 0) (n : ℕ) (v : Checked) (t : Table) (effect : Effect) → Avoids n v
    → ((answer : Answer) → Unlike n answer → P (refuse t answer)) → P effect → P (obeyed v t effect)
unfolding obeyed Avoids
by_obeyed P n (Ok tt) t effect avoids refused holds = holds
by_obeyed P n (Err answer) t effect avoids refused holds = refused answer avoids
