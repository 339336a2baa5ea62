use Rattle.std.proofs.Common.{◌≡◌, ◌∙◌, ◌&&◌, Bool, true, false, not, ℕ, leb, Option, Some, None, MatchOption, refl, sym, ap, rules}
use Rattle.common.proofs.Cases.{by_test}
use Rattle.table.specs.declared.configs.Config.{Config}
use Rattle.table.specs.declared.configs.Privileged.{Privileged}
use Rattle.table.specs.Configuration.{unused, of_level, has_input, privilege_of}
use Rattle.table.proofs.Places.{first_passes}
use Rattle.interrupts.specs.Interrupts.{in_run, owns_input}
use Rattle.interrupts.proofs.owns_input.Goals as goal

-- a level's own place is used
own_used : (c : Config) (level : ℕ) (place : Privileged) → privilege_of c level ≡ Some place → unused place ≡ false
unfolding privilege_of
own_used c level place is =
    let own : of_level level place ≡ true = first_passes (of_level level) c place is in
    by_test (unused place) (λ yes. let none : false ≡ true = rw yes at own in absurd (cc)) (λ used. used)

-- by the place that the level has
owns_by : (c : Config) (level input : ℕ) (what : Option Privileged) (owns : Bool) → what ≡ privilege_of c level
    → MatchOption what (owns ≡ false) (λ place. owns ≡ has_input input place) → owns ≡ owns_input c level input
owns_by c level input None owns is told = told ∙ ap (λ (o : Option Privileged). in_run o input) is
owns_by c level input (Some place) owns is told =
    let used : unused place ≡ false = own_used c level place (sym is) in
    let here : owns ≡ in_run (Some place) input = rw used at told in
    here ∙ ap (λ (o : Option Privileged). in_run o input) is

pub returns : goal.returns
returns c = owns_by c.args.config c.args.level c.args.input c.privilege.result _ c.privilege.ensures (search rules)
