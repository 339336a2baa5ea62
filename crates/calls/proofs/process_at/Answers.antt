use Rattle.std.proofs.Common.{◌≡◌, ◌∙◌, ℕ, List, Option, Some, None, Bor, MatchOption, IfSome, is_some, length, get_or, ltb, sym}
use Rattle.std.specs.Option.{option_copied}
use Rattle.std.proofs.lemmas.Bool.{ltb-true, ltb-false}
use lib.ListN.{get_or-eq_default}
use Rattle.common.proofs.Lists.{get_or_within}
use Rattle.process.specs.declared.Process.{Process}
use Rattle.process.specs.Process.{fresh_of}
use Rattle.calls.specs.Levels.{process_at}
use Rattle.calls.proofs.process_at.Goals as goal

-- by what the array hands out at the level
handed : (l : List Process) (level : ℕ) (at : Option (Bor Process)) (p : Process) → is_some at ≡ ltb level (length l) → IfSome at (λ x. x.now ≡ get_or l level x.now)
    → MatchOption (option_copied at) (p ≡ fresh_of) (λ x. p ≡ x) → p ≡ process_at l level
unfolding process_at
handed l level None p there stands told = told ∙ sym (get_or-eq_default l fresh_of (ltb-false level (length l) (sym there)))
handed l level (Some x) p there stands told = told ∙ stands ∙ get_or_within l level x.now fresh_of (ltb-true level (length l) (sym there))

pub returns : goal.returns
returns c =
    handed c.args.processes.now c.args.level c.get.result c.unwrap_or_else.result c.get.ensures.lookup.0 c.get.ensures.lookup.1
    (rw (← c.copied.ensures) c.unwrap_or_else.ensures)
