-- Letters that are posted one after the other. Assumes nothing.
use mathlib.Core.Path.{◌≡◌, ◌∙◌, refl, ap, sym}
use mathlib.Core.Bool.{Bool, true, false, ◌||◌}
use mathlib.Core.List.{List, [], ◌∷◌, ◌++◌}
use Prim.Native.Nat.{ℕ}
use Rattle.common.specs.Fold.{fold_of}
use Rattle.common.proofs.Fold.{fold_append}
use Rattle.common.proofs.Filling.{push_all}
use Rattle.process.specs.declared.Process.{Process}
use Rattle.table.specs.Wakes.{nobody, Wakes, wake_push_of}
use Rattle.posting.specs.declared.Origin.{Origin}
use Rattle.posting.specs.Posting.{Delivered, Letter, Posted, joined, one_of, all_of, posting_of, begin_of, added_of, step_of}

-- what fails adds nothing to a test
pub or_nothing : (b : Bool) → b || false ≡ b
or_nothing true = refl
or_nothing false = refl

or_third : (a b c : Bool) → (a || b) || c ≡ a || (b || c)
or_third true b c = refl
or_third false b c = refl

abbrev made : List Process → Wakes → Bool → Delivered
made processes wakes full = record { processes = processes; wakes = wakes; full = full }

-- nothing more is nothing
added_none : (s : Delivered) → added_of s (record { processes = s.processes; wakes = []; full = false }) ≡ s
unfolding added_of
added_none s = ap (made s.processes s.wakes) (or_nothing s.full)

-- some, and then others
added_joined : (s : Delivered) (first then : Posted) → added_of (added_of s first) then ≡ added_of s (joined first then)
unfolding added_of
added_joined s first then =
    ap (λ ws. made then.processes ws ((s.full || first.full) || then.full)) (sym (fold_append wake_push_of s.wakes first.wakes then.wakes))
    ∙ ap (made then.processes (fold_of wake_push_of s.wakes (first.wakes ++ then.wakes))) (or_third s.full first.full then.full)

module _ (origin : Origin) (places : ℕ) where
  added_processes : (s : Delivered) (x : Letter) → (step_of origin places s x).processes ≡ (one_of origin places x s.processes).processes
  unfolding step_of added_of
  added_processes s x = refl

  step_joined : (s : Delivered) (x : Letter) (then : Posted) → added_of (step_of origin places s x) then ≡ added_of s (joined (one_of origin places x s.processes) then)
  unfolding step_of
  step_joined s x then = added_joined s (one_of origin places x s.processes) then

  -- a loop that posts letters does what became of them all
  posts : (s : Delivered) (letters : List Letter) → fold_of (step_of origin places) s letters ≡ added_of s (all_of origin places letters s.processes)
  unfolding all_of
  posts s [] = sym (added_none s)
  posts s (x ∷ letters) =
      posts (step_of origin places s x) letters
      ∙ ap (λ ps. added_of (step_of origin places s x) (all_of origin places letters ps)) (added_processes s x)
      ∙ step_joined s x (all_of origin places letters (one_of origin places x s.processes).processes)

  -- and so from the first on
  pub posts_begin : (processes : List Process) (letters : List Letter) → fold_of (step_of origin places) (begin_of processes) letters ≡ posting_of (all_of origin places letters processes)
  unfolding begin_of added_of posting_of
  posts_begin processes letters =
      posts (begin_of processes) letters
      ∙ ap (λ ws. made (all_of origin places letters processes).processes ws (all_of origin places letters processes).full) (push_all 12 nobody [] (all_of origin places letters processes).wakes)
