-- The search over the three privileged places. Assumes nothing.
use Rattle.std.proofs.Common.{◌≡◌, ◌∙◌, sym, ap, Bool, true, List, [], ◌∷◌, length, get_or, arith}
use Rattle.std.specs.Prelude.{Option, Some, None, find, unwrap_or}
use Rattle.common.specs.Choice.{pick}
use Rattle.common.proofs.Cases.{by_test}
use Rattle.table.specs.declared.configs.Config.{Config}
use Rattle.table.specs.declared.configs.Privileged.{Privileged}
use Rattle.table.specs.Configuration.{privileged_at, first_place}

-- the first of three that passes a test
found_three : {A : Type 0} (test : A → Bool) (d : A) (l : List A) → length l ≡ 3
    → find test l ≡ pick (test (get_or l 0 d)) (Some (get_or l 0 d)) (pick (test (get_or l 1 d)) (Some (get_or l 1 d)) (pick (test (get_or l 2 d)) (Some (get_or l 2 d)) None))
found_three test d [] long = absurd (omega arith)
found_three test d (x ∷ []) long = absurd (omega arith)
found_three test d (x ∷ y ∷ []) long = absurd (omega arith)
found_three test d (x ∷ y ∷ z ∷ []) long =
    by_test (test x) (λ e. rw e)
    (λ e. rw e (by_test (test y) (λ f. rw f) (λ f. rw f (by_test (test z) (λ g. rw g) (λ g. rw g)))))
found_three test d (x ∷ y ∷ z ∷ w ∷ l) long = absurd (omega arith)

pub found_first : (c : Config) (test : Privileged → Bool) → length c.privileged ≡ 3
    → find test c.privileged ≡ first_place c (test (privileged_at c 0)) (test (privileged_at c 1)) (test (privileged_at c 2))
unfolding first_place
found_first c test long = found_three test _ c.privileged long

-- what is found of the first of the places passes, if it is one that is picked by its test
found_passes : (test : Privileged → Bool) (p found : Privileged) (others : Option Privileged) → (others ≡ Some found → test found ≡ true)
    → pick (test p) (Some p) others ≡ Some found → test found ≡ true
found_passes test p found others later is =
    by_test (test p)
    (λ yes. let same : Some p ≡ Some found = rw yes at is in ap test (sym (ap (λ (o : Option Privileged). unwrap_or o p) same)) ∙ yes)
    (λ other. later (rw other at is))

-- so does what is found of the three
pub first_passes : (test : Privileged → Bool) (c : Config) (found : Privileged)
    → first_place c (test (privileged_at c 0)) (test (privileged_at c 1)) (test (privileged_at c 2)) ≡ Some found → test found ≡ true
unfolding first_place
first_passes test c found =
    found_passes test (privileged_at c 0) found _ (found_passes test (privileged_at c 1) found _ (found_passes test (privileged_at c 2) found None (λ none. absurd (cc))))
