-- A host's walk of a set: the next input, as often as the count says, each taken out in its turn, is the list of members.
-- That list rises strictly, so no input comes twice, and it has the inputs of the set and no other. Assumes nothing.
use mathlib.Core.Path.{◌≡◌, refl, sym, ap, ◌∙◌}
use mathlib.Core.Bool.{Bool, true, false}
use mathlib.Core.List.{List, [], ◌∷◌}
use Prim.Native.Nat.{ℕ, zero, suc, ◌+◌, ◌≤◌, ◌<◌, zero-le}
use native.Mathlib.Omega.{arith}
use lib.Dec.{eqb, lit≤}
use lib.ListN.{length}
use borrow.Author.Tests.{eq-eqb, ne_eqb, eqb-true, eqb-false}
use Rattle.common.specs.Choice.{pick}
use Rattle.common.specs.Stands.{stands_in}
use Rattle.common.proofs.Cases.{by_test}
use Rattle.inputs.specs.declared.InputSet.{InputSet}
use Rattle.inputs.specs.InputSet.{has_of, remove_of, rising_of, members_of, count_of, next_of, walk_of}
use Rattle.inputs.proofs.Sets.{has_remove}

-- ---- the walk

-- tests that agree on the numbers in question pass the same
rising_same : (many from : ℕ) (f g : ℕ → Bool) → ((n : ℕ) → from ≤ n → n < from + many → f n ≡ g n)
    → rising_of many from f ≡ rising_of many from g
unfolding rising_of
rising_same zero from f g agree = refl
rising_same (suc many) from f g agree =
    rw (agree from (omega arith) (omega arith), rising_same many (suc from) f g (λ n above below. agree n (omega arith) (omega arith)))

-- a choice between false and false is false
pick_none : (test : Bool) → pick test false false ≡ false
pick_none true = refl
pick_none false = refl

-- without the first that passes the others do
rising_without : (many from : ℕ) (test : ℕ → Bool) (first : ℕ) (others : List ℕ) → rising_of many from test ≡ first ∷ others
    → rising_of many from (λ n. pick (eqb n first) false (test n)) ≡ others
unfolding rising_of
rising_without zero from test first others e = cc
rising_without (suc many) from test first others e =
    by_test (test from)
    (λ member. let list : from ∷ rising_of many (suc from) test ≡ first ∷ others = rw member at e in
    let here : from ≡ first = cc in
    let left : rising_of many (suc from) test ≡ others = cc in
    rw (eq-eqb from first here) (rising_same many (suc from) _ test (λ n above below. rw (ne_eqb n first (omega arith))) ∙ left))
    (λ none. rw (none, pick_none) (rising_without many (suc from) test first others (rw none at e)))

-- a set without its first member has the others
pub members_remove : (set : InputSet) (first : ℕ) (others : List ℕ) → members_of set ≡ first ∷ others → members_of (remove_of set first) ≡ others
unfolding members_of
members_remove set first others e =
    rising_same 256 0 (has_of (remove_of set first)) (λ n. pick (eqb n first) false (has_of set n)) (λ n above below. has_remove n (omega arith) set first)
    ∙ rising_without 256 0 (has_of set) first others e

-- a walk tells the first member and goes on with the others
walk_list : (l : List ℕ) (set : InputSet) → members_of set ≡ l → walk_of (length l) set ≡ l
unfolding walk_of next_of
walk_list [] set e = refl
walk_list (n ∷ l) set e = rw e (ap (λ rest. n ∷ rest) (walk_list l (remove_of set n) (members_remove set n l e)))

-- the walk of a set is the list of its members
pub walk_members : (set : InputSet) → walk_of (count_of set) set ≡ members_of set
unfolding count_of
walk_members set = walk_list (members_of set) set refl

-- ---- the list of members

-- no more pass than are tested
rising_few : (many from : ℕ) (test : ℕ → Bool) → length (rising_of many from test) ≤ many
unfolding rising_of
rising_few zero from test = omega arith
rising_few (suc many) from test =
    let less : length (rising_of many (suc from) test) ≤ many = rising_few many (suc from) test in
    by_test (test from) (λ e. rw e (omega arith)) (λ e. rw e (omega arith))

-- a set has at most 256
pub members_few : (set : InputSet) → length (members_of set) ≤ 256
unfolding members_of
members_few set = rising_few 256 0 (has_of set)

-- numbers that rise strictly, from a first one on and below a limit
unfoldable pub Rising : ℕ → ℕ → List ℕ → Type 0
Rising from limit [] = Unit
Rising from limit (n ∷ l) = (from ≤ n) × (n < limit) × Rising (suc n) limit l

-- from one number less on they rise too
rising_from : (from limit : ℕ) (l : List ℕ) → Rising (suc from) limit l → Rising from limit l
unfolding Rising
rising_from from limit [] h = tt
rising_from from limit (n ∷ l) h = (omega arith, h.1, h.2)

-- the numbers that pass rise, below the end of those that are tested
pub rising_rises : (many from limit : ℕ) (test : ℕ → Bool) → from + many ≤ limit → Rising from limit (rising_of many from test)
unfolding Rising rising_of
rising_rises zero from limit test h = tt
rising_rises (suc many) from limit test h =
    let later : Rising (suc from) limit (rising_of many (suc from) test) = rising_rises many (suc from) limit test (omega arith) in
    by_test (test from) (λ e. rw e (omega arith, omega arith, later)) (λ e. rw e (rising_from from limit (rising_of many (suc from) test) later))

-- the members of a set rise strictly, and are below 256
pub members_rising : (set : InputSet) → Rising 0 256 (members_of set)
unfolding members_of
members_rising set = rising_rises 256 0 256 (has_of set) (lit≤ tt)

-- no number below the first stands among numbers that rise from it on
pub stands_not_below : (n from limit : ℕ) (l : List ℕ) → Rising from limit l → n < from → stands_in n l ≡ false
unfolding Rising stands_in
stands_not_below n from limit [] rising h = refl
stands_not_below n from limit (m ∷ l) rising h = rw (ne_eqb m n (omega arith)) (stands_not_below n (suc m) limit l rising.2 (omega arith))

-- a number that does not stand after the head stands in the list where it is the head
stands_here : (bit : Bool) (n : ℕ) (l : List ℕ) → stands_in n l ≡ false → stands_in n (pick bit (n ∷ l) l) ≡ bit
unfolding stands_in
stands_here true n l none = rw (eq-eqb n n refl)
stands_here false n l none = none

-- a head tells nothing of another number
stands_later : (bit : Bool) (n m : ℕ) (l : List ℕ) → eqb m n ≡ false → stands_in n (pick bit (m ∷ l) l) ≡ stands_in n l
unfolding stands_in
stands_later true n m l other = rw other
stands_later false n m l other = refl

-- a number that is tested stands among those that pass where it passes
pub rising_stands : (many from : ℕ) (test : ℕ → Bool) (n : ℕ) → from ≤ n → n < from + many → stands_in n (rising_of many from test) ≡ test n
unfolding rising_of
rising_stands zero from test n above below = absurd (omega arith)
rising_stands (suc many) from test n above below =
    by_test (eqb from n)
    (λ e. let here : n ≡ from = sym (eqb-true from n e) in
    let later : Rising (suc from) (suc from + many) (rising_of many (suc from) test) = rising_rises many (suc from) (suc from + many) test (omega arith) in
    rw here (stands_here (test from) from _ (stands_not_below from (suc from) _ _ later (omega arith))))
    (λ e. let other : from ≡ n → ⊥ = eqb-false from n e in
    stands_later (test from) n from _ e ∙ rising_stands many (suc from) test n (omega arith) (omega arith))

-- an input stands among the members of a set where the set has it
pub members_has : (set : InputSet) (n : ℕ) → n < 256 → stands_in n (members_of set) ≡ has_of set n
unfolding members_of
members_has set n h = rising_stands 256 0 (has_of set) n zero-le (omega arith)
