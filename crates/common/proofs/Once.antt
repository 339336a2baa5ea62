-- Lists in which each number stands once, and that numbers below a limit are no more than the limit. Assumes nothing.
use mathlib.Core.Path.{◌≡◌, ◌∙◌, refl, sym, ap, subst}
use mathlib.Core.Bool.{true, false, not}
use mathlib.Core.List.{List, [], ◌∷◌, ◌++◌, map}
use Prim.Native.Nat.{ℕ, zero, suc, ◌<◌, ◌≤◌}
use native.Mathlib.Omega.{arith}
use lib.Dec.{eqb}
use lib.ListN.{length, get_or, take}
use borrow.Author.Tests.{eqb-true, eqb-false, eq-eqb, ne_eqb}
use Rattle.common.specs.Choice.{pick}
use Rattle.common.specs.Keep.{keep_of}
use Rattle.common.proofs.Cases.{by_test, never_both}
use Rattle.common.specs.Stands.{stands_in, Once}
use Rattle.common.proofs.Parts.{Part, nothing, taken, left, part_all, part_keep}

-- ---- whether a level stands in a list

-- the head of a list stands in it
pub stands_here : (level : ℕ) (l : List ℕ) → stands_in level (level ∷ l) ≡ true
unfolding stands_in
stands_here level l = rw (eq-eqb level level refl)

-- what holds of a list's head, if that is the level, and of the others where it stands holds of the level
pub stands_cases : {P : Type 0} (level x : ℕ) (l : List ℕ) → stands_in level (x ∷ l) ≡ true → (x ≡ level → P) → (stands_in level l ≡ true → P) → P
unfolding stands_in
stands_cases level x l stands here later =
    by_test (eqb x level) (λ e. here (eqb-true _ _ e)) (λ e. later (rw e at stands))

-- what does not stand in a list is not its head, and does not stand behind it
pub stands_none : (level x : ℕ) (l : List ℕ) → stands_in level (x ∷ l) ≡ false → (level ≡ x → ⊥) × (stands_in level l ≡ false)
unfolding stands_in
stands_none level x l none =
    by_test (eqb x level)
    (λ e. absurd (never_both refl (rw e at none)))
    (λ e. ((λ same. eqb-false x level e (sym same)), rw e at none))

-- what stands at a place stands in the list
pub stands_at : (level : ℕ) (l : List ℕ) (i : ℕ) → i < length l → get_or l i 0 ≡ level → stands_in level l ≡ true
unfolding stands_in
stands_at level [] i h e = absurd (omega arith)
stands_at level (x ∷ l) zero h e = rw (eq-eqb x level e)
stands_at level (x ∷ l) (suc i) h e = by_test (eqb x level) (λ t. rw t) (λ t. rw t (stands_at level l i (omega arith) e))

-- in a list with one more behind the others
pub stands_behind : (level x : ℕ) (l : List ℕ) → stands_in level (l ++ (x ∷ [])) ≡ pick (stands_in level l) true (eqb x level)
unfolding stands_in
stands_behind level x [] = by_test (eqb x level) (λ t. rw t) (λ t. rw t)
stands_behind level x (y ∷ l) = by_test (eqb y level) (λ t. rw t) (λ t. rw t (stands_behind level x l))

-- in a part, and so in the whole
pub stands_part : (level : ℕ) {l m : List ℕ} → Part l m → stands_in level l ≡ true → stands_in level m ≡ true
unfolding stands_in
stands_part level nothing stands = stands
stands_part level (taken {x = x} part) stands = by_test (eqb x level) (λ t. rw t) (λ t. rw t (stands_part level part (rw t at stands)))
stands_part level (left {x = x} part) stands = by_test (eqb x level) (λ t. rw t) (λ t. rw t (stands_part level part stands))

-- not in the whole, and so in no part
pub stands_no_part : (level : ℕ) {l m : List ℕ} → Part l m → stands_in level m ≡ false → stands_in level l ≡ false
stands_no_part level {l} part none = by_test (stands_in level l) (λ t. absurd (never_both (stands_part level part t) none)) (λ f. f)

-- behind a head too
stands_later : (level x : ℕ) (l : List ℕ) → stands_in level l ≡ true → stands_in level (x ∷ l) ≡ true
stands_later level x l stands = stands_part level (left (part_all l)) stands

-- what holds of a level that stands in the first of two lists, and of one in the second, holds of one in both together
pub stands_either : {P : Type 0} (level : ℕ) (l m : List ℕ) → stands_in level (l ++ m) ≡ true → (stands_in level l ≡ true → P) → (stands_in level m ≡ true → P) → P
stands_either level [] m stands first second = second stands
stands_either level (x ∷ l) m stands first second =
    stands_cases level x (l ++ m) stands
    (λ here. first (rw here (stands_here level l)))
    (λ later. stands_either level l m later (λ in_first. first (stands_later level x l in_first)) second)

-- what holds of the elements at the first places of an array holds of a level among these
pub stands_taken : {A : Type 0} (f : A → ℕ) (P : ℕ → Type 0) (count : ℕ) (l : List A) (d : A) → ((i : ℕ) → i < count → P (f (get_or l i d)))
    → (level : ℕ) → stands_in level (map f (take count l)) ≡ true → P level
unfolding stands_in
stands_taken f P zero l d holds level stands = absurd (never_both stands refl)
stands_taken f P (suc count) [] d holds level stands = absurd (never_both stands refl)
stands_taken f P (suc count) (x ∷ l) d holds level stands =
    stands_cases level (f x) (map f (take count l)) stands
    (λ here. subst P here (holds 0 (omega arith)))
    (λ later. stands_taken f P count l d (λ i h. holds (suc i) (omega arith)) level later)

-- ---- each level once

-- in a part of a list too
pub once_part : {l m : List ℕ} → Part l m → Once m → Once l
unfolding Once
once_part nothing once = once
once_part (taken {x = x} part) once = (stands_no_part x part once.0, once_part part once.1)
once_part (left part) once = once_part part once.1

-- with one more, which did not stand in it, behind the others
pub once_behind : (x : ℕ) (l : List ℕ) → Once l → stands_in x l ≡ false → Once (l ++ (x ∷ []))
unfolding Once stands_in
once_behind x [] once none = (refl, tt)
once_behind x (y ∷ l) once none =
    by_test (eqb y x)
    (λ t. absurd (never_both refl (rw t at none)))
    (λ t. let other : x ≡ y → ⊥ = (λ e. eqb-false y x t (sym e)) in
    (stands_behind y x l ∙ rw (once.0, ne_eqb x y other), once_behind x l once.1 (rw t at none)))

-- of two lists with nothing in common, one behind the other
pub once_append : (l m : List ℕ) → Once l → Once m → ((level : ℕ) → stands_in level l ≡ true → stands_in level m ≡ false) → Once (l ++ m)
unfolding Once
once_append [] m first second apart = second
once_append (x ∷ l) m first second apart = (
  by_test (stands_in x (l ++ m))
      (λ again. absurd
      (stands_either x l m again
      (λ in_first. never_both in_first first.0)
      (λ in_second. never_both in_second (apart x (stands_here x l)))))
      (λ none. none),
  once_append l m first.1 second (λ level stands. apart level (stands_later level x l stands)),
)

-- how many elements of a list have a level
abbrev count_at : {A : Type 0} → (A → ℕ) → ℕ → List A → ℕ
count_at f level l = length (keep_of (λ x. eqb (f x) level) l)

-- where the level stands there is one
stands_counted : {A : Type 0} (f : A → ℕ) (level : ℕ) (l : List A) → stands_in level (map f l) ≡ true → 1 ≤ count_at f level l
unfolding stands_in keep_of
stands_counted f level [] stands = absurd (never_both stands refl)
stands_counted f level (x ∷ l) stands = by_test (eqb (f x) level) (λ e. rw e (omega arith)) (λ e. rw e (stands_counted f level l (rw e at stands)))

-- with an element more there are no less
counted_more : {A : Type 0} (f : A → ℕ) (level : ℕ) (x : A) (l : List A) → count_at f level l ≤ count_at f level (x ∷ l)
unfolding keep_of
counted_more f level x l = by_test (eqb (f x) level) (λ e. rw e (omega arith)) (λ e. rw e (omega arith))

-- with one of the level there is one more
counted_here : {A : Type 0} (f : A → ℕ) (x : A) (l : List A) → count_at f (f x) (x ∷ l) ≡ suc (count_at f (f x) l)
unfolding keep_of
counted_here f x l = rw (eq-eqb (f x) (f x) refl)

-- where no level that stands in a list is counted twice, each stands once
pub counted_once : {A : Type 0} (f : A → ℕ) (l : List A) → ((level : ℕ) → stands_in level (map f l) ≡ true → length (keep_of (λ x. eqb (f x) level) l) ≤ 1) → Once (map f l)
unfolding Once
counted_once f [] few = tt
counted_once f (x ∷ l) few = (
  by_test (stands_in (f x) (map f l))
      (λ again. absurd (omega (arith, few (f x) (stands_here (f x) (map f l)), counted_here f x l, stands_counted f (f x) l again)))
      (λ none. none),
  counted_once f l (λ level stands. omega (arith, few level (stands_later level (f x) (map f l) stands), counted_more f level x l)),
)

-- ---- no more than there are levels

-- a list without one level
others : ℕ → List ℕ → List ℕ
others level l = keep_of (λ x. not (eqb x level)) l

-- it is a part of the list
others_part : (level : ℕ) (l : List ℕ) → Part (others level l) l
unfolding others
others_part level l = part_keep (λ x. not (eqb x level)) l

-- that level does not stand in it
others_none : (level : ℕ) (l : List ℕ) → stands_in level (others level l) ≡ false
unfolding others keep_of stands_in
others_none level [] = refl
others_none level (x ∷ l) = by_test (eqb x level) (λ t. rw t (others_none level l)) (λ t. rw (t, t) (others_none level l))

-- where the level does not stand the list is as long as before
others_all : (level : ℕ) (l : List ℕ) → stands_in level l ≡ false → length (others level l) ≡ length l
unfolding others keep_of stands_in
others_all level [] none = refl
others_all level (x ∷ l) none =
    by_test (eqb x level)
    (λ t. absurd (never_both refl (rw t at none)))
    (λ t. rw t (ap suc (others_all level l (rw t at none))))

-- where each level stands once it is shorter by at most one
others_length : (level : ℕ) (l : List ℕ) → Once l → length l ≤ suc (length (others level l))
unfolding others keep_of Once
others_length level [] once = omega arith
others_length level (x ∷ l) once =
    by_test (eqb x level)
    (λ t. let here : x ≡ level = eqb-true _ _ t in
    let same : length (others level l) ≡ length l = others_all level l (rw (← here) once.0) in
    rw t (omega arith))
    (λ t. let less : length l ≤ suc (length (others level l)) = others_length level l once.1 in rw t (omega arith))

-- levels below a limit, each once, are no more than the limit
pub once_below : (limit : ℕ) (l : List ℕ) → Once l → ((level : ℕ) → stands_in level l ≡ true → level < limit) → length l ≤ limit
once_below zero [] once below = omega arith
once_below zero (x ∷ l) once below = absurd (omega (arith, below x (stands_here x l)))
once_below (suc limit) l once below =
    let part = others_part limit l in
    let fewer : length (others limit l) ≤ limit = once_below limit (others limit l) (once_part part once)
    (λ level stands. let less : level < suc limit = below level (stands_part level part stands) in
    let not_it : level ≡ limit → ⊥ = (λ e. never_both (rw e at stands) (others_none limit l)) in omega arith) in
    omega (arith, others_length limit l once)
