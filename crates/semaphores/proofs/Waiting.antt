-- A queue, seen as the list of those that wait: what goes in goes behind the others, and the first of a number comes out. Assumes nothing.
use mathlib.Core.Path.{◌≡◌, ◌∙◌, refl, ap, sym}
use mathlib.Core.Bool.{Bool, true, false, not, ◌||◌}
use Rattle.std.specs.Prelude.{Option, Some, None}
use Rattle.std.specs.Option.{is_some}
use mathlib.Core.List.{List, [], ◌∷◌, ◌++◌, map, map-append}
use Prim.Native.Nat.{ℕ, ◌<◌, ◌≤◌}
use native.Mathlib.Omega.{arith}
use lib.ListN.{length, drop}
use borrow.Author.Tests.{eqb-true, ne_eqb}
use Rattle.common.specs.Choice.{pick}
use Rattle.common.specs.Fold.{fold_of}
use Rattle.common.specs.Keep.{keep_of}
use Rattle.common.proofs.Cases.{by_test, never_both}
use Rattle.common.proofs.Keep.{keep_append}
use Rattle.common.proofs.Filling.{standing_short, standing_length, standing_push, standing_filled, push_filled, push_all}
use Rattle.common.proofs.Parts.{Part, nothing, part_map, part_keep, part_first}
use Rattle.semaphores.specs.declared.queues.Waiter.{Waiter}
use Rattle.semaphores.specs.declared.queues.Leaving.{Leaving}
use Rattle.semaphores.specs.Queues.{Queue, nobody, list_of, queued, push_of, waits_for, levels_for, without_first, leaving_as, levelled, with_of, none_of}

-- a waiter goes behind the list that lies in a queue
pub push_queued : (l : List Waiter) (w : Waiter) → push_of (queued l) w ≡ queued (l ++ (w ∷ []))
push_queued l w = push_filled 12 nobody l w

-- and a level behind a list of levels
pub with_levelled : (l : List ℕ) (level : ℕ) → with_of (levelled l) level ≡ levelled (l ++ (level ∷ []))
with_levelled l level = push_filled 12 0 l level

-- ---- the list of a queue

-- no more than twelve
pub list_short : (q : Queue) → length (list_of q) ≤ 12
list_short q = standing_short 12 q

-- as many as the count says
pub list_length : (q : Queue) → length q.items ≡ 12 → q.count ≤ 12 → length (list_of q) ≡ q.count
list_length q places count = standing_length 12 q places count

-- where there is room, a waiter goes behind all others
pub list_push : (q : Queue) (w : Waiter) → length q.items ≡ 12 → q.count < 12 → list_of (push_of q w) ≡ list_of q ++ (w ∷ [])
list_push q w places room = standing_push 12 q w places room

-- a list of twelve at most is found again in its queue
pub list_queued : (l : List Waiter) → length l ≤ 12 → list_of (queued l) ≡ l
list_queued l fits = standing_filled 12 nobody l fits

-- ---- the levels that wait for a number

module _ (number : ℕ) where
  -- without the first that waits for the number, all of its others wait on in their order
  pub levels_without : (l : List Waiter) → levels_for number (without_first number l) ≡ drop 1 (levels_for number l)
  unfolding levels_for without_first keep_of
  levels_without [] = refl
  levels_without (w ∷ l) = by_test (waits_for number w) (λ e. rw e) (λ e. rw (e, e) (levels_without l))

  -- and who waits for another number is not touched
  pub levels_other : (other : ℕ) → (number ≡ other → ⊥) → (l : List Waiter) → levels_for other (without_first number l) ≡ levels_for other l
  unfolding levels_for without_first keep_of
  levels_other other differs [] = refl
  levels_other other differs (w ∷ l) =
      by_test (waits_for number w)
      (λ e. let here : w.number ≡ number = eqb-true _ _ e in
      let not_other : waits_for other w ≡ false = ne_eqb _ _ (λ f. differs (sym here ∙ f)) in
      rw (e, not_other))
      (λ e. by_test (waits_for other w) (λ f. rw (e, f) (ap (◌∷◌ w.level) (levels_other other differs l))) (λ f. rw (e, f) (levels_other other differs l)))

  -- where nobody waits for the number, nobody leaves
  pub without_none : (l : List Waiter) → levels_for number l ≡ [] → without_first number l ≡ l
  unfolding levels_for without_first keep_of
  without_none [] none = refl
  without_none (w ∷ l) none =
      by_test (waits_for number w)
      (λ e. let some : w.level ∷ map (λ v. v.level) (keep_of (waits_for number) l) ≡ [] = rw e at none in
      let z : ◌≡◌ {A = ℕ} 0 1 = cc in absurd (omega arith))
      (λ e. rw e (ap (◌∷◌ w) (without_none l (rw e at none))))

  -- one more behind the others joins its own number's queue alone
  pub levels_behind : (l : List Waiter) (w : Waiter) → levels_for number (l ++ (w ∷ [])) ≡ levels_for number l ++ pick (waits_for number w) (w.level ∷ []) []
  unfolding levels_for
  levels_behind l w = rw (keep_append (waits_for number) l (w ∷ []), map-append) (ap (◌++◌ (map (λ v. v.level) (keep_of (waits_for number) l))) (levels_one w))
    where
      levels_one : (w : Waiter) → map (λ v. v.level) (keep_of (waits_for number) (w ∷ [])) ≡ pick (waits_for number w) (w.level ∷ []) []
      levels_one w = unfold keep_of in by_test (waits_for number w) (λ e. rw e) (λ e. rw e)

  -- a queue without the first that waits for the number is a part of it
  pub part_without : (l : List Waiter) → Part (without_first number l) l
  unfolding without_first
  part_without [] = nothing
  part_without (w ∷ l) = part_first (waits_for number w) w (part_without l)

  -- who waits for a number is among those that wait
  pub levels_part : (l : List Waiter) → Part (levels_for number l) (map (λ w. w.level) l)
  unfolding levels_for
  levels_part l = part_map _ (part_keep (waits_for number) l)

-- ---- the loop that looks for the first of a number

-- the first of a list of levels, if there is one
abbrev pub first_of : List ℕ → Option ℕ
first_of [] = None
first_of (level ∷ others) = Some level

-- one more that is looked at stays, if the first is found or it waits for another number
abbrev pub stays : ℕ → Waiter → List Waiter → Bool
stays number w l = is_some (first_of (levels_for number l)) || not (waits_for number w)

module _ (number : ℕ) (w : Waiter) where
  -- then the first is who it was
  pub first_stays : (l : List Waiter) → stays number w l ≡ true → first_of (levels_for number (l ++ (w ∷ []))) ≡ first_of (levels_for number l)
  unfolding levels_for keep_of
  first_stays [] s = by_test (waits_for number w) (λ e. absurd (never_both (rw e at s) refl)) (λ e. rw e)
  first_stays (v ∷ l) s = by_test (waits_for number v) (λ e. rw e) (λ e. rw e (first_stays l (rw e at s)))

  -- and it stands behind those that stayed
  stays_behind : (l : List Waiter) → stays number w l ≡ true → without_first number (l ++ (w ∷ [])) ≡ without_first number l ++ (w ∷ [])
  unfolding levels_for keep_of without_first
  stays_behind [] s = by_test (waits_for number w) (λ e. absurd (never_both (rw e at s) refl)) (λ e. rw e)
  stays_behind (v ∷ l) s = by_test (waits_for number v) (λ e. rw e) (λ e. rw e (ap (◌∷◌ v) (stays_behind l (rw e at s))))

  -- so it does in the queue
  pub without_stays : (l : List Waiter) → stays number w l ≡ true → push_of (queued (without_first number l)) w ≡ queued (without_first number (l ++ (w ∷ [])))
  without_stays l s = push_queued (without_first number l) w ∙ ap queued (sym (stays_behind l s))

  -- else it is the first
  pub first_found : (l : List Waiter) → stays number w l ≡ false → first_of (levels_for number (l ++ (w ∷ []))) ≡ Some w.level
  unfolding levels_for keep_of
  first_found [] s = by_test (waits_for number w) (λ e. rw e) (λ e. absurd (never_both refl (rw e at s)))
  first_found (v ∷ l) s = by_test (waits_for number v) (λ e. absurd (never_both refl (rw e at s))) (λ e. rw e (first_found l (rw e at s)))

  -- and leaves
  pub without_found : (l : List Waiter) → stays number w l ≡ false → without_first number (l ++ (w ∷ [])) ≡ without_first number l
  unfolding levels_for keep_of without_first
  without_found [] s = by_test (waits_for number w) (λ e. rw e) (λ e. absurd (never_both refl (rw e at s)))
  without_found (v ∷ l) s = by_test (waits_for number v) (λ e. absurd (never_both refl (rw e at s))) (λ e. rw e (ap (◌∷◌ v) (without_found l (rw e at s))))

-- nobody leaves, or the first does
pub by_leaving : {P : Type 0} (o : Option Leaving) → (o ≡ None → P) → ((leaving : Leaving) → o ≡ Some leaving → P) → P
by_leaving None none some = none refl
by_leaving (Some leaving) none some = some leaving refl

-- where there is a first, it leaves
pub leaving_some : (levels : List ℕ) (q : Queue) (level : ℕ) → first_of levels ≡ Some level → leaving_as levels q ≡ Some (record { level = level; queue = q })
leaving_some [] q level e = cc
leaving_some (first ∷ others) q level e = cc

-- and where there is none, nobody does
pub leaving_none : (levels : List ℕ) (q : Queue) → first_of levels ≡ None → leaving_as levels q ≡ None
leaving_none [] q e = refl
leaving_none (first ∷ others) q e = cc

-- ---- the list of levels that are woken

-- levels one after the other go behind each other, and from none on they are the list
pub with_list : (l : List ℕ) → fold_of with_of none_of l ≡ levelled l
with_list l = push_all 12 0 [] l
