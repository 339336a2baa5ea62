-- The life of one order, tick by tick: it counts down to its next firing, and after that from its interval, until its last. Assumes nothing.
use mathlib.Core.Path.{◌≡◌, ◌∙◌, refl, ap, sym}
use mathlib.Core.Logic.{◌⊎◌, inl, inr}
use Prim.Native.Nat.{ℕ, zero, suc, ◌+◌, ◌-◌, ◌*◌, ◌<◌}
use native.Mathlib.Nat.{suc-mul, zero-mul}
use native.Mathlib.Omega.{arith}
use Rattle.orders.specs.Timer.{Fires, Finished}

pub data Life : Type 0 where
  -- due in so many ticks and one, with so many firings left, 0 for without end
  standing : ℕ → ℕ → Life
  over : Life

module _ (e : ℕ) where
  -- one tick; the interval is e and one
  abbrev pub tick_life : Life → Life
  tick_life over = over
  tick_life (standing (suc r) m) = standing r m
  tick_life (standing zero zero) = standing e zero
  tick_life (standing zero (suc zero)) = over
  tick_life (standing zero (suc (suc m))) = standing e (suc m)

  abbrev pub lives : ℕ → Life → Life
  lives zero l = l
  lives (suc k) l = lives k (tick_life l)

abbrev pub DueNext : Life → Type 0
DueNext (standing zero m) = Unit
DueNext (standing (suc r) m) = ⊥
DueNext over = ⊥

abbrev pub Over : Life → Type 0
Over (standing r m) = ⊥
Over over = Unit

module _ (e : ℕ) where
  over_stays : (k : ℕ) → lives e k over ≡ over
  over_stays zero = refl
  over_stays (suc k) = over_stays k

  -- no firing is past, and one is to come
  first_count : (m : ℕ) → (m ≡ 0) ⊎ (0 < m)
  first_count zero = inl refl
  first_count (suc m) = inr (omega arith)

  next_count : (m i : ℕ) → (suc m ≡ 0) ⊎ (i < suc m) → (suc (suc m) ≡ 0) ⊎ (suc i < suc (suc m))
  next_count m i (inl none) = absurd (omega arith)
  next_count m i (inr less) = inr (omega arith)

  last_count : (m i : ℕ) → (suc (suc m) ≡ 0) ⊎ (suc i < suc (suc m)) → (suc m ≡ 0) ⊎ (i < suc m)
  last_count m i (inl none) = absurd (omega arith)
  last_count m i (inr less) = inr (omega arith)

  -- the next tick is a firing exactly where the schedule has it
  pub due_fires : (k r m : ℕ) → DueNext (lives e k (standing r m)) → Fires (suc r) (suc e) m (suc k)
  due_fires zero zero m due = (0, omega (arith, zero-mul (suc e)), first_count m)
  due_fires zero (suc r) m due = absurd due
  due_fires (suc k) (suc r) m due = let later = due_fires k r m due in (later.0, omega (arith, later.1), later.2)
  due_fires (suc k) zero zero due =
      let later = due_fires k e zero due in (suc later.0, omega (arith, later.1, suc-mul later.0 (suc e)), inl refl)
  due_fires (suc k) zero (suc zero) due = absurd (rw (over_stays k) at due)
  due_fires (suc k) zero (suc (suc m)) due =
      let later = due_fires k e (suc m) due in (suc later.0, omega (arith, later.1, suc-mul later.0 (suc e)), next_count m later.0 later.2)

  fires_at : (k r m i : ℕ) → suc k ≡ suc r + i * suc e → (m ≡ 0) ⊎ (i < m) → DueNext (lives e k (standing r m))
  fires_at zero zero m i p c = tt
  fires_at zero (suc r) m i p c = absurd (omega arith)
  fires_at (suc k) (suc r) m i p c = fires_at k r m i (omega arith) c
  fires_at (suc k) zero m zero p c = absurd (omega (arith, zero-mul (suc e)))
  fires_at (suc k) zero zero (suc i) p c = fires_at k e zero i (omega (arith, suc-mul i (suc e))) (inl refl)
  fires_at (suc k) zero (suc zero) (suc i) p (inl none) = absurd (omega arith)
  fires_at (suc k) zero (suc zero) (suc i) p (inr less) = absurd (omega arith)
  fires_at (suc k) zero (suc (suc m)) (suc i) p c = fires_at k e (suc m) i (omega (arith, suc-mul i (suc e))) (last_count m i c)

  pub fires_due : (k r m : ℕ) → Fires (suc r) (suc e) m (suc k) → DueNext (lives e k (standing r m))
  fires_due k r m fires = fires_at k r m fires.0 fires.1 fires.2

  -- one firing more is one interval more
  last_tick : (m : ℕ) → (suc (suc m) - 1) * suc e ≡ (suc m - 1) * suc e + suc e
  last_tick m =
      let less : (n : ℕ) → suc n - 1 ≡ n = λ n. omega arith in
      ap (λ n. n * suc e) (less (suc m)) ∙ suc-mul m (suc e) ∙ ap (λ n. n * suc e + suc e) (sym (less m))

  -- nothing is left of it exactly where its last firing is past
  pub over_finished : (k r m : ℕ) → Over (lives e k (standing r m)) → Finished (suc r) (suc e) m k
  over_finished zero r m past = absurd past
  over_finished (suc k) (suc r) m past = let sooner = over_finished k r m past in (sooner.0, omega (arith, sooner.1))
  over_finished (suc k) zero zero past = absurd (omega (arith, (over_finished k e zero past).0))
  over_finished (suc k) zero (suc zero) past = (omega arith, omega (arith, zero-mul (suc e)))
  over_finished (suc k) zero (suc (suc m)) past =
      let sooner = over_finished k e (suc m) past in (omega arith, omega (arith, sooner.1, last_tick m))

  pub finished_over : (k r m : ℕ) → Finished (suc r) (suc e) m k → Over (lives e k (standing r m))
  finished_over zero r m finished = absurd (omega (arith, finished.1))
  finished_over (suc k) (suc r) m finished = finished_over k r m (finished.0, omega (arith, finished.1))
  finished_over (suc k) zero zero finished = absurd (omega (arith, finished.0))
  finished_over (suc k) zero (suc zero) finished = rw (over_stays k) tt
  finished_over (suc k) zero (suc (suc m)) finished = finished_over k e (suc m) (omega arith, omega (arith, finished.1, last_tick m))
