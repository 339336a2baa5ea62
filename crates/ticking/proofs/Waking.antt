-- Whom ticks wake: who waited for a message, at most once each, in however many ticks. Assumes nothing.
use mathlib.Core.Path.{◌≡◌, ◌∙◌, refl, ap, sym}
use mathlib.Core.Bool.{true, false}
use mathlib.Core.List.{List, map, map-append}
use Prim.Native.Nat.{ℕ, zero, suc, ◌≤◌}
use lib.ListN.{length, length-map}
use Rattle.common.specs.Stands.{stands_in, Once}
use Rattle.common.proofs.Cases.{by_test, never_both}
use Rattle.common.proofs.Once.{stands_either, once_append, once_below}
use Rattle.day.specs.declared.TimeOfDay.{TimeOfDay}
use Rattle.day.specs.TimeOfDay.{forward_of}
use Rattle.posting.specs.declared.Origin.TheVariants.{Timed}
use Rattle.posting.proofs.Waking.{waits, waits_within, woken_waited, woken_ready, not_woken_same, woken_once}
use Rattle.process.specs.declared.states.State.{State}
use Rattle.process.specs.declared.states.State.TheVariants.{WaitingForMessage}
use Rattle.process.specs.States.{is_of}
use Rattle.table.specs.declared.Table.{Table}
use Rattle.table.specs.declared.wakes.Wake.{Wake}
use Rattle.calls.specs.Levels.{process_of}
use Rattle.ticking.proofs.Quieting.{by_tick}
use Rattle.ticking.specs.Ticking.{letter_of, carried_out, due_now, carrying_out, stopping, passing, tick_at, tick_of, ticks_of}

-- the levels that wake, in order
abbrev woken_in : List Wake → List ℕ
woken_in wakes = map (λ w. w.level) wakes

-- ---- one tick

module _ (now : TimeOfDay) (t : Table) where
  -- who wakes in a tick waited for a message before it
  pub tick_waited : (level : ℕ) → stands_in level (map (λ w. w.level) (tick_at now t).wakes) ≡ true → waits (process_of t level) ≡ true
  unfolding stopping passing carrying_out carried_out stands_in
  tick_waited level =
      by_tick (λ x. stands_in level (woken_in x.wakes) ≡ true → waits (process_of t level) ≡ true) now t
      (λ stands. absurd (never_both stands refl))
      (woken_waited Timed t.config.places (map letter_of (due_now now t)) t.processes level)
      (λ stands. absurd (never_both stands refl))

  -- and does not wait for one after it
  tick_ready : (level : ℕ) → stands_in level (woken_in (tick_at now t).wakes) ≡ true → waits (process_of (tick_at now t).table level) ≡ false
  unfolding stopping passing carrying_out carried_out stands_in
  tick_ready level =
      by_tick (λ x. stands_in level (woken_in x.wakes) ≡ true → waits (process_of x.table level) ≡ false) now t
      (λ stands. absurd (never_both stands refl))
      (woken_ready Timed t.config.places (map letter_of (due_now now t)) t.processes level)
      (λ stands. absurd (never_both stands refl))

  -- who does not wake has the state that it had
  tick_same : (level : ℕ) → stands_in level (woken_in (tick_at now t).wakes) ≡ false → (process_of (tick_at now t).table level).state ≡ (process_of t level).state
  unfolding stopping passing carrying_out carried_out
  tick_same level =
      by_tick (λ x. stands_in level (woken_in x.wakes) ≡ false → (process_of x.table level).state ≡ (process_of t level).state) now t
      (λ none. refl)
      (not_woken_same Timed t.config.places (map letter_of (due_now now t)) t.processes level)
      (λ none. refl)

  -- in a tick a process wakes at most once
  pub tick_once : Once (map (λ w. w.level) (tick_at now t).wakes)
  unfolding stopping passing carrying_out carried_out Once
  tick_once = by_tick (λ x. Once (woken_in x.wakes)) now t tt (woken_once Timed t.config.places (map letter_of (due_now now t)) t.processes) tt

  -- who waits for a message after a tick waited for one before it
  tick_waits_before : (level : ℕ) → waits (process_of (tick_at now t).table level) ≡ true → waits (process_of t level) ≡ true
  tick_waits_before level holds =
      by_test (stands_in level (woken_in (tick_at now t).wakes))
      (λ wakes. absurd (never_both holds (tick_ready level wakes)))
      (λ sleeps. ap (λ (s : State). is_of s WaitingForMessage) (sym (tick_same level sleeps)) ∙ holds)

-- ---- so many ticks

-- who wakes in them waited for a message before the first
pub ticks_waited : (n : ℕ) (t : Table) (level : ℕ) → stands_in level (map (λ w. w.level) (ticks_of n t).wakes) ≡ true → waits (process_of t level) ≡ true
unfolding ticks_of tick_of stands_in
ticks_waited zero t level stands = absurd (never_both stands refl)
ticks_waited (suc n) t level stands =
    let now = forward_of t.clock 1 in
    let then = (tick_at now t).table in
    stands_either level (woken_in (tick_at now t).wakes) (woken_in (ticks_of n then).wakes) (rw map-append at stands)
    (tick_waited now t level)
    (λ later. tick_waits_before now t level (ticks_waited n then level later))

-- and wakes at most once in all of them
pub ticks_once : (n : ℕ) (t : Table) → Once (map (λ w. w.level) (ticks_of n t).wakes)
unfolding ticks_of tick_of Once
ticks_once zero t = tt
ticks_once (suc n) t =
    let now = forward_of t.clock 1 in
    let then = (tick_at now t).table in
    rw map-append
    (once_append (woken_in (tick_at now t).wakes) (woken_in (ticks_of n then).wakes)
    (tick_once now t)
    (ticks_once n then)
    (λ level stands. by_test (stands_in level (woken_in (ticks_of n then).wakes))
    (λ again. absurd (never_both (ticks_waited n then level again) (tick_ready now t level stands)))
    (λ none. none)))

-- so no more wake in a tick than there are processes
pub tick_fits : (now : TimeOfDay) (t : Table) → length t.processes ≡ 12 → length (tick_at now t).wakes ≤ 12
tick_fits now t twelve =
    rw length-map at
    (once_below 12 (woken_in (tick_at now t).wakes) (tick_once now t)
    (λ level stands. rw twelve at (waits_within t.processes level (tick_waited now t level stands))))

-- nor in so many ticks: no wake is left out of the twelve places
pub ticks_fit : (n : ℕ) (t : Table) → length t.processes ≡ 12 → length (ticks_of n t).wakes ≤ 12
ticks_fit n t twelve =
    rw length-map at
    (once_below 12 (woken_in (ticks_of n t).wakes) (ticks_once n t)
    (λ level stands. rw twelve at (waits_within t.processes level (ticks_waited n t level stands))))
