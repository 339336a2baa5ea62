-- An order is followed through the steps of a run as it is followed through their steps of the order table. Assumes nothing.
use mathlib.Core.Path.{◌≡◌, ◌∙◌, refl, sym, ap, ap₂}
use mathlib.Core.List.{List, [], ◌∷◌, ◌++◌}
use Prim.Native.Nat.{◌+◌}
use native.Mathlib.Omega.{arith}
use Rattle.orders.specs.declared.Order.{Order}
use Rattle.orders.specs.Timer.{Timed, Step, ticks, accepts, cancels, step_of, after_of as steps_after, ticks_of as ticks_among, Place, gone, place_after, followed, Spared}
use Rattle.table.specs.declared.Table.{Table}
use Rattle.calls.proofs.Keeping.{Steady}
use Rattle.rtms.specs.Calls.{Call}
use Rattle.runs.specs.Runs.{leaves, after_of}
use Rattle.runs.specs.Schedules.{Undisturbed, order_steps, timed_of, followed_on, ticks_in}
use Rattle.runs.proofs.Calm.{kind_of}
use Rattle.runs.proofs.Ordering.{step_timed, step_spares, step_ticks}
use Rattle.runs.proofs.Steady.{step_steady}

-- ---- steps of the order table, and then others

-- what they leave
after_append : (first then : List Step) (t : Timed) → steps_after (first ++ then) t ≡ steps_after then (steps_after first t)
after_append [] then t = refl
after_append (s ∷ first) then t = after_append first then (step_of s t)

-- where a place is after them
followed_append : (first then : List Step) (t : Timed) (p : Place) → followed (first ++ then) t p ≡ followed then (steps_after first t) (followed first t p)
followed_append [] then t p = refl
followed_append (s ∷ first) then t p = followed_append first then (step_of s t) (place_after s t p)

-- whom they spare
spared_append : (x : Order) (first then : List Step) → Spared x first → Spared x then → Spared x (first ++ then)
spared_append x [] then before behind = behind
spared_append x (ticks ∷ first) then before behind = spared_append x first then before behind
spared_append x (accepts y ∷ first) then before behind = spared_append x first then before behind
spared_append x (cancels sender receiver ∷ first) then before behind = (before.0, spared_append x first then before.1 behind)

-- how many ticks are among them
ticks_append : (first then : List Step) → ticks_among (first ++ then) ≡ ticks_among first + ticks_among then
ticks_append [] then = omega arith
ticks_append (ticks ∷ first) then = omega (arith, ticks_append first then)
ticks_append (accepts x ∷ first) then = ticks_append first then
ticks_append (cancels sender receiver ∷ first) then = ticks_append first then

-- ---- the steps of a run

-- all their steps of the order table, one after the other
unfoldable pub steps_in : List Call → Table → List Step
steps_in [] t = []
steps_in (call ∷ later) t = order_steps call t ++ steps_in later (leaves call t)

-- the clock and the orders after them
pub later_timed : (x : Order) (later : List Call) (t : Table) → Steady t → Undisturbed x later t
    → timed_of (after_of later t) ≡ steps_after (steps_in later t) (timed_of t)
unfolding after_of Undisturbed steps_in
later_timed x [] t steady undisturbed = refl
later_timed x (call ∷ later) t steady undisturbed =
    later_timed x later (leaves call t) (step_steady call t steady) undisturbed.1
    ∙ ap (steps_after (steps_in later (leaves call t))) (step_timed x call t steady undisturbed.0)
    ∙ sym (after_append (order_steps call t) (steps_in later (leaves call t)) (timed_of t))

-- a place followed through them
pub later_followed : (x : Order) (later : List Call) (t : Table) (p : Place) → Steady t → Undisturbed x later t
    → followed_on later t p ≡ followed (steps_in later t) (timed_of t) p
unfolding followed_on Undisturbed steps_in
later_followed x [] t p steady undisturbed = refl
later_followed x (call ∷ later) t p steady undisturbed =
    let there : Place = followed (order_steps call t) (timed_of t) p in
    later_followed x later (leaves call t) there (step_steady call t steady) undisturbed.1
    ∙ ap (λ s. followed (steps_in later (leaves call t)) s there) (step_timed x call t steady undisturbed.0)
    ∙ sym (followed_append (order_steps call t) (steps_in later (leaves call t)) (timed_of t) p)

-- an order that they leave to the clock is not cancelled
pub later_spares : (x : Order) (later : List Call) (t : Table) → Undisturbed x later t → Spared x (steps_in later t)
unfolding Undisturbed steps_in
later_spares x [] t undisturbed = tt
later_spares x (call ∷ later) t undisturbed =
    spared_append x (order_steps call t) (steps_in later (leaves call t))
    (step_spares x call t undisturbed.0 (kind_of call t))
    (later_spares x later (leaves call t) undisturbed.1)

-- how many ticks they are
pub later_ticks : (later : List Call) (t : Table) → ticks_among (steps_in later t) ≡ ticks_in later
unfolding ticks_in steps_in
later_ticks [] t = refl
later_ticks (call ∷ later) t =
    ticks_append (order_steps call t) (steps_in later (leaves call t))
    ∙ ap₂ ◌+◌ (step_ticks call t (kind_of call t)) (later_ticks later (leaves call t))

-- ---- an order that is gone

-- it stays gone through steps of the order table
gone_followed : (steps : List Step) (t : Timed) → followed steps t gone ≡ gone
gone_followed [] t = refl
gone_followed (ticks ∷ steps) t = gone_followed steps (step_of ticks t)
gone_followed (accepts x ∷ steps) t = gone_followed steps (step_of (accepts x) t)
gone_followed (cancels sender receiver ∷ steps) t = gone_followed steps (step_of (cancels sender receiver) t)

-- and through the steps of a run, whatever they are: cancels, stops of the scheduler and all else
pub gone_stays : (later : List Call) (t : Table) → followed_on later t gone ≡ gone
unfolding followed_on
gone_stays [] t = refl
gone_stays (call ∷ later) t = ap (followed_on later (leaves call t)) (gone_followed (order_steps call t) (timed_of t)) ∙ gone_stays later (leaves call t)
