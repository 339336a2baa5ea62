-- How a table stands along a run, what keeps it so, and what a change of one process must keep. Assumes nothing.
use mathlib.Core.Path.{◌≡◌, refl, subst}
use mathlib.Core.Bool.{Bool, true, ◌&&◌}
use mathlib.Core.List.{List, [], ◌∷◌}
use Prim.Native.Nat.{ℕ, ◌<◌, ◌≤◌}
use native.Mathlib.Omega.{arith}
use lib.Dec.{eqb, leb, ltb}
use lib.ListN.{length, get_or, set}
use lib.Seq.{set_out, get_or-set_same, get_or-set_other}
use borrow.Author.Tests.{eqb-true, eqb-false, ltb-true, ltb-false}
use Rattle.std.specs.Prelude.{Ok, Err}
use Rattle.common.proofs.Cases.{by_test, both_true}
use Rattle.common.proofs.Every.{every_below_lem, below_every}
use Rattle.common.proofs.Lists.{get_or_within}
use Rattle.day.specs.declared.TimeOfDay.{TimeOfDay}
use Rattle.day.specs.TimeOfDay.{day}
use Rattle.inputs.specs.declared.InputSet.{InputSet}
use Rattle.orders.specs.declared.Orders.{Orders}
use Rattle.pool.specs.declared.Control.{Control}
use Rattle.process.specs.declared.Process.{Process}
use Rattle.process.specs.declared.states.State.TheVariants.{Ready, WaitingForSemaphore}
use Rattle.process.specs.Process.{fresh_of}
use Rattle.process.specs.States.{is_of}
use Rattle.semaphores.specs.Queues.{Queue}
use Rattle.semaphores.specs.Turns.{Orderly}
use Rattle.table.specs.declared.answers.Answer.{Answer}
use Rattle.table.specs.declared.answers.Answer.TheVariants.{NoUser, NotReady}
use Rattle.table.specs.declared.configs.Config.{Config}
use Rattle.table.specs.declared.Scheduler.{Scheduler}
use Rattle.table.specs.declared.Table.{Table}
use Rattle.table.specs.Configuration.{configured_of}
use Rattle.table.specs.Sound.{process_within, none_kept, queued_as_it_waits, level_sound, no_process, levels_sound, orders_sound, on_card, pool_sound}
use Rattle.table.proofs.Parts.{SoundParts}
use Rattle.calls.specs.Effects.{Effect}
use Rattle.calls.specs.Levels.{process_at, with_processes, with_clock, with_scheduler, with_orders, with_mask, with_latch, with_pool}
use Rattle.calls.specs.Verdicts.{Checked, Check, check, also_of, after, obeyed, by_caller}
use Rattle.calls.proofs.Obeying.{last_passed}

-- how a table stands along a run: its arrays are whole, none of the breaks shows, and its semaphores stand orderly
pub record Steady (t : Table) : Type 0 where
  pub processes : length t.processes ≡ 12
  pub places : length t.orders.list.items ≡ 64
  pub parts : SoundParts t
  pub orderly : Orderly t.semaphores

-- an effect leaves a table that stands so
unfoldable pub Keeps : Effect → Type 0
Keeps e = Steady e.table

-- an effect after checks leaves a steady table if it does so where the checks pass
pub keeps_obeyed : (v : Checked) (t : Table) (effect : Effect) → Steady t → (v ≡ Ok tt → Keeps effect) → Keeps (obeyed v t effect)
unfolding obeyed Keeps
keeps_obeyed (Ok tt) t effect steady keeps = keeps refl
keeps_obeyed (Err answer) t effect steady keeps = steady

-- ---- a table with one part changed

-- a table with other parts, and the configuration and the semaphores that it has
abbrev changed : Table → TimeOfDay → Scheduler → List Process → Orders → InputSet → InputSet → Control → Table
changed t clock scheduler processes orders mask latch pool = record {
  config = t.config;
  clock = clock;
  scheduler = scheduler;
  processes = processes;
  orders = orders;
  semaphores = t.semaphores;
  mask = mask;
  latch = latch;
  pool = pool;
}

module _ (t : Table) where
  -- each part is looked at alone, but the levels together with the queue
  steady_changed : (clock : TimeOfDay) (scheduler : Scheduler) (ps : List Process) (orders : Orders) (mask latch : InputSet) (pool : Control) → Steady t
      → ltb clock.milliseconds day ≡ true
      → (length ps ≡ 12) × (levels_sound t.config t.semaphores.queue ps ≡ true)
      → (length orders.list.items ≡ 64) × (orders_sound t.config orders ≡ true)
      → on_card t.config mask ≡ true
      → on_card t.config latch ≡ true
      → pool_sound t.config pool ≡ true
      → Steady (changed t clock scheduler ps orders mask latch pool)
  steady_changed clock scheduler ps orders mask latch pool steady within levels ordered masked latched pooled = record {
    processes = levels.0;
    places = ordered.0;
    parts = record {
      good = steady.parts.good;
      clock = within;
      levels = levels.1;
      orders = ordered.1;
      holders = steady.parts.holders;
      queue = steady.parts.queue;
      mask = masked;
      latch = latched;
      pool = pooled;
    };
    orderly = steady.orderly;
  }

  -- the levels and the orders of a steady table
  levels_of : Steady t → (length t.processes ≡ 12) × (levels_sound t.config t.semaphores.queue t.processes ≡ true)
  levels_of steady = (steady.processes, steady.parts.levels)

  orders_of_lem : Steady t → (length t.orders.list.items ≡ 64) × (orders_sound t.config t.orders ≡ true)
  orders_of_lem steady = (steady.places, steady.parts.orders)

  -- another word of the scheduler
  pub steady_scheduler : (s : Scheduler) → Steady t → Steady (with_scheduler t s)
  steady_scheduler s steady =
      steady_changed t.clock s t.processes t.orders t.mask t.latch t.pool steady
      steady.parts.clock (levels_of steady) (orders_of_lem steady) steady.parts.mask steady.parts.latch steady.parts.pool

  -- another time of day
  pub steady_clock : (now : TimeOfDay) → Steady t → ltb now.milliseconds day ≡ true → Steady (with_clock t now)
  steady_clock now steady within =
      steady_changed now t.scheduler t.processes t.orders t.mask t.latch t.pool steady
      within (levels_of steady) (orders_of_lem steady) steady.parts.mask steady.parts.latch steady.parts.pool

  -- another mask of the card
  pub steady_mask : (m : InputSet) → Steady t → on_card t.config m ≡ true → Steady (with_mask t m)
  steady_mask m steady card =
      steady_changed t.clock t.scheduler t.processes t.orders m t.latch t.pool steady
      steady.parts.clock (levels_of steady) (orders_of_lem steady) card steady.parts.latch steady.parts.pool

  -- another latch of the card
  pub steady_latch : (m : InputSet) → Steady t → on_card t.config m ≡ true → Steady (with_latch t m)
  steady_latch m steady card =
      steady_changed t.clock t.scheduler t.processes t.orders t.mask m t.pool steady
      steady.parts.clock (levels_of steady) (orders_of_lem steady) steady.parts.mask card steady.parts.pool

  -- other sound orders, in as many places
  pub steady_orders : (o : Orders) → Steady t → length o.list.items ≡ 64 → orders_sound t.config o ≡ true → Steady (with_orders t o)
  steady_orders o steady whole sound =
      steady_changed t.clock t.scheduler t.processes o t.mask t.latch t.pool steady
      steady.parts.clock (levels_of steady) (whole, sound) steady.parts.mask steady.parts.latch steady.parts.pool

  -- other processes, as many, that are sound with the queue as it is
  pub steady_processes : (ps : List Process) → Steady t → length ps ≡ 12 → levels_sound t.config t.semaphores.queue ps ≡ true
      → Steady (with_processes t ps)
  steady_processes ps steady whole sound =
      steady_changed t.clock t.scheduler ps t.orders t.mask t.latch t.pool steady
      steady.parts.clock (whole, sound) (orders_of_lem steady) steady.parts.mask steady.parts.latch steady.parts.pool

  -- other users of the pool, whose lengths are within its size
  pub steady_pool : (pool : Control) → Steady t → pool_sound t.config pool ≡ true → Steady (with_pool t pool)
  steady_pool pool steady sound =
      steady_changed t.clock t.scheduler t.processes t.orders t.mask t.latch pool steady
      steady.parts.clock (levels_of steady) (orders_of_lem steady) steady.parts.mask steady.parts.latch sound

-- ---- what checks that passed tell

-- where checks passed after others, the others passed
pub passed_before : (v : Checked) (checks : List Check) → after v checks ≡ Ok tt → v ≡ Ok tt
passed_before v [] passed = passed
passed_before v (x ∷ checks) passed = (last_passed v x.holds x.answer (passed_before (also_of v x.holds x.answer) checks passed)).0

-- the first of checks that passed holds, and all before it passed
pub passed_check : (v : Checked) (holds : Bool) (answer : Answer) (checks : List Check) → after v (check holds answer ∷ checks) ≡ Ok tt
    → (v ≡ Ok tt) × (holds ≡ true)
passed_check v holds answer checks passed = last_passed v holds answer (passed_before (also_of v holds answer) checks passed)

-- a caller whose checks passed is configured and READY
pub passed_caller : (c : Config) (p : Process) (caller : ℕ) (checks : List Check) → after (by_caller c p caller) checks ≡ Ok tt
    → (configured_of c caller ≡ true) × (is_of p.state Ready ≡ true)
passed_caller c p caller checks passed =
    let ready = last_passed (also_of (Ok tt) (configured_of c caller) NoUser) (is_of p.state Ready) NotReady (passed_before (by_caller c p caller) checks passed) in
    ((last_passed (Ok tt) (configured_of c caller) NoUser ready.0).1, ready.1)

-- ---- one process changed

-- what a change of a process must keep, so that its level stays sound whatever the queue is
pub record Tame (places : ℕ) (p then : Process) : Type 0 where
  pub priority : leb p.priority 63 ≡ true → leb then.priority 63 ≡ true
  pub kept : leb p.buffer.list.count places ≡ true → none_kept p ≡ true → (leb then.buffer.list.count places ≡ true) × (none_kept then ≡ true)
  pub queued : is_of then.state WaitingForSemaphore ≡ is_of p.state WaitingForSemaphore

module _ (c : Config) (q : Queue) where
  -- a level of sound levels, as it is read
  pub level_at : (ps : List Process) (level : ℕ) → length ps ≡ 12 → levels_sound c q ps ≡ true → level < 12 → level_sound c q level (process_at ps level) ≡ true
  unfolding levels_sound process_at
  level_at ps level whole sound less =
      subst (λ (p : Process). level_sound c q level p ≡ true)
      (get_or_within ps level no_process fresh_of (omega arith))
      (every_below_lem 12 (λ at. level_sound c q at (get_or ps at no_process)) sound level less)

  -- sound levels with one of them changed to a sound one
  pub levels_set : (ps : List Process) (level : ℕ) (p : Process) → length ps ≡ 12 → levels_sound c q ps ≡ true → level_sound c q level p ≡ true
      → levels_sound c q (set ps level p) ≡ true
  unfolding levels_sound
  levels_set ps level p whole sound here-sound =
      below_every 12 _
      (λ at less. by_test (eqb at level)
      (λ e. let here : at ≡ level = eqb-true at level e in
      rw (here, get_or-set_same ps level p no_process (omega arith)) here-sound)
      (λ e. rw (get_or-set_other ps level at p no_process (eqb-false at level e))
      (every_below_lem 12 (λ at. level_sound c q at (get_or ps at no_process)) sound at less)))

  -- a sound level stays sound where its process is changed in a tame way
  pub tame_level : (level : ℕ) (p then : Process) → level_sound c q level p ≡ true → Tame c.places p then → level_sound c q level then ≡ true
  unfolding level_sound
  tame_level level p then sound tame =
      by_test (configured_of c level)
      (λ configured.
      let tests : process_within c p && none_kept p && queued_as_it_waits q level p ≡ true = rw configured at sound in
      let to_queued = both_true (process_within c p && none_kept p) (queued_as_it_waits q level p) tests in
      let to_kept = both_true (process_within c p) (none_kept p) to_queued.0 in
      let to_count = both_true (leb p.priority 63) (leb p.buffer.list.count c.places) to_kept.0 in
      let kept = tame.kept to_count.1 to_kept.1 in
      rw (configured, tame.priority to_count.0, kept.0, kept.1, tame.queued) to_queued.1)
      (λ other. rw other)

  -- sound levels stay sound where one process is changed in a tame way; there is none past the last level
  pub tame_set : (ps : List Process) (level : ℕ) (then : Process) → length ps ≡ 12 → levels_sound c q ps ≡ true → Tame c.places (process_at ps level) then
      → levels_sound c q (set ps level then) ≡ true
  tame_set ps level then whole sound tame =
      by_test (ltb level 12)
      (λ e. levels_set ps level then whole sound (tame_level level (process_at ps level) then (level_at ps level whole sound (ltb-true level 12 e)) tame))
      (λ e. let past : 12 ≤ level = ltb-false level 12 e in rw (set_out ps level then (omega arith)) sound)
