-- Who waits for a semaphore in a sound table: configured levels, each once. Assumes nothing.
use mathlib.Core.Path.{◌≡◌}
use mathlib.Core.Bool.{true, not, ◌&&◌}
use mathlib.Core.List.{List, map}
use Prim.Native.Nat.{ℕ, ◌≤◌, min}
use native.Mathlib.Omega.{arith}
use lib.Dec.{eqb, leb}
use lib.ListN.{get_or}
use borrow.Author.Tests.{eqb-true}
use Rattle.common.specs.Choice.{pick}
use Rattle.common.specs.Every.{every_below}
use Rattle.common.specs.Stands.{stands_in, Once}
use Rattle.common.proofs.Cases.{both, both_true}
use Rattle.common.proofs.Every.{every_below_lem}
use Rattle.common.proofs.Keep.{one_at_most}
use Rattle.common.proofs.Once.{stands_taken, counted_once}
use Rattle.process.specs.declared.Process.{Process}
use Rattle.process.specs.declared.states.State.TheVariants.{WaitingForSemaphore}
use Rattle.process.specs.States.{is_of}
use Rattle.common.specs.Filled.{items_of}
use Rattle.semaphores.specs.declared.queues.Waiter.{Waiter}
use Rattle.semaphores.specs.Queues.{Queue, list_of}
use Rattle.semaphores.specs.Semaphores.{free, usable_of}
use Rattle.semaphores.specs.Turns.{waiting_of}
use Rattle.table.specs.declared.configs.Config.{Config}
use Rattle.table.specs.declared.Table.{Table}
use Rattle.table.specs.Configuration.{configured_of}
use Rattle.table.specs.Sound.{times_of, process_within, none_kept, queued_as_it_waits, level_sound, levels_sound, no_process, waiter_sound, no_waiter, queue_sound, sound_of}
use Rattle.table.proofs.Configured.{configured_level}
use Rattle.table.proofs.Parts.{sound_parts}

module _ (c : Config) where
  -- a sound waiter's level is configured
  waiter_configured : (holders : List ℕ) (w : Waiter) → waiter_sound c holders w ≡ true → configured_of c w.level ≡ true
  unfolding waiter_sound
  waiter_configured holders w sound =
      let usable = both (usable_of w.number) (not (eqb (get_or holders w.number 0) free) && configured_of c w.level) sound in
      (both_true (not (eqb (get_or holders w.number 0) free)) (configured_of c w.level) usable.1).1

  -- and so is every level that waits in a sound queue
  queue_configured : (holders : List ℕ) (q : Queue) → queue_sound c holders q ≡ true
      → (level : ℕ) → stands_in level (map (λ w. w.level) (list_of q)) ≡ true → configured_of c level ≡ true
  unfolding queue_sound items_of
  queue_configured holders q sound =
      let all = (both_true (leb q.count 12) (every_below (min q.count 12) (λ i. waiter_sound c holders (get_or q.items i no_waiter))) sound).1 in
      stands_taken (λ w. w.level) (λ level. configured_of c level ≡ true) (min q.count 12) q.items no_waiter
      (λ i h. waiter_configured holders (get_or q.items i no_waiter) (every_below_lem (min q.count 12) _ all i h))

  -- a sound level that is configured is queued once at most
  level_queued : (q : Queue) (level : ℕ) (p : Process) → level_sound c q level p ≡ true → configured_of c level ≡ true → times_of level q ≤ 1
  unfolding level_sound
  level_queued q level p sound configured =
      let tests : process_within c p && none_kept p && queued_as_it_waits q level p ≡ true = rw configured at sound in
      let times : times_of level q ≡ pick (is_of p.state WaitingForSemaphore) 1 0 = eqb-true _ _ (both_true (process_within c p && none_kept p) (queued_as_it_waits q level p) tests).1 in
      rw times (one_at_most (is_of p.state WaitingForSemaphore))

  -- and so is every one of sound levels
  levels_queued : (q : Queue) (processes : List Process) → levels_sound c q processes ≡ true → (level : ℕ) → configured_of c level ≡ true → times_of level q ≤ 1
  unfolding levels_sound
  levels_queued q processes sound level configured =
      level_queued q level (get_or processes level no_process)
      (every_below_lem 12 (λ at. level_sound c q at (get_or processes at no_process)) sound level (omega (arith, configured_level c level configured)))
      configured

module _ (t : Table) (sound : sound_of t ≡ true) where
  -- every level that waits is configured
  pub waiting_configured : (level : ℕ) → stands_in level (waiting_of t.semaphores) ≡ true → configured_of t.config level ≡ true
  unfolding waiting_of
  waiting_configured = queue_configured t.config t.semaphores.holders t.semaphores.queue (sound_parts t sound).queue

  -- and waits once
  pub waiting_once : Once (waiting_of t.semaphores)
  unfolding waiting_of times_of
  waiting_once =
      counted_once (λ (w : Waiter). w.level) (list_of t.semaphores.queue)
      (λ level stands. levels_queued t.config t.semaphores.queue t.processes (sound_parts t sound).levels level (waiting_configured level stands))
