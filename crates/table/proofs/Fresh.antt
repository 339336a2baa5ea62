-- A fresh table shows no break. Assumes nothing.
use mathlib.Core.Path.{◌≡◌, refl}
use mathlib.Core.Bool.{true, not, ◌&&◌}
use Prim.Native.Nat.{ℕ}
use lib.Dec.{ltb, leb-zero}
use lib.ListN.{replicate, get_or-replicate}
use Rattle.common.specs.Every.{every_below}
use Rattle.common.specs.Keep.{keep_of}
use Rattle.common.specs.Packing.{packed_of}
use Rattle.common.proofs.Cases.{both_true, either_true}
use Rattle.common.proofs.Every.{below_every}
use Rattle.day.specs.TimeOfDay.{day}
use Rattle.orders.specs.Orders.{none_of}
use Rattle.pool.specs.Control.{no_user, fresh_of as fresh_pool}
use Rattle.process.specs.Process.{fresh_of as fresh_process}
use Rattle.common.specs.Filled.{filled_of, items_of}
use Rattle.semaphores.specs.Queues.{empty_of as empty_queue}
use Rattle.semaphores.specs.Semaphores.{free, fresh_of as fresh_semaphores}
use Rattle.table.specs.declared.configs.Config.{Config}
use Rattle.table.specs.Configuration.{levels_good, scheduler_good, places_good, all_privileged_good, pool_good, configured_of, good_of}
use Rattle.table.specs.Table.{fresh_of}
use Rattle.table.specs.Sound.{times_of, no_process, level_sound, levels_sound, orders_sound, holder_sound, holders_sound, queue_sound, lengths_sound, pool_sound, sound_of}
use Rattle.table.proofs.Empty.{empty_on_card}

module _ (c : Config) where
  -- a good configuration's clock is a time of day
  clock_good : good_of c ≡ true → ltb c.clock.milliseconds day ≡ true
  unfolding good_of
  clock_good good =
      (both_true (levels_good c && scheduler_good c && places_good c && all_privileged_good c) (ltb c.clock.milliseconds day)
      (both_true (levels_good c && scheduler_good c && places_good c && all_privileged_good c && ltb c.clock.milliseconds day) (pool_good c) good).0).1

  -- each process is INACT, with nothing kept, and not queued
  level_fresh : (level : ℕ) → level_sound c empty_queue level fresh_process ≡ true
  unfolding level_sound times_of keep_of items_of filled_of packed_of
  level_fresh level = either_true (not (configured_of c level)) _ (rw (leb-zero c.places))

  levels_fresh : levels_sound c empty_queue (replicate 12 fresh_process) ≡ true
  unfolding levels_sound
  levels_fresh = below_every 12 _ (λ level h. rw (get_or-replicate 12 level fresh_process no_process h) (level_fresh level))

  orders_fresh : orders_sound c none_of ≡ true
  unfolding orders_sound every_below filled_of
  orders_fresh = rw (leb-zero c.orders)

  holders_fresh : holders_sound c (replicate 96 free) ≡ true
  unfolding holders_sound holder_sound
  holders_fresh = below_every 96 _ (λ number h. rw (get_or-replicate 96 number free 0 h))

  queue_fresh : queue_sound c (replicate 96 free) empty_queue ≡ true
  unfolding queue_sound every_below filled_of
  queue_fresh = refl

  -- nobody has stated a length
  lengths_fresh : lengths_sound c (replicate 12 no_user) ≡ true
  unfolding lengths_sound
  lengths_fresh = below_every 12 _ (λ level h. rw (get_or-replicate 12 level no_user no_user h) (either_true (not (configured_of c level)) _ refl))

  pool_fresh : pool_sound c fresh_pool ≡ true
  unfolding pool_sound fresh_pool
  pool_fresh = rw lengths_fresh

  -- "a fresh configuration" is sound, whichever good one it is
  pub fresh_sound : good_of c ≡ true → sound_of (fresh_of c) ≡ true
  unfolding sound_of fresh_of fresh_semaphores
  fresh_sound good = rw (good, clock_good good, levels_fresh, orders_fresh, holders_fresh, queue_fresh, empty_on_card c, pool_fresh)
