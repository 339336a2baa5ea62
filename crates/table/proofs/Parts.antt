-- What holds of a table that shows no break, part by part. Assumes nothing.
use mathlib.Core.Path.{◌≡◌}
use mathlib.Core.Bool.{true}
use Rattle.common.proofs.Cases.{both_true}
use Rattle.table.specs.declared.Table.{Table}
use Rattle.table.specs.Configuration.{good_of}
use Rattle.table.specs.Sound.{clock_within, levels_sound, orders_sound, holders_sound, queue_sound, on_card, pool_sound, sound_of}

-- each of the tests of a sound table
pub record SoundParts (t : Table) : Type 0 where
  pub good : good_of t.config ≡ true
  pub clock : clock_within t ≡ true
  pub levels : levels_sound t.config t.semaphores.queue t.processes ≡ true
  pub orders : orders_sound t.config t.orders ≡ true
  pub holders : holders_sound t.config t.semaphores.holders ≡ true
  pub queue : queue_sound t.config t.semaphores.holders t.semaphores.queue ≡ true
  pub mask : on_card t.config t.mask ≡ true
  pub latch : on_card t.config t.latch ≡ true
  pub pool : pool_sound t.config t.pool ≡ true

-- all of them hold of a sound table
pub sound_parts : (t : Table) → sound_of t ≡ true → SoundParts t
unfolding sound_of
sound_parts t sound =
    let to_pool = both_true _ (pool_sound t.config t.pool) sound in
    let to_latch = both_true _ (on_card t.config t.latch) to_pool.0 in
    let to_mask = both_true _ (on_card t.config t.mask) to_latch.0 in
    let to_queue = both_true _ (queue_sound t.config t.semaphores.holders t.semaphores.queue) to_mask.0 in
    let to_holders = both_true _ (holders_sound t.config t.semaphores.holders) to_queue.0 in
    let to_orders = both_true _ (orders_sound t.config t.orders) to_holders.0 in
    let to_levels = both_true _ (levels_sound t.config t.semaphores.queue t.processes) to_orders.0 in
    let to_clock = both_true (good_of t.config) (clock_within t) to_levels.0 in
    record {
      good = to_clock.0;
      clock = to_clock.1;
      levels = to_levels.1;
      orders = to_orders.1;
      holders = to_holders.1;
      queue = to_queue.1;
      mask = to_mask.1;
      latch = to_latch.1;
      pool = to_pool.1;
    }

-- and a table of which all of them hold is sound
pub parts_sound : (t : Table) → SoundParts t → sound_of t ≡ true
unfolding sound_of
parts_sound t parts =
    rw (parts.good, parts.clock, parts.levels, parts.orders, parts.holders, parts.queue, parts.mask, parts.latch, parts.pool)
