-- Document 01, "Cases to settle": every row of the table holds. By computing: the definitions that it goes through are opened.
use mathlib.Core.Path.{◌≡◌, refl}
use mathlib.Core.Bool.{true}
use Rattle.common.specs.Every.{every, every_below}
use Rattle.common.specs.Keep.{keep_of}
use Rattle.common.specs.Packing.{packed_of}
use Rattle.day.specs.Fields.{made_of}
use Rattle.day.specs.TimeOfDay.{forward_of, until_of}
use Rattle.inputs.specs.InputSet.{bit_of, word_of, has_of, set_of, empty_of as no_inputs, except_of, run_of, rising_of, members_of, count_of}
use Rattle.pool.specs.Control.{fresh_of as fresh_pool}
use Rattle.process.specs.States.{next_of}
use Rattle.process.specs.Messages.{put_of}
use Rattle.process.specs.Process.{moved_of, stored_of, deliver_of}
use Rattle.common.specs.Filled.{filled_of, items_of, pushed_of}
use Rattle.semaphores.specs.Semaphores.{usable_of, fresh_of as fresh_semaphores}
use Rattle.orders.specs.Moments.{interval_of, delay_of}
use Rattle.orders.specs.Orders.{accept_of}
use Rattle.orders.specs.Cancel.{is_from, matches_of, how_many_of, removed_of, cancel_of}
use Rattle.table.specs.Configuration.{configured_of, inputs_of, good_of, receiver_of, sender_of}
use Rattle.table.specs.Sound.{times_of, level_sound, levels_sound, order_sound, orders_sound, holder_sound, holders_sound, queue_sound, on_card, lengths_sound, pool_sound, sound_of}
use Rattle.table.specs.Table.{fresh_of}
use Rattle.calls.specs.Effects.{outcome_of}
use Rattle.calls.specs.Levels.{process_at}
use Rattle.calls.specs.Verdicts.{also_of, obeyed}
use Rattle.starting.specs.Starting.{start_of}
use Rattle.posting.specs.Posting.{marked_by, one_of, all_of}
use Rattle.messages.specs.Sending.{send_posted, sent_of, send_of}
use Rattle.timers.specs.Timers.{moment_of, ordered, schedule_of, cancelled_of, cancel_schedule_of}
use Rattle.rtms.specs.Calls.{guarded_of, answer_of}
use Rattle.cases.specs.Cases.{holds, settled}

pub settled_all : every holds settled ≡ true
unfolding every_below keep_of packed_of made_of forward_of until_of bit_of word_of has_of set_of no_inputs except_of run_of rising_of members_of count_of next_of put_of moved_of stored_of deliver_of items_of filled_of pushed_of usable_of fresh_semaphores interval_of delay_of accept_of is_from matches_of how_many_of removed_of cancel_of configured_of inputs_of good_of receiver_of sender_of times_of level_sound levels_sound order_sound orders_sound holder_sound holders_sound queue_sound on_card lengths_sound pool_sound sound_of fresh_pool fresh_of outcome_of process_at also_of obeyed start_of marked_by one_of all_of send_posted sent_of send_of moment_of ordered schedule_of cancelled_of cancel_schedule_of guarded_of answer_of
settled_all = refl
