use Rattle.std.proofs.Common.{◌≡◌, take}
use Rattle.semaphores.specs.Queues.{queued, levels_for, without_first}
use Rattle.semaphores.proofs.Waiting.{first_of}
use Rattle.semaphores.proofs.queues.first_leaving.Given as goal

-- of those that were looked at, the first with the number left, and every other stays
abbrev pub invariant-loop-waiter : goal.invariant-loop-waiter
invariant-loop-waiter l = record {
  first : l.first ≡ first_of (levels_for l.number (take l.waiter-index l.waiter-items));
  others : l.others ≡ queued (without_first l.number (take l.waiter-index l.waiter-items));
}
