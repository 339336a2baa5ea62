use Rattle.std.proofs.Common.{◌≤◌, length, ◌-◌}
use Rattle.rtmslog.proofs.read_all.Given as goal

-- what was read has its place in the buffer
abbrev pub invariant-loop-count : goal.invariant-loop-count
invariant-loop-count g l = l.length ≤ length l.fn.input

-- each turn brings something, or is the last
abbrev pub decreases-loop-count : goal.decreases-loop-count
decreases-loop-count g l = length l.fn.input - l.length
