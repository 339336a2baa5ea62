use Rattle.std.proofs.Common.{◌≡◌, ◌-◌}
use Rattle.semaphores.proofs.ReleasingAll.{finished_of}
use Rattle.semaphores.proofs.Semaphores.release_all.Given as goal

-- the numbers that are left lead from here to where all lead from the start
abbrev pub invariant-loop-number : goal.invariant-loop-number
invariant-loop-number l = finished_of (96 - l.number) l.number l.level l.all ≡ finished_of 96 0 l.level l.initial.all
