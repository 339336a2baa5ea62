use Rattle.std.proofs.Common.{◌≡◌}
use Rattle.inputs.specs.InputSet.{first_of, next_of}
use Rattle.inputs.proofs.Members.{rest_of}
use Rattle.inputs.proofs.InputSet.next.Given as goal

-- the lowest input is the lowest from word `at` on
abbrev pub invariant-loop-at : goal.invariant-loop-at
invariant-loop-at l = first_of (rest_of l.fn.self l.at) ≡ next_of l.fn.self
