-- What an answer of 0 is. Assumes nothing.
use mathlib.Core.Path.{◌≡◌}
use lib.Dec.{eqb}
use denote.Enum.Bare.{sameb}
use Rattle.table.specs.contracts.answers.Answer.{the_type}
use Rattle.table.specs.declared.answers.Answer.{Answer}
use Rattle.table.specs.declared.answers.Answer.TheVariants.{Ok}
use Rattle.table.specs.Answers.{number_of}
use Rattle.std.proofs.Common.{rules}

-- a call is granted where it is answered 0
pub is_ok : (answer : Answer) → sameb the_type answer Ok ≡ eqb (number_of answer) 0
is_ok answer = search rules
