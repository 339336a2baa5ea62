-- One check more, as the code makes it: a check behind a `?`, which comes to std's `and` of the two. Assumes nothing.
use Rattle.std.proofs.Common.{◌≡◌, Bool, Ok, Err, refl}
use Rattle.std.specs.Result.{result_and}
use Rattle.table.specs.declared.answers.Answer.{Answer}
use Rattle.calls.specs.Verdicts.{Checked, check_of, also_of}

-- it counts where all before it passed
pub one_more : (before : Checked) (holds : Bool) (answer : Answer) → result_and before (check_of holds answer) ≡ also_of before holds answer
unfolding also_of
one_more (Ok tt) holds answer = refl
one_more (Err first) holds answer = refl
