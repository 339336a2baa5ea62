use Rattle.posting.specs.Posting.{begin_of}
use Rattle.posting.proofs.Posting.begin.Goals as goal

pub returns : goal.returns
unfolding begin_of
returns c = λ processes. rw c.none.ensures
