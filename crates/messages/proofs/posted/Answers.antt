use mathlib.Core.Path.{◌∙◌}
use mathlib.Core.List.{[], ◌∷◌}
use Rattle.posting.specs.declared.Origin.TheVariants.{Sent}
use Rattle.posting.specs.Posting.{letter}
use Rattle.posting.proofs.Letters.{posts_begin}
use Rattle.messages.specs.Sending.{send_posted}
use Rattle.messages.proofs.posted.Goals as goal

pub returns-in-Level : goal.returns-in-Level
unfolding send_posted
returns-in-Level c =
    rw (c.in-Level.is, c.post.ensures, c.begin-posting.ensures c.args.processes.now)
    (posts_begin Sent c.args.config.places c.args.processes.now (letter _ c.args.condition c.args.message ∷ []))

pub returns-in-Unknown : goal.returns-in-Unknown
unfolding send_posted
returns-in-Unknown c = rw c.in-Unknown.is (c.begin.ensures _ ∙ posts_begin Sent c.args.config.places c.args.processes.now [])
