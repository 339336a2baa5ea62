use Rattle.process.specs.declared.Condition.{Condition}
use Rattle.process.specs.declared.Target.{Target}
use Rattle.process.specs.declared.buffers.Message.{Message}
use Rattle.table.specs.declared.Table.{Table}
use Rattle.table.specs.Table.{refused_of}
use Rattle.calls.specs.Outcomes.{answered_of}
use Rattle.calls.proofs.Obeying.{has_of}
use Rattle.posting.specs.Posting.{Posted}
use Rattle.messages.specs.Sending.{send_posted, sent_of}
use Rattle.messages.proofs.Answering.{waiting_kept, waiting_some, always_full, always_served}
use Rattle.messages.proofs.Broadcasts.{nobody_waited}
use Rattle.messages.proofs.sent.Goals as goal

-- what becomes of the message in a table
abbrev posted_for : Table → Target → Condition → Message → Posted
posted_for t target condition message = send_posted t.config target condition message t.processes

pub returns-in-Waiting : goal.returns-in-Waiting
unfolding sent_of refused_of
returns-in-Waiting c =
    let args = c.args in
    let posted = posted_for args.table.now args.target args.condition args.message in
    has_of _ _ _
    (rw (c.said.ensures, c.none.ensures)
    (waiting_kept _ _ _ posted c.posted-full.ensures c.in-Waiting.is c.if-wakes-eq0.true
    (rw c.in-Waiting.is (nobody_waited args.table.now.config args.target args.message args.table.now.processes))))

pub returns-in-Waiting-2 : goal.returns-in-Waiting-2
unfolding sent_of answered_of
returns-in-Waiting-2 c =
    has_of _ _ _
    (rw c.said-in-Waiting-2.ensures
    (waiting_some _ _ _ (posted_for c.args.table.now c.args.target c.args.condition c.args.message) c.posted-full.ensures c.in-Waiting-2.is c.if-wakes-eq0.false))

pub returns-in-Always : goal.returns-in-Always
unfolding sent_of answered_of
returns-in-Always c =
    has_of _ _ _
    (rw c.said-in-Always.ensures
    (always_full _ _ _ (posted_for c.args.table.now c.args.target c.args.condition c.args.message) c.posted-full.ensures c.in-Always.is c.if-full.true))

pub returns-in-Always-2 : goal.returns-in-Always-2
unfolding sent_of answered_of
returns-in-Always-2 c =
    has_of _ _ _
    (rw c.said-in-Always-2.ensures
    (always_served _ _ _ (posted_for c.args.table.now c.args.target c.args.condition c.args.message) c.posted-full.ensures c.in-Always-2.is c.if-full.false))
