use Rattle.std.proofs.Common.{◌≡◌, ◌∙◌, length, rules}
use Rattle.common.proofs.Lists.{of_map}
use Rattle.calls.specs.Decisions.{looked_at}
use Rattle.messages.specs.Receiving.{awaited_of}
use Rattle.messages.proofs.Deciding.{awaited_all}
use Rattle.messages.proofs.await_message.Goals.{Start}
use Rattle.messages.proofs.await_message.Goals as goal

whole : (c : Start) → length c.args.table.processes ≡ 12
whole c = search (rules, of_map)

pub returns : goal.returns
returns c =
    let table = c.args.table in
    let same : c.on_record.ensures.0 ≡ awaited_of table.config (looked_at table c.args.level) c.args.level = search (rules, c.on_record.ensures.1) in
    c.on_record.ensures.2 ∙ rw same (awaited_all table c.args.level _ (whole (goal.at.returns c).Start))
