use Rattle.std.proofs.Common.{◌≡◌, ◌∙◌, length, rules}
use Rattle.common.proofs.Lists.{of_map}
use Rattle.calls.specs.Decisions.{looked_at}
use Rattle.starting.specs.Starting.{prioritized_of}
use Rattle.starting.proofs.Deciding.{prioritized_all}
use Rattle.starting.proofs.set_priority.Goals.{Start}
use Rattle.starting.proofs.set_priority.Goals as goal

whole : (c : Start) → length c.args.table.processes ≡ 12
whole c = search (rules, of_map)

pub returns : goal.returns
returns c =
    let table = c.args.table in
    let same : c.on_record.ensures.0 ≡ prioritized_of table.config (looked_at table c.args.caller) c.args.caller c.args.priority = search (rules, c.on_record.ensures.1) in
    c.on_record.ensures.2 ∙ rw same (prioritized_all table c.args.caller c.args.priority _ (whole (goal.at.returns c).Start))
