use Rattle.std.proofs.Common.{◌≡◌, ◌∙◌, refl, rules}
use Rattle.calls.specs.Levels.{process_of}
use Rattle.pooling.specs.Deciding.{entered_of}
use Rattle.pooling.proofs.Deciding.{init_all}
use Rattle.pooling.proofs.init_pool.Goals as goal

pub returns : goal.returns
returns c =
    let args = c.args in
    let table = args.table in
    let same : c.on_pool.ensures.0 ≡ entered_of table.config (process_of table args.caller) table.pool args.caller = search (rules, c.on_pool.ensures.1) in
    c.on_pool.ensures.2 ∙ rw same (init_all table args.caller _ refl)
