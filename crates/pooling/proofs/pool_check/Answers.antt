use Rattle.std.proofs.Common.{◌≡◌, ◌∙◌, refl, rules}
use Rattle.calls.specs.Levels.{process_of}
use Rattle.pooling.specs.Deciding.{stated_by}
use Rattle.pooling.proofs.Deciding.{check_all}
use Rattle.pooling.proofs.pool_check.Goals as goal

pub returns : goal.returns
returns c =
    let args = c.args in
    let table = args.table in
    let same : c.on_pool.ensures.0 ≡ stated_by table.config (process_of table args.caller) table.pool args.caller args.stated = search (rules, c.on_pool.ensures.1) in
    c.on_pool.ensures.2 ∙ rw same (check_all table args.caller _ refl args.stated)
