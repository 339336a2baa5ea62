use Rattle.std.proofs.Common.{◌≡◌, ◌∙◌, refl, rules}
use Rattle.calls.specs.Levels.{process_of}
use Rattle.pooling.specs.Deciding.{given_of}
use Rattle.pooling.specs.Pooling.{access_of}
use Rattle.pooling.proofs.Deciding.{put_all}
use Rattle.pooling.proofs.grant_put.Goals as goal

pub returns : goal.returns
returns c =
    let args = c.args in
    let table = args.table in
    let same : c.on_pool.ensures.0 ≡ given_of (access_of table.config (process_of table args.caller) table.pool args.caller args.part.offset args.part.count args.own) table.pool = search (rules, c.on_pool.ensures.1) in
    c.on_pool.ensures.2 ∙ rw same (put_all table args.caller _ refl args.part.offset args.part.count args.own)
