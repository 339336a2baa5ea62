use mathlib.Core.Path.{◌∙◌, sym, ap}
use lib.ListN.{length}
use Rattle.table.specs.declared.Outcome.{Outcome}
use Rattle.table.specs.Table.{refused_of}
use Rattle.pooling.specs.Pooling.{buffer_by}
use Rattle.rtms.specs.Calls.{GETPOOL}
use Rattle.rtms.proofs.Guarding.{lent_sound, lent_broken}
use Rattle.rtms.proofs.pool_calls.get_pool.Goals as goal

pub returns-then-lent : goal.returns-then-lent
returns-then-lent c =
    let called = c in
    let tested = called in
    let args = tested.args in (
      lent_sound (GETPOOL args.caller args.offset args.count (length args.buffer.now)) _ args.pool.now _ (sym tested.lent.ensures ∙ tested.if-lent.true)
          called.get_pool.ensures.0,
      called.get_pool.ensures.1,
    )

pub returns-else-lent : goal.returns-else-lent
unfolding buffer_by refused_of
returns-else-lent c =
    let tested = c in
    let args = tested.args in (
      lent_broken (GETPOOL args.caller args.offset args.count (length args.buffer.now)) _ args.pool.now _ (sym tested.lent.ensures ∙ tested.if-lent.false)
          c.refused.ensures,
      sym (ap (λ (o : Outcome). buffer_by o.answer args.pool.now args.offset args.buffer.now) c.refused.ensures),
    )
