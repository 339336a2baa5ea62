use mathlib.Core.Path.{◌∙◌, sym}
use Rattle.process.proofs.Delivering.{deliver_next}
use Rattle.process.proofs.Process.deliver.Goals as goal

pub returns-in-Some : goal.returns-in-Some
returns-in-Some c = c.hand.ensures ∙ sym (deliver_next _ _ _ _ _ (sym c.next.ensures ∙ c.in-Some.is))

pub returns-in-Always : goal.returns-in-Always
returns-in-Always c =
    c.store.ensures
    ∙ rw c.in-Always.is (sym (deliver_next _ _ _ _ _ (sym c.next.ensures ∙ c.in-None.is)))

pub returns-in-Waiting : goal.returns-in-Waiting
returns-in-Waiting c =
    rw c.in-Waiting.is (sym (deliver_next _ _ _ _ _ (sym c.next.ensures ∙ c.in-None.is)))
