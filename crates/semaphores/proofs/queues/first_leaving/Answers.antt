use Rattle.std.proofs.Common.{◌≡◌, ◌+◌, List, [], ◌∷◌, ◌++◌, get_or, take, refl, ap, sym, ◌∙◌}
use Rattle.std.proofs.lemmas.List.{take_more, take_all}
use Rattle.common.specs.Keep.{keep_of}
use Rattle.common.specs.Filled.{filled_of}
use Rattle.semaphores.specs.declared.queues.Waiter.{Waiter}
use Rattle.semaphores.specs.Queues.{nobody, list_of, queued, leaving_of, levels_for, without_first}
use Rattle.semaphores.proofs.Waiting.{first_stays, without_stays, first_found, without_found, leaving_some, leaving_none}
use Rattle.semaphores.proofs.queues.first_leaving.Goals.{then-is_some-waiter, else-is_some-waiter}
use Rattle.semaphores.proofs.queues.first_leaving.Goals as goal

pub loop-waiter-init : goal.loop-waiter-init
unfolding levels_for without_first filled_of keep_of
loop-waiter-init c = record { first = refl; others = c.empty-others.ensures }

pub loop-waiter-preserved : goal.loop-waiter-preserved
loop-waiter-preserved c =
    let loop = c.loop-waiter in
    let number = c.args.number in
    let all = c.standing-waiter-items.result.now in
    let before : List Waiter = take loop.waiter-index all in
    let w : Waiter = get_or all loop.waiter-index nobody in
    let more : take (loop.waiter-index + 1) all ≡ before ++ (w ∷ []) = take_more all loop.waiter-index nobody c.loop-waiter-test.true in
    elim c.if-is_some-waiter.branch [
      | then-is_some-waiter way ↦
          let stays = rw (c.is_some.ensures, loop.invariant.first) at way.if-is_some-waiter.true in
          rw more (record {
            first = way.first-is ∙ loop.invariant.first ∙ sym (first_stays number w before stays);
            others = way.others-is ∙ way.push-others.ensures ∙ rw loop.invariant.others (without_stays number w before stays);
          })
      | else-is_some-waiter way ↦
          let found = rw (c.is_some.ensures, loop.invariant.first) at way.if-is_some-waiter.false in
          rw more (record {
            first = way.first-is ∙ sym (first_found number w before found);
            others = way.others-is ∙ loop.invariant.others ∙ ap queued (sym (without_found number w before found));
          })
    ]

pub returns-in_err-level : goal.returns-in_err-level
unfolding leaving_of
returns-in_err-level c =
    let loop = c.loop-waiter in
    let all : take loop.waiter-index c.standing-waiter-items.result.now ≡ list_of c.args.queue = take_all _ _ c.loop-waiter-test.false ∙ c.standing-waiter-items.ensures in
    let h = c.from_residual.ensures in h ∙ sym (leaving_none (levels_for c.args.number (list_of c.args.queue)) _ (rw (← all) (sym loop.invariant.first ∙ c.in_err-level.was)))

pub returns : goal.returns
unfolding leaving_of
returns c =
    let loop = c.loop-waiter in
    let number = c.args.number in
    let level = c.in_ok-level.level in
    let all : take loop.waiter-index c.standing-waiter-items.result.now ≡ list_of c.args.queue = take_all _ _ c.loop-waiter-test.false ∙ c.standing-waiter-items.ensures in
    let others : loop.others ≡ queued (without_first number (list_of c.args.queue)) = loop.invariant.others ∙ ap (λ (l : List Waiter). queued (without_first number l)) all in
    rw others (sym (leaving_some (levels_for number (list_of c.args.queue)) _ level (rw (← all) (sym loop.invariant.first ∙ c.in_ok-level.was))))
