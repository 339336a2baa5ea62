use native.Mathlib.Omega.{arith}
use Rattle.day.proofs.Halving.{counts, span_six, ToCome, to_come, piece_some, turned, unmarked}
use Rattle.day.proofs.counted.Goals.{In-loop-count}
use Rattle.day.proofs.counted.Goals as goal

turn-comes : (c : In-loop-count)
    → let loop = c.loop-count in
    let args = c.args in ToCome args.milliseconds args.unit loop.count loop.piece
turn-comes c = to_come _ _ (omega arith) _ _ c.loop-count.invariant (omega arith)

pub loop-count-init : goal.loop-count-init
loop-count-init c = let six = span_six c.args.unit in (6, counts _ _ 1 _ (omega arith) (omega arith), omega arith)

pub halved-count-requires : goal.halved-count-requires
halved-count-requires c = (piece_some _ _ (omega arith) _ _ (turn-comes (goal.at.halved-count-requires c).In-loop-count), omega arith)

pub loop-count-smaller : goal.loop-count-smaller
loop-count-smaller c = let some = piece_some _ _ (omega arith) _ _ (turn-comes (goal.at.loop-count-smaller c).In-loop-count) in omega arith

pub loop-count-preserved : goal.loop-count-preserved
loop-count-preserved c = turned _ _ (omega arith) _ _ _ (turn-comes (goal.at.loop-count-preserved c).In-loop-count) c.halved-count.ensures

pub returns : goal.returns
returns c = unmarked _ _ (omega arith) _ _ (omega arith) c.loop-count.invariant (omega arith)
