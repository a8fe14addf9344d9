use Rattle.std.proofs.Common.{arith}
use Rattle.lines.proofs.Joining.{rest_room, puts_more}
use Rattle.lines.proofs.pieces.put.Goals as goal

pub put-end-requires : goal.put-end-requires
put-end-requires c = rest_room c.args.pieces.now _ _ _ _ c.loop-piece-test.true c.loop-piece.invariant.0 (omega arith)

pub loop-piece-preserved : goal.loop-piece-preserved
loop-piece-preserved c =
    puts_more c.args.pieces.now _ _ _ _ c.loop-piece-test.true c.loop-piece.invariant.0 _ c.args.line.now _ c.loop-piece.auto.line
    c.loop-piece.invariant.1 c.put-end.ensures.after c.put-end.ensures.put
