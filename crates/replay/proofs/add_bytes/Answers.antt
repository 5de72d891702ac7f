use Rattle.std.proofs.Common.{arith}
use Rattle.replay.proofs.Laws.{sum_more, sum_done}
use Rattle.replay.proofs.add_bytes.Goals as goal

pub loop-b-preserved : goal.loop-b-preserved
loop-b-preserved c = sum_more _ _ _ c.args.s.now c.loop-b.b-index _ c.add-now.ensures c.from.ensures (omega arith) c.loop-b.invariant

pub returns : goal.returns
returns c = sum_done _ c.args.s.now c.loop-b.b-index _ (omega arith) c.loop-b.invariant
