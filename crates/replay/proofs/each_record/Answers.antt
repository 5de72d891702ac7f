-- `each_record` counts a record that it has visited.
use Rattle.std.proofs.Common.{of_calls}
use Rattle.replay.proofs.Laws.{visited}
use Rattle.replay.proofs.each_record.Goals as goal

pub loop-calls-preserved : goal.loop-calls-preserved
loop-calls-preserved g c = (search of_calls, visited _ _ _ _ _ _ c.loop-calls.invariant.1 c.visit.ensures)
