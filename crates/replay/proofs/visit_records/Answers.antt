-- `visit_records` counts a record that it has visited.
use Rattle.replay.proofs.Laws.{visited}
use Rattle.replay.proofs.visit_records.Goals as goal

pub loop-count-preserved : goal.loop-count-preserved
loop-count-preserved g c = visited _ _ _ _ _ _ c.loop-count.invariant c.visit.ensures
