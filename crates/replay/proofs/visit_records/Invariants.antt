-- `visit_records` has visited as many records as it has counted.
use Rattle.replay.specs.Counts.{Visited}
use Rattle.replay.proofs.visit_records.Given as goal

abbrev pub invariant-loop-count : goal.invariant-loop-count
invariant-loop-count g l = Visited g.V.Visit.visits l.initial.visitor l.count l.visitor
