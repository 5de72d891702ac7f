-- `each_record` has visited as many records as it has counted.
use Rattle.replay.specs.Counts.{Visited}
use Rattle.replay.proofs.each_record.Given as goal

abbrev pub invariant-loop-calls : goal.invariant-loop-calls
invariant-loop-calls g l = goal.F-IsAlwaysCallable g l.visit × Visited (λ p x q. goal.F-step g p x tt q) l.fn.visit l.calls l.visit
