-- `gather` meets its contract: what the rows to come still store leaves what all of them leave.
use mathlib.Core.List.{[]}
use Rattle.rows.specs.Columns.{columns_of}
use Rattle.writer.proofs.ScratchLaws.{Gathers}
use Rattle.writer.proofs.stack.gather.Given as goal

abbrev pub invariant-loop-r : goal.invariant-loop-r
invariant-loop-r l = Gathers (columns_of l.functions l.lines []) l.depth l.at l.i l.first l.initial.s l.s l.r l.line l.n
