-- `push_lines` meets its contract: what is still to be stored leaves what all lines leave.
use Prim.Native.Nat.{ℕ}
use mathlib.Core.List.{List}
use Rattle.rows.specs.Columns.{columns}
use Rattle.scratch.proofs.Gathered.{Pushed}
use Rattle.writer.proofs.stack.push_lines.Given as goal

abbrev pub invariant-loop-i : goal.invariant-loop-i
invariant-loop-i l = (f g t : List ℕ) → Pushed (columns f g l.lines.columns64.now l.lines.columns32.now t) l.first l.count l.at l.initial.s l.s l.i
