use mathlib.Core.Path.{◌≡◌}
use lib.ListN.{length}
use Rattle.journal.specs.Undo.{width_by, undone_to}
use Rattle.journal.proofs.undo.undo_rows_by.Given as goal

abbrev pub invariant-loop-n : goal.invariant-loop-n
invariant-loop-n l = (length l.t ≡ length l.initial.t) × (undone_to (width_by l.by) l.to l.t l.n ≡ undone_to (width_by l.by) l.to l.initial.t l.count)
