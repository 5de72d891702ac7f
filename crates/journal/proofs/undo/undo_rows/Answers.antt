use mathlib.Core.Path.{◌∙◌}
use Rattle.journal.specs.Undo.{width_by}
use Rattle.journal.proofs.Undone.{undone_same}
use Rattle.journal.proofs.undo.undo_rows.Goals as goal

pub returns : goal.returns
returns c = let a = c.args in c.undo_rows_by.ensures ∙ undone_same (width_by c.of.result) a.width c.of.ensures a.to a.t.now a.count
