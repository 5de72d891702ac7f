use mathlib.Core.Path.{◌∙◌}
use Rattle.journal.specs.Undo.{width_by}
use Rattle.journal.proofs.Undone.{off_same}
use Rattle.journal.proofs.undo.take_off.Goals as goal

pub returns : goal.returns
returns c = let a = c.args in c.take_off_by.ensures ∙ off_same (width_by c.of.result) a.width c.of.ensures a.t.now a.n
