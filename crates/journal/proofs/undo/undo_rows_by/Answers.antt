use mathlib.Core.Path.{sym, ◌∙◌}
use Rattle.journal.specs.Undo.{width_by}
use Rattle.journal.proofs.Undone.{undo_done, undo_turn}
use borrow.Author.Rules.{rules}
use Rattle.journal.proofs.undo.undo_rows_by.Goals as goal

pub loop-n-preserved : goal.loop-n-preserved
loop-n-preserved c =
    let a = c.args in
    (search rules, undo_turn (width_by a.by) a.to c.loop-n.t c.loop-n.n c.loop-n-test.true c.take_off_by.ensures c.loop-n.invariant.1)

pub returns : goal.returns
returns c = let a = c.args in sym (undo_done (width_by a.by) a.to c.loop-n.t c.loop-n.n c.loop-n-test.false) ∙ c.loop-n.invariant.1
