-- `LineRows::row` meets its contract: within both columns each field is its word, and past either it is zero.
use mathlib.Core.Path.{◌∙◌}
use Rattle.rows.proofs.Laws.{line_default, line_in, line_out64, line_out32}
use Rattle.rows.proofs.LineRows.row.Goals as goal
use Rattle.rows.proofs.LineRows.row.Goals.{else-j-wide-via-then-j-wide+else-j-words, else-j-wide-via-else-j-wide}

pub returns-then-j-words : goal.returns-then-j-words
returns-then-j-words c =
    let a = c.args in
    line_in a.self.columns64.now a.self.columns32.now a.j c.if-j-wide.true c.if-j-words.true

pub returns : goal.returns
returns c =
    line_default c.default.ensures
    ∙ elim c.else-j-wide.branch [
      | else-j-wide-via-then-j-wide+else-j-words w ↦ line_out32 _ _ _ w.if-j-wide.true w.if-j-words.false
      | else-j-wide-via-else-j-wide w ↦ line_out64 _ _ _ w.if-j-wide.false
    ]
