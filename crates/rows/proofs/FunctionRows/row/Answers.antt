-- `FunctionRows::row` meets its contract: within both columns each field is its word, and past either it is zero.
use mathlib.Core.Path.{◌∙◌}
use Rattle.rows.proofs.Laws.{function_default, function_in, function_out64, function_out32}
use Rattle.rows.proofs.FunctionRows.row.Goals as goal
use Rattle.rows.proofs.FunctionRows.row.Goals.{else-i-wide-via-then-i-wide+else-i-words, else-i-wide-via-else-i-wide}

pub returns-then-i-words : goal.returns-then-i-words
returns-then-i-words c =
    let a = c.args in
    function_in a.self.columns64.now a.self.columns32.now a.i c.if-i-wide.true c.if-i-words.true

pub returns : goal.returns
returns c =
    function_default c.default.ensures
    ∙ elim c.else-i-wide.branch [
      | else-i-wide-via-then-i-wide+else-i-words w ↦ function_out32 _ _ _ w.if-i-wide.true w.if-i-words.false
      | else-i-wide-via-else-i-wide w ↦ function_out64 _ _ _ w.if-i-wide.false
    ]
