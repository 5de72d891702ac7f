-- By the test of an empty line.
use Rattle.std.proofs.Common.{sym, ◌∙◌}
use Rattle.input_lines.specs.Input.{at_end}
use Rattle.input_lines.proofs.Input.end.Goals as goal

pub returns-then-is_empty : goal.returns-then-is_empty
unfolding at_end
returns-then-is_empty c = rw (sym c.is_empty.ensures ∙ c.if-is_empty.true)

pub returns : goal.returns
unfolding at_end
returns c = rw (sym c.is_empty.ensures ∙ c.if-is_empty.false) c.end_line.ensures
