use Rattle.input_lines.specs.Input.{line_at_lem}
use Rattle.input_lines.proofs.Input.end_at.Goals as goal

pub returns : goal.returns
unfolding line_at_lem
returns c = rw c.end_line-got.ensures
