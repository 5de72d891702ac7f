use Rattle.input_lines.specs.Input.{after_line}
use Rattle.input_lines.proofs.Input.after_line.Goals as goal

pub returns : goal.returns
unfolding after_line
returns c = rw c.start.ensures
