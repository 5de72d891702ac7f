use Rattle.input_lines.specs.Input.{input_start}
use Rattle.input_lines.proofs.Input.start.Goals as goal

pub returns : goal.returns
unfolding input_start
returns c = rw c.start.ensures
