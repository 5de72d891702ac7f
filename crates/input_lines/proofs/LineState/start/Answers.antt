use Rattle.std.proofs.Common.{refl}
use Rattle.input_lines.specs.Line.{line_start}
use Rattle.input_lines.proofs.LineState.start.Goals as goal

pub returns : goal.returns
unfolding line_start
returns c = refl
