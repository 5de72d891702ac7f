use Rattle.input_lines.specs.Input.{fed}
use Rattle.input_lines.proofs.Input.feed.Goals as goal

pub returns : goal.returns
unfolding fed
returns c = rw c.feed.ensures
