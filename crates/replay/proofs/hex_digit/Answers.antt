-- By the size of the digit.
use Rattle.std.proofs.Common.{arith, ◌∙◌}
use Rattle.replay.proofs.Laws.{low_digit, high_digit}
use Rattle.replay.proofs.hex_digit.Goals as goal

pub returns-then-d-lt10 : goal.returns-then-d-lt10
returns-then-d-lt10 c = low_digit _ (omega arith)

pub returns-else-d-lt10 : goal.returns-else-d-lt10
returns-else-d-lt10 c = omega arith ∙ high_digit _ (omega arith)
