-- Digit by digit.
use Rattle.replay.proofs.sum_line.Goals as goal

pub returns : goal.returns
returns c = cc
