-- Its two words.
use Rattle.replay.proofs.number.Goals as goal

pub returns : goal.returns
returns c = cc
