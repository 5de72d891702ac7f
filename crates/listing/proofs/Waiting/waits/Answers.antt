use Rattle.std.proofs.Common.{rules}
use Rattle.listing.specs.Pieces.{waits?}
use Rattle.listing.proofs.Waiting.waits.Goals as goal

pub returns-in-Nothing : goal.returns-in-Nothing
unfolding waits?
returns-in-Nothing c = search rules

pub returns-in-Bad : goal.returns-in-Bad
unfolding waits?
returns-in-Bad c = search rules

pub returns-in-Frames : goal.returns-in-Frames
unfolding waits?
returns-in-Frames c = search rules
