-- `refusals::inside` meets its contract.
use mathlib.Core.Path.{refl}
use Rattle.refusals.specs.Refusals.{inside?}
use Rattle.refusals.proofs.inside.Goals as goal

pub returns : goal.returns
unfolding inside?
returns c = refl
