-- `special` tests the three bytes.
use Rattle.std.proofs.Common.{arith, tests}
use Rattle.names.specs.Names.{special}
use Rattle.names.proofs.special.Goals as goal

pub returns-in-58 : goal.returns-in-58
unfolding special
returns-in-58 c = let h = c.in-58.is in grind (arith, tests)

pub returns-in_default : goal.returns-in_default
unfolding special
returns-in_default c = grind (arith, tests)
