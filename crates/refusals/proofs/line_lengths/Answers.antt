-- `refusals::line_lengths` meets its contract: the three tests one after the other.
use Rattle.std.proofs.Common.{arith}
use Rattle.std.proofs.lemmas.Bool.Decides.{nat_tests}
use Rattle.refusals.specs.Refusals.{line_lengths?}
use Rattle.refusals.proofs.line_lengths.Goals as goal
use Rattle.refusals.proofs.line_lengths.Goals.{then-lines-eq0, else-lines-eq0}

pub returns-then-lines-eq0-2 : goal.returns-then-lines-eq0-2
unfolding line_lengths?
returns-then-lines-eq0-2 c = elim c.if-lines-eq0.branch [ then-lines-eq0 w ↦ grind (arith, nat_tests) | else-lines-eq0 w ↦ grind (arith, nat_tests) ]

pub returns-else-lines-eq0-2 : goal.returns-else-lines-eq0-2
unfolding line_lengths?
returns-else-lines-eq0-2 c = elim c.if-lines-eq0.branch [ then-lines-eq0 w ↦ grind (arith, nat_tests) | else-lines-eq0 w ↦ grind (arith, nat_tests) ]
