-- `refusals::function_lengths` meets its contract: the three tests one after the other.
use Rattle.std.proofs.Common.{arith}
use Rattle.std.proofs.lemmas.Bool.Decides.{nat_tests}
use Rattle.refusals.specs.Refusals.{function_lengths?}
use Rattle.refusals.proofs.function_lengths.Goals as goal
use Rattle.refusals.proofs.function_lengths.Goals.{then-functions-eq0, else-functions-eq0}

pub returns-then-functions-eq0-2 : goal.returns-then-functions-eq0-2
unfolding function_lengths?
returns-then-functions-eq0-2 c = elim c.if-functions-eq0.branch [ then-functions-eq0 w ↦ grind (arith, nat_tests) | else-functions-eq0 w ↦ grind (arith, nat_tests) ]

pub returns-else-functions-eq0-2 : goal.returns-else-functions-eq0-2
unfolding function_lengths?
returns-else-functions-eq0-2 c = elim c.if-functions-eq0.branch [ then-functions-eq0 w ↦ grind (arith, nat_tests) | else-functions-eq0 w ↦ grind (arith, nat_tests) ]
