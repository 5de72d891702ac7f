-- `is_utf8` meets its contract. The invariant: what is left is UTF-8 if and only if the whole is. The measure is the length of what is left.
use mathlib.Core.Path.{◌≡◌}
use lib.ListN.{length}
use Rattle.text.specs.Utf8.{utf8}
use Rattle.text.proofs.utf8.is_utf8.Given as goal

abbrev pub invariant-loop-rest : goal.invariant-loop-rest
invariant-loop-rest l = utf8 l.s ≡ utf8 l.rest

abbrev pub decreases-loop-rest : goal.decreases-loop-rest
decreases-loop-rest l = length l.rest
