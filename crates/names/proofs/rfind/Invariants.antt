-- The invariant of `rfind`: the places at i and above hold no pattern.
use Rattle.std.proofs.Common.{◌≡◌, length}
use Rattle.names.specs.Names.{rfind}
use Rattle.names.proofs.rfind.Given as goal

abbrev pub invariant-loop-i : goal.invariant-loop-i
invariant-loop-i l = rfind l.pat l.s l.i ≡ rfind l.pat l.s (length l.s)
