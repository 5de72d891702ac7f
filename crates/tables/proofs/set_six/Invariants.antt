use mathlib.Core.Path.{◌≡◌}
use Prim.Native.Nat.{◌+◌}
use lib.Seq.{sets}
use Rattle.std.proofs.Common.{drop}
use Rattle.tables.proofs.set_six.Given as goal

abbrev pub invariant-loop-i : goal.invariant-loop-i
invariant-loop-i l = sets l.t (l.k0 + l.i) (drop l.i l.words) ≡ sets l.initial.t l.k0 l.words
