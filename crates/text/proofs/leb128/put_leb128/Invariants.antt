-- `put_leb128` meets its contract. The invariant: what is left, stored from i on, gives what v stored from at on gives. Assumes nothing.
use Prim.Native.Nat.{◌+◌, ◌≤◌}
use mathlib.Core.Path.{◌≡◌}
use lib.ListN.{length}
use lib.Seq.{sets}
use Rattle.text.specs.Leb128.{encoded}
use Rattle.text.proofs.leb128.put_leb128.Given as goal

abbrev pub invariant-loop-rest : goal.invariant-loop-rest
invariant-loop-rest l = (l.i + length (encoded l.rest) ≤ length l.out) × (length l.out ≡ length l.initial.out) × (sets l.out l.i (encoded l.rest) ≡ sets l.initial.out l.at (encoded l.v))

abbrev pub decreases-loop-rest : goal.decreases-loop-rest
decreases-loop-rest l = l.rest
