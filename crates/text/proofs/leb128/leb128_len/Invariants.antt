-- `leb128_len` meets its contract. The invariant: the bytes counted and those of what is left make one more than those of v. Assumes nothing.
use Prim.Native.Nat.{◌+◌}
use mathlib.Core.Path.{◌≡◌}
use lib.ListN.{length}
use Rattle.text.specs.Leb128.{encoded}
use Rattle.text.proofs.leb128.leb128_len.Given as goal

abbrev pub invariant-loop-rest : goal.invariant-loop-rest
invariant-loop-rest l = l.n + length (encoded l.rest) ≡ 1 + length (encoded l.v)

abbrev pub decreases-loop-rest : goal.decreases-loop-rest
decreases-loop-rest l = l.rest
