-- The invariant: what is still to be tested decides.
use mathlib.Core.Path.{◌≡◌}
use Prim.Native.Nat.{◌-◌}
use Rattle.search.specs.Search.{start_at, ascending_from, ascending}
use Rattle.search.proofs.Starts.ascend.Given as goal

abbrev pub invariant-loop-i : goal.invariant-loop-i
invariant-loop-i l = let f = start_at l.self.bytes.now l.self.at in ascending_from f l.last l.i (l.self.n - l.i) ≡ ascending f l.self.n
