use native.Mathlib.Omega.{arith}
use Prim.Native.Nat.{◌+◌, ◌*◌}
use Rattle.raw.specs.Rows.{range_at_lem}
use Rattle.slices.proofs.Bytes.{le_at-four}
use Rattle.search.proofs.Starts.get.Goals as goal

pub returns : goal.returns
unfolding range_at_lem
returns c = let a = c.args in omega (arith, le_at-four a.self.bytes.now (a.self.at + 4 * a.i))
