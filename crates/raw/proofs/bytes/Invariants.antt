-- The bytes so far are those from `at` on.
use Rattle.std.proofs.Common.{◌≡◌, length, take}
use Rattle.slices.specs.Bytes.{bytes_at}
use Rattle.raw.proofs.bytes.Given as goal

abbrev pub invariant-loop-i : goal.invariant-loop-i
invariant-loop-i g l = (length l.b-items ≡ l.i-end) × (take l.i l.b-items ≡ bytes_at l.i l.s l.at)
