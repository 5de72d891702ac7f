-- The checksum of what is still to come, from the checksum so far, is that of all.
use Rattle.std.proofs.Common.{◌≡◌, drop}
use Rattle.replay.specs.Sums.{sum_with_all}
use Rattle.replay.proofs.add_bytes.Given as goal

abbrev pub invariant-loop-b : goal.invariant-loop-b
invariant-loop-b l = sum_with_all l.now (drop l.b-index l.s) ≡ sum_with_all l.sum l.s
