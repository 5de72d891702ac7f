-- k entries are read, and their locations and starts stored.
use Rattle.std.proofs.Common.{◌≡◌}
use Rattle.serialize.proofs.Ranges.{turned}
use Rattle.serialize.proofs.write_ranges.Given as goal

abbrev pub invariant-loop-k : goal.invariant-loop-k
invariant-loop-k l = l.out ≡ turned l.ranges l.initial.out l.at l.count l.k
