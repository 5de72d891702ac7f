-- `zero` meets its contract: before word i all is zero.
use Rattle.std.proofs.Common.{◌≡◌, take, replicate}
use Rattle.slices.proofs.zero.Given as goal

abbrev pub invariant-loop-x : goal.invariant-loop-x
invariant-loop-x g l = take l.x-index l.t ≡ replicate l.x-index g.T.Number.ZERO
