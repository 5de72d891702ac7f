use Prim.Native.Nat.{◌≤◌}
use mathlib.Core.Path.{◌≡◌}
use Rattle.tables.specs.Table.{walk, link_at}
use Rattle.tables.proofs.follow.Given as goal

abbrev pub invariant-loop-at : goal.invariant-loop-at
invariant-loop-at g l = record {
  low : l.bound ≤ l.n;
  same : walk (link_at l.t) (g.P.Probe.hits l.probe l.t) l.n l.n l.l ≡ walk (link_at l.t) (g.P.Probe.hits l.probe l.t) l.n l.bound l.at;
}

abbrev pub decreases-loop-at : goal.decreases-loop-at
decreases-loop-at g l = l.bound
