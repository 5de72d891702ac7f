-- The invariant: what is left of the search ends where all of it does.
use mathlib.Core.Path.{◌≡◌}
use Prim.Native.Nat.{◌≤◌, ◌+◌}
use Rattle.search.specs.Search.{start_at, search_in}
use Rattle.search.proofs.Starts.search.Given as goal

abbrev pub invariant-loop-size : goal.invariant-loop-size
invariant-loop-size l =
    let f = start_at l.self.bytes.now l.self.at in
    (1 ≤ l.size) × (l.size ≤ 1024) × (l.base + l.size ≤ l.self.n) × (search_in f l.addr l.size l.base l.size ≡ search_in f l.addr l.self.n 0 l.self.n)

abbrev pub decreases-loop-size : goal.decreases-loop-size
decreases-loop-size l = l.size
