-- The invariant: what was counted and what is still to be counted make the whole.
use mathlib.Core.Path.{◌≡◌}
use Prim.Native.Nat.{◌≤◌, ◌+◌, ◌-◌}
use Rattle.search.specs.Search.{start_at, count_in_lem}
use Rattle.search.proofs.Starts.count.Given as goal

abbrev pub invariant-loop-i : goal.invariant-loop-i
invariant-loop-i l =
    let f = start_at l.self.bytes.now l.self.at in
    (l.found ≤ l.i) × (l.found + count_in_lem f l.addr (l.from + l.i) (l.n - l.i) ≡ count_in_lem f l.addr l.from l.n)
