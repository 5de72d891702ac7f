-- "every row has size above 0" follows from the other premises wherever demand 3 speaks of a row: one with a line. The line covers an address and lies inside the row. So of an inlinee, which has a
-- line, and of a root with a line that covers an address.
use mathlib.Core.List.{List, [], ◌∷◌, map}
use Prim.Native.Nat.{ℕ, ◌+◌, ◌≤◌, ◌<◌}
use native.Mathlib.Omega.{arith}
use Rattle.model.specs.Basics.{◌∈◌, here, there, Asc}
use Rattle.model.specs.Rows.{LineRow, FunctionRow, line_size}
use Rattle.model.specs.Premises.{reach, reaches}

by_first : (a z : ℕ) (n : LineRow) (ls : List LineRow) → Asc a (map reach (n ∷ ls)) → n.address + line_size n ≤ a + z → 0 < z
by_first a z n ls s i = omega (arith, s.0, s.1, i)

some_first : (a z : ℕ) (ls : List LineRow) → Asc a (map reach ls) → ((n : LineRow) → n ∈ ls → n.address + line_size n ≤ a + z) → {n : LineRow} → n ∈ ls → 0 < z
some_first a z [] s i e = elim e [ ]
some_first a z (n ∷ ls) s i here = by_first a z n ls s (i n here)
some_first a z (m ∷ ls) s i (there e) = by_first a z m ls s (i m here)

pub size_follows : (q : FunctionRow) → Asc q.address (reaches q) → ((n : LineRow) → n ∈ q.lines → n.address + line_size n ≤ q.address + q.size) → {n : LineRow} → n ∈ q.lines → 0 < q.size
size_follows q s i e = some_first q.address q.size q.lines s i e
