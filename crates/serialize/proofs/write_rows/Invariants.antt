-- The first i rows of the table are stored.
use Rattle.std.proofs.Common.{◌≡◌, ℕ, List, length}
use Rattle.std.proofs.lemmas.List.Edits.{sets}
use Rattle.slices.specs.Bytes.{table_bytes}
use Rattle.tables.specs.Table.{rows_of}
use Rattle.tables.specs.declared.Row.{Row}
use Rattle.serialize.proofs.write_rows.Given as goal

abbrev pub invariant-loop-i : goal.invariant-loop-i
invariant-loop-i g l =
    (bytes : Row → List ℕ) → ((r : Row) (x : g.row.T.Denot) → goal.F-post g l.of r x → g.T.Stored.bytes x ≡ bytes r) → ((r : Row) → length (bytes r) ≡ g.T.Stored.SIZE)
    → l.out ≡ sets l.initial.out l.at (table_bytes bytes (rows_of l.table l.i))
