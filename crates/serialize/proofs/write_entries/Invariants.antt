-- The entries of the first i rows are stored.
use Rattle.std.proofs.Common.{◌≡◌}
use Rattle.std.proofs.lemmas.List.Edits.{sets}
use Rattle.slices.specs.Bytes.{table_bytes}
use Rattle.tables.specs.Table.{rows_of}
use Rattle.serialize.specs.Sections.{entries, entry_row}
use Rattle.serialize.proofs.write_entries.Given as goal

abbrev pub invariant-loop-i : goal.invariant-loop-i
invariant-loop-i l = l.out ≡ sets l.initial.out l.at (table_bytes entry_row (entries 0 (rows_of l.ranges l.i)))
