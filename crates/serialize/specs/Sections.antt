-- The sections of the written file: rows of the lent tables as rows of the file, for any content of the tables. Document 01 "Rows" and "Writer"; writer.rs,
-- `serialize`.
use Rattle.std.specs.Prelude.{ℕ, zero, suc, ◌+◌, List, [], ◌∷◌, ◌++◌}
use Rattle.model.specs.Basics.{Span, sort}
use Rattle.slices.specs.Bytes.{le_at, word_bytes, table_bytes}
use Rattle.raw.specs.Rows.{file_bytes_lem, function_bytes, location_bytes, range_bytes}
use Rattle.tables.specs.Table.{row_at, rows_of}
use Rattle.tables.specs.Kinds.{file_of_row, function_of_row, call_of_row, start_of, location_of_lem}
use Rattle.tables.specs.declared.Row.{Row}

-- ── Sizes, in bytes ────────────────────────────────────────────────────────────────────────────────────────────────────

-- magic, version and header
abbrev pub head_size : ℕ
head_size = 80

-- "File 24 bytes, function 16, location 16, range 4"
abbrev pub file_size : ℕ
file_size = 24

abbrev pub function_size : ℕ
function_size = 16

abbrev pub location_size : ℕ
location_size = 16

abbrev pub range_size : ℕ
range_size = 4

-- an entry, while the ranges are sorted
abbrev pub entry_size : ℕ
entry_size = 8

-- ── Files, functions, call locations ───────────────────────────────────────────────────────────────────────────────────

-- the bytes of a table's row, as the row of the file that it stands for
unfoldable pub file_row : Row → List ℕ
file_row r = file_bytes_lem (file_of_row r)

unfoldable pub function_row : Row → List ℕ
function_row r = function_bytes (function_of_row r)

unfoldable pub call_row : Row → List ℕ
call_row r = location_bytes (call_of_row r)

-- ── The ranges, ascending ──────────────────────────────────────────────────────────────────────────────────────────────

-- an entry is a range's start and its row number: those of the rows, the first of which has the number k
unfoldable pub entries : ℕ → List Row → List Span
entries k [] = []
entries k (r ∷ rs) = record { from = start_of r; to = k } ∷ entries (suc k) rs

-- the ranges' entries by start, then by row number
unfoldable pub in_order : List ℕ → ℕ → List Span
in_order t n = sort (entries 0 (rows_of t n))

-- an entry's location, that of its row, and its start
unfoldable pub location_row : List ℕ → Span → List ℕ
location_row t p = location_bytes (location_of_lem (row_at t p.to))

unfoldable pub start_row : Span → List ℕ
start_row p = range_bytes (record { 0 = p.from })

-- the locations, then the starts
unfoldable pub range_sections : List ℕ → List Span → List ℕ
range_sections t ps = table_bytes (location_row t) ps ++ table_bytes start_row ps

-- ── What private functions' contracts cite ─────────────────────────────────────────────────────────────────────────────

-- an entry as eight bytes, while the entries are sorted; and n entries read from `at` on
unfoldable pub entry_row : Span → List ℕ
entry_row p = word_bytes (p.from ∷ p.to ∷ [])

unfoldable pub entries_at : ℕ → List ℕ → ℕ → List Span
entries_at zero s at = []
entries_at (suc n) s at = record { from = le_at 4 s at; to = le_at 4 s (at + 4) } ∷ entries_at n s (at + 8)
