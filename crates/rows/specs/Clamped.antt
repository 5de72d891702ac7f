-- K5, "Counting clamped lines": which line rows are counted, and how many there are, over the rows of the model.
use Rattle.std.specs.Prelude.{Bool, cond, ◌||◌, List, [], ◌∷◌, ℕ, ◌+◌, ◌/◌, length, ltb}
use Rattle.model.specs.Rows.{MAX, LineRow, FunctionRow, line_size, boundaries}
use Rattle.rows.specs.Columns.{columns, lines_from, line_in_columns, boundaries_of}

-- "whether either was cut back: the address was above MAX, or start plus size (1 where absent) was"
abbrev pub clamped? : LineRow → Bool
clamped? n = ltb MAX n.address || ltb MAX ((boundaries n).from + line_size n)

-- how many of these line rows were
unfoldable pub clamped_lines_in : List LineRow → ℕ
clamped_lines_in [] = 0
clamped_lines_in (n ∷ ns) = cond (clamped? n) 1 0 + clamped_lines_in ns

-- "each row once, in skipped functions as well": of all function rows of a tree
unfoldable pub clamped_rows : List FunctionRow → ℕ
clamped_rows [] = 0
clamped_rows (q ∷ qs) = clamped_lines_in q.lines + clamped_rows qs

-- ── In columns ──

-- whether line row j was cut back
unfoldable pub cut_at : List ℕ → List ℕ → ℕ → Bool
cut_at l64 l32 j = let l = line_in_columns l64 l32 j in (boundaries_of l.address l.has_size l.size).cut

-- how many of the line rows were; their texts do not matter
unfoldable pub clamped_columns_lem : List ℕ → List ℕ → ℕ
clamped_columns_lem l64 l32 = clamped_lines_in (lines_from (columns [] [] l64 l32 []) 0 (length l64 / 3))
