-- Rows stored one after the other: one law for each turn of a loop, over the row's size and its bytes; and the entries.
use Prim.Native.Nat.{ℕ, zero, suc, ◌+◌, ◌*◌, ◌/◌, ◌%◌}
use mathlib.Core.Path.{◌≡◌, refl, ap, sym, ◌∙◌}
use mathlib.Core.List.{List, [], ◌∷◌, ◌++◌, append_assoc, append-nil}
use native.Mathlib.Nat.{zero-add, add-zero, add-suc, suc-add, add-mul-mod_self_left}
use native.Mathlib.Numerals.{add-one}
use native.Mathlib.Omega.{arith}
use lib.ListN.{length}
use lib.Seq.{sets}
use Rattle.model.specs.Basics.{Span}
use Rattle.slices.specs.Bytes.{le, le_at, table_bytes}
use Rattle.raw.specs.Head.{padding}
use Rattle.raw.specs.Rows.{file_bytes_lem, function_bytes, location_bytes}
use Rattle.raw.specs.declared.File.{File}
use Rattle.raw.specs.declared.Function.{Function}
use Rattle.raw.specs.declared.SourceLocation.{SourceLocation}
use Rattle.slices.proofs.Bytes.{sets_join, length-table, length-words}
use Rattle.raw.proofs.Rows.{length-file, length-function, length-location, length_range, all, next, stored}
use Rattle.tables.specs.Table.{row_at, rows_of}
use Rattle.tables.specs.Kinds.{file_of_row, function_of_row, call_of_row, location_of_lem}
use Rattle.tables.specs.declared.Row.{Row}
use Rattle.table_laws.proofs.Rows.{rows_more, rows-length}
use Rattle.serialize.specs.Sections.{file_row, function_row, call_row, entries, entry_row, entries_at, location_row, start_row}

-- ── Sizes ──

pub length-file_row : (r : Row) → length (file_row r) ≡ 24
unfolding file_row
length-file_row r = length-file (file_of_row r)

pub length-function_row : (r : Row) → length (function_row r) ≡ 16
unfolding function_row
length-function_row r = length-function (function_of_row r)

pub length-call_row : (r : Row) → length (call_row r) ≡ 16
unfolding call_row
length-call_row r = length-location (call_of_row r)

-- a row made of a table's row is stored as that row's bytes
pub file-stored : (r : Row) (x : File) → x ≡ file_of_row r → file_bytes_lem x ≡ file_row r
unfolding file_row
file-stored r x e = ap file_bytes_lem e

pub function-stored : (r : Row) (x : Function) → x ≡ function_of_row r → function_bytes x ≡ function_row r
unfolding function_row
function-stored r x e = ap function_bytes e

pub call-stored : (r : Row) (x : SourceLocation) → x ≡ call_of_row r → location_bytes x ≡ call_row r
unfolding call_row
call-stored r x e = ap location_bytes e

pub length-entry-row : (p : Span) → length (entry_row p) ≡ 8
unfolding entry_row
length-entry-row p = length-words (p.from ∷ p.to ∷ [])

pub length-location_row : (t : List ℕ) (p : Span) → length (location_row t p) ≡ 16
unfolding location_row
length-location_row t p = length-location (location_of_lem (row_at t p.to))

pub length-start_row : (p : Span) → length (start_row p) ≡ 4
unfolding start_row
length-start_row p = length_range (record { 0 = p.from })

-- ── A table in the file ──

module _ {A : Type 0} (bytes : A → List ℕ) where
  pub table-append : (xs ys : List A) → table_bytes bytes (xs ++ ys) ≡ table_bytes bytes xs ++ table_bytes bytes ys
  unfolding table_bytes
  table-append [] ys = refl
  table-append (x ∷ xs) ys = rw (table-append xs ys) (sym (append_assoc (bytes x) (table_bytes bytes xs) (table_bytes bytes ys)))

  pub table_more : (xs : List A) (x : A) → table_bytes bytes (xs ++ (x ∷ [])) ≡ table_bytes bytes xs ++ bytes x
  unfolding table_bytes
  table_more xs x = table-append xs (x ∷ []) ∙ rw (append-nil (bytes x))

module _ {A : Type 0} (bytes : A → List ℕ) (size : ℕ) (long : (x : A) → length (bytes x) ≡ size) (s out : List ℕ) (at to : ℕ) where
  -- the rows xs stand from `at` on, and one more is stored behind them
  pub table-turn : (xs : List A) (x : A) → out ≡ sets s at (table_bytes bytes xs) → to ≡ at + size * length xs → sets out to (bytes x) ≡ sets s at (table_bytes bytes (xs ++ (x ∷ [])))
  table-turn xs x e h =
      rw (e, table_more bytes xs x)
      (sets_join (table_bytes bytes xs) (bytes x) s at to (rw (length-table bytes size long xs) h))

-- the same of the first rows of a lent table, where r is the next row and `new` what its turn leaves
pub rows-turn : (bytes : Row → List ℕ) (size : ℕ) → ((r : Row) → length (bytes r) ≡ size) → (s out new : List ℕ) (at to : ℕ) (t : List ℕ) (i : ℕ) (r : Row)
    → r ≡ row_at t i → to ≡ at + size * i → out ≡ sets s at (table_bytes bytes (rows_of t i)) → new ≡ sets out to (bytes r) → new ≡ sets s at (table_bytes bytes (rows_of t (i + 1)))
rows-turn bytes size long s out new at to t i r er h e f =
    rw (f, er, add-one i, rows_more t 0 i, zero-add i)
    (table-turn bytes size long s out at to (rows_of t i) (row_at t i) e (rw (rows-length t 0 i) h))

-- ── Entries ──

pub length-entries : (k : ℕ) (rs : List Row) → length (entries k rs) ≡ length rs
unfolding entries
length-entries k [] = refl
length-entries k (r ∷ rs) = ap suc (length-entries (suc k) rs)

entries-more : (k : ℕ) (rs : List Row) (r : Row) → entries k (rs ++ (r ∷ [])) ≡ entries k rs ++ (record { from = r.a; to = k + length rs } ∷ [])
unfolding entries
entries-more k [] r = rw (add-zero k)
entries-more k (x ∷ rs) r = ap (λ (l : List Span). record { from = x.a; to = k } ∷ l) (rw (add-suc k (length rs), ← suc-add k (length rs)) (entries-more (suc k) rs r))

pub entries-turn : (s out new : List ℕ) (at to : ℕ) (t : List ℕ) (i : ℕ) (r : Row)
    → r ≡ row_at t i → to ≡ at + 8 * i → out ≡ sets s at (table_bytes entry_row (entries 0 (rows_of t i))) → new ≡ sets out to (entry_row (record { from = r.a; to = i }))
    → new ≡ sets s at (table_bytes entry_row (entries 0 (rows_of t (i + 1))))
entries-turn s out new at to t i r er h e f =
    rw (f, er, add-one i, rows_more t 0 i, zero-add i, entries-more 0 (rows_of t i) (row_at t i), rows-length t 0 i, zero-add i)
    (table-turn entry_row 8 length-entry-row s out at to (entries 0 (rows_of t i)) (record { from = (row_at t i).a; to = i }) e (rw (length-entries 0 (rows_of t i), rows-length t 0 i) h))

-- an entry is stored as two numbers
pub entry-stored : (s s₁ s₂ : List ℕ) (at start row : ℕ) → s₁ ≡ sets s at (le 4 start) → s₂ ≡ sets s₁ (at + 4) (le 4 row) → s₂ ≡ sets s at (entry_row (record { from = start; to = row }))
unfolding entry_row
entry-stored s s₁ s₂ at start row e f =
    stored (next (at + 4) refl e (next (at + 4 + 4) refl f all))

pub length-entries-at : (n : ℕ) (s : List ℕ) (at : ℕ) → length (entries_at n s at) ≡ n
unfolding entries_at
length-entries-at zero s at = refl
length-entries-at (suc n) s at = ap suc (length-entries-at n s (at + 8))

abbrev pub entry_at : List ℕ → ℕ → Span
entry_at s at = record { from = le_at 4 s at; to = le_at 4 s (at + 4) }

pub entries-at-more : (n : ℕ) (s : List ℕ) (at : ℕ) → entries_at (suc n) s at ≡ entries_at n s at ++ (entry_at s (at + 8 * n) ∷ [])
unfolding entries_at
entries-at-more zero s at = rw (add-zero at)
entries-at-more (suc n) s at = let e : at + 8 * suc n ≡ at + 8 + 8 * n = omega arith in rw e (ap (λ (l : List Span). entry_at s at ∷ l) (entries-at-more n s (at + 8)))

-- ── Padding ──

pub padding_odd : (n : ℕ) → n % 2 ≡ 1 → padding (n * 4) ≡ le 4 0
unfolding padding le
padding_odd n h = let e : n * 4 ≡ 4 + 8 * (n / 2) = omega arith in rw (e, add-mul-mod_self_left 4 8 (n / 2))

pub padding_even : (n : ℕ) → n % 2 ≡ 0 → padding (n * 4) ≡ []
unfolding padding
padding_even n h = let e : n * 4 ≡ 0 + 8 * (n / 2) = omega arith in rw (e, add-mul-mod_self_left 0 8 (n / 2))
