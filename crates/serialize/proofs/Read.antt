-- What the rows of a written file read as, each at its place: the rows of the tables, wherever the file's sections stand.
use Prim.Native.Nat.{ℕ, ◌+◌, ◌*◌, ◌<◌, ◌^◌}
use mathlib.Core.Path.{◌≡◌, refl, ◌∙◌}
use mathlib.Core.List.{List}
use native.Mathlib.Nat.{zero-add}
use native.Mathlib.Omega.{arith}
use lib.ListN.{length, get_or}
use Rattle.model.specs.Basics.{Span}
use Rattle.slices.specs.Bytes.{Words32, Stands, table_bytes}
use Rattle.raw.specs.Rows.{version_info_at, header_at, HeaderFits, file_at_lem, function_at_lem, location_words_lem, location_at, range_at_lem}
use Rattle.raw.specs.Head.{version_info}
use Rattle.slices.proofs.Bytes.{row-stands}
use Rattle.raw.proofs.Rows.{version_info-back, header-back, file-back, function-back, location-back, range_back}
use Rattle.tables.specs.Table.{row_at, rows_of}
use Rattle.tables.specs.Kinds.{file_of_row, function_of_row, call_of_row, location_of_lem}
use Rattle.tables.specs.declared.Row.{Row}
use Rattle.table_laws.proofs.Rows.{rows-length, rows_get_d}
use Rattle.memory.specs.Memory.{Memory}
use Rattle.memory.specs.declared.Converter.{Converter}
use Rattle.serialize.specs.Sections.{file_row, function_row, call_row, location_row, start_row}
use Rattle.serialize.specs.File.{ranges_of, header_of}
use Rattle.serialize.specs.declared.Layout.{Layout}
use Rattle.serialize.proofs.Rows.{length-file_row, length-function_row, length-call_row, length-location_row, length-start_row}
use Rattle.serialize.proofs.Whole.{Standing}

-- what owning a slice of 32-bit words says of it
abbrev pub Slice32 : List ℕ → Type 0
Slice32 t = (j : ℕ) → get_or t j 0 < 2 ^ 32

no_row : Row
no_row = record { a = 0; b = 0; c = 0; d = 0; e = 0; f = 0 }

abbrev pub no_entry : Span
no_entry = record { from = 0; to = 0 }

-- row i of a section of rows
row-there : (bytes : Row → List ℕ) (size : ℕ) → ((r : Row) → length (bytes r) ≡ size) → (t : List ℕ) (n : ℕ) (s : List ℕ) (at i : ℕ) → i < n → Stands (table_bytes bytes (rows_of t n)) s at
    → Stands (bytes (row_at t i)) s (at + size * i)
row-there bytes size long t n s at i h g =
    let e : get_or (rows_of t n) i no_row ≡ row_at t i = rows_get_d t 0 n i no_row h ∙ rw (zero-add i) in
    rw e at (row-stands bytes size long (rows_of t n) no_row s at i (at + size * i) (rw (rows-length t 0 n) h) refl g)

-- the words of a range's location
location_words : (t : List ℕ) → Slice32 t → (i : ℕ) → Words32 (location_words_lem (location_of_lem (row_at t i)))
unfolding row_at
location_words t w i = (w (i * 7 + 1), (w (i * 7 + 1 + 1), (w (i * 7 + 1 + 1 + 1), (w (i * 7 + 1 + 1 + 1 + 1), tt))))

module _ (c : Converter) (m : Memory) (at : Layout) (s : List ℕ) (h : Standing c m at s) where
  pub version-read : version_info_at s 0 ≡ version_info
  version-read = version_info-back version_info s 0 (omega arith, (omega arith, tt)) h.version

  pub header_read : HeaderFits (header_of c (length (ranges_of c m))) → header_at s 8 ≡ header_of c (length (ranges_of c m))
  header_read f = header-back (header_of c (length (ranges_of c m))) s 8 f h.header

  pub file-read : Slice32 m.files → (i : ℕ) → i < c.state.files → file_at_lem s (80 + 24 * i) ≡ file_of_row (row_at m.files i)
  unfolding file_row row_at
  file-read w i l =
      file-back (file_of_row (row_at m.files i)) s (80 + 24 * i) (w (i * 7), (w (i * 7 + 1), (w (i * 7 + 1 + 1), (w (i * 7 + 1 + 1 + 1), (w (i * 7 + 1 + 1 + 1 + 1), (w (i * 7 + 1 + 1 + 1 + 1 + 1), tt))))))
      (row-there file_row 24 length-file_row m.files c.state.files s 80 i l h.files)

  pub function-read : Slice32 m.functions → (i : ℕ) → i < c.state.functions → function_at_lem s (at.functions + 16 * i) ≡ function_of_row (row_at m.functions i)
  unfolding function_row row_at
  function-read w i l =
      function-back (function_of_row (row_at m.functions i)) s (at.functions + 16 * i) (w (i * 7), (w (i * 7 + 1), (w (i * 7 + 1 + 1), (w (i * 7 + 1 + 1 + 1), tt))))
      (row-there function_row 16 length-function_row m.functions c.state.functions s at.functions i l h.functions)

  pub call-read : Slice32 m.calls → (i : ℕ) → i < c.state.call_locations → location_at s (at.call_locations + 16 * i) ≡ call_of_row (row_at m.calls i)
  unfolding call_row row_at
  call-read w i l =
      location-back (call_of_row (row_at m.calls i)) s (at.call_locations + 16 * i) (w (i * 7), (w (i * 7 + 1), (w (i * 7 + 1 + 1), (w (i * 7 + 1 + 1 + 1), tt))))
      (row-there call_row 16 length-call_row m.calls c.state.call_locations s at.call_locations i l h.calls)

  -- range i: the location and the start of entry i, in order
  pub location-read : Slice32 m.ranges → (i : ℕ) → i < length (ranges_of c m)
      → location_at s (at.locations + 16 * i) ≡ location_of_lem (row_at m.ranges (get_or (ranges_of c m) i no_entry).to)
  unfolding location_row
  location-read w i l =
      location-back (location_of_lem (row_at m.ranges (get_or (ranges_of c m) i no_entry).to)) s (at.locations + 16 * i) (location_words m.ranges w (get_or (ranges_of c m) i no_entry).to)
      (row-stands (location_row m.ranges) 16 (length-location_row m.ranges) (ranges_of c m) no_entry s at.locations i (at.locations + 16 * i) l refl h.locations)

  pub start-read : (i : ℕ) → i < length (ranges_of c m) → (get_or (ranges_of c m) i no_entry).from < 2 ^ 32
      → range_at_lem s (at.locations + length (ranges_of c m) * 16 + 4 * i) ≡ record { 0 = (get_or (ranges_of c m) i no_entry).from }
  unfolding start_row
  start-read i l w =
      range_back (record { 0 = (get_or (ranges_of c m) i no_entry).from }) s (at.locations + length (ranges_of c m) * 16 + 4 * i) (w, tt)
      (row-stands start_row 4 length-start_row (ranges_of c m) no_entry s (at.locations + length (ranges_of c m) * 16) i (at.locations + length (ranges_of c m) * 16 + 4 * i) l refl h.starts)
