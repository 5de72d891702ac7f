-- The written file, and what writing answers: document 01 "Writer" and "Who causes which number"; writer.rs, `serialize`. For any record and any content of the
-- tables.
use Rattle.std.specs.Prelude.{ℕ, ◌+◌, ◌*◌, ◌%◌, ◌<◌, ◌≤◌, cond, List, ◌++◌, Result, Ok, Err, leb, length, take, drop}
use Rattle.errors.specs.declared.Refusal.{Refusal}
use Rattle.model.specs.Basics.{Span}
use Rattle.slices.specs.Bytes.{table_bytes}
use Rattle.raw.specs.Rows.{version_info_bytes, header_bytes}
use Rattle.raw.specs.Head.{version_info, header, padding}
use Rattle.raw.specs.declared.Header.{Header}
use Rattle.tables.specs.Table.{rows_of}
use Rattle.memory.specs.Memory.{Memory}
use Rattle.memory.specs.Record.{usable?}
use Rattle.memory.specs.declared.State.{State}
use Rattle.memory.specs.declared.Converter.{Converter}
use Rattle.serialize.specs.Sections.{head_size, file_size, function_size, location_size, range_size}
use Rattle.serialize.specs.Sections.{file_row, function_row, call_row, in_order, location_row, start_row}
use Rattle.serialize.specs.declared.Layout.{Layout}

-- the ranges of the file, ascending
abbrev pub ranges_of : Converter → Memory → List Span
ranges_of c m = in_order m.ranges c.state.ranges

-- the header of a file with n ranges
abbrev pub header_of : Converter → ℕ → Header
header_of c n = header c.debug_id c.arch c.state.files c.state.functions (c.state.call_locations + n) n c.state.string_bytes

-- "bytes 53 59 4D 43, version 9, header, then files, functions, call locations followed by range locations, range starts, texts, each on a multiple of 8.
-- Nothing follows the texts." Only the range starts can end off a multiple of 8
unfoldable pub written_file : Converter → Memory → List ℕ
written_file c m =
    let ps = ranges_of c m in
    version_info_bytes version_info
    ++ (header_bytes (header_of c (length ps))
    ++ (table_bytes file_row (rows_of m.files c.state.files)
    ++ (table_bytes function_row (rows_of m.functions c.state.functions)
    ++ (table_bytes call_row (rows_of m.calls c.state.call_locations)
    ++ (table_bytes (location_row m.ranges) ps
    ++ (table_bytes start_row ps ++ (padding (length ps * range_size) ++ take c.state.string_bytes m.text)))))))

-- where the sections begin in a file with n ranges, and its length; the files follow the head, and four zeros an odd number of range starts
unfoldable pub layout_of : State → ℕ → Layout
layout_of st n =
    let functions = head_size + st.files * file_size in
    let calls = functions + st.functions * function_size in
    let locations = calls + st.call_locations * location_size in
    let padding = locations + n * location_size + n * range_size in
    let texts = padding + n % 2 * 4 in
    record { functions = functions; call_locations = calls; locations = locations; padding = padding; texts = texts; len = texts + st.string_bytes }

-- ── The call ───────────────────────────────────────────────────────────────────────────────────────────────────────────

-- the number, the file's length and the output
pub record Wrote : Type 0 where
  pub code : ℕ
  pub len : ℕ
  pub output : List ℕ

abbrev pub wrote : ℕ → ℕ → List ℕ → Wrote
wrote n l o = record { code = n; len = l; output = o }

-- the length that a call answers, 0 where it is refused
abbrev pub len_of : Result ℕ Refusal → ℕ
len_of (Ok n) = n
len_of (Err e) = 0

-- a file into an output: 0, its length, and its bytes ("Output beyond the written file keeps its content"); or 18 where the output is shorter. A refusal
-- answers length 0
abbrev pub write_answer : List ℕ → List ℕ → Wrote
write_answer file out = cond (leb (length file) (length out)) (wrote 0 (length file) (file ++ drop (length file) out)) (wrote 18 0 out)

-- "Writing: 19, 18"
unfoldable pub serialize_of : Converter → Memory → List ℕ → Wrote
serialize_of c m out = cond (usable? c m) (write_answer (written_file c m) out) (wrote 19 0 out)

-- ── What a private function's contract cites ───────────────────────────────────────────────────────────────────────────

-- what is known before the sections are written: the header's counts have 32 bits, and texts and output are long enough
pub record Ready (c : Converter) (texts out : ℕ) : Type 0 where
  pub calls : c.state.call_locations + c.state.ranges < 4294967296
  pub texts_there : c.state.string_bytes ≤ texts
  pub room : (layout_of c.state c.state.ranges).len ≤ out
