-- What the rows of the converter's tables stand for: the fields of each kind as the words of a row, and back. Words that a kind has no field for are 0. The
-- order of the fields is that of the structs (raw.rs, `File`, `Function`, `SourceLocation`; document 01, "Rows"); a range has its start before its location's.
use Rattle.std.specs.Prelude.{ℕ}
use Rattle.raw.specs.declared.File.{File}
use Rattle.raw.specs.declared.Function.{Function}
use Rattle.raw.specs.declared.SourceLocation.{SourceLocation}
use Rattle.tables.specs.declared.Row.{Row}
use Rattle.tables.specs.declared.kinds.IndexedText.{IndexedText}

-- `files: IndexSet<raw::File>`
abbrev pub row_of_file : File → Row
row_of_file x = record {
  a = x.comp_dir_offset;
  b = x.directory_offset;
  c = x.name_offset;
  d = x.srcsrv_name_offset;
  e = x.srcsrv_dir_offset;
  f = x.srcsrv_revision_offset;
}

abbrev pub file_of_row : Row → File
file_of_row r = record {
  comp_dir_offset = r.a;
  directory_offset = r.b;
  name_offset = r.c;
  srcsrv_name_offset = r.d;
  srcsrv_dir_offset = r.e;
  srcsrv_revision_offset = r.f;
}

-- `functions: IndexSet<raw::Function>`
abbrev pub row_of_function : Function → Row
row_of_function x = record { a = x.name_offset; b = x.comp_dir_offset; c = x.entry_pc; d = x.lang; e = 0; f = 0 }

abbrev pub function_of_row : Row → Function
function_of_row r = record { name_offset = r.a; comp_dir_offset = r.b; entry_pc = r.c; lang = r.d }

-- `call_locations: IndexSet<raw::SourceLocation>`
abbrev pub row_of_call : SourceLocation → Row
row_of_call l = record { a = l.file_idx; b = l.line; c = l.function_idx; d = l.inlined_into_idx; e = 0; f = 0 }

abbrev pub call_of_row : Row → SourceLocation
call_of_row r = record { file_idx = r.a; line = r.b; function_idx = r.c; inlined_into_idx = r.d }

-- `ranges: BTreeMap<u32, raw::SourceLocation>`: a start with its location
abbrev pub range_row_lem : ℕ → SourceLocation → Row
range_row_lem s l = record { a = s; b = l.file_idx; c = l.line; d = l.function_idx; e = l.inlined_into_idx; f = 0 }

abbrev pub start_of : Row → ℕ
start_of r = r.a

abbrev pub location_of_lem : Row → SourceLocation
location_of_lem r = record { file_idx = r.b; line = r.c; function_idx = r.d; inlined_into_idx = r.e }

-- a start alone, to be looked for
abbrev pub start_row_lem : ℕ → Row
start_row_lem s = record { a = s; b = 0; c = 0; d = 0; e = 0; f = 0 }

-- the index of `StringTable`: where a text's length prefix begins, where its bytes begin, how many there are, and its hash
abbrev pub row_of_text : IndexedText → Row
row_of_text x = record { a = x.offset; b = x.start; c = x.len; d = x.hash; e = 0; f = 0 }

abbrev pub text_of_row : Row → IndexedText
text_of_row r = record { offset = r.a; start = r.b; len = r.c; hash = r.d }
