-- THE CONVERTER OVER WORDS: what each of its steps does to the lent tables, for any content. It is a `Machine` of the crate model,
-- so its loops are those of the plain converter; and it is what the contracts cite. A reference that is absent is MAX, as in the file.
use Rattle.std.specs.Prelude.{Bool, true, false, cond, List, ℕ}
use Rattle.std.proofs.Math.Option.{Option, none, some}
use Rattle.model.specs.Rows.{MAX, cut32, Text, LineRow, FunctionRow, SymbolRow}
use Rattle.model.specs.Machine.{Machine}
use Rattle.model.specs.Converter.{Setup, Six, function_name, symbol_name, line_texts, entry_of}
use Rattle.raw.specs.Rows.{no_source_location, is_no_source_location}
use Rattle.rows.specs.Columns.{text_of}
use Rattle.rows.specs.declared.TextPart.{TextPart}
use Rattle.rows.specs.declared.OptionalPart.{OptionalPart}
use Rattle.rows.specs.declared.LineRow.{LineRow as LineStruct}
use Rattle.raw.specs.declared.SourceLocation.{SourceLocation}
use Rattle.tables.specs.Table.{insert_of}
use Rattle.tables.specs.Ranges.{range_row_lem, get_of, put_of}
use Rattle.strings.specs.Strings.{insert_text_of}
use Rattle.tables.specs.Kinds.{row_of_file, row_of_function, row_of_call}
use Rattle.tables.specs.declared.Row.{Row}
use Rattle.std.specs.Prelude.{Option as Found, Some, None}
use Rattle.memory.specs.Memory.{Words}
use Rattle.memory.specs.Record.{texts_become, files_become, functions_become, calls_become, ranges_become}

-- ── The steps ──────────────────────────────────────────────────────────────────────────────────────────────────────────

-- what a step answers, and what it leaves
abbrev pub gave : {A : Type 0} → A → Words → A × Words
gave a s = (a, s)

-- `string_table.insert`: a text, and its offset
unfoldable pub store : Text → Words → ℕ × Words
store t s =
    let r = insert_text_of s.mm.text s.mm.strings s.st.string_bytes s.st.strings t in
    gave r.got.offset (texts_become s r.got.bytes r.got.count r.text r.strings)

-- `functions.insert_full`: name, no compilation directory (as in the Rust, u32::MAX), entry, language
abbrev pub function_row_lem : ℕ → ℕ → ℕ → Row
function_row_lem name entry lang = row_of_function (record { name_offset = name; comp_dir_offset = MAX; entry_pc = entry; lang = lang })

unfoldable pub add_function : ℕ → ℕ → ℕ → Words → ℕ × Words
add_function name entry lang s =
    let r = insert_of 6 s.mm.functions s.st.functions (function_row_lem name entry lang) in
    gave r.got.index (functions_become s r.got.count r.table)

-- `files.insert_full`: "in struct order, not the order of the writer's literal"
abbrev pub file_row_lem : Six ℕ → Row
file_row_lem x = row_of_file (record {
  comp_dir_offset = x.comp_dir;
  directory_offset = x.directory;
  name_offset = x.name;
  srcsrv_name_offset = x.srcsrv_name;
  srcsrv_dir_offset = x.srcsrv_dir;
  srcsrv_revision_offset = x.revision;
})

unfoldable pub add_file_row : Row → Words → ℕ × Words
add_file_row row s =
    let r = insert_of 6 s.mm.files s.st.files row in
    gave r.got.index (files_become s r.got.count r.table)

-- `call_locations.insert_full`
abbrev pub location_row_lem : SourceLocation → Row
location_row_lem l = row_of_call l

unfoldable pub add_call : SourceLocation → Words → ℕ × Words
add_call l s =
    let r = insert_of 6 s.mm.calls s.st.call_locations (location_row_lem l) in
    gave r.got.index (calls_become s r.got.count r.table)

-- `ranges.insert`, `ranges.get`
unfoldable pub put_range : ℕ → SourceLocation → Words → Words
put_range k l s =
    let r = put_of s.mm.ranges s.st.ranges (range_row_lem k l) in
    ranges_become s r.got.count r.table

abbrev pub held : Found SourceLocation → Option SourceLocation
held None = none
held (Some l) = some l

abbrev pub get_range : Words → ℕ → Option SourceLocation
get_range s k = held (get_of s.mm.ranges s.st.ranges k)

-- "Texts are stored name, directory, compilation directory, srcsrv name, srcsrv directory, revision"
unfoldable pub store_six : Six Text → Words → Six ℕ × Words
store_six x s =
    let a = store x.name s in
    let b = store x.directory a.1 in
    let c = store x.comp_dir b.1 in
    let d = store x.srcsrv_name c.1 in
    let e = store x.srcsrv_dir d.1 in
    let f = store x.revision e.1 in
    gave (record { name = a.0; directory = b.0; comp_dir = c.0; srcsrv_name = d.0; srcsrv_dir = e.0; revision = f.0 }) f.1

abbrev pub location : ℕ → ℕ → ℕ → ℕ → SourceLocation
location file line function into = record { file_idx = file; line = line; function_idx = function; inlined_into_idx = into }

-- the same, with the offsets as the words of a file row
abbrev pub store_row : Six Text → Words → Row × Words
store_row x s = let t = store_six x s in gave (file_row_lem t.0) t.1

-- a line's texts, its file and its location; "Function end is cut to 32 bits. Line numbers too"
unfoldable pub locate_six : Six Text → ℕ → ℕ → ℕ → Words → SourceLocation × Words
locate_six x number function into s =
    let t = store_six x s in
    let f = add_file_row (file_row_lem t.0) t.1 in
    gave (location f.0 (cut32 number) function into) f.1

-- the texts of a line row, parts of the lent text; an absent text and an empty one are one value before anything is stored
abbrev pub no_part : TextPart
no_part = record { start = 0; len = 0 }

abbrev pub or_no_part : OptionalPart → TextPart
or_no_part o = cond o.present o.part no_part

unfoldable pub six_of : List ℕ → TextPart → LineStruct → Six Text
six_of t dir l = record {
  name = text_of t l.name;
  directory = text_of t l.directory;
  comp_dir = text_of t dir;
  srcsrv_name = text_of t (or_no_part l.srcsrv_name);
  srcsrv_dir = text_of t (or_no_part l.srcsrv_dir);
  revision = text_of t (or_no_part l.revision);
}

-- a function's name, as it is stored, and the function
unfoldable pub begin_named : Text → ℕ → ℕ → Words → ℕ × Words
begin_named name entry lang s = let t = store name s in add_function t.0 entry lang t.1

-- what a start holds: nothing
abbrev pub vacant : Found SourceLocation → Bool
vacant None = true
vacant (Some l) = false

-- nothing, or the empty mapping
abbrev pub free : Found SourceLocation → Bool
free None = true
free (Some l) = is_no_source_location l

-- ── The machine ────────────────────────────────────────────────────────────────────────────────────────────────────────

-- a line's location has a file; a function with no line, and a symbol, have none, and line 0
module _ (X : Setup) where
  abbrev pub over_words : Machine FunctionRow LineRow SymbolRow ℕ ℕ SourceLocation ℕ Words
  over_words = record {
    get = get_range;
    put = put_range;
    begin = λ q s. begin_named (function_name X q) (entry_of q) q.language s;
    locate = λ q r n c s. locate_six (line_texts q n) n.number r c s;
    enter = add_call;
    bare = λ q r. location MAX 0 r MAX;
    none_loc = no_source_location;
    is_none = is_no_source_location;
    base = MAX;
    sym_begin = λ y s. store (symbol_name X y) s;
    sym_locate = λ y p s. let f = add_function p y.address MAX s in gave (location MAX 0 f.0 MAX) f.1;
  }
