-- CORNERS OF DEMAND 3 IN THREE CALLS, an instance over words: a tree whose line rows are one list, its root's one line with a file name of length 0, its compilation directory a byte that isn't UTF-8;
-- a tree in columns, its root with no lines; a write that answers 0. By computation alone (the contracts' own definitions, run by the checker): the numbers of the calls, what counts, and the premises.
-- By `demand3`: where the line covers, the frame's file has the empty name, a directory, and no compilation directory; in the root without lines there is one frame, with line number 0 and no file; above
-- MAX there is none. And of every line of any row: the file name that demand 3 asks for is the line's own, empty where that is empty (`file-asked`).
use Prim.Native.Nat.{ℕ}
use mathlib.Core.Path.{◌≡◌, refl, sym, ap, ◌∙◌, subst}
use mathlib.Core.Bool.{true, false}
use mathlib.Core.Option.{none, some}
use mathlib.Core.List.{List, [], ◌∷◌, ◌++◌, map}
use native.Mathlib.Omega.{arith}
use lib.ListN.{replicate, get_or}
use Rattle.text.specs.Leb128.{encoded_in, encoded}
use Rattle.text.specs.Utf8.{utf8, chars, char_len, Utf8Char, fits, within}
use Rattle.slices.specs.Bytes as bytes
use Rattle.raw.specs.Head.{padding}
use Rattle.raw.specs.Rows.{version_info_bytes, header_bytes, file_bytes_lem, function_bytes, location_bytes, range_bytes, is_no_source_location}
use Rattle.model.specs.Basics.{here, Covers, before, place, sort, intern}
use Rattle.model.specs.Rows.{Text, LineRow, FunctionRow, Given, tree_rows}
use Rattle.model.specs.Machine.{advance_m, set_at_m, kid_spans_m, unless_held, put_end, walk_m, loop_m, entry_m, closing_m, row_m, convert_m, start_m, convert_op_m, run_m}
use Rattle.model.specs.Converter.{Setup, line_texts, converted}
use Rattle.model.specs.Converter as model
use Rattle.model.specs.Frames.{known, known_six, callers, frames_of, better, best, frames_at}
use Rattle.model.specs.Premises.{reach, inlinees, line_at_lem, wanted, nested_at}
use Rattle.model.proofs.Worked.{plain-setup}
use Rattle.rows.specs.Columns.{Columns, function_in_columns, line_in_columns, part_of, line_at, lines_from, tree_row, tree_rows_from}
use Rattle.rows.specs.declared.OptionalPart.{OptionalPart}
use Rattle.rows.specs.declared.LineRow.{LineRow as LineStruct}
use Rattle.refusals.specs.Refusals.{each, total, lengths?, count?, depth?, shaped?, shallow_row?, shallow?, inside?, readable?, optional?, function_texts?, line_texts?, texts?, end?, ends?, room?, tree_refusal}
use Rattle.tables.specs.Table.{row_at, link_at, head_at, set_row, append_of, over_of, bucket_of, walk, key_of, same_row, hash_of, hit_at, newest_of, lookup_of, insert_at, insert_of, capacity_of}
use Rattle.tables.specs.Ranges.{get_of, replace_of, put_at, put_of}
use Rattle.strings.specs.Strings.{text_capacity_of, stored_text, text_size_lem, hash_from, text_hash, text_row, is_text, text_at_lem, newest_text, find_text, index_of, full_of, store_of, insert_text_at, insert_text_of}
use Rattle.tables.specs.Table as table
use Rattle.memory.specs.Memory.{Memory}
use Rattle.memory.specs.Record.{usable_in, fits_in_lem, begin_of}
use Rattle.steps.specs.Steps.{store, add_function, add_file_row, add_call, put_range, store_six, locate_six, begin_named}
use Rattle.memory.specs.declared.Converter.{Converter}
use Rattle.symbol_call.specs.Calls.{finished}
use Rattle.writer.specs.Calls.{tree_of}
use Rattle.line_rows.specs.Lines.{packed}
use Rattle.line_rows.specs.Numbers.{unpack_room?}
use Rattle.line_calls.specs.Calls.{lines_of}
use Rattle.serialize.specs.Sections.{file_row, function_row, call_row, entries, in_order, location_row, start_row}
use Rattle.serialize.specs.File.{Wrote, written_file, serialize_of}
use Rattle.read_back.specs.Shown.{Shown, name_or, with_empty_name, with_stand_in, Found}
use Rattle.demand3.specs.Lists.{Call, tree, lines_tree, write, Standing, next, run, by_value, beginning}
use Rattle.demand3.specs.Demand3.{Premises, asked, Reopened, file_written}
use Rattle.demand3.proofs.Claim.{demand3}
use Rattle.demand3.proofs.Tests.{every?, some?, numbers, number_in, typed?, typed, asc?, row_well?, last_at?, holds?, inlinee_well?, disjoint?, apart?, rows_well?, nested?, separate?, all-separate?, premises?, premises}

-- ── The list ──

abbrev absent : OptionalPart
absent = record { present = false; part = record { start = 0; len = 0 } }

-- in the directory at 1 of the text; the file's name has length 0
abbrev line_row : LineStruct
line_row = record {
  address = 0x1000;
  has_size = true;
  size = 4;
  number = 7;
  name = record { start = 0; len = 0 };
  directory = record { start = 1; len = 1 };
  srcsrv_name = absent;
  srcsrv_dir = absent;
  revision = absent;
}

-- the text is f, d, and a byte that isn't UTF-8. The root is named f, and that byte is its compilation directory. Lent is just what is needed: scratch for two rows, and memory to unpack one line row into
abbrev with-line : Call
with-line = lines_tree (0x1000 ∷ 4 ∷ []) (0 ∷ 0 ∷ 2 ∷ 0 ∷ 1 ∷ 2 ∷ 1 ∷ 1 ∷ []) (line_row ∷ []) (102 ∷ 100 ∷ 0xff ∷ []) (replicate 8 7) (replicate 3 7) (replicate 14 7)

-- a root named g, that begins where the first ends, with no lines
abbrev columns : Columns
columns = record { functions64 = 0x1004 ∷ 4 ∷ []; functions32 = 0 ∷ 0 ∷ 3 ∷ 0 ∷ 1 ∷ 0 ∷ 0 ∷ 0 ∷ []; lines64 = []; lines32 = []; text = 103 ∷ [] }

abbrev pub two_trees : List Call
two_trees = with-line ∷ tree columns (replicate 4 7) ∷ []

-- as long as the file
abbrev pub output : List ℕ
output = replicate 206 7

abbrev pub calls : List Call
calls = two_trees ++ (write output ∷ [])

-- just the room that is needed, with any content: three texts in six bytes, a file, two functions, no call location, three ranges
abbrev pub lent : Memory
lent = record { text = replicate 6 7; strings = replicate 24 7; files = replicate 8 7; functions = replicate 16 7; calls = []; ranges = replicate 24 7 }

abbrev id : List ℕ
id = replicate 32 9

abbrev start : Standing Converter
start = beginning id 5 false false lent

abbrev stands : Standing Converter
stands = run by_value two_trees start

abbrev written : Wrote
written = serialize_of stands.carrier stands.memory output

-- ── What is computed ──

abbrev pub line : LineRow
line = record { address = 0x1000; size = some 4; number = 7; name = []; directory = 100 ∷ []; srcsrv_name = none; srcsrv_dir = none; revision = none }

abbrev pub root : FunctionRow
root = record { depth = 0; address = 0x1000; size = 4; inline = false; language = 2; name = 102 ∷ []; comp_dir = 0xff ∷ []; lines = line ∷ [] }

abbrev bare-root : FunctionRow
bare-root = record { depth = 0; address = 0x1004; size = 4; inline = false; language = 3; name = 103 ∷ []; comp_dir = []; lines = [] }

abbrev pub given : List Given
given = tree_rows root [] ∷ tree_rows bare-root [] ∷ []

pub record Computed : Type 0 where
  pub words-typed : every? typed? calls ≡ true
  pub answers : numbers by_value calls start ≡ 0 ∷ 0 ∷ 0 ∷ []
  pub counted : stands.counted ≡ given
  pub met : premises? given ≡ true

pub computed : Computed
unfolding every? some? typed? numbers next run usable_in finished begin_of tree_of lines_of packed unpack_room? function_in_columns line_in_columns part_of line_at lines_from tree_row tree_rows_from each total lengths? count? depth? shaped? shallow_row? shallow? inside? readable? optional? function_texts? line_texts? texts? end? ends? room? tree_refusal utf8 chars char_len Utf8Char fits within before place sort advance_m set_at_m kid_spans_m unless_held put_end walk_m loop_m entry_m closing_m row_m convert_m start_m is_no_source_location row_at link_at head_at set_row append_of over_of bucket_of walk key_of same_row hash_of hit_at newest_of lookup_of insert_at insert_of capacity_of get_of replace_of put_at put_of text_capacity_of encoded_in encoded stored_text text_size_lem hash_from text_hash text_row is_text text_at_lem newest_text find_text index_of full_of store_of insert_text_at insert_text_of fits_in_lem store add_function add_file_row add_call put_range store_six locate_six begin_named serialize_of written_file version_info_bytes header_bytes bytes.word_bytes bytes.le bytes.table_bytes file_row file_bytes_lem function_row function_bytes call_row location_bytes location_row start_row range_bytes padding in_order entries table.rows_from inlinees asc? row_well? last_at? holds? inlinee_well? disjoint? apart? rows_well? nested? separate? all-separate? premises?
computed = record { words-typed = refl; answers = refl; counted = refl; met = refl }

-- ── What a file shows where these two trees count ──

abbrev frame : Shown
frame = record {
  name = 102 ∷ [];
  entry = 0x1000;
  language = 2;
  number = 7;
  file = some (record { name = []; directory = some (100 ∷ []); comp_dir = none; srcsrv_name = none; srcsrv_dir = none; revision = none });
}

abbrev bare-frame : Shown
bare-frame = record { name = 103 ∷ []; entry = 0x1004; language = 3; number = 0; file = none }

-- `P d x vs` says that vs is shown at x, with d for the stand-in
pub record Frames (P : List ℕ → ℕ → List Shown → Type 0) : Type 0 where
  pub at_1002 : (d : List ℕ) → P d 0x1002 (frame ∷ [])  -- the line of the first root covers it
  pub at_1006 : (d : List ℕ) → P d 0x1006 (bare-frame ∷ [])  -- in the root without lines: what the plain tables say
  pub above-max : (d : List ℕ) → P d 0x1_0000_0000 []

-- where the frames asked for are shown at 0x1002, and at every address what the plain tables say
pub frames-shown : (P : List ℕ → ℕ → List Shown → Type 0) → ((d : List ℕ) → P d 0x1002 (asked plain-setup d 0x1002 root []))
    → ((d : List ℕ) (x : ℕ) → P d x (map (with_stand_in d) (frames_at (converted plain-setup given) x))) → Frames P
unfolding nested_at line_at_lem before place sort intern advance_m set_at_m kid_spans_m unless_held put_end walk_m loop_m entry_m closing_m row_m convert_m start_m convert_op_m run_m model.intern_text model.intern_six model.range_at model.range_put model.begin_row model.locate_line model.enter_call callers frames_of better best frames_at utf8 chars char_len Utf8Char fits within
frames-shown P demanded every_address = record { at_1002 = demanded; at_1006 = λ d. every_address d 0x1006; above-max = λ d. every_address d 0x1_0000_0000 }

pub given-premises : Premises given
given-premises = premises given computed.met

pub covered : Covers (reach line) 0x1002
covered = (omega arith, omega arith)

-- ── What demand 3 gives ──

abbrev file : List ℕ
file = file_written written

zero-answered : written.code ≡ 0
zero-answered = sym (number_in by_value two_trees [] (write output) start) ∙ ap (λ (l : List ℕ). get_or l 2 0) computed.answers

pub reopened : Reopened id 5 plain-setup given file
reopened =
    subst (λ (gs : List Given). Reopened id 5 plain-setup gs file) computed.counted
    (demand3 id 5 false false lent calls refl (omega arith) (typed calls computed.words-typed) two_trees [] output refl zero-answered)

pub frames : Frames (Found file)
frames = frames-shown (Found file) (λ d. (reopened.demanded given-premises root [] here line here 0x1002 covered).frames d) reopened.every_address

-- ── Of every line ──

own_name : (t : Text) → name_or [] (known t) ≡ t
own_name [] = refl
own_name (b ∷ t) = refl

-- the file that is asked for, of a row and its line that covers the address
pub file-asked : (X : Setup) (q : FunctionRow) (n : LineRow) → let six = known_six (line_texts q n) in
    with_empty_name (wanted X q n).file
    ≡ some (record { name = n.name; directory = six.directory; comp_dir = six.comp_dir; srcsrv_name = six.srcsrv_name; srcsrv_dir = six.srcsrv_dir; revision = six.revision })
file-asked X q n =
    let six = known_six (line_texts q n) in
    ap (λ (t : Text). some (record { name = t; directory = six.directory; comp_dir = six.comp_dir; srcsrv_name = six.srcsrv_name; srcsrv_dir = six.srcsrv_dir; revision = six.revision })) (own_name n.name)
