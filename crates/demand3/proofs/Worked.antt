-- THE WORKED FILE'S CALLS ARE AN INSTANCE of demand 3, over words: a beginning, one tree, one write. By computation alone (the contracts' own definitions, run by the checker): the numbers of the two
-- calls, what counts, the 305 bytes that are written, and the premises. By `demand3`: the two frames that these bytes show at 0x1003, and none at 0x1010 and 0x0FFF.
use Prim.Native.Nat.{ℕ}
use mathlib.Core.Path.{◌≡◌, refl, ap, subst}
use mathlib.Core.Bool.{true, false}
use mathlib.Core.Option.{none, some}
use mathlib.Core.List.{List, [], ◌∷◌, ◌++◌, map}
use native.Mathlib.Omega.{arith}
use lib.ListN.{replicate, get_or}
use Rattle.text.specs.Leb128.{encoded_in, encoded}
use Rattle.text.specs.Utf8.{utf8, chars, char_len, Utf8Char, fits, within}
use Rattle.slices.specs.Bytes as bytes
use Rattle.raw.specs.Head.{padding}
use Rattle.raw.specs.Rows.{version_info_bytes, header_bytes, file_bytes_lem, function_bytes, location_bytes, range_bytes, is_no_source_location}
use Rattle.model.specs.Basics.{here, before, place, sort}
use Rattle.model.specs.Rows.{MAX, Text, Given}
use Rattle.model.specs.Machine.{advance_m, set_at_m, kid_spans_m, unless_held, put_end, walk_m, loop_m, entry_m, closing_m, row_m, convert_m, start_m}
use Rattle.model.specs.Frames.{Frame}
use Rattle.model.specs.Premises.{inlinees, line_at_lem, nested_at}
use Rattle.model.proofs.Worked.{plain-setup, trk, pos, ars, prs, src, b, line, root-row, inlinee-row, worked, worked-file}
use Rattle.rows.specs.Columns.{function_in_columns, line_in_columns, part_of, line_at, lines_from, tree_row, tree_rows_from}
use Rattle.refusals.specs.Refusals.{each, total, lengths?, count?, depth?, shaped?, shallow_row?, shallow?, inside?, readable?, optional?, function_texts?, line_texts?, texts?, end?, ends?, room?, tree_refusal}
use Rattle.refusals.proofs.Examples.{worked-columns}
use Rattle.tables.specs.Table.{row_at, link_at, head_at, set_row, append_of, over_of, bucket_of, walk, key_of, same_row, hash_of, hit_at, newest_of, lookup_of, insert_at, insert_of, capacity_of}
use Rattle.tables.specs.Ranges.{get_of, replace_of, put_at, put_of}
use Rattle.strings.specs.Strings.{text_capacity_of, stored_text, text_size_lem, hash_from, text_hash, text_row, is_text, text_at_lem, newest_text, find_text, index_of, full_of, store_of, insert_text_at, insert_text_of}
use Rattle.tables.specs.Table as table
use Rattle.memory.specs.Memory.{Memory}
use Rattle.memory.specs.Record.{usable_in, fits_in_lem, begin_of}
use Rattle.steps.specs.Steps.{store, add_function, add_file_row, add_call, put_range, store_six, locate_six, begin_named}
use Rattle.memory.specs.declared.Converter.{Converter}
use Rattle.symbol_call.specs.Calls.{finished}
use Rattle.writer.specs.Calls.{tree_of}
use Rattle.serialize.specs.Sections.{file_row, function_row, call_row, entries, in_order, location_row, start_row}
use Rattle.serialize.specs.File.{Wrote, wrote, written_file, serialize_of}
use Rattle.read_back.proofs.WorkedBytes as original
use Rattle.read_back.specs.Shown.{Shown, with_stand_in, Found}
use Rattle.demand3.specs.Lists.{Call, tree, write, Standing, next, run, by_value, beginning}
use Rattle.demand3.specs.Demand3.{Premises, Reopened, file_written}
use Rattle.demand3.proofs.Claim.{demand3}
use Rattle.demand3.proofs.Tests.{every?, some?, numbers, typed?, typed, asc?, row_well?, last_at?, holds?, inlinee_well?, disjoint?, apart?, rows_well?, nested?, separate?, all-separate?, premises?, premises}

-- ── The list ──

-- the tree's rows are in rows/proofs/Examples. The lent tables have just the room that is needed, and any content: sevens
abbrev lent : Memory
lent = record { text = replicate 25 7; strings = replicate 48 7; files = replicate 16 7; functions = replicate 16 7; calls = replicate 8 7; ranges = replicate 40 7 }

abbrev start : Standing Converter
start = beginning (replicate 32 0) 0 false false lent

abbrev one-tree : List Call
one-tree = tree worked-columns (replicate 20 7) ∷ []

-- the output is a byte longer than the file
abbrev output : List ℕ
output = replicate 306 7

abbrev calls : List Call
calls = one-tree ++ (write output ∷ [])

abbrev stands : Standing Converter
stands = run by_value one-tree start

abbrev written : Wrote
written = serialize_of stands.carrier stands.memory output

-- ── What is computed ──

pub record Computed : Type 0 where
  pub words-typed : every? typed? calls ≡ true
  pub answers : numbers by_value calls start ≡ 0 ∷ 0 ∷ []
  pub counted : stands.counted ≡ worked
  pub file : written ≡ wrote 0 305 (original.worked ++ (7 ∷ []))  -- the original's 305 bytes, and the last byte as it was
  pub met : premises? worked ≡ true

pub computed : Computed
unfolding every? some? typed? numbers next run usable_in finished begin_of tree_of function_in_columns line_in_columns part_of line_at lines_from tree_row tree_rows_from each total lengths? count? depth? shaped? shallow_row? shallow? inside? readable? optional? function_texts? line_texts? texts? end? ends? room? tree_refusal utf8 chars char_len Utf8Char fits within before place sort advance_m set_at_m kid_spans_m unless_held put_end walk_m loop_m entry_m closing_m row_m convert_m start_m is_no_source_location row_at link_at head_at set_row append_of over_of bucket_of walk key_of same_row hash_of hit_at newest_of lookup_of insert_at insert_of capacity_of get_of replace_of put_at put_of text_capacity_of encoded_in encoded stored_text text_size_lem hash_from text_hash text_row is_text text_at_lem newest_text find_text index_of full_of store_of insert_text_at insert_text_of fits_in_lem store add_function add_file_row add_call put_range store_six locate_six begin_named serialize_of written_file version_info_bytes header_bytes bytes.word_bytes bytes.le bytes.table_bytes file_row file_bytes_lem function_row function_bytes call_row location_bytes location_row start_row range_bytes padding in_order entries table.rows_from original.worked inlinees asc? row_well? last_at? holds? inlinee_well? disjoint? apart? rows_well? nested? separate? all-separate? premises?
computed = record { words-typed = refl; answers = refl; counted = refl; file = refl; met = refl }

-- ── What demand 3 gives ──

-- the file, reopened
pub reopened : Reopened (replicate 32 0) 0 plain-setup worked original.worked
unfolding original.worked
reopened =
    subst (λ (f : List ℕ). Reopened (replicate 32 0) 0 plain-setup worked f) (ap file_written computed.file)
    (subst (λ (gs : List Given). Reopened (replicate 32 0) 0 plain-setup gs (file_written written)) computed.counted
    (demand3 (replicate 32 0) 0 false false lent calls refl (omega arith) (typed calls computed.words-typed) one-tree [] output refl (ap (λ (o : Wrote). o.code) computed.file)))

pub worked-premises : Premises worked
worked-premises = premises worked computed.met

-- a frame of the worked file: "language 2, /b", the file in src
abbrev frame : Text → ℕ → ℕ → Text → Shown
frame name entry number file = record {
  name = name;
  entry = entry;
  language = 2;
  number = number;
  file = some (record { name = file; directory = some src; comp_dir = some b; srcsrv_name = none; srcsrv_dir = none; revision = none });
}

-- M1: at 0x1003 two frames, pos at line 50 of src/p.rs, inlined into trk at line 10 of src/a.rs
pub frames_1003 : (d : List ℕ) → Found original.worked d 0x1003 (frame pos MAX 50 prs ∷ frame trk 0x1000 10 ars ∷ [])
unfolding nested_at line_at_lem utf8 chars char_len Utf8Char fits within
frames_1003 d = (reopened.demanded worked-premises root-row (inlinee-row ∷ []) here (line 0x1000 (some 8) 10 ars) here 0x1003 (omega arith, omega arith)).frames d

-- M2 and M3: none at 0x1010, none at 0x0FFF
pub frames_1010 : (d : List ℕ) → Found original.worked d 0x1010 []
frames_1010 d = subst (λ (l : List Frame). Found original.worked d 0x1010 (map (with_stand_in d) l)) (ap (λ (l : List (List Frame)). get_or l 5 []) worked-file.frames) (reopened.every_address d 0x1010)

pub frames_0fff : (d : List ℕ) → Found original.worked d 0x0FFF []
frames_0fff d = subst (λ (l : List Frame). Found original.worked d 0x0FFF (map (with_stand_in d) l)) (ap (λ (l : List (List Frame)). get_or l 0 []) worked-file.frames) (reopened.every_address d 0x0FFF)
