-- A LIST OF EXPORTED CALLS IS AN INSTANCE of demand 3: the calls of demand3's SmallCalls after a beginning by `symcache_begin`, with a record of 21 words of any content, and a debug id of two bytes. By
-- computation alone (the contracts' own definitions, run by the checker): the record's words after the beginning and at the write, the number of every call, what counts, and the word of the file's length.
-- By `exported-demand3`: the frames that the file shows, by value and by the exported readers.
use Prim.Native.Nat.{ℕ}
use mathlib.Core.Path.{◌≡◌, refl, sym, ap, ◌∙◌, subst}
use mathlib.Core.List.{List, [], ◌∷◌}
use native.Mathlib.Omega.{arith}
use lib.ListN.{replicate, get_or}
use Rattle.text.specs.Leb128.{encoded_in, encoded}
use Rattle.text.specs.Utf8.{utf8, chars, char_len, Utf8Char, fits, within}
use Rattle.slices.specs.Bytes as bytes
use Rattle.raw.specs.Head.{padding}
use Rattle.raw.specs.Rows.{version_info_bytes, header_bytes, file_bytes_lem, function_bytes, location_bytes, range_bytes, is_no_source_location}
use Rattle.model.specs.Basics.{here, before, place, sort}
use Rattle.model.specs.Rows.{Given}
use Rattle.model.specs.Machine.{advance_m, set_at_m, kid_spans_m, unless_held, put_end, walk_m, loop_m, entry_m, closing_m, row_m, convert_m, start_m}
use Rattle.model.proofs.Worked.{plain-setup}
use Rattle.rows.specs.Columns.{function_in_columns, line_in_columns, part_of, line_at, lines_from, tree_row, tree_rows_from}
use Rattle.rows.specs.Clamped.{clamped_lines_in, clamped_rows}
use Rattle.refusals.specs.Refusals.{each, total, lengths?, count?, depth?, shaped?, shallow_row?, shallow?, inside?, readable?, optional?, function_texts?, line_texts?, texts?, end?, ends?, room?, tree_refusal}
use Rattle.tables.specs.Table.{row_at, link_at, head_at, set_row, append_of, over_of, bucket_of, walk, key_of, same_row, hash_of, hit_at, newest_of, lookup_of, insert_at, insert_of, capacity_of}
use Rattle.tables.specs.Ranges.{get_of, replace_of, put_at, put_of}
use Rattle.strings.specs.Strings.{text_capacity_of, stored_text, text_size_lem, hash_from, text_hash, text_row, is_text, text_at_lem, newest_text, find_text, index_of, full_of, store_of, insert_text_at, insert_text_of}
use Rattle.tables.specs.Table as table
use Rattle.memory.specs.Memory.{Memory}
use Rattle.memory.specs.Record.{usable_in, fits_in_lem, begin_of}
use Rattle.steps.specs.Steps.{store, add_function, add_file_row, add_call, put_range, store_six, locate_six, begin_named}
use Rattle.symbol_call.specs.Calls.{finished}
use Rattle.writer.specs.Calls.{tree_of}
use Rattle.line_rows.specs.Lines.{packed}
use Rattle.line_rows.specs.Numbers.{unpack_room?}
use Rattle.line_calls.specs.Calls.{lines_of}
use Rattle.serialize.specs.Sections.{file_row, function_row, call_row, entries, in_order, location_row, start_row}
use Rattle.serialize.specs.File.{written_file, serialize_of}
use Rattle.read_back.specs.Shown.{Found}
use Rattle.demand3.specs.Lists.{Standing, write, next, run}
use Rattle.demand3.proofs.Tests.{numbers, number_in, typed}
use Rattle.demand3.proofs.SmallCalls.{two_trees, output, calls, lent, line, root, given, Frames, frames-shown, given-premises, covered}
use Rattle.demand3.proofs.SmallCalls as small
use Rattle.c_words.specs.Record.{id_of, state_of, clamped_of, converter_of, words_of, kept, len_words}
use Rattle.c_words.specs.Writing.{begin_call, tree_call, lines_call, LeftFile, serialize_call}
use Rattle.c_demand3.specs.Lists.{exported, exported_beginning, FileLeft}
use Rattle.c_demand3.specs.Walks.{FoundByCalls}
use Rattle.c_demand3.proofs.Demand3.{exported-demand3}

-- ── The list ──

-- the debug id is lent short: 01 02
abbrev id : List ℕ
id = 1 ∷ 2 ∷ []

abbrev start : Standing (List ℕ)
start = exported_beginning (replicate 21 7) id 5 0 0 lent

abbrev stands : Standing (List ℕ)
stands = run exported two_trees start

-- one word is lent for the length
abbrev written : LeftFile
written = serialize_call stands.carrier stands.memory output (7 ∷ [])

-- ── What is computed ──

-- the 21st word stays as it was
pub record Computed : Type 0 where
  pub begun : start.carrier ≡ 513 ∷ 0 ∷ 0 ∷ 0 ∷ 0 ∷ 0 ∷ 0 ∷ 0 ∷ 5 ∷ 0 ∷ 0 ∷ 0 ∷ 0 ∷ 0 ∷ 0 ∷ 0 ∷ 0 ∷ 0 ∷ 0 ∷ 1 ∷ 7 ∷ []
  pub answers : numbers exported calls start ≡ 0 ∷ 0 ∷ 0 ∷ []
  pub record_left : stands.carrier ≡ 513 ∷ 0 ∷ 0 ∷ 0 ∷ 0 ∷ 0 ∷ 0 ∷ 0 ∷ 5 ∷ 0 ∷ 0 ∷ 6 ∷ 3 ∷ 1 ∷ 2 ∷ 0 ∷ 3 ∷ 0 ∷ 0 ∷ 1 ∷ 7 ∷ []
  pub counted : stands.counted ≡ given
  pub length-left : written.len ≡ 206 ∷ []

pub computed : Computed
unfolding numbers next run begin_call tree_call lines_call serialize_call id_of state_of clamped_of converter_of words_of kept len_words bytes.bytes_at bytes.le_at usable_in finished begin_of tree_of lines_of packed unpack_room? function_in_columns line_in_columns part_of line_at lines_from tree_row tree_rows_from clamped_lines_in clamped_rows each total lengths? count? depth? shaped? shallow_row? shallow? inside? readable? optional? function_texts? line_texts? texts? end? ends? room? tree_refusal utf8 chars char_len Utf8Char fits within before place sort advance_m set_at_m kid_spans_m unless_held put_end walk_m loop_m entry_m closing_m row_m convert_m start_m is_no_source_location row_at link_at head_at set_row append_of over_of bucket_of walk key_of same_row hash_of hit_at newest_of lookup_of insert_at insert_of capacity_of get_of replace_of put_at put_of text_capacity_of encoded_in encoded stored_text text_size_lem hash_from text_hash text_row is_text text_at_lem newest_text find_text index_of full_of store_of insert_text_at insert_text_of fits_in_lem store add_function add_file_row add_call put_range store_six locate_six begin_named serialize_of written_file version_info_bytes header_bytes bytes.word_bytes bytes.le bytes.table_bytes file_row file_bytes_lem function_row function_bytes call_row location_bytes location_row start_row range_bytes padding in_order entries table.rows_from
computed = record { begun = refl; answers = refl; record_left = refl; counted = refl; length-left = refl }

-- ── What demand 3 gives ──

-- a write's number is the same whatever words are lent for the length
same_number : (r : List ℕ) (m : Memory) (out l : List ℕ) → (serialize_call r m out l).code ≡ (serialize_call r m out []).code
unfolding serialize_call
same_number r m out l = refl

zero-answered : written.code ≡ 0
zero-answered =
    same_number stands.carrier stands.memory output (7 ∷ [])
    ∙ (sym (number_in exported two_trees [] (write output) start) ∙ ap (λ (l : List ℕ). get_or l 2 0) computed.answers)

pub left : FileLeft (bytes.bytes_at 32 id 0) 5 plain-setup given output (7 ∷ []) written
left =
    subst (λ (gs : List Given). FileLeft (bytes.bytes_at 32 id 0) 5 plain-setup gs output (7 ∷ []) written) computed.counted
    (exported-demand3 (replicate 21 7) id 5 0 0 lent calls (omega arith) (omega arith, (omega arith, tt)) (omega arith) (typed calls (small.computed).words-typed)
    two_trees [] output (7 ∷ []) refl zero-answered)

-- the frames of SmallCalls, of this file: by value, and by the exported readers
pub frames : Frames (Found left.file)
frames = frames-shown (Found left.file) (λ d. (left.reopened.demanded given-premises root [] here line here 0x1002 covered).frames d) left.reopened.every_address

pub by_calls : Frames (FoundByCalls left.file)
by_calls = frames-shown (FoundByCalls left.file) (left.demanded given-premises root [] here line here 0x1002 covered) left.every_address
