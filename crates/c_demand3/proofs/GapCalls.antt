-- K13'S LIST BY THE EXPORTED CALLS: demand3's GapCalls after a beginning by `symcache_begin`. By computation alone: the number of every call, and what counts. By `exported-demand3`: what the file shows in
-- the symbols and in the gaps, by value and by the exported readers.
use Prim.Native.Nat.{ℕ}
use mathlib.Core.Path.{◌≡◌, refl, sym, ap, ◌∙◌, subst}
use mathlib.Core.List.{List, []}
use native.Mathlib.Omega.{arith}
use lib.ListN.{replicate, get_or}
use Rattle.text.specs.Leb128.{encoded_in, encoded}
use Rattle.text.specs.Utf8.{utf8, chars, char_len, Utf8Char, fits, within}
use Rattle.names.specs.Names as names
use Rattle.slices.specs.Bytes as bytes
use Rattle.raw.specs.Head.{padding}
use Rattle.raw.specs.Rows.{version_info_bytes, header_bytes, file_bytes_lem, function_bytes, location_bytes, range_bytes, is_no_source_location}
use Rattle.model.specs.Basics.{before, place, sort}
use Rattle.model.specs.Rows.{Given}
use Rattle.model.specs.Machine.{advance_m, set_at_m, kid_spans_m, unless_held, put_end, walk_m, loop_m, entry_m, closing_m, row_m, convert_m, start_m, named_symbol_m, convert_symbol_m}
use Rattle.model.proofs.GapList.{gap-list, symbols_setup}
use Rattle.rows.specs.Columns.{function_in_columns, line_in_columns, part_of, line_at, lines_from, tree_row, tree_rows_from}
use Rattle.refusals.specs.Refusals.{each, total, lengths?, count?, depth?, shaped?, shallow_row?, shallow?, inside?, readable?, optional?, function_texts?, line_texts?, texts?, end?, ends?, room?, tree_refusal}
use Rattle.tables.specs.Table.{row_at, link_at, head_at, set_row, append_of, over_of, bucket_of, walk, key_of, same_row, hash_of, hit_at, newest_of, lookup_of, insert_at, insert_of, capacity_of}
use Rattle.tables.specs.Ranges.{get_of, replace_of, put_at, put_of}
use Rattle.strings.specs.Strings.{text_capacity_of, stored_text, text_size_lem, hash_from, text_hash, text_row, is_text, text_at_lem, newest_text, find_text, index_of, full_of, store_of, insert_text_at, insert_text_of}
use Rattle.tables.specs.Table as table
use Rattle.memory.specs.Record.{usable_in, fits_in_lem, begin_of}
use Rattle.steps.specs.Steps.{store, add_function, add_file_row, add_call, put_range, store_six, locate_six, begin_named}
use Rattle.symbol_call.specs.Calls.{finished, symbol_of}
use Rattle.writer.specs.Calls.{tree_of}
use Rattle.serialize.specs.Sections.{file_row, function_row, call_row, entries, in_order, location_row, start_row}
use Rattle.serialize.specs.File.{written_file, serialize_of}
use Rattle.read_back.specs.Shown.{Found}
use Rattle.demand3.specs.Lists.{Standing, write, next, run}
use Rattle.demand3.proofs.Tests.{numbers, number_in, typed}
use Rattle.demand3.proofs.GapCalls.{gap-calls, output, calls, lent, gap-premises, gap_symbols, GapsShown, gaps-shown}
use Rattle.demand3.proofs.GapCalls as by_value
use Rattle.c_words.specs.Record.{id_of, state_of, converter_of, words_of, kept, len_words}
use Rattle.c_words.specs.Writing.{begin_call, tree_call, symbol_call, LeftFile, serialize_call}
use Rattle.c_demand3.specs.Lists.{exported, exported_beginning, FileLeft}
use Rattle.c_demand3.specs.Walks.{FoundByCalls}
use Rattle.c_demand3.proofs.Demand3.{exported-demand3}

abbrev start : Standing (List ℕ)
start = exported_beginning (replicate 20 7) [] 5 0 1 lent

abbrev stands : Standing (List ℕ)
stands = run exported gap-calls start

-- no word is lent for the length
abbrev written : LeftFile
written = serialize_call stands.carrier stands.memory output []

pub record Computed : Type 0 where
  pub answers : numbers exported calls start ≡ replicate 12 0
  pub counted : stands.counted ≡ gap-list

pub computed : Computed
unfolding numbers next run begin_call tree_call symbol_call serialize_call id_of state_of converter_of words_of kept len_words bytes.bytes_at bytes.le_at usable_in finished begin_of tree_of symbol_of function_in_columns line_in_columns part_of line_at lines_from tree_row tree_rows_from each total lengths? count? depth? shaped? shallow_row? shallow? inside? readable? optional? function_texts? line_texts? texts? end? ends? room? tree_refusal utf8 chars char_len Utf8Char fits within before place sort advance_m set_at_m kid_spans_m unless_held put_end walk_m loop_m entry_m closing_m row_m convert_m start_m named_symbol_m convert_symbol_m is_no_source_location row_at link_at head_at set_row append_of over_of bucket_of walk key_of same_row hash_of hit_at newest_of lookup_of insert_at insert_of capacity_of get_of replace_of put_at put_of text_capacity_of encoded_in encoded stored_text text_size_lem hash_from text_hash text_row is_text text_at_lem newest_text find_text index_of full_of store_of insert_text_at insert_text_of fits_in_lem store add_function add_file_row add_call put_range store_six locate_six begin_named serialize_of written_file version_info_bytes header_bytes bytes.word_bytes bytes.le bytes.table_bytes file_row file_bytes_lem function_row function_bytes call_row location_bytes location_row start_row range_bytes padding in_order entries table.rows_from names.starts_with names.special names.contains names.rfind names.digit names.digits names.value names.number names.parses names.sized names.cut names.prefixed names.undecorated
computed = record { answers = refl; counted = refl }

zero-answered : written.code ≡ 0
zero-answered = sym (number_in exported gap-calls [] (write output) start) ∙ ap (λ (l : List ℕ). get_or l 11 0) computed.answers

pub left : FileLeft (bytes.bytes_at 32 [] 0) 5 symbols_setup gap-list output [] written
left =
    subst (λ (gs : List Given). FileLeft (bytes.bytes_at 32 [] 0) 5 symbols_setup gs output [] written) computed.counted
    (exported-demand3 (replicate 20 7) [] 5 0 1 lent calls (omega arith) tt (omega arith) (typed calls (by_value.computed).words-typed) gap-calls [] output [] refl zero-answered)

-- by value, and by the exported readers
pub shown : GapsShown (Found left.file)
shown = gaps-shown (Found left.file) (left.reopened.symbols_and_gaps gap-premises gap_symbols)

pub by_calls : GapsShown (FoundByCalls left.file)
by_calls = gaps-shown (FoundByCalls left.file) (left.symbols_and_gaps gap-premises gap_symbols)
