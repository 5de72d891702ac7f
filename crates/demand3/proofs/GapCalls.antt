-- K13'S LIST IN CALLS, an instance over words: the calls whose rows are model's `gap-list`, with undecoration on for symbols, and a write that answers 0. By computation alone (the contracts' own definitions,
-- run by the checker): the number of every call, what counts, both kinds of premises, and which addresses are in no extent. By `demand3`: what the file shows in the symbols and in the gaps.
use Prim.Native.Nat.{ℕ}
use mathlib.Core.Path.{◌≡◌, refl, sym, ap, ◌∙◌, subst}
use mathlib.Core.Bool.{true, false}
use mathlib.Core.Option.{none}
use mathlib.Core.List.{List, [], ◌∷◌, ◌++◌, map}
use native.Mathlib.Omega.{arith}
use lib.ListN.{replicate, get_or}
use Rattle.text.specs.Leb128.{encoded_in, encoded}
use Rattle.text.specs.Utf8.{utf8, chars, char_len, Utf8Char, fits, within}
use Rattle.names.specs.Names as names
use Rattle.slices.specs.Bytes as bytes
use Rattle.raw.specs.Head.{padding}
use Rattle.raw.specs.Rows.{version_info_bytes, header_bytes, file_bytes_lem, function_bytes, location_bytes, range_bytes, is_no_source_location}
use Rattle.model.specs.Basics.{here, there, before, place, sort}
use Rattle.model.specs.Rows.{MAX, Text, Given}
use Rattle.model.specs.Machine.{advance_m, set_at_m, kid_spans_m, unless_held, put_end, walk_m, loop_m, entry_m, closing_m, row_m, convert_m, start_m, named_symbol_m, convert_symbol_m}
use Rattle.model.specs.Premises.{inlinees}
use Rattle.model.specs.Gaps.{SymbolsWell, SymbolsAndGaps}
use Rattle.model.proofs.Worked.{pos, prs, src}
use Rattle.model.proofs.GapList.{low, symbol_of_lem, gap-list, symbols_setup}
use Rattle.rows.specs.Columns.{Columns, function_in_columns, line_in_columns, part_of, line_at, lines_from, tree_row, tree_rows_from}
use Rattle.refusals.specs.Refusals.{each, total, lengths?, count?, depth?, shaped?, shallow_row?, shallow?, inside?, readable?, optional?, function_texts?, line_texts?, texts?, end?, ends?, room?, tree_refusal}
use Rattle.refusals.proofs.Examples.{worked-columns}
use Rattle.tables.specs.Table.{row_at, link_at, head_at, set_row, append_of, over_of, bucket_of, walk, key_of, same_row, hash_of, hit_at, newest_of, lookup_of, insert_at, insert_of, capacity_of}
use Rattle.tables.specs.Ranges.{get_of, replace_of, put_at, put_of}
use Rattle.strings.specs.Strings.{text_capacity_of, stored_text, text_size_lem, hash_from, text_hash, text_row, is_text, text_at_lem, newest_text, find_text, index_of, full_of, store_of, insert_text_at, insert_text_of}
use Rattle.tables.specs.Table as table
use Rattle.memory.specs.Memory.{Memory}
use Rattle.memory.specs.Record.{usable_in, fits_in_lem, begin_of}
use Rattle.steps.specs.Steps.{store, add_function, add_file_row, add_call, put_range, store_six, locate_six, begin_named}
use Rattle.memory.specs.declared.Converter.{Converter}
use Rattle.symbol_call.specs.Calls.{finished, symbol_of}
use Rattle.writer.specs.Calls.{tree_of}
use Rattle.serialize.specs.Sections.{file_row, function_row, call_row, entries, in_order, location_row, start_row}
use Rattle.serialize.specs.File.{Wrote, written_file, serialize_of}
use Rattle.read_back.specs.Shown.{Shown, with_stand_in, Found}
use Rattle.demand3.specs.Lists.{Call, tree, symbol, write, Standing, next, run, by_value, beginning}
use Rattle.demand3.specs.Demand3.{Premises, Reopened, file_written}
use Rattle.demand3.proofs.Claim.{demand3}
use Rattle.demand3.proofs.Tests.{every?, some?, numbers, number_in, typed?, typed, asc?, row_well?, last_at?, holds?, inlinee_well?, disjoint?, apart?, rows_well?, nested?, not_in?, symbol_clear?, separate?, all-separate?, premises?, premises, symbol_well?, symbols_apart?, all_symbols_apart?, symbols_well?, symbols_well, outside?, outside}

-- ── The list ──

-- what all calls but the worked tree's lend: pos at 0, p.rs at 3, src at 7, `_low` at 10
abbrev words : List ℕ
words = pos ++ (prs ++ (src ++ (95 ∷ low)))

abbrev named : ℕ → ℕ → ℕ → ℕ → Call
named address size name len = symbol words address size (record { present = true; part = record { start = name; len = len } })

-- a root without lines, and one with a line of two addresses after its entry
abbrev bare-columns : Columns
bare-columns = record { functions64 = 0x1020 ∷ 16 ∷ []; functions32 = 0 ∷ 0 ∷ 3 ∷ 0 ∷ 3 ∷ 0 ∷ 0 ∷ 0 ∷ []; lines64 = []; lines32 = []; text = words }

abbrev late_columns : Columns
late_columns = record {
  functions64 = 0x1040 ∷ 8 ∷ [];
  functions32 = 0 ∷ 0 ∷ 3 ∷ 0 ∷ 3 ∷ 0 ∷ 0 ∷ 1 ∷ [];
  lines64 = 0x1044 ∷ 2 ∷ 7 ∷ [];
  lines32 = 1 ∷ 3 ∷ 4 ∷ 7 ∷ 3 ∷ replicate 9 0;
  text = words;
}

abbrev pub gap-calls : List Call
gap-calls =
    named 0x0ff0 16 10 4
    ∷ tree worked-columns (replicate 20 7)
    ∷ symbol words 0x1004 2 (record { present = false; part = record { start = 0; len = 0 } })
    ∷ named 0x1030 8 10 4
    ∷ tree bare-columns (replicate 4 7)
    ∷ named 0x1010 16 10 4
    ∷ named 0x1038 7 0 3
    ∷ tree late_columns (replicate 8 7)
    ∷ named 0x1049 7 10 4
    ∷ named 0xffff_fffe 1 0 0
    ∷ named 0x1_0000_1004 1 10 4
    ∷ []

-- as long as the file
abbrev pub output : List ℕ
output = replicate 800 7

abbrev pub calls : List Call
calls = gap-calls ++ (write output ∷ [])

-- just the room that is needed, with any content: seven texts in 29 bytes, three files, ten functions, a call location, 17 ranges
abbrev pub lent : Memory
lent = record { text = replicate 29 7; strings = replicate 56 7; files = replicate 24 7; functions = replicate 80 7; calls = replicate 8 7; ranges = replicate 136 7 }

abbrev id : List ℕ
id = replicate 32 9

abbrev start : Standing Converter
start = beginning id 5 false true lent

abbrev stands : Standing Converter
stands = run by_value gap-calls start

abbrev written : Wrote
written = serialize_of stands.carrier stands.memory output

-- ── What is computed ──

-- just below the first start; between a symbol and a root, and a root and a symbol, one address each; MAX; the last 64-bit address
abbrev nowhere_in : ℕ → Type 0
nowhere_in x = every? (outside? x) gap-list ≡ true

pub record Computed : Type 0 where
  pub words-typed : every? typed? calls ≡ true
  pub answers : numbers by_value calls start ≡ replicate 12 0
  pub counted : stands.counted ≡ gap-list
  pub met : premises? gap-list ≡ true
  pub symbols_met : symbols_well? gap-list ≡ true
  pub below : nowhere_in 0x0fef
  pub before_root : nowhere_in 0x103f
  pub after-root : nowhere_in 0x1048
  pub at-max : nowhere_in MAX
  pub last : nowhere_in 0xffff_ffff_ffff_ffff

pub computed : Computed
unfolding every? some? typed? numbers next run usable_in finished begin_of tree_of symbol_of function_in_columns line_in_columns part_of line_at lines_from tree_row tree_rows_from each total lengths? count? depth? shaped? shallow_row? shallow? inside? readable? optional? function_texts? line_texts? texts? end? ends? room? tree_refusal utf8 chars char_len Utf8Char fits within names.starts_with names.special names.contains names.rfind names.digit names.digits names.value names.number names.parses names.sized names.cut names.prefixed names.undecorated before place sort advance_m set_at_m kid_spans_m unless_held put_end walk_m loop_m entry_m closing_m row_m convert_m start_m named_symbol_m convert_symbol_m is_no_source_location row_at link_at head_at set_row append_of over_of bucket_of walk key_of same_row hash_of hit_at newest_of lookup_of insert_at insert_of capacity_of get_of replace_of put_at put_of text_capacity_of encoded_in encoded stored_text text_size_lem hash_from text_hash text_row is_text text_at_lem newest_text find_text index_of full_of store_of insert_text_at insert_text_of fits_in_lem store add_function add_file_row add_call put_range store_six locate_six begin_named serialize_of written_file version_info_bytes header_bytes bytes.word_bytes bytes.le bytes.table_bytes file_row file_bytes_lem function_row function_bytes call_row location_bytes location_row start_row range_bytes padding in_order entries table.rows_from inlinees asc? row_well? last_at? holds? inlinee_well? disjoint? apart? rows_well? nested? not_in? symbol_clear? separate? all-separate? premises? symbol_well? symbols_apart? all_symbols_apart? symbols_well? outside?
computed = record {
  words-typed = refl;
  answers = refl;
  counted = refl;
  met = refl;
  symbols_met = refl;
  below = refl;
  before_root = refl;
  after-root = refl;
  at-max = refl;
  last = refl;
}

pub gap-premises : Premises gap-list
gap-premises = premises gap-list computed.met

pub gap_symbols : SymbolsWell gap-list
gap_symbols = symbols_well gap-list computed.symbols_met

-- ── What a file shows where these calls count ──

abbrev symbol-shown : Text → ℕ → List Shown
symbol-shown name entry = record { name = name; entry = entry; language = MAX; number = 0; file = none } ∷ []

-- `P d x vs` says that vs is shown at x, with d for the stand-in
pub record GapsShown (P : List ℕ → ℕ → List Shown → Type 0) : Type 0 where
  pub at_0fef : (d : List ℕ) → P d 0x0fef []
  pub at_0ff0 : (d : List ℕ) → P d 0x0ff0 (symbol-shown low 0x0ff0)
  pub at_0fff : (d : List ℕ) → P d 0x0fff (symbol-shown low 0x0ff0)
  pub at_1010 : (d : List ℕ) → P d 0x1010 (symbol-shown low 0x1010)
  pub at_101f : (d : List ℕ) → P d 0x101f (symbol-shown low 0x1010)
  pub at_103e : (d : List ℕ) → P d 0x103e (symbol-shown pos 0x1038)
  pub at_103f : (d : List ℕ) → P d 0x103f []
  pub at_1048 : (d : List ℕ) → P d 0x1048 []
  pub at_fffffffe : (d : List ℕ) → P d 0xffff_fffe (symbol-shown d 0xffff_fffe)
  pub at-max : (d : List ℕ) → P d MAX []
  pub at_last : (d : List ℕ) → P d 0xffff_ffff_ffff_ffff []

pub gaps-shown : (P : List ℕ → ℕ → List Shown → Type 0) → SymbolsAndGaps symbols_setup gap-list (λ x fs. (d : List ℕ) → P d x (map (with_stand_in d) fs)) → GapsShown P
unfolding names.starts_with names.special names.contains names.rfind names.digit names.digits names.value names.number names.parses names.sized names.cut names.prefixed names.undecorated
gaps-shown P k = record {
  at_0fef = k.in_none 0x0fef (outside 0x0fef gap-list computed.below);
  at_0ff0 = k.in_symbol (symbol_of_lem 0x0ff0 16 (95 ∷ low)) here (tt, omega arith) 0x0ff0 (omega arith, omega arith);
  at_0fff = k.in_symbol (symbol_of_lem 0x0ff0 16 (95 ∷ low)) here (tt, omega arith) 0x0fff (omega arith, omega arith);
  at_1010 = k.in_symbol (symbol_of_lem 0x1010 16 (95 ∷ low)) (there (there (there (there (there here))))) (tt, omega arith) 0x1010 (omega arith, omega arith);
  at_101f = k.in_symbol (symbol_of_lem 0x1010 16 (95 ∷ low)) (there (there (there (there (there here))))) (tt, omega arith) 0x101f (omega arith, omega arith);
  at_103e = k.in_symbol (symbol_of_lem 0x1038 7 pos) (there (there (there (there (there (there here)))))) (tt, omega arith) 0x103e (omega arith, omega arith);
  at_103f = k.in_none 0x103f (outside 0x103f gap-list computed.before_root);
  at_1048 = k.in_none 0x1048 (outside 0x1048 gap-list computed.after-root);
  at_fffffffe = k.in_symbol (symbol_of_lem 0xffff_fffe 1 []) (there (there (there (there (there (there (there (there (there here))))))))) (tt, omega arith) 0xffff_fffe (omega arith, omega arith);
  at-max = k.in_none MAX (outside MAX gap-list computed.at-max);
  at_last = k.in_none 0xffff_ffff_ffff_ffff (outside 0xffff_ffff_ffff_ffff gap-list computed.last);
}

-- ── What demand 3 and K13 give ──

abbrev file : List ℕ
file = file_written written

zero-answered : written.code ≡ 0
zero-answered = sym (number_in by_value gap-calls [] (write output) start) ∙ ap (λ (l : List ℕ). get_or l 11 0) computed.answers

pub reopened : Reopened id 5 symbols_setup gap-list file
reopened =
    subst (λ (gs : List Given). Reopened id 5 symbols_setup gs file) computed.counted
    (demand3 id 5 false true lent calls refl (omega arith) (typed calls computed.words-typed) gap-calls [] output refl zero-answered)

pub shown : GapsShown (Found file)
shown = gaps-shown (Found file) (reopened.symbols_and_gaps gap-premises gap_symbols)
