-- A LIST OF TWENTY-THREE CALLS IS AN INSTANCE of demand 3, over words, with both switches on: three roots, two of which touch; inlinees one and two deep; symbols that start or end at a root's first address, at its
-- end, and between roots; refused calls of every number from 13 to 19 and of 25, some of them across a root that counts; two writes that answer 0, the second after more calls. By computation alone (the contracts'
-- own definitions, run by the checker): the number of every call, which calls count at each write, and the premises. By `demand3`: the frames that each file shows.
use Prim.Native.Nat.{ℕ, ◌≤◌}
use mathlib.Core.Path.{◌≡◌, refl, sym, ap, ◌∙◌, subst}
use mathlib.Core.Bool.{true, false}
use mathlib.Core.Option.{Option, none, some}
use mathlib.Core.Logic.{⊎_elim}
use mathlib.Core.List.{List, [], ◌∷◌, ◌++◌}
use native.Mathlib.Omega.{arith}
use lib.ListN.{replicate, get_or}
use Rattle.text.specs.Leb128.{encoded_in, encoded}
use Rattle.text.specs.Utf8.{utf8, chars, char_len, Utf8Char, fits, within}
use Rattle.names.specs.Names as names
use Rattle.slices.specs.Bytes as bytes
use Rattle.raw.specs.Head.{padding}
use Rattle.raw.specs.Rows.{version_info_bytes, header_bytes, file_bytes_lem, function_bytes, location_bytes, range_bytes, is_no_source_location}
use Rattle.model.specs.Basics.{here, there, before, place, sort, intern}
use Rattle.model.specs.Rows.{MAX, Text, FunctionRow, Given, tree_rows, symbol_row}
use Rattle.model.specs.Machine.{advance_m, set_at_m, kid_spans_m, unless_held, put_end, walk_m, loop_m, entry_m, closing_m, row_m, convert_m, start_m, named_symbol_m, convert_symbol_m, convert_op_m, run_m}
use Rattle.model.specs.Converter.{Setup}
use Rattle.model.specs.Converter as model
use Rattle.model.specs.Frames.{callers, frames_of, better, best, frames_at}
use Rattle.model.specs.Premises.{inlinees, line_at_lem, nested_at}
use Rattle.model.proofs.Worked.{trk, pos, ars, prs, src, b, line, inlinee-row}
use Rattle.rows.specs.Columns.{Columns, function_in_columns, line_in_columns, part_of, line_at, lines_from, tree_row, tree_rows_from}
use Rattle.refusals.specs.Refusals.{each, total, lengths?, count?, depth?, shaped?, shallow_row?, shallow?, inside?, readable?, optional?, function_texts?, line_texts?, texts?, end?, ends?, room?, tree_refusal}
use Rattle.refusals.proofs.Examples.{chain32, chain}
use Rattle.tables.specs.Table.{row_at, link_at, head_at, set_row, append_of, over_of, bucket_of, walk, key_of, same_row, hash_of, hit_at, newest_of, lookup_of, insert_at, insert_of, capacity_of}
use Rattle.tables.specs.Ranges.{get_of, replace_of, put_at, put_of}
use Rattle.strings.specs.Strings.{text_capacity_of, stored_text, text_size_lem, hash_from, text_hash, text_row, is_text, text_at_lem, newest_text, find_text, index_of, full_of, store_of, insert_text_at, insert_text_of}
use Rattle.tables.specs.Table as table
use Rattle.memory.specs.Memory.{Memory}
use Rattle.memory.specs.Record.{usable_in, fits_in_lem, begin_of}
use Rattle.steps.specs.Steps.{store, add_function, add_file_row, add_call, put_range, store_six, locate_six, begin_named}
use Rattle.memory.specs.declared.Converter.{Converter}
use Rattle.symbol_call.specs.Calls.{finished, symbol_of}
use Rattle.writer.specs.Calls.{tree_of}
use Rattle.serialize.specs.Sections.{file_row, function_row, call_row, entries, in_order, location_row, start_row}
use Rattle.serialize.specs.File.{Wrote, written_file, serialize_of}
use Rattle.read_back.specs.Shown.{Shown, Found}
use Rattle.demand3.specs.Lists.{Call, tree, symbol, write, Standing, given_tree, next, run, by_value, beginning}
use Rattle.demand3.specs.Demand3.{Premises, Reopened, file_written}
use Rattle.demand3.proofs.Claim.{demand3}
use Rattle.demand3.proofs.Tests.{every?, some?, numbers, number_in, typed?, typed, asc?, row_well?, last_at?, holds?, inlinee_well?, disjoint?, apart?, rows_well?, nested?, not_in?, symbol_clear?, separate?, all-separate?, premises?, premises}

-- ── The rows ──

-- the text that every call lends: `_trk@8` at 0, /b at 6, a.rs at 8, src at 12, pos at 15, p.rs at 18, `_low` at 22, and at 26 a byte that isn't UTF-8
abbrev words : List ℕ
words =
    95 ∷ 116 ∷ 114 ∷ 107 ∷ 64 ∷ 56 ∷ 47 ∷ 98 ∷ 97 ∷ 46 ∷ 114 ∷ 115 ∷ 115 ∷ 114 ∷ 99 ∷ 112 ∷ 111 ∷ 115 ∷ 112 ∷ 46 ∷ 114 ∷ 115 ∷ 95 ∷ 108 ∷ 111 ∷ 119 ∷ 0xff ∷ []

-- a line's 32-bit words: whether it has a size, where its file's name of four bytes starts, the directory src, and the srcsrv texts
abbrev line-words : ℕ → ℕ → List ℕ → List ℕ
line-words sized name srcsrv = (sized ∷ name ∷ 4 ∷ 12 ∷ 3 ∷ []) ++ srcsrv

abbrev no_srcsrv : List ℕ
no_srcsrv = replicate 9 0

-- the worked tree, its root named `_trk@8`; n is the inlinee's depth
abbrev first-tree : ℕ → Columns
first-tree n = record {
  functions64 = 0x1000 ∷ 16 ∷ 0x1002 ∷ 4 ∷ [];
  functions32 = 0 ∷ 0 ∷ 2 ∷ 0 ∷ 6 ∷ 6 ∷ 2 ∷ 2 ∷ n ∷ 1 ∷ 2 ∷ 15 ∷ 3 ∷ 6 ∷ 2 ∷ 1 ∷ [];
  lines64 = 0x1000 ∷ 8 ∷ 10 ∷ 0x1008 ∷ 8 ∷ 11 ∷ 0x1002 ∷ 4 ∷ 50 ∷ [];
  lines32 = line-words 1 8 no_srcsrv ++ (line-words 1 8 no_srcsrv ++ line-words 1 18 no_srcsrv);
  text = words;
}

-- a root after a gap, with no compilation directory; its first line has no size (the 99 is not looked at)
abbrev second_tree : Columns
second_tree = record {
  functions64 = 0x1020 ∷ 4 ∷ [];
  functions32 = 0 ∷ 0 ∷ 3 ∷ 15 ∷ 3 ∷ 0 ∷ 0 ∷ 2 ∷ [];
  lines64 = 0x1020 ∷ 99 ∷ 7 ∷ 0x1022 ∷ 2 ∷ 8 ∷ [];
  lines32 = line-words 0 18 no_srcsrv ++ line-words 1 18 no_srcsrv;
  text = words;
}

-- a root that begins where the second ends; in it pos, and in that a function with no name, whose line has a srcsrv name and a revision
abbrev third_tree : Columns
third_tree = record {
  functions64 = 0x1024 ∷ 16 ∷ 0x1026 ∷ 10 ∷ 0x1028 ∷ 4 ∷ [];
  functions32 = 0 ∷ 0 ∷ 2 ∷ 1 ∷ 3 ∷ 6 ∷ 2 ∷ 1 ∷ 1 ∷ 1 ∷ 2 ∷ 15 ∷ 3 ∷ 6 ∷ 2 ∷ 1 ∷ 2 ∷ 1 ∷ 2 ∷ 0 ∷ 0 ∷ 6 ∷ 2 ∷ 1 ∷ [];
  lines64 = 0x1024 ∷ 16 ∷ 20 ∷ 0x1026 ∷ 10 ∷ 51 ∷ 0x1028 ∷ 4 ∷ 52 ∷ [];
  lines32 = line-words 1 8 no_srcsrv ++ (line-words 1 18 no_srcsrv ++ line-words 1 18 (1 ∷ 12 ∷ 3 ∷ 0 ∷ 0 ∷ 0 ∷ 1 ∷ 7 ∷ 1 ∷ []));
  text = words;
}

-- one row with one line, the name at a part of the text
abbrev lone : ℕ → ℕ → ℕ → ℕ → Columns
lone address size name len = record {
  functions64 = address ∷ size ∷ [];
  functions32 = 0 ∷ 0 ∷ 2 ∷ name ∷ len ∷ 6 ∷ 2 ∷ 1 ∷ [];
  lines64 = address ∷ size ∷ 12 ∷ [];
  lines32 = line-words 1 8 no_srcsrv;
  text = words;
}

-- across the first root
abbrev across : Columns
across = lone 0x1008 16 1 3

abbrev named : ℕ → ℕ → ℕ → ℕ → Call
named address size name len = symbol words address size (record { present = true; part = record { start = name; len = len } })

-- ── The list ──

abbrev first-calls : List Call
first-calls =
    named 0x0ff0 16 22 4  -- `_low`; it ends where the first root begins
    ∷ tree (first-tree 1) (replicate 20 7)
    ∷ tree (first-tree 0) (replicate 20 7)  -- 13: a later depth 0
    ∷ tree (chain 43) (replicate 172 7)  -- 25: 43 rows, each inside the one before it
    ∷ tree (lone 0x1008 16 26 1) (replicate 8 7)  -- 14: a name that isn't UTF-8
    ∷ tree (lone 0xffff_ffff_ffff_fff8 8 1 3) (replicate 8 7)  -- 15: its end is 2^64
    ∷ tree across (replicate 7 7)  -- 16: a word less than it needs
    ∷ named 0x1004 2 25 3  -- 14: a name outside the text
    ∷ write (replicate 340 7)  -- 18: a byte less than it needs
    ∷ tree second_tree (replicate 12 7)
    ∷ named 0x1010 8 22 4  -- from the first root's end to between the roots
    ∷ named 0x1020 0 22 4  -- at the second root's first address
    ∷ named 0x1024 0 22 4  -- at its end
    ∷ symbol words 0x1004 2 (record { present = false; part = record { start = 99; len = 99 } })  -- unnamed, inside the first root: accepted, and not a symbol that counts
    ∷ []

abbrev first-output : List ℕ
first-output = replicate 493 7

abbrev more-calls : List Call
more-calls =
    tree third_tree (replicate 24 7)
    ∷ named 0x1034 4 22 4  -- at its end
    ∷ write (replicate 718 7)  -- 18: a byte less than it needs
    ∷ []

abbrev second_output : List ℕ
second_output = replicate 719 7

abbrev last-calls : List Call
last-calls =
    named 0x2000 0 10 2  -- 17: a ninth text
    ∷ write second_output  -- 19
    ∷ tree (first-tree 1) (replicate 20 7)  -- 19
    ∷ named 0x2000 0 22 4  -- 19
    ∷ []

abbrev before_second : List Call
before_second = first-calls ++ (write first-output ∷ more-calls)

abbrev calls : List Call
calls = before_second ++ (write second_output ∷ last-calls)

abbrev id : List ℕ
id = replicate 32 9

-- just the room that the calls up to the second write need: 31 bytes of texts, 8 texts, 4 files, 9 functions, 3 call locations, 16 ranges
abbrev lent : Memory
lent = record { text = replicate 31 7; strings = replicate 64 7; files = replicate 32 7; functions = replicate 72 7; calls = replicate 24 7; ranges = replicate 128 7 }

abbrev switches : Setup
switches = record { functions_on = true; symbols_on = true }

abbrev start : Standing Converter
start = beginning id 5 true true lent

-- where the list stands at each write, and what is written
abbrev first_stand : Standing Converter
first_stand = run by_value first-calls start

abbrev first-written : Wrote
first-written = serialize_of first_stand.carrier first_stand.memory first-output

abbrev second_stand : Standing Converter
second_stand = run by_value before_second start

abbrev second_written : Wrote
second_written = serialize_of second_stand.carrier second_stand.memory second_output

-- ── The calls that count ──

abbrev first-root : FunctionRow
first-root = record { depth = 0; address = 0x1000; size = 16; inline = false; language = 2; name = 95 ∷ 116 ∷ 114 ∷ 107 ∷ 64 ∷ 56 ∷ []; comp_dir = b; lines = line 0x1000 (some 8) 10 ars ∷ line 0x1008 (some 8) 11 ars ∷ [] }

abbrev second_root : FunctionRow
second_root = record { depth = 0; address = 0x1020; size = 4; inline = false; language = 3; name = pos; comp_dir = []; lines = line 0x1020 none 7 prs ∷ line 0x1022 (some 2) 8 prs ∷ [] }

abbrev third_root : FunctionRow
third_root = record { depth = 0; address = 0x1024; size = 16; inline = false; language = 2; name = trk; comp_dir = b; lines = line 0x1024 (some 16) 20 ars ∷ [] }

abbrev inner : FunctionRow
inner = record { depth = 1; address = 0x1026; size = 10; inline = true; language = 2; name = pos; comp_dir = b; lines = line 0x1026 (some 10) 51 prs ∷ [] }

abbrev innermost : FunctionRow
innermost = record {
  depth = 2;
  address = 0x1028;
  size = 4;
  inline = true;
  language = 2;
  name = [];
  comp_dir = b;
  lines = record { address = 0x1028; size = some 4; number = 52; name = prs; directory = src; srcsrv_name = some src; srcsrv_dir = none; revision = some (98 ∷ []) } ∷ [];
}

abbrev low : ℕ → ℕ → Given
low address size = symbol_row (record { address = address; size = size; name = some (95 ∷ 108 ∷ 111 ∷ 119 ∷ []) })

abbrev first_counted : List Given
first_counted =
    low 0x0ff0 16
    ∷ tree_rows first-root (inlinee-row ∷ [])
    ∷ tree_rows second_root []
    ∷ low 0x1010 8
    ∷ low 0x1020 0
    ∷ low 0x1024 0
    ∷ symbol_row (record { address = 0x1004; size = 2; name = none })
    ∷ []

abbrev second_counted : List Given
second_counted = first_counted ++ (tree_rows third_root (inner ∷ innermost ∷ []) ∷ low 0x1034 4 ∷ [])

-- ── What is computed ──

pub record Computed : Type 0 where
  pub words-typed : every? typed? calls ≡ true
  pub answers : numbers by_value calls start ≡ 0 ∷ 0 ∷ 13 ∷ 25 ∷ 14 ∷ 15 ∷ 16 ∷ 14 ∷ 18 ∷ 0 ∷ 0 ∷ 0 ∷ 0 ∷ 0 ∷ 0 ∷ 0 ∷ 0 ∷ 18 ∷ 0 ∷ 17 ∷ 19 ∷ 19 ∷ 19 ∷ []
  pub first-counts : first_stand.counted ≡ first_counted
  pub first-met : premises? first_counted ≡ true
  pub second_counts : second_stand.counted ≡ second_counted
  pub second_met : premises? second_counted ≡ true

pub computed : Computed
unfolding chain32 every? some? typed? numbers next run usable_in finished begin_of tree_of symbol_of function_in_columns line_in_columns part_of line_at lines_from tree_row tree_rows_from each total lengths? count? depth? shaped? shallow_row? shallow? inside? readable? optional? function_texts? line_texts? texts? end? ends? room? tree_refusal utf8 chars char_len Utf8Char fits within names.starts_with names.special names.contains names.rfind names.digit names.digits names.value names.number names.parses names.sized names.cut names.prefixed names.undecorated before place sort advance_m set_at_m kid_spans_m unless_held put_end walk_m loop_m entry_m closing_m row_m convert_m start_m named_symbol_m convert_symbol_m is_no_source_location row_at link_at head_at set_row append_of over_of bucket_of walk key_of same_row hash_of hit_at newest_of lookup_of insert_at insert_of capacity_of get_of replace_of put_at put_of text_capacity_of encoded_in encoded stored_text text_size_lem hash_from text_hash text_row is_text text_at_lem newest_text find_text index_of full_of store_of insert_text_at insert_text_of fits_in_lem store add_function add_file_row add_call put_range store_six locate_six begin_named serialize_of written_file version_info_bytes header_bytes bytes.word_bytes bytes.le bytes.table_bytes file_row file_bytes_lem function_row function_bytes call_row location_bytes location_row start_row range_bytes padding in_order entries table.rows_from inlinees asc? row_well? last_at? holds? inlinee_well? disjoint? apart? rows_well? nested? not_in? symbol_clear? separate? all-separate? premises?
computed = record {
  words-typed = refl;
  answers = refl;
  first-counts = refl;
  first-met = refl;
  second_counts = refl;
  second_met = refl;
}

-- ── It matters that refused calls don't count ──

-- the tree that was refused for a word of scratch would else be taken, and with it the premises fail: it overlaps the first root
pub record Refused : Type 0 where
  pub taken : tree_refusal across 8 ≡ 0
  pub crosses : Premises (first_counted ++ (given_tree across ∷ [])) → ⊥

pub refused : Refused
unfolding function_in_columns line_in_columns part_of line_at lines_from tree_row tree_rows_from each total lengths? count? depth? shaped? shallow_row? shallow? inside? readable? optional? function_texts? line_texts? texts? end? ends? room? tree_refusal utf8 chars char_len Utf8Char fits within
refused = record {
  taken = refl;
  crosses = λ p. let clear = p.separate.1.0 (given_tree across) (there (there (there (there (there here))))) in ⊎_elim (λ (h : 0x1010 ≤ 0x1008). omega arith) (λ (h : 0x1018 ≤ 0x1000). omega arith) clear;
}

-- ── What demand 3 gives ──

abbrev first-file : List ℕ
first-file = file_written first-written

abbrev second_file : List ℕ
second_file = file_written second_written

-- both writes answer 0
pub first-zero : first-written.code ≡ 0
first-zero = sym (number_in by_value first-calls (more-calls ++ (write second_output ∷ last-calls)) (write first-output) start) ∙ ap (λ (l : List ℕ). get_or l 14 0) computed.answers

pub second_zero : second_written.code ≡ 0
second_zero = sym (number_in by_value before_second last-calls (write second_output) start) ∙ ap (λ (l : List ℕ). get_or l 18 0) computed.answers

pub first-reopened : Reopened id 5 switches first_counted first-file
first-reopened =
    subst (λ (gs : List Given). Reopened id 5 switches gs first-file) computed.first-counts
    (demand3 id 5 true true lent calls refl (omega arith) (typed calls computed.words-typed) first-calls (more-calls ++ (write second_output ∷ last-calls)) first-output refl first-zero)

pub second_reopened : Reopened id 5 switches second_counted second_file
second_reopened =
    subst (λ (gs : List Given). Reopened id 5 switches gs second_file) computed.second_counts
    (demand3 id 5 true true lent calls refl (omega arith) (typed calls computed.words-typed) before_second last-calls second_output refl second_zero)

pub first-premises : Premises first_counted
first-premises = premises first_counted computed.first-met

pub second_premises : Premises second_counted
second_premises = premises second_counted computed.second_met

-- frames: in a file of src, with these compilation directory and srcsrv texts; and a symbol's, which has no file
abbrev frame : Text → ℕ → ℕ → ℕ → Text → Option Text → Option Text → Option Text → Shown
frame name entry language number file comp_dir srcsrv_name revision = record {
  name = name;
  entry = entry;
  language = language;
  number = number;
  file = some (record { name = file; directory = some src; comp_dir = comp_dir; srcsrv_name = srcsrv_name; srcsrv_dir = none; revision = revision });
}

abbrev low-at : ℕ → Shown
low-at entry = record { name = 108 ∷ 111 ∷ 119 ∷ []; entry = entry; language = MAX; number = 0; file = none }

-- at 0x1003: pos, inlined into the first root, whose name is undecorated. At 0x1009: the first root's second line, and nothing of the refused trees, whose line 12 covers it too. At 0x1023: the second root
-- alone. At 0x1029: the third root's three, the innermost with the stand-in for its name
abbrev at_1003 : List Shown
at_1003 = frame pos MAX 2 50 prs (some b) none none ∷ frame trk 0x1000 2 10 ars (some b) none none ∷ []

abbrev at_1009 : List Shown
at_1009 = frame trk 0x1000 2 11 ars (some b) none none ∷ []

abbrev at_1023 : List Shown
at_1023 = frame pos 0x1020 3 8 prs none none none ∷ []

abbrev at_1029 : List ℕ → List Shown
at_1029 d = frame d MAX 2 52 prs (some b) (some src) (some (98 ∷ [])) ∷ frame pos MAX 2 51 prs (some b) none none ∷ frame trk 0x1024 2 20 ars (some b) none none ∷ []

pub record Frames : Type 0 where
  pub first_1003 : (d : List ℕ) → Found first-file d 0x1003 at_1003
  pub first_1009 : (d : List ℕ) → Found first-file d 0x1009 at_1009
  pub first_1023 : (d : List ℕ) → Found first-file d 0x1023 at_1023
  pub second_1003 : (d : List ℕ) → Found second_file d 0x1003 at_1003
  pub second_1009 : (d : List ℕ) → Found second_file d 0x1009 at_1009
  pub second_1023 : (d : List ℕ) → Found second_file d 0x1023 at_1023
  pub second_1029 : (d : List ℕ) → Found second_file d 0x1029 (at_1029 d)

pub frames : Frames
unfolding nested_at line_at_lem utf8 chars char_len Utf8Char fits within names.starts_with names.special names.contains names.rfind names.digit names.digits names.value names.number names.parses names.sized names.cut names.prefixed names.undecorated
frames = record {
  first_1003 = λ d. (first-reopened.demanded first-premises first-root (inlinee-row ∷ []) (there here) (line 0x1000 (some 8) 10 ars) here 0x1003 (omega arith, omega arith)).frames d;
  first_1009 = λ d. (first-reopened.demanded first-premises first-root (inlinee-row ∷ []) (there here) (line 0x1008 (some 8) 11 ars) (there here) 0x1009 (omega arith, omega arith)).frames d;
  first_1023 = λ d. (first-reopened.demanded first-premises second_root [] (there (there here)) (line 0x1022 (some 2) 8 prs) (there here) 0x1023 (omega arith, omega arith)).frames d;
  second_1003 = λ d. (second_reopened.demanded second_premises first-root (inlinee-row ∷ []) (there here) (line 0x1000 (some 8) 10 ars) here 0x1003 (omega arith, omega arith)).frames d;
  second_1009 = λ d. (second_reopened.demanded second_premises first-root (inlinee-row ∷ []) (there here) (line 0x1008 (some 8) 11 ars) (there here) 0x1009 (omega arith, omega arith)).frames d;
  second_1023 = λ d. (second_reopened.demanded second_premises second_root [] (there (there here)) (line 0x1022 (some 2) 8 prs) (there here) 0x1023 (omega arith, omega arith)).frames d;
  second_1029 = λ d. (second_reopened.demanded second_premises third_root (inner ∷ innermost ∷ []) (there (there (there (there (there (there (there here))))))) (line 0x1024 (some 16) 20 ars) here 0x1029 (omega arith, omega arith)).frames d;
}

-- no root's line covers these: what the plain tables say, computed. Before the third tree the symbol at 0x1024 reaches on to 0x1029; a symbol begins where the first root ends, and ends between the roots
pub record Elsewhere : Type 0 where
  pub first_1029 : (d : List ℕ) → Found first-file d 0x1029 (low-at 0x1024 ∷ [])
  pub second_1010 : (d : List ℕ) → Found second_file d 0x1010 (low-at 0x1010 ∷ [])
  pub second_1018 : (d : List ℕ) → Found second_file d 0x1018 []
  pub second_1038 : (d : List ℕ) → Found second_file d 0x1038 []

pub elsewhere : Elsewhere
unfolding before place sort intern advance_m set_at_m kid_spans_m unless_held put_end walk_m loop_m entry_m closing_m row_m convert_m start_m named_symbol_m convert_symbol_m convert_op_m run_m model.intern_text model.intern_six model.range_at model.range_put model.begin_row model.locate_line model.begin_symbol model.locate_symbol model.enter_call callers frames_of better best frames_at utf8 chars char_len Utf8Char fits within names.starts_with names.special names.contains names.rfind names.digit names.digits names.value names.number names.parses names.sized names.cut names.prefixed names.undecorated
elsewhere = record {
  first_1029 = λ d. first-reopened.every_address d 0x1029;
  second_1010 = λ d. second_reopened.every_address d 0x1010;
  second_1018 = λ d. second_reopened.every_address d 0x1018;
  second_1038 = λ d. second_reopened.every_address d 0x1038;
}
