-- Document 01's corners of "Converter", each computed on the plain converter.
use mathlib.Core.Path.{◌≡◌, refl}
use mathlib.Core.Bool.{true, false}
use mathlib.Core.Option.{none, some}
use mathlib.Core.List.{List, [], ◌∷◌, map}
use Prim.Native.Nat.{ℕ}
use lib.ListN.{length}
use Rattle.text.specs.Utf8.{utf8, chars, char_len, Utf8Char, fits, within}
use Rattle.names.specs.Names.{undecorated, starts_with, contains, special, rfind, cut, sized, parses, number, digits, digit, value, prefixed}
use Rattle.model.specs.Basics.{before, place, sort, Entry, intern}
use Rattle.model.specs.Rows.{MAX, Text, LineRow, FunctionRow, Given, tree_rows, symbol_row, boundaries}
use Rattle.model.specs.Machine.{advance_m, set_at_m, kid_spans_m, unless_held, put_end, walk_m, loop_m, entry_m, closing_m, row_m, convert_m, start_m, named_symbol_m, convert_symbol_m, convert_op_m, run_m}
use Rattle.model.specs.Converter.{Setup, Location, nowhere, at, Tables, nothing, intern_text, intern_six, range_at, range_put, begin_row, locate_line, begin_symbol, locate_symbol, enter_call, converted}

abbrev setup : Setup
setup = record { functions_on = false; symbols_on = false }

abbrev line : ℕ → ℕ → ℕ → LineRow
line a z f = record { address = a; size = some z; number = f; name = f ∷ []; directory = []; srcsrv_name = none; srcsrv_dir = some []; revision = none }

abbrev root : ℕ → ℕ → List LineRow → FunctionRow
root a z ls = record { depth = 0; address = a; size = z; inline = false; language = 2; name = 65 ∷ []; comp_dir = 47 ∷ []; lines = ls }

abbrev named : Text → Text → List LineRow → FunctionRow
named t d ls = record { depth = 0; address = 16; size = 16; inline = false; language = 2; name = t; comp_dir = d; lines = ls }

abbrev kid : ℕ → ℕ → List LineRow → FunctionRow
kid a z ls = record { depth = 1; address = a; size = z; inline = true; language = 2; name = 66 ∷ []; comp_dir = 47 ∷ []; lines = ls }

abbrev tree : FunctionRow → List FunctionRow → Given
tree q rs = tree_rows q rs

abbrev sym : ℕ → ℕ → Given
sym a z = symbol_row (record { address = a; size = z; name = some (67 ∷ []) })

abbrev starts : Tables → List ℕ
starts s = map (λ (e : Entry Location). e.key) s.ranges

pub record Corners : Type 0 where
  -- M4, M5
  pub m4 : boundaries (record { address = MAX; size = none; number = 0; name = []; directory = []; srcsrv_name = none; srcsrv_dir = none; revision = none }) ≡ record { from = MAX; to = MAX }
  pub m5 : (boundaries (record { address = 4294967290; size = some 5; number = 0; name = []; directory = []; srcsrv_name = none; srcsrv_dir = none; revision = none })).to ≡ MAX
  -- the address in the skip is cut, not clamped: 2^32 + 12 is skipped after a line that ends at 20, and 2^32 + 30 isn't; that one is empty, and stores its file
  pub cut_skips : length (converted setup (tree (root 10 10 (line 10 10 1 ∷ line 0x1_0000_000c 4 2 ∷ [])) [] ∷ [])).files ≡ 1
  pub empty_stores : length (converted setup (tree (root 10 10 (line 10 10 1 ∷ line 0x1_0000_001e 4 2 ∷ [])) [] ∷ [])).files ≡ 2
  -- a skipped inlinee's lines still mark its caller's ranges: 22 is a start, and 18 isn't; its name isn't stored
  pub skipped_marks : starts (converted setup (tree (root 16 16 (line 16 16 1 ∷ [])) (kid 18 0 (line 18 4 2 ∷ []) ∷ []) ∷ [])) ≡ 16 ∷ 22 ∷ 32 ∷ []
  -- the inner walk may fall below the line's start and insert a range there
  pub walk-below : starts (converted setup (tree (root 2 18 (line 10 10 1 ∷ [])) (kid 2 2 (line 2 2 2 ∷ []) ∷ []) ∷ [])) ≡ 4 ∷ 2 ∷ 20 ∷ []
  -- no call location made: the inlinee isn't visited, and its function isn't there
  pub not_visited : length (converted setup (tree (root 2 18 []) (kid 2 2 (line 2 2 2 ∷ []) ∷ []) ∷ [])).functions ≡ 1
  -- a function's end is cut to 32 bits: 2^32 is 0
  pub end-cut : starts (converted setup (tree (root 0xfffffff0 16 []) [] ∷ [])) ≡ 0xfffffff0 ∷ 0 ∷ []
  -- line numbers too
  pub number-is-cut : range_at (converted setup (tree (root 16 16 (line 16 16 0x1_0000_0007 ∷ [])) [] ∷ [])).ranges 16 ≡ some (at (some 0) 7 0 none)
  -- a compilation directory that isn't UTF-8 is absent, and isn't stored (ED A0 80 is not: M12)
  pub not-utf8 : (converted setup (tree (named (65 ∷ []) (0xed ∷ 0xa0 ∷ 0x80 ∷ []) (line 16 16 1 ∷ [])) [] ∷ [])).texts ≡ (65 ∷ []) ∷ (1 ∷ []) ∷ []
  -- names are undecorated where that is on, functions and symbols separately: `_A` is stored as it is, or as `A`
  pub switches : map (λ (x : Setup). (converted x (tree (named (95 ∷ 65 ∷ []) [] []) [] ∷ symbol_row (record { address = 64; size = 0; name = some (95 ∷ 67 ∷ []) }) ∷ [])).texts)
      (record { functions_on = false; symbols_on = true } ∷ record { functions_on = true; symbols_on = false } ∷ []) ≡ ((95 ∷ 65 ∷ []) ∷ (67 ∷ []) ∷ []) ∷ ((65 ∷ []) ∷ (95 ∷ 67 ∷ []) ∷ []) ∷ []
  -- a symbol doesn't replace a function's location; its text is stored all the same, and its end put
  pub not_replaced : converted setup (tree (root 16 16 []) [] ∷ sym 16 32 ∷ [])
      ≡ record {
        texts = (65 ∷ []) ∷ (67 ∷ []) ∷ [];
        files = [];
        functions = record { name = some 0; entry = 16; language = 2 } ∷ [];
        calls = [];
        ranges = record { key = 16; value = at none 0 0 none } ∷ record { key = 32; value = nowhere } ∷ record { key = 48; value = nowhere } ∷ [];
      }
  -- it replaces the empty mapping, in place
  pub end_replaced : converted setup (tree (root 16 16 []) [] ∷ sym 32 0 ∷ [])
      ≡ record {
        texts = (65 ∷ []) ∷ (67 ∷ []) ∷ [];
        files = [];
        functions = record { name = some 0; entry = 16; language = 2 } ∷ record { name = some 1; entry = 32; language = MAX } ∷ [];
        calls = [];
        ranges = record { key = 16; value = at none 0 0 none } ∷ record { key = 32; value = at none 0 1 none } ∷ [];
      }
  -- an unnamed symbol, and one above MAX, changes nothing; an end above MAX isn't put
  pub nothing-changed : converted setup (symbol_row (record { address = 5; size = 1; name = none }) ∷ sym 0x1_0000_0000 1 ∷ []) ≡ nothing
  pub straddles : starts (converted setup (sym 0xfffffff0 16 ∷ sym 0xfffffff8 7 ∷ [])) ≡ 0xfffffff0 ∷ 0xfffffff8 ∷ MAX ∷ []

pub corners : Corners
unfolding before place sort intern advance_m set_at_m kid_spans_m unless_held put_end walk_m loop_m entry_m closing_m row_m convert_m start_m named_symbol_m convert_symbol_m convert_op_m run_m intern_text intern_six range_at range_put begin_row locate_line begin_symbol locate_symbol enter_call utf8 chars char_len Utf8Char fits within undecorated starts_with contains special rfind cut sized parses number digits digit value prefixed
corners = record { m4 = refl; m5 = refl; cut_skips = refl; empty_stores = refl; skipped_marks = refl; walk-below = refl; not_visited = refl; end-cut = refl; number-is-cut = refl; not-utf8 = refl; switches = refl; not_replaced = refl; end_replaced = refl; nothing-changed = refl; straddles = refl }
