-- A LIST FOR K13, and what the plain tables give of it, computed. Symbols that touch a root at its start and at its end, before and after it in the list, and touch each other; gaps of one address; a
-- symbol with an empty name that ends at MAX; one unnamed inside a root, and one above MAX, which don't count. The list meets K13's premises: demand3's GapCalls.
use mathlib.Core.Path.{◌≡◌, refl}
use mathlib.Core.Bool.{true, false}
use mathlib.Core.Option.{none, some}
use mathlib.Core.List.{List, [], ◌∷◌, map}
use Prim.Native.Nat.{ℕ}
use Rattle.text.specs.Utf8.{utf8, chars, char_len, Utf8Char, fits, within}
use Rattle.names.specs.Names as names
use Rattle.model.specs.Basics.{before, place, sort, intern}
use Rattle.model.specs.Rows.{MAX, Text, FunctionRow, SymbolRow, Given, tree_rows, symbol_row}
use Rattle.model.specs.Machine.{advance_m, set_at_m, kid_spans_m, unless_held, put_end, walk_m, loop_m, entry_m, closing_m, row_m, convert_m, start_m, named_symbol_m, convert_symbol_m, convert_op_m, run_m}
use Rattle.model.specs.Converter.{Setup, intern_text, intern_six, range_at, range_put, begin_row, locate_line, begin_symbol, locate_symbol, enter_call, converted}
use Rattle.model.specs.Frames.{Frame, callers, frames_of, better, best, frames_at}
use Rattle.model.proofs.Worked.{plain-setup, trk, pos, ars, prs, b, line, root-row, inlinee-row, frame}

-- ── The list ──

-- `_low`, undecorated `low`
abbrev pub low : Text
low = 108 ∷ 111 ∷ 119 ∷ []

abbrev pub symbol_of_lem : ℕ → ℕ → Text → SymbolRow
symbol_of_lem a z t = record { address = a; size = z; name = some t }

-- a root without lines
abbrev pub bare-row : FunctionRow
bare-row = record { depth = 0; address = 0x1020; size = 16; inline = false; language = 3; name = pos; comp_dir = []; lines = [] }

-- a root whose line starts after its entry
abbrev pub late_row : FunctionRow
late_row = record { depth = 0; address = 0x1040; size = 8; inline = false; language = 3; name = pos; comp_dir = []; lines = line 0x1044 (some 2) 7 prs ∷ [] }

abbrev pub gap-list : List Given
gap-list =
    symbol_row (symbol_of_lem 0x0ff0 16 (95 ∷ low))  -- before the first root in the list, and up to its start
    ∷ tree_rows root-row (inlinee-row ∷ [])  -- the worked tree, 0x1000 to 0x1010
    ∷ symbol_row (record { address = 0x1004; size = 2; name = none })
    ∷ symbol_row (symbol_of_lem 0x1030 8 (95 ∷ low))  -- before the second root in the list, and from its end on
    ∷ tree_rows bare-row []
    ∷ symbol_row (symbol_of_lem 0x1010 16 (95 ∷ low))  -- after both in the list, from the end of the one to the start of the other
    ∷ symbol_row (symbol_of_lem 0x1038 7 pos)  -- from a symbol's end on; one address before the third root
    ∷ tree_rows late_row []
    ∷ symbol_row (symbol_of_lem 0x1049 7 (95 ∷ low))  -- one address after it
    ∷ symbol_row (symbol_of_lem 0xffff_fffe 1 [])
    ∷ symbol_row (symbol_of_lem 0x1_0000_1004 1 (95 ∷ low))
    ∷ []

-- a root whose first line ends with an inlinee, and whose second comes later
abbrev parted_row : FunctionRow
parted_row = record { depth = 0; address = 0x1000; size = 16; inline = false; language = 2; name = trk; comp_dir = b; lines = line 0x1000 (some 6) 10 ars ∷ line 0x100c (some 4) 11 ars ∷ [] }

-- ── What the tables give ──

-- names of symbols are undecorated, those of functions stay
abbrev pub symbols_setup : Setup
symbols_setup = record { functions_on = false; symbols_on = true }

abbrev given-at : List ℕ → List (List Frame)
given-at xs = map (frames_at (converted symbols_setup gap-list)) xs

abbrev symbol-at : Text → ℕ → List Frame
symbol-at t a = record { name = some t; entry = a; language = MAX; number = 0; file = none } ∷ []

abbrev bare-at : ℕ → List Frame
bare-at a = record { name = some pos; entry = a; language = 3; number = 0; file = none } ∷ []

pub record GapFrames : Type 0 where
  -- 0, and just below the first start
  pub below : given-at (0 ∷ 0x0fef ∷ []) ≡ [] ∷ [] ∷ []
  -- the first symbol, and the root that it touches
  pub first : given-at (0x0ff0 ∷ 0x0fff ∷ 0x1000 ∷ 0x1003 ∷ 0x100f ∷ [])
      ≡ symbol-at low 0x0ff0 ∷ symbol-at low 0x0ff0 ∷ (frame trk 0x1000 10 ars ∷ []) ∷ (frame pos MAX 50 prs ∷ frame trk 0x1000 10 ars ∷ []) ∷ (frame trk 0x1000 11 ars ∷ []) ∷ []
  -- the symbol between two roots, the root without lines, and two symbols that touch
  pub between : given-at (0x1010 ∷ 0x101f ∷ 0x1020 ∷ 0x102f ∷ 0x1030 ∷ 0x1037 ∷ 0x1038 ∷ 0x103e ∷ [])
      ≡ symbol-at low 0x1010 ∷ symbol-at low 0x1010 ∷ bare-at 0x1020 ∷ bare-at 0x1020 ∷ symbol-at low 0x1030 ∷ symbol-at low 0x1030 ∷ symbol-at pos 0x1038 ∷ symbol-at pos 0x1038 ∷ []
  -- one address, the third root up to its line, one address, the symbol after it, and more
  pub gaps : given-at (0x103f ∷ 0x1040 ∷ 0x1043 ∷ 0x1048 ∷ 0x1049 ∷ 0x104f ∷ 0x1050 ∷ []) ≡ [] ∷ bare-at 0x1040 ∷ bare-at 0x1040 ∷ [] ∷ symbol-at low 0x1049 ∷ symbol-at low 0x1049 ∷ [] ∷ []
  -- the symbol with the empty name ends at MAX; beyond is nothing
  pub high : given-at (0xffff_fffd ∷ 0xffff_fffe ∷ MAX ∷ 0x1_0000_1004 ∷ 0xffff_ffff_ffff_ffff ∷ [])
      ≡ [] ∷ (record { name = none; entry = 0xffff_fffe; language = MAX; number = 0; file = none } ∷ []) ∷ [] ∷ [] ∷ [] ∷ []
  -- where undecoration is off for symbols
  pub as_given : frames_at (converted plain-setup gap-list) 0x101f ≡ symbol-at (95 ∷ low) 0x1010
  -- in a root, but on no line: none from the inlinee's end to the second line. K13 says nothing of such an address
  pub in_a_root : map (frames_at (converted plain-setup (tree_rows parted_row (inlinee-row ∷ []) ∷ []))) (0x1005 ∷ 0x1006 ∷ 0x100b ∷ 0x100c ∷ 0x1010 ∷ [])
      ≡ (frame pos MAX 50 prs ∷ frame trk 0x1000 10 ars ∷ []) ∷ [] ∷ [] ∷ (frame trk 0x1000 11 ars ∷ []) ∷ [] ∷ []

pub gap-frames : GapFrames
unfolding before place sort intern advance_m set_at_m kid_spans_m unless_held put_end walk_m loop_m entry_m closing_m row_m convert_m start_m named_symbol_m convert_symbol_m convert_op_m run_m intern_text intern_six range_at range_put begin_row locate_line begin_symbol locate_symbol enter_call callers frames_of better best frames_at utf8 chars char_len Utf8Char fits within names.starts_with names.special names.contains names.rfind names.digit names.digits names.value names.number names.parses names.sized names.cut names.prefixed names.undecorated
gap-frames = record { below = refl; first = refl; between = refl; gaps = refl; high = refl; as_given = refl; in_a_root = refl }
