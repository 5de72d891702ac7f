-- Document 01's small worked file, from rows to tables to frames, by computation.
use mathlib.Core.Path.{◌≡◌, refl}
use mathlib.Core.Bool.{true, false}
use mathlib.Core.Option.{Option, none, some}
use mathlib.Core.List.{List, [], ◌∷◌, map}
use Prim.Native.Nat.{ℕ}
use Rattle.text.specs.Leb128.{encoded_in, encoded}
use Rattle.text.specs.Utf8.{utf8, chars, char_len, Utf8Char, fits, within}
use Rattle.model.specs.Basics.{before, place, sort, Entry, intern}
use Rattle.model.specs.Rows.{MAX, Text, LineRow, FunctionRow, Given, tree_rows}
use Rattle.model.specs.Machine.{advance_m, set_at_m, kid_spans_m, unless_held, put_end, walk_m, loop_m, entry_m, closing_m, row_m, convert_m, start_m, named_symbol_m, convert_symbol_m, convert_op_m, run_m}
use Rattle.model.specs.Converter.{Setup, File, Location, nowhere, at, intern_text, intern_six, range_at, range_put, begin_row, locate_line, begin_symbol, locate_symbol, enter_call, converted}
use Rattle.model.specs.Frames.{Frame, callers, frames_of, better, best, frames_at}
use Rattle.model.specs.Counts.{text_size, text_offset}
use Rattle.model.specs.Written.{place_range, by_start, as_written, count, met?, follow, frames_from, looked_up}

abbrev pub plain-setup : Setup
plain-setup = record { functions_on = false; symbols_on = false }

abbrev pub trk : Text
trk = 116 ∷ 114 ∷ 107 ∷ []

abbrev pub pos : Text
pos = 112 ∷ 111 ∷ 115 ∷ []

abbrev pub ars : Text
ars = 97 ∷ 46 ∷ 114 ∷ 115 ∷ []

abbrev pub prs : Text
prs = 112 ∷ 46 ∷ 114 ∷ 115 ∷ []

abbrev pub src : Text
src = 115 ∷ 114 ∷ 99 ∷ []

abbrev pub b : Text
b = 47 ∷ 98 ∷ []

abbrev pub line : ℕ → Option ℕ → ℕ → Text → LineRow
line a z n f = record { address = a; size = z; number = n; name = f; directory = src; srcsrv_name = none; srcsrv_dir = none; revision = none }

abbrev pub root-row : FunctionRow
root-row = record { depth = 0; address = 0x1000; size = 16; inline = false; language = 2; name = trk; comp_dir = b; lines = line 0x1000 (some 8) 10 ars ∷ line 0x1008 (some 8) 11 ars ∷ [] }

abbrev pub inlinee-row : FunctionRow
inlinee-row = record { depth = 1; address = 0x1002; size = 4; inline = true; language = 2; name = pos; comp_dir = b; lines = line 0x1002 (some 4) 50 prs ∷ [] }

abbrev pub worked : List Given
worked = tree_rows root-row (inlinee-row ∷ []) ∷ []

abbrev entry : ℕ → Location → Entry Location
entry k l = record { key = k; value = l }

abbrev file : ℕ → ℕ → ℕ → File
file n d c = record { name = some n; directory = some d; comp_dir = some c; srcsrv_name = none; srcsrv_dir = none; revision = none }

abbrev pub frame : Text → ℕ → ℕ → Text → Frame
frame f e n p = record { name = some f; entry = e; language = 2; number = n; file = some (record { name = some p; directory = some src; comp_dir = some b; srcsrv_name = none; srcsrv_dir = none; revision = none }) }

pub record Worked : Type 0 where
  pub tables : converted plain-setup worked
      ≡ record {
        texts = trk ∷ ars ∷ src ∷ b ∷ pos ∷ prs ∷ [];
        files = file 1 2 3 ∷ file 5 2 3 ∷ [];
        functions = record { name = some 0; entry = 0x1000; language = 2 } ∷ record { name = some 4; entry = MAX; language = 2 } ∷ [];
        calls = at (some 0) 10 0 none ∷ [];
        ranges = entry 0x1000 (at (some 0) 10 0 none) ∷ entry 0x1006 (at (some 0) 10 0 none) ∷ entry 0x1008 (at (some 0) 11 0 none) ∷ entry 0x1010 nowhere ∷ entry 0x1002 (at (some 1) 50 1 (some 0)) ∷ [];
      }
  -- the starts of the file, and its 25 bytes of texts
  pub starts : map (λ (e : Entry Location). e.key) (as_written (converted plain-setup worked)).ranges ≡ 0x1000 ∷ 0x1002 ∷ 0x1006 ∷ 0x1008 ∷ 0x1010 ∷ []
  pub offsets : map (text_offset (converted plain-setup worked).texts) (0 ∷ 1 ∷ 2 ∷ 3 ∷ 4 ∷ 5 ∷ 6 ∷ []) ≡ 0 ∷ 4 ∷ 9 ∷ 13 ∷ 16 ∷ 20 ∷ 25 ∷ []
  -- M1, M2, M3 and other addresses: in the plain tables, and in those of the file
  pub frames : map (frames_at (converted plain-setup worked)) (0x0fff ∷ 0x1000 ∷ 0x1003 ∷ 0x1007 ∷ 0x100f ∷ 0x1010 ∷ [])
      ≡ [] ∷ (frame trk 0x1000 10 ars ∷ []) ∷ (frame pos MAX 50 prs ∷ frame trk 0x1000 10 ars ∷ []) ∷ (frame trk 0x1000 10 ars ∷ []) ∷ (frame trk 0x1000 11 ars ∷ []) ∷ [] ∷ []
  pub looked_up : map (looked_up (as_written (converted plain-setup worked))) (0x0fff ∷ 0x1000 ∷ 0x1003 ∷ 0x1007 ∷ 0x100f ∷ 0x1010 ∷ 0x1_0000_0000 ∷ [])
      ≡ [] ∷ (frame trk 0x1000 10 ars ∷ []) ∷ (frame pos MAX 50 prs ∷ frame trk 0x1000 10 ars ∷ []) ∷ (frame trk 0x1000 10 ars ∷ []) ∷ (frame trk 0x1000 11 ars ∷ []) ∷ [] ∷ [] ∷ []

pub worked-file : Worked
unfolding before place sort intern advance_m set_at_m kid_spans_m unless_held put_end walk_m loop_m entry_m closing_m row_m convert_m start_m named_symbol_m convert_symbol_m convert_op_m run_m intern_text intern_six range_at range_put begin_row locate_line begin_symbol locate_symbol enter_call callers frames_of better best frames_at place_range by_start count met? follow frames_from looked_up encoded_in encoded text_size utf8 chars char_len Utf8Char fits within
worked-file = record { tables = refl; starts = refl; offsets = refl; frames = refl; looked_up = refl }
