-- The rules of the last end, each computed on the reference converter.
use Rattle.std.specs.Prelude.{◌≡◌, refl, false, true, List, [], ◌∷◌, map, ℕ}
use Rattle.std.proofs.Math.Option.{none, some}
use Rattle.text.specs.Utf8.{utf8, chars, char_len, Utf8Char, fits, within}
use Rattle.model.specs.Basics.{before, place, sort, Entry, intern}
use Rattle.model.specs.Rows.{LineRow, FunctionRow, Given, tree_rows, symbol_row}
use Rattle.model.specs.Machine.{advance_m, set_at_m, kid_spans_m, unless_held, put_end, walk_m, loop_m, entry_m, closing_m, row_m, start_m}
use Rattle.model.specs.Machine.{named_symbol_m, convert_symbol_m}
use Rattle.model.specs.Converter.{Setup, Location, Tables, nothing, intern_text, intern_six, range_at, range_put}
use Rattle.model.specs.Converter.{begin_row, locate_line, begin_symbol, locate_symbol, enter_call}
use Rattle.last_end.specs.Reference.{row_r, convert_r, symbol_r, op_r, run_r, referred, last_end, with_sentinel}

abbrev setup : Setup
setup = record { functions_on = false; symbols_on = false }

abbrev line : ℕ → ℕ → LineRow
line a z = record { address = a; size = some z; number = 1; name = 97 ∷ []; directory = []; srcsrv_name = none; srcsrv_dir = none; revision = none }

abbrev root : ℕ → ℕ → List LineRow → FunctionRow
root a z ls = record { depth = 0; address = a; size = z; inline = false; language = 2; name = 65 ∷ []; comp_dir = []; lines = ls }

abbrev kid : ℕ → ℕ → FunctionRow
kid a z = record { depth = 1; address = a; size = z; inline = true; language = 2; name = 66 ∷ []; comp_dir = []; lines = line a 2 ∷ [] }

-- a function with no line, from a on
abbrev function : ℕ → ℕ → Given
function a z = tree_rows (root a z []) []

abbrev sym : ℕ → Given
sym a = symbol_row (record { address = a; size = 0; name = some (67 ∷ []) })

abbrev starts : Tables → List ℕ
starts s = map (λ (e : Entry Location). e.key) s.ranges

-- the tables after a function from 16 on, which has a location at 16
abbrev from_16 : Tables
from_16 = (referred setup (function 16 16 ∷ [])).tables

pub record Corners : Type 0 where
  -- a function's end sets it; a later end that is less leaves it, one that is greater moves it
  pub set : last_end setup (function 16 16 ∷ []) ≡ some 32
  pub greater_kept : last_end setup (function 16 16 ∷ function 0 8 ∷ []) ≡ some 32
  pub greater_taken : last_end setup (function 16 16 ∷ function 64 16 ∷ []) ≡ some 80
  -- a named symbol below it leaves it, and one at or above it clears it; where it is unset, it stays so
  pub below_kept : last_end setup (function 16 16 ∷ sym 31 ∷ []) ≡ some 32
  pub cleared_at : last_end setup (function 16 16 ∷ sym 32 ∷ []) ≡ none
  pub cleared_above : last_end setup (function 16 16 ∷ sym 64 ∷ []) ≡ none
  pub unset_stays : last_end setup (sym 0 ∷ []) ≡ none
  -- unset counts as 0: any end sets it again, 0 too (a function's end is cut to 32 bits)
  pub set_again : last_end setup (function 16 16 ∷ sym 32 ∷ function 0 8 ∷ []) ≡ some 8
  pub end_zero : last_end setup (function 0xfffffff0 16 ∷ []) ≡ some 0
  -- an inlinee's end counts as a function's, where it is visited; a skipped row's does not, nor an unnamed symbol's address
  pub inlinee : last_end setup (tree_rows (root 16 16 (line 16 16 ∷ [])) (kid 18 30 ∷ []) ∷ []) ≡ some 48
  pub not_visited : last_end setup (tree_rows (root 16 16 []) (kid 18 30 ∷ []) ∷ []) ≡ some 32
  pub skipped : last_end setup (function 16 16 ∷ function 64 0 ∷ []) ≡ some 32
  pub unnamed : last_end setup (function 16 16 ∷ symbol_row (record { address = 64; size = 0; name = none }) ∷ []) ≡ some 32
  -- the branch at writing adds a last end that is no start, and leaves one that is: a reference made up by hand
  pub adds : starts (with_sentinel setup (record { tables = nothing; last = some 7 })) ≡ 7 ∷ []
  pub leaves : (with_sentinel setup (record { tables = from_16; last = some 16 })).ranges ≡ from_16.ranges

pub corners : Corners
unfolding row_r convert_r symbol_r op_r run_r with_sentinel
    before place sort intern advance_m set_at_m kid_spans_m unless_held put_end walk_m loop_m entry_m closing_m row_m start_m named_symbol_m convert_symbol_m
    intern_text intern_six range_at range_put begin_row locate_line begin_symbol locate_symbol enter_call utf8 chars char_len Utf8Char fits within
corners = record {
  set = refl;
  greater_kept = refl;
  greater_taken = refl;
  below_kept = refl;
  cleared_at = refl;
  cleared_above = refl;
  unset_stays = refl;
  set_again = refl;
  end_zero = refl;
  inlinee = refl;
  not_visited = refl;
  skipped = refl;
  unnamed = refl;
  adds = refl;
  leaves = refl;
}
