-- One law for each step: with what its callee left (`e`) the words are those of the definition.
use mathlib.Core.Path.{◌≡◌, ◌∙◌, ap}
use mathlib.Core.List.{List}
use Prim.Native.Nat.{ℕ}
use Rattle.model.specs.Rows.{Text, cut32}
use Rattle.model.specs.Converter.{Six}
use Rattle.raw.specs.declared.SourceLocation.{SourceLocation}
use Rattle.tables.specs.Table.{Left, left, insert_of}
use Rattle.tables.specs.Ranges.{range_row_lem, put_of}
use Rattle.strings.specs.Strings.{StringsLeft, strings_left, insert_text_of}
use Rattle.tables.specs.declared.Row.{Row}
use Rattle.tables.specs.declared.Inserted.{Inserted}
use Rattle.tables.specs.declared.ranges.Change.{Change}
use Rattle.strings.specs.declared.Stored.{Stored}
use Rattle.memory.specs.Memory.{Words}
use Rattle.memory.specs.Record.{texts_become, files_become, functions_become, calls_become, ranges_become}
use Rattle.steps.specs.Steps.{gave, store, add_function, function_row_lem, add_file_row, add_call, location_row_lem, put_range, begin_named, store_six, store_row, locate_six, location}

-- ── One table ──────────────────────────────────────────────────────────────────────────────────────────────────────────

module _ (w : Words) where
  pub store_law : (t : List ℕ) {x i : List ℕ} {got : Stored} → strings_left got x i ≡ insert_text_of w.mm.text w.mm.strings w.st.string_bytes w.st.strings t
      → gave got.offset (texts_become w got.bytes got.count x i) ≡ store t w
  unfolding store
  store_law t e = ap (λ (r : StringsLeft). gave r.got.offset (texts_become w r.got.bytes r.got.count r.text r.strings)) e

  pub function_law : (name entry lang : ℕ) {g : List ℕ} {got : Inserted} → left got g ≡ insert_of 6 w.mm.functions w.st.functions (function_row_lem name entry lang)
      → gave got.index (functions_become w got.count g) ≡ add_function name entry lang w
  unfolding add_function
  function_law name entry lang e = ap (λ (r : Left Inserted). gave r.got.index (functions_become w r.got.count r.table)) e

  pub file_law : (row : Row) {f : List ℕ} {got : Inserted} → left got f ≡ insert_of 6 w.mm.files w.st.files row → gave got.index (files_become w got.count f) ≡ add_file_row row w
  unfolding add_file_row
  file_law row e = ap (λ (r : Left Inserted). gave r.got.index (files_become w r.got.count r.table)) e

  pub call_law : (l : SourceLocation) {c : List ℕ} {got : Inserted} → left got c ≡ insert_of 6 w.mm.calls w.st.call_locations (location_row_lem l)
      → gave got.index (calls_become w got.count c) ≡ add_call l w
  unfolding add_call
  call_law l e = ap (λ (r : Left Inserted). gave r.got.index (calls_become w r.got.count r.table)) e

  pub range_law : (k : ℕ) (l : SourceLocation) {n : List ℕ} {got : Change} → left got n ≡ put_of w.mm.ranges w.st.ranges (range_row_lem k l)
      → ranges_become w got.count n ≡ put_range k l w
  unfolding put_range
  range_law k l e = ap (λ (r : Left Change). ranges_become w r.got.count r.table) e

-- ── Several tables ─────────────────────────────────────────────────────────────────────────────────────────────────────

-- a text that is another's
pub store_same : (s : Words) {t u : Text} {r : ℕ × Words} → r ≡ store t s → t ≡ u → r ≡ store u s
store_same s e h = e ∙ ap (λ (v : Text). store v s) h

-- a name, and the function
pub begin_law : (name : Text) (entry lang : ℕ) (s : Words) {shown : Text} {a : ℕ} {t : Words} {r : ℕ × Words} → shown ≡ name → gave a t ≡ store shown s → r ≡ add_function a entry lang t
    → r ≡ begin_named name entry lang s
unfolding begin_named
begin_law name entry lang s h e d = d ∙ ap (λ (p : ℕ × Words). add_function p.0 entry lang p.1) (store_same s e h)

-- the six texts of a line, one after the other
pub six_law : (x : Six Text) (s : Words) {a b c d e f : Words} {na nb nc nd ne nf : ℕ}
    → gave na a ≡ store x.name s → gave nb b ≡ store x.directory a → gave nc c ≡ store x.comp_dir b
    → gave nd d ≡ store x.srcsrv_name c → gave ne e ≡ store x.srcsrv_dir d → gave nf f ≡ store x.revision e
    → gave (record { a = nc; b = nb; c = na; d = nd; e = ne; f = nf }) f ≡ store_row x s
unfolding store_six
six_law x s e1 e2 e3 e4 e5 e6 = rw (← e1, ← e2, ← e3, ← e4, ← e5, ← e6)

-- they, and the file
pub locate_law : (x : Six Text) (number function into : ℕ) (s : Words) {row : Row} {t : Words} {i : ℕ} {u : Words} → gave row t ≡ store_row x s → gave i u ≡ add_file_row row t
    → gave (location i (cut32 number) function into) u ≡ locate_six x number function into s
unfolding locate_six
locate_law x number function into s e d =
    ap (λ (p : ℕ × Words). gave (location p.0 (cut32 number) function into) p.1) (d ∙ ap (λ (p : Row × Words). add_file_row p.0 p.1) e)
