-- WHAT IT MEANS THAT WORDS HOLD PLAIN TABLES, where n are the lengths of the lent tables: the string section and its index hold the texts; files, functions, call locations and ranges are
-- the rows of words of the plain rows, in the same order; every reference lies within its table. Words that hold tables have room, and the tables fit.
use mathlib.Core.Path.{◌≡◌, refl, sym, ap, ◌∙◌, subst}
use mathlib.Core.Bool.{Bool, true, false, not}
use mathlib.Core.Option.{Option}
use mathlib.Core.Logic.{◌⊎◌, inl, inr}
use mathlib.Core.List.{List, map}
use Prim.Native.Nat.{ℕ, ◌≤◌, ◌<◌}
use native.Mathlib.Omega.{arith}
use lib.Dec.{leb}
use lib.ListN.{length}
use borrow.Author.Tests.{leb-true, le-leb}
use Rattle.slices.proofs.Cases.{false-true, both_true, both_of}
use Rattle.model.specs.Basics.{Entry}
use Rattle.model.specs.Rows.{Text, FunctionRow, SymbolRow}
use Rattle.model.specs.Converter.{File, Function, Location, Tables}
use Rattle.model.specs.Counts.{Capacities, Lent, text_bytes}
use Rattle.model.specs.FileWords.{index_word, text_word}
use Rattle.model.proofs.Intern.{At, Grows}
use Rattle.model.proofs.Always.{Within, InTables}
use Rattle.model.proofs.FileRows.{FileIn}
use Rattle.model.proofs.Grown.{Fits, needs, room}
use Rattle.model.proofs.Couple.{Limits}
use Rattle.model.proofs.Encoded.{Encoding, Goes}
use Rattle.raw.specs.declared.SourceLocation.{SourceLocation}
use Rattle.tables.specs.Table.{capacity_of}
use Rattle.strings.specs.Strings.{text_capacity_of}
use Rattle.table_laws.specs.Plain.{Holds}
use Rattle.table_laws.specs.PlainTexts.{Texts}
use Rattle.tables.proofs.Room.{cap_most}
use Rattle.strings.proofs.TextRoom.{text-room}
use Rattle.table_laws.proofs.TextTables as text-tables
use Rattle.memory.specs.Memory.{Words}
use Rattle.memory.specs.Record.{fits_in_lem, fits?}
use Rattle.steps.proofs.Lengths.{Lens, lens}
use Rattle.demand3.proofs.WordRows.{file_row, function_row, call_row, range_row, source, grows_length, within-later, text_word-later, Few}
use Rattle.demand3.proofs.Interned.{holds-count, bytes_same}

-- ── The capacities of lent tables ──

abbrev pub capacities : Lens → Capacities
capacities n = record {
  texts = capacity_of n.strings;
  bytes = text_capacity_of n.text;
  files = capacity_of n.files;
  functions = capacity_of n.functions;
  calls = capacity_of n.calls;
  ranges = capacity_of n.ranges;
}

-- "at most 16,777,216 rows (text: 268,435,456 bytes)"
pub capacities-lent : (n : Lens) → Lent (capacities n)
capacities-lent n = record {
  texts = cap_most n.strings;
  bytes = (text-room n.text).most;
  files = cap_most n.files;
  functions = cap_most n.functions;
  calls = cap_most n.calls;
  ranges = cap_most n.ranges;
}

-- the test of the counts, taken apart and put together
pub record Room (w : Words) : Type 0 where
  pub bytes : w.st.string_bytes ≤ text_capacity_of (length w.mm.text)
  pub texts : w.st.strings ≤ capacity_of (length w.mm.strings)
  pub files : w.st.files ≤ capacity_of (length w.mm.files)
  pub functions : w.st.functions ≤ capacity_of (length w.mm.functions)
  pub calls : w.st.call_locations ≤ capacity_of (length w.mm.calls)
  pub ranges : w.st.ranges ≤ capacity_of (length w.mm.ranges)

pub room_of : (w : Words) → fits? w ≡ true → Room w
unfolding fits_in_lem
room_of w h =
    let (a, h₁) = both_true (leb w.st.string_bytes (text_capacity_of (length w.mm.text))) _ h in
    let (b, h₂) = both_true (leb w.st.strings (capacity_of (length w.mm.strings))) _ h₁ in
    let (c, h₃) = both_true (leb w.st.files (capacity_of (length w.mm.files))) _ h₂ in
    let (d, h₄) = both_true (leb w.st.functions (capacity_of (length w.mm.functions))) _ h₃ in
    let (e, f) = both_true (leb w.st.call_locations (capacity_of (length w.mm.calls))) (leb w.st.ranges (capacity_of (length w.mm.ranges))) h₄ in
    record { bytes = leb-true _ _ a; texts = leb-true _ _ b; files = leb-true _ _ c; functions = leb-true _ _ d; calls = leb-true _ _ e; ranges = leb-true _ _ f }

pub has_room : (w : Words) → Room w → fits? w ≡ true
unfolding fits_in_lem
has_room w r =
    both_of _ _ (le-leb _ _ r.bytes)
    (both_of _ _ (le-leb _ _ r.texts) (both_of _ _ (le-leb _ _ r.files) (both_of _ _ (le-leb _ _ r.functions) (both_of _ _ (le-leb _ _ r.calls) (le-leb _ _ r.ranges)))))

abbrev pub full : Words → Bool
full w = not (fits? w)

pub no_room : (w : Words) → (Room w → ⊥) → full w ≡ true
no_room w h = go (fits? w) refl
  where
    go : (b : Bool) → fits? w ≡ b → full w ≡ true
    go true e = absurd (h (room_of w e))
    go false e = ap not e

pub full-room : (w : Words) → full w ≡ true → Room w → ⊥
full-room w h r = let e : fits? w ≡ true = has_room w r in false-true (sym (ap not e) ∙ h)

-- once full, always: what leaves room had room
pub stays-full : (w u : Words) → (Room u → Room w) → full w ≡ true → full u ≡ true
stays-full w u back h = no_room u (λ r. full-room w h (back r))

-- ── Every reference within its table ──

pub record Inside (s : Tables) : Type 0 where
  pub files : (i : ℕ) (x : File) → At s.files i x → FileIn (length s.texts) x
  pub functions : (i : ℕ) (f : Function) → At s.functions i f → Within f.name (length s.texts)
  pub calls : (i : ℕ) (l : Location) → At s.calls i l → InTables s l
  pub ranges : (i : ℕ) (e : Entry Location) → At s.ranges i e → InTables s e.value

-- ── The encoding ──

pub record Enc (n : Lens) (s : Tables) (w : Words) : Type 0 where
  pub lent : lens w ≡ n
  pub texts : Texts w.mm.text w.mm.strings w.st.string_bytes w.st.strings s.texts
  pub files : Holds 6 w.mm.files w.st.files (map (file_row s.texts) s.files)
  pub functions : Holds 6 w.mm.functions w.st.functions (map (function_row s.texts) s.functions)
  pub calls : Holds 6 w.mm.calls w.st.call_locations (map call_row s.calls)
  pub ranges : Holds 1 w.mm.ranges w.st.ranges (map range_row s.ranges)
  pub inside : Inside s

-- a reference to a text and its word
abbrev pub TextIs : List Text → Option ℕ → ℕ → Type 0
TextIs ts r v = Within r (length ts) × (v ≡ text_word ts r)

pub text-is-later : (ts us : List Text) → Grows ts us → (r : Option ℕ) (v : ℕ) → TextIs ts r v → TextIs us r v
text-is-later ts us g r v h = (within-later r _ _ (grows_length ts us g) h.0, h.1 ∙ sym (text_word-later ts us g r h.0))

-- a location by value, a call location and a function by index, a text by offset; none of it needs numbers to be small, so rows and keys are any
abbrev pub encoding : Lens → Encoding ℕ ℕ SourceLocation ℕ Words
encoding n = record {
  Enc = Enc n;
  full = full;
  Loc = λ s l l'. InTables s l × (l' ≡ source l);
  Cal = λ s c c'. Within c (length s.calls) × (c' ≡ index_word c);
  Fun = λ s r r'. (r < length s.functions) × (r' ≡ r);
  Txt = λ s p p'. TextIs s.texts p p';
}

abbrev pub any : Limits FunctionRow SymbolRow
any = record { Row = λ d q. Unit {0}; Symbol = λ y. Unit {0}; Key = λ k. Unit {0} }

-- ── Words that hold tables have room, and the tables fit ──

module _ (n : Lens) (s : Tables) (w : Words) (h : Enc n s w) where
  pub enc-room : Room w
  enc-room = record { bytes = h.texts.room; texts = h.texts.row_room; files = h.files.room; functions = h.functions.room; calls = h.calls.room; ranges = h.ranges.room }

  -- the counts
  pub count-texts : length s.texts ≡ w.st.strings
  count-texts = text-tables.count-is w.mm.text w.mm.strings w.st.string_bytes w.st.strings s.texts h.texts

  pub count-bytes : text_bytes s.texts ≡ w.st.string_bytes
  count-bytes = sym (bytes_same s.texts) ∙ sym h.texts.size

  pub count-files : length s.files ≡ w.st.files
  count-files = holds-count (file_row s.texts) 6 w.mm.files w.st.files s.files h.files

  pub count-functions : length s.functions ≡ w.st.functions
  count-functions = holds-count (function_row s.texts) 6 w.mm.functions w.st.functions s.functions h.functions

  pub count-calls : length s.calls ≡ w.st.call_locations
  count-calls = holds-count call_row 6 w.mm.calls w.st.call_locations s.calls h.calls

  pub count-ranges : length s.ranges ≡ w.st.ranges
  count-ranges = holds-count range_row 1 w.mm.ranges w.st.ranges s.ranges h.ranges

  abbrev own : Capacities
  own = capacities (lens w)

  own-fits : Fits own s
  own-fits = record {
    texts = omega (arith, count-texts, enc-room.texts);
    bytes = omega (arith, count-bytes, enc-room.bytes);
    files = omega (arith, count-files, enc-room.files);
    functions = omega (arith, count-functions, enc-room.functions);
    calls = omega (arith, count-calls, enc-room.calls);
    ranges = omega (arith, count-ranges, enc-room.ranges);
  }

  pub enc-fits : Fits (capacities n) s
  enc-fits = subst (λ (m : Lens). Fits (capacities m) s) h.lent own-fits

  pub few : Few s
  few =
      let c : Lent (capacities n) = capacities-lent n in
      let f : Fits (capacities n) s = enc-fits in
      record { bytes = omega (arith, f.bytes, c.bytes); files = omega (arith, f.files, c.files); functions = omega (arith, f.functions, c.functions); calls = omega (arith, f.calls, c.calls) }

-- an operation: it leaves words that hold the tables, with what is to be shown of the answers; or words with no room, and the tables don't fit
abbrev pub Went : Lens → Tables → Words → Type 0 → Type 0
Went n t u r = (Enc n t u × r) ⊎ ((Room u → ⊥) × (Fits (capacities n) t → ⊥))

pub went : (n : Lens) (t : Tables) (u : Words) {r : Type 0} → Went n t u r → Goes (capacities n) (encoding n) t u r
went n t u (inl (h, v)) = record {
  fitting = λ e. (ap not (has_room u (enc-room n t u h)), h, v);
  exceeding = λ e. false-true (sym e ∙ room (capacities n) t (enc-fits n t u h));
}
went n t u (inr (a, b)) = record { fitting = λ e. absurd (b (needs (capacities n) t e)); exceeding = λ e. no_room u a }
