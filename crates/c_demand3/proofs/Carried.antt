-- The record survives between two calls: the words that one call stores are to the next the very converter that the call of `writer` answered. So what is stated over a list of calls by value holds
-- of the exported calls too.
use Prim.Native.Nat.{ℕ, zero, suc, ◌+◌, ◌*◌, ◌/◌, ◌%◌, ◌<◌, ◌≤◌}
use native.Mathlib.Omega.{arith}
use native.Mathlib.Nat.{zero-add}
use mathlib.Core.Bool.{Bool, true, false, cond, ◌&&◌, ◌||◌}
use mathlib.Core.Path.{◌≡◌, refl, sym, ap, ap₂, ◌∙◌, subst}
use mathlib.Core.List.{List, [], ◌∷◌, ◌++◌}
use lib.Dec.{eqb, ltb}
use lib.ListN.{length, get_or, get_or-eq_default}
use lib.Seq.{ext_get_or}
use borrow.Author.Tests.{le-ltb, ltb-true, ltb-false}
use Rattle.slices.proofs.Cases.{both_true}
use Rattle.slices.specs.Bytes.{le, le_at, bytes_at, word_bytes}
use Rattle.slices.proofs.Bytes.{length-words, length_bytes_at, get_d_bytes_at}
use Rattle.rows.specs.Columns.{Columns}
use Rattle.refusals.specs.Refusals.{tree_refusal, optional?}
use Rattle.rows.specs.declared.OptionalPart.{OptionalPart}
use Rattle.model.specs.Machine.{convert_symbol_m}
use Rattle.model.specs.Converter.{input}
use Rattle.memory.specs.Memory.{Memory, Words}
use Rattle.memory.specs.Record.{usable_in, fits?}
use Rattle.steps.specs.Steps.{over_words}
use Rattle.memory.specs.declared.Converter.{Converter}
use Rattle.symbol_call.specs.Calls.{Called, called, setup, finished, symbol_of}
use Rattle.writer.specs.Calls.{rows_converted, tree_counted, tree_of}
use Rattle.memory.specs.Record.{words_of_lem, usable?, begin_of}
use Rattle.steps.specs.Symbols.{symbol_row_lem}
use Rattle.line_rows.specs.Numbers.{unpack_room?}
use Rattle.line_calls.specs.Calls.{LinesCalled, lines_of}
use Rattle.demand3.proofs.Clamped.{by_cond}
use Rattle.slices.proofs.Runs.{sets_in}
use Rattle.c_reading.specs.Stored.{stored}
use Rattle.slices.specs.Slices.{yes, flag_of}
use Rattle.c_words.specs.Record.{id_of, state_of, clamped_of, converter_of, id_words, words_of, Bytes, IdFits}
use Rattle.c_words.specs.Writing.{begin_call, tree_call, lines_call, symbol_call}
use Rattle.c_words.specs.Record.{kept}

-- ── Bytes ──────────────────────────────────────────────────────────────────────────────────────────────────────────────

bytes-append : (xs ys : List ℕ) → Bytes xs → Bytes ys → Bytes (xs ++ ys)
bytes-append [] ys p q = q
bytes-append (x ∷ xs) ys p q = (p.0, bytes-append xs ys p.1 q)

bytes_le : (w v : ℕ) → Bytes (le w v)
unfolding le
bytes_le zero v = tt
bytes_le (suc w) v = (omega arith, bytes_le w (v / 256))

pub bytes-words : (vs : List ℕ) → Bytes (word_bytes vs)
unfolding word_bytes
bytes-words [] = tt
bytes-words (v ∷ vs) = bytes-append (le 4 v) (word_bytes vs) (bytes_le 4 v) (bytes-words vs)

pub byte-below : (s : List ℕ) (i : ℕ) → Bytes s → get_or s i 0 < 256
byte-below [] i p = omega arith
byte-below (b ∷ s) zero p = p.0
byte-below (b ∷ s) (suc i) p = byte-below s i p.1

bytes-at : (n : ℕ) (s : List ℕ) (at : ℕ) → Bytes s → Bytes (bytes_at n s at)
unfolding bytes_at
bytes-at zero s at p = tt
bytes-at (suc n) s at p = (byte-below s at p, bytes-at n s (suc at) p)

-- the bytes of the number that bytes are
le-le_at : (w : ℕ) (s : List ℕ) (at : ℕ) → Bytes s → le w (le_at w s at) ≡ bytes_at w s at
unfolding le le_at bytes_at
le-le_at zero s at p = refl
le-le_at (suc w) s at p =
    let h : get_or s at 0 < 256 = byte-below s at p in
    let low : (get_or s at 0 + 256 * le_at w s (suc at)) % 256 ≡ get_or s at 0 = omega arith in
    let high : (get_or s at 0 + 256 * le_at w s (suc at)) / 256 ≡ le_at w s (suc at) = omega arith in
    ap₂ (λ (x : ℕ) (l : List ℕ). x ∷ l) low (ap (le w) high ∙ le-le_at w s (suc at) p)

bytes_whole : (n : ℕ) (s : List ℕ) → length s ≡ n → bytes_at n s 0 ≡ s
bytes_whole n s e =
    ext_get_or 0 (bytes_at n s 0) s (length_bytes_at n s 0 ∙ sym e)
    (λ i h. let h' : i < n = rw (length_bytes_at n s 0) at h in get_d_bytes_at n s 0 i h' ∙ ap (λ (j : ℕ). get_or s j 0) (zero-add i))

-- ── The record read back ───────────────────────────────────────────────────────────────────────────────────────────────

id-joined : (id : List ℕ) → Bytes id → word_bytes (id_words id) ≡ bytes_at 32 id 0
unfolding word_bytes bytes_at
id-joined id f =
    rw (le-le_at 4 id 0 f, le-le_at 4 id 4 f, le-le_at 4 id 8 f, le-le_at 4 id 12 f, le-le_at 4 id 16 f, le-le_at 4 id 20 f, le-le_at 4 id 24 f, le-le_at 4 id 28 f)

id-back : (id : List ℕ) → IdFits id → word_bytes (id_words id) ≡ id
id-back id f = id-joined id f.bytes ∙ bytes_whole 32 id f.size

yes-back : (b : Bool) → yes (flag_of b) ≡ b
yes-back true = refl
yes-back false = refl

module _ (id : List ℕ) (arch : ℕ) (f g o : Bool) (x i p q c n z : ℕ) where
  abbrev made : Converter
  made = record {
    debug_id = id;
    arch = arch;
    undecorate_functions = f;
    undecorate_symbols = g;
    «open» = o;
    state = record { string_bytes = x; strings = i; files = p; functions = q; call_locations = c; ranges = n };
    clamped_lines = z;
  }

  -- a number of 64 bits is its two halves
  halves : z % 4294967296 + 4294967296 * (z / 4294967296) ≡ z
  halves = omega arith

  made-back : IdFits id → converter_of (words_of made) ≡ made
  unfolding converter_of id_of state_of clamped_of words_of bytes_at
  made-back h = rw (id-back id h, yes-back f, yes-back g, yes-back o, halves)

-- the words of a converter are that converter
pub words_back : (c : Converter) → IdFits c.debug_id → converter_of (words_of c) ≡ c
words_back c h =
    made-back c.debug_id c.arch c.undecorate_functions c.undecorate_symbols c.«open» c.state.string_bytes c.state.strings c.state.files c.state.functions
    c.state.call_locations c.state.ranges c.clamped_lines h

-- ── In a slice ─────────────────────────────────────────────────────────────────────────────────────────────────────────

-- only the first twenty words count
module _ (r r' : List ℕ) (same : (i : ℕ) → i < 20 → get_or r i 0 ≡ get_or r' i 0) where
  record_same : converter_of r ≡ converter_of r'
  unfolding converter_of id_of state_of clamped_of bytes_at
  record_same =
      rw (
        same 0 (omega arith),
        same 1 (omega arith),
        same 2 (omega arith),
        same 3 (omega arith),
        same 4 (omega arith),
        same 5 (omega arith),
        same 6 (omega arith),
        same 7 (omega arith),
        same 8 (omega arith),
        same 9 (omega arith),
        same 10 (omega arith),
        same 11 (omega arith),
        same 12 (omega arith),
        same 13 (omega arith),
        same 14 (omega arith),
        same 15 (omega arith),
        same 16 (omega arith),
        same 17 (omega arith),
        same 18 (omega arith),
        same 19 (omega arith),
      )

words-length : (c : Converter) → length (words_of c) ≡ 20
unfolding words_of
words-length c = refl

-- a record of twenty words or more, after a converter was stored in it, is that converter
pub stored_back : (r : List ℕ) (c : Converter) → 20 ≤ length r → IdFits c.debug_id → converter_of (stored (words_of c) r) ≡ c
stored_back r c h f =
    record_same (stored (words_of c) r) (words_of c)
    (λ i p. let e : length (words_of c) ≡ 20 = words-length c in sets_in (words_of c) r 0 i i (omega arith) (omega arith) (omega arith))
    ∙ words_back c f

-- ── Calls ──────────────────────────────────────────────────────────────────────────────────────────────────────────────

id-fits : (r : List ℕ) → IdFits (id_of r)
unfolding id_of
id-fits r = record { size = length-words (bytes_at 8 r 0) ∙ ap (λ (n : ℕ). 4 * n) (length_bytes_at 8 r 0); bytes = bytes-words (bytes_at 8 r 0) }

id-read : (r : List ℕ) → (converter_of r).debug_id ≡ id_of r
unfolding converter_of
id-read r = refl

-- an open record has its last word
long : (r : List ℕ) → yes (get_or r 19 0) ≡ true → 20 ≤ length r
long r e = go (ltb 19 (length r)) refl
  where
    go : (b : Bool) → ltb 19 (length r) ≡ b → 20 ≤ length r
    go true h = let p : 19 < length r = ltb-true 19 (length r) h in omega arith
    go false h =
        let z : get_or r 19 0 ≡ 0 = get_or-eq_default r 0 {n = 19} (ltb-false 19 (length r) h) in
        let no : ◌≡◌ {A = ℕ} 0 1 = ap flag_of (sym (ap yes z) ∙ e) in
        omega arith

usable-long : (r : List ℕ) (m : Memory) → usable? (converter_of r) m ≡ true → 20 ≤ length r
unfolding usable_in converter_of
usable-long r m h = long r (both_true (yes (get_or r 19 0)) _ h).0

-- after a call that answered o, the record is the converter of o
abbrev Carries : List ℕ → Called → Type 0
Carries r o = converter_of (kept o.code o.converter r) ≡ o.converter

either : (r : List ℕ) → 20 ≤ length r → (b : Bool) → converter_of (cond b (stored (words_of (converter_of r)) r) r) ≡ converter_of r
unfolding converter_of
either r h true = stored_back r (converter_of r) h (id-fits r)
either r h false = refl

module _ (r : List ℕ) (m : Memory) (s : List ℕ) where
  closed-carried : Carries r (called 19 (converter_of r) m s)
  unfolding kept
  closed-carried = refl

  refused-carried : (n : ℕ) → 20 ≤ length r → Carries r (called n (converter_of r) m s)
  unfolding kept
  refused-carried n h = either r h (eqb n 0 || eqb n 17)

finished-carried : (r s : List ℕ) (c : Converter) (w : Words) → 20 ≤ length r → c.debug_id ≡ id_of r → Carries r (finished c s w)
unfolding finished kept
finished-carried r s c w h e =
    let fits : IdFits c.debug_id = subst IdFits (sym e) (id-fits r) in
    by_cond (Carries r) (fits? w) _ _ (λ _. stored_back r _ h fits) (λ _. stored_back r _ h fits)

-- for every record, every content and every length
pub tree-carried : (r : List ℕ) (m : Memory) (s : List ℕ) (k : Columns) → converter_of (tree_call r m s k).words ≡ (tree_of (converter_of r) m s k).converter
unfolding tree_call tree_of
tree-carried r m s k =
    by_cond (Carries r) (usable? (converter_of r) m) _ _
    (λ h. by_cond (Carries r) (eqb (tree_refusal k (length s)) 0) _ _
    (λ _. finished-carried r s (tree_counted (converter_of r) k) (rows_converted (converter_of r) m k) (usable-long r m h) (id-read r))
    (λ _. refused-carried r m s (tree_refusal k (length s)) (usable-long r m h)))
    (λ _. closed-carried r m s)

pub lines-carried : (r : List ℕ) (m : Memory) (s u v : List ℕ) (k : Columns) → converter_of (lines_call r m s u v k).tree.words ≡ (lines_of (converter_of r) m s u v k).called.converter
unfolding lines_call lines_of tree_call
lines-carried r m s u v k =
    let P : LinesCalled → Type 0 = λ o. Carries r o.called in
    by_cond P (usable? (converter_of r) m && eqb (tree_refusal k (length s)) 0) _ _
    (λ h. by_cond P (unpack_room? k u v) _ _
    (λ _. tree-carried r m s k)
    (λ _. refused-carried r m s 16 (usable-long r m (both_true (usable? (converter_of r) m) (eqb (tree_refusal k (length s)) 0) h).0)))
    (λ _. tree-carried r m s k)

pub symbol-carried : (r : List ℕ) (m : Memory) (t : List ℕ) (address size : ℕ) (name : OptionalPart)
    → converter_of (symbol_call r m t address size name).words ≡ (symbol_of (converter_of r) m t address size name).converter
unfolding symbol_call symbol_of
symbol-carried r m t address size name =
    by_cond (Carries r) (usable? (converter_of r) m) _ _
    (λ h. by_cond (Carries r) (optional? t name) _ _
    (λ _. finished-carried r [] (converter_of r) (convert_symbol_m input (over_words (setup (converter_of r))) (symbol_row_lem t address size name) (words_of_lem (converter_of r) m)) (usable-long r m h) (id-read r))
    (λ _. refused-carried r m [] 14 (usable-long r m h)))
    (λ _. closed-carried r m [])

pub begin-carried : (r id : List ℕ) (arch f s : ℕ) (m : Memory) → 20 ≤ length r → Bytes id
    → converter_of (begin_call r id arch f s m).words ≡ (begin_of (bytes_at 32 id 0) arch (yes f) (yes s) m).0
unfolding begin_call begin_of
begin-carried r id arch f s m h p = rw (le-ltb (length r) 20 h) (stored_back r _ h (record { size = length_bytes_at 32 id 0; bytes = bytes-at 32 id 0 p }))
