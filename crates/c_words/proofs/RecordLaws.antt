-- The record's words, read and stored.
use Prim.Native.Nat.{ℕ, ◌+◌, ◌*◌}
use native.Mathlib.Omega.{arith}
use mathlib.Core.Bool.{Bool}
use mathlib.Core.Path.{◌≡◌, refl, ap, ◌∙◌}
use mathlib.Core.List.{List}
use lib.ListN.{get_or, set, replicate}
use lib.Seq.{sets}
use borrow.Author.Tests.{ne_eqb}
use Rattle.errors.specs.declared.Refusal.{Refusal}
use Rattle.errors.specs.declared.Refusal.TheVariants.{InvalidRows, InvalidText, AddressOverflow, ScratchTooSmall, TableFull, OutputTooShort, Closed, TooDeep}
use Rattle.errors.specs.Numbers.{number_lem}
use Rattle.errors.proofs.Laws.{number-not_0}
use Rattle.slices.specs.Bytes.{le, le_at, bytes_at, word_bytes}
use Rattle.memory.specs.declared.State.{State}
use Rattle.memory.specs.declared.Converter.{Converter}
use Rattle.memory.specs.Record.{clamped_lines_lem}
use Rattle.c_reading.specs.Stored.{stored}
use Rattle.slices.specs.Slices.{yes, flag_of}
use Rattle.c_words.specs.Writing.{clamped_call}
use Rattle.c_words.specs.Record.{id_of, state_of, clamped_of, converter_of, id_words, count_words, switch_words, clamped_words, words_of, kept, len_words}

-- ── Read ───────────────────────────────────────────────────────────────────────────────────────────────────────────────

pub word-bytes : (t : List ℕ) (k : ℕ) (r : List ℕ) (v : ℕ) {t₁ : List ℕ} → v ≡ get_or r k 0 → t₁ ≡ sets t (4 * k) (le 4 v) → t₁ ≡ sets t (4 * k) (le 4 (get_or r k 0))
word-bytes t k r v e h = h ∙ ap (λ (n : ℕ). sets t (4 * k) (le 4 n)) e

pub id-read : (r : List ℕ) {t₁ t₂ t₃ t₄ t₅ t₆ t₇ t₈ : List ℕ} → t₁ ≡ sets (replicate 32 0) 0 (le 4 (get_or r 0 0)) → t₂ ≡ sets t₁ 4 (le 4 (get_or r 1 0))
    → t₃ ≡ sets t₂ 8 (le 4 (get_or r 2 0)) → t₄ ≡ sets t₃ 12 (le 4 (get_or r 3 0)) → t₅ ≡ sets t₄ 16 (le 4 (get_or r 4 0)) → t₆ ≡ sets t₅ 20 (le 4 (get_or r 5 0))
    → t₇ ≡ sets t₆ 24 (le 4 (get_or r 6 0)) → t₈ ≡ sets t₇ 28 (le 4 (get_or r 7 0)) → t₈ ≡ id_of r
unfolding id_of word_bytes bytes_at le
id-read r e₁ e₂ e₃ e₄ e₅ e₆ e₇ e₈ = rw (e₈, e₇, e₆, e₅, e₄, e₃, e₂, e₁)

pub state-read : (r : List ℕ) {a b c d e f : ℕ} → a ≡ get_or r 11 0 → b ≡ get_or r 12 0 → c ≡ get_or r 13 0 → d ≡ get_or r 14 0 → e ≡ get_or r 15 0 → f ≡ get_or r 16 0
    → record { string_bytes = a; strings = b; files = c; functions = d; call_locations = e; ranges = f } ≡ state_of r
unfolding state_of
state-read r ea eb ec ed ee ef = rw (ea, eb, ec, ed, ee, ef)

pub clamped_read : (r : List ℕ) (low high : ℕ) → low ≡ get_or r 17 0 → high ≡ get_or r 18 0 → high * 4294967296 + low ≡ clamped_of r
unfolding clamped_of
clamped_read r low high el eh = omega arith

pub converter-read : (r : List ℕ) {i : List ℕ} {s : State} {a u v w n : ℕ} {f g o : Bool} → i ≡ id_of r → s ≡ state_of r → n ≡ clamped_of r → a ≡ get_or r 8 0 → u ≡ get_or r 9 0 → f ≡ yes u
    → v ≡ get_or r 10 0 → g ≡ yes v → w ≡ get_or r 19 0 → o ≡ yes w
    → record { debug_id = i; arch = a; undecorate_functions = f; undecorate_symbols = g; «open» = o; state = s; clamped_lines = n } ≡ converter_of r
unfolding converter_of
converter-read r ei es en ea eu ef ev eg ew eo = rw (ei, es, en, ea, ef, eg, eo, eu, ev, ew)

pub handed_out : (r : List ℕ) {c : Converter} {n : ℕ} → c ≡ converter_of r → n ≡ clamped_lines_lem c → n ≡ clamped_call r
unfolding clamped_call
handed_out r e f = f ∙ ap clamped_lines_lem e

-- ── Stored ─────────────────────────────────────────────────────────────────────────────────────────────────────────────

pub word_of_id : (t : List ℕ) (k : ℕ) (b : List ℕ) (w : ℕ) {t₁ : List ℕ} → w ≡ le_at 4 b (4 * k) → t₁ ≡ set t k w → t₁ ≡ set t k (le_at 4 b (4 * k))
word_of_id t k b w e h = h ∙ ap (λ (v : ℕ). set t k v) e

pub record_stored : (t : List ℕ) (c : Converter) {t₁ t₂ t₃ t₄ t₅ : List ℕ} {w : ℕ} → t₁ ≡ stored (id_words c.debug_id) t → t₂ ≡ sets t₁ 8 (switch_words c)
    → t₃ ≡ sets t₂ 11 (count_words c.state) → t₄ ≡ sets t₃ 17 (clamped_words c.clamped_lines) → w ≡ flag_of c.«open» → t₅ ≡ set t₄ 19 w → t₅ ≡ stored (words_of c) t
unfolding words_of
record_stored t c e₁ e₂ e₃ e₄ ew e₅ = rw (e₅, ew, e₄, e₃, e₂, e₁)

-- "only accepted calls and 17 store it"
pub kept-accepted : (n : ℕ) (c : Converter) (t : List ℕ) {t₁ : List ℕ} → n ≡ 0 → t₁ ≡ stored (words_of c) t → t₁ ≡ kept n c t
unfolding kept
kept-accepted n c t e h = rw (e, h)

pub kept-closed : (n : ℕ) (c : Converter) (t : List ℕ) {t₁ : List ℕ} → n ≡ 17 → t₁ ≡ stored (words_of c) t → t₁ ≡ kept n c t
unfolding kept
kept-closed n c t e h = rw (e, h)

pub kept-refused : (n : ℕ) (c : Converter) (t : List ℕ) → (n ≡ 0 → ⊥) → (n ≡ 17 → ⊥) → t ≡ kept n c t
unfolding kept
kept-refused n c t p q = rw (ne_eqb n 0 p, ne_eqb n 17 q)

-- the length of a file
pub len-given : (n len : ℕ) (l : List ℕ) {l₁ : List ℕ} → n ≡ 0 → l₁ ≡ set l 0 len → l₁ ≡ len_words n len l
unfolding len_words
len-given n len l e h = rw (e, h)

pub len-kept : (n len : ℕ) (l : List ℕ) → (n ≡ 0 → ⊥) → l ≡ len_words n len l
unfolding len_words
len-kept n len l h = rw (ne_eqb n 0 h)

-- ── By what a call answered ────────────────────────────────────────────────────────────────────────────────────────────

pub len-refused : (e : Refusal) (n : ℕ) (l : List ℕ) → l ≡ len_words (number_lem e) n l
unfolding len_words
len-refused e n l = rw (ne_eqb (number_lem e) 0 (number-not_0 e))

-- no refusal but a full table stores the record
pub record-refused : (e : Refusal) (c : Converter) (r : List ℕ) → (e ≡ TableFull → ⊥) → r ≡ kept (number_lem e) c r
unfolding kept
record-refused InvalidRows c r h = refl
record-refused InvalidText c r h = refl
record-refused AddressOverflow c r h = refl
record-refused ScratchTooSmall c r h = refl
record-refused TableFull c r h = absurd (h refl)
record-refused OutputTooShort c r h = refl
record-refused Closed c r h = refl
record-refused TooDeep c r h = refl
