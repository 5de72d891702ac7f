-- The converter's record in twenty words: 0 to 7 the debug id, four bytes a word, little-endian; 8 arch; 9 and 10 the two switches; 11 to 16 what is in
-- use of the six tables; 17 and 18 the count of clamped line rows, low word and high; 19 open.
use Rattle.std.specs.Prelude.{ℕ, ◌+◌, ◌*◌, ◌/◌, ◌%◌, ◌<◌, cond, ◌||◌, ◌≡◌, List, [], ◌∷◌, ◌++◌, eqb, length, get_or}
use Rattle.slices.specs.Bytes.{le_at, bytes_at, word_bytes}
use Rattle.memory.specs.declared.State.{State}
use Rattle.memory.specs.declared.Converter.{Converter}
use Rattle.c_reading.specs.Stored.{stored}
use Rattle.slices.specs.Slices.{yes, flag_of}

-- ── Read ───────────────────────────────────────────────────────────────────────────────────────────────────────────────

unfoldable pub id_of : List ℕ → List ℕ
id_of r = word_bytes (bytes_at 8 r 0)

unfoldable pub state_of : List ℕ → State
state_of r = record {
  string_bytes = get_or r 11 0;
  strings = get_or r 12 0;
  files = get_or r 13 0;
  functions = get_or r 14 0;
  call_locations = get_or r 15 0;
  ranges = get_or r 16 0;
}

unfoldable pub clamped_of : List ℕ → ℕ
clamped_of r = get_or r 17 0 + 4294967296 * get_or r 18 0

-- "A record of fewer than 20 words is a closed converter": its last word is read as 0
unfoldable pub converter_of : List ℕ → Converter
converter_of r = record {
  debug_id = id_of r;
  arch = get_or r 8 0;
  undecorate_functions = yes (get_or r 9 0);
  undecorate_symbols = yes (get_or r 10 0);
  «open» = yes (get_or r 19 0);
  state = state_of r;
  clamped_lines = clamped_of r;
}

-- ── Stored ─────────────────────────────────────────────────────────────────────────────────────────────────────────────

abbrev pub id_words : List ℕ → List ℕ
id_words b = le_at 4 b 0 ∷ le_at 4 b 4 ∷ le_at 4 b 8 ∷ le_at 4 b 12 ∷ le_at 4 b 16 ∷ le_at 4 b 20 ∷ le_at 4 b 24 ∷ le_at 4 b 28 ∷ []

abbrev pub count_words : State → List ℕ
count_words s = s.string_bytes ∷ s.strings ∷ s.files ∷ s.functions ∷ s.call_locations ∷ s.ranges ∷ []

abbrev pub switch_words : Converter → List ℕ
switch_words c = c.arch ∷ flag_of c.undecorate_functions ∷ flag_of c.undecorate_symbols ∷ []

abbrev pub clamped_words : ℕ → List ℕ
clamped_words n = n % 4294967296 ∷ n / 4294967296 ∷ []

unfoldable pub words_of : Converter → List ℕ
words_of c =
    id_words c.debug_id ++ (switch_words c ++ (count_words c.state ++ (clamped_words c.clamped_lines ++ (flag_of c.«open» ∷ []))))

-- "On a refusal other than 17 no word of the record changes"
unfoldable pub kept : ℕ → Converter → List ℕ → List ℕ
kept n c r = cond (eqb n 0 || eqb n 17) (stored (words_of c) r) r

-- "Writing stores in len[0] the file's length where it answers 0; else len is untouched"
unfoldable pub len_words : ℕ → ℕ → List ℕ → List ℕ
len_words n len l = cond (eqb n 0) (stored (len ∷ []) l) l

-- ── What survives between two calls ────────────────────────────────────────────────────────────────────────────────────

-- what the type of a slice of bytes says
abbrev pub Bytes : List ℕ → Type 0
Bytes [] = Unit {0}
Bytes (b ∷ bs) = (b < 256) × Bytes bs

-- what the type of the debug id says
pub record IdFits (id : List ℕ) : Type 0 where
  pub size : length id ≡ 32
  pub bytes : Bytes id
