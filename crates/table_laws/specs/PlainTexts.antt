-- The string table over a plain list of texts, and when the lent memory is that list. The plain list has each text once and none that is empty; the offset of a
-- text is the sum of the sizes of those before it (document 01, "Texts").
use Rattle.std.specs.Prelude.{ℕ, ◌+◌, ◌<◌, ◌≤◌, ◌≡◌, List, [], ◌∷◌, ◌++◌, false, length, get_or, take}
use Rattle.tables.specs.Table.{same_words, rows_of, capacity_of}
use Rattle.strings.specs.Strings.{text_capacity_of, stored_text, text_size_lem, text_row, insert_text_of, StringsLeft, strings_left, text_stored}
use Rattle.table_laws.specs.Plain.{row_intern, Chained}
use Rattle.tables.specs.declared.Row.{Row}

-- ── The plain list ─────────────────────────────────────────────────────────────────────────────────────────────────────

abbrev pub text_bytes_lem : List (List ℕ) → ℕ
text_bytes_lem [] = 0
text_bytes_lem (t ∷ ts) = text_size_lem t + text_bytes_lem ts

-- "its offset is where the prefix begins"
abbrev pub text_offset_lem : List (List ℕ) → ℕ → ℕ
text_offset_lem ts i = text_bytes_lem (take i ts)

-- the string section
abbrev pub section : List (List ℕ) → List ℕ
section [] = []
section (t ∷ ts) = stored_text t ++ section ts

-- "A text is stored once"; "An empty text takes offset MAX": the list with t in it, and the offset of t
unfoldable pub with_text : List (List ℕ) → List ℕ → List (List ℕ)
with_text ts [] = ts
with_text ts (b ∷ t) = (row_intern same_words ts (b ∷ t)).table

unfoldable pub offset_in : List (List ℕ) → List ℕ → ℕ
offset_in ts [] = 4294967295
offset_in ts (b ∷ t) = text_offset_lem ts (row_intern same_words ts (b ∷ t)).index

-- a list of texts, and the offsets that they get
unfoldable pub with_texts : List (List ℕ) → List (List ℕ) → List (List ℕ)
with_texts ts [] = ts
with_texts ts (q ∷ qs) = with_texts (with_text ts q) qs

unfoldable pub offsets_in : List (List ℕ) → List (List ℕ) → List ℕ
offsets_in ts [] = []
offsets_in ts (q ∷ qs) = offset_in ts q ∷ offsets_in (with_text ts q) qs

-- the same of the lent memory, each call on what the one before left
unfoldable pub insert_texts : List ℕ → List ℕ → ℕ → ℕ → List (List ℕ) → StringsLeft
insert_texts text strings bytes count [] = strings_left (text_stored 4294967295 bytes count) text strings
insert_texts text strings bytes count (q ∷ qs) =
    let x = insert_text_of text strings bytes count q in
    insert_texts x.text x.strings x.got.bytes x.got.count qs

unfoldable pub offsets_of : List ℕ → List ℕ → ℕ → ℕ → List (List ℕ) → List ℕ
offsets_of text strings bytes count [] = []
offsets_of text strings bytes count (q ∷ qs) =
    let x = insert_text_of text strings bytes count q in
    x.got.offset ∷ offsets_of x.text x.strings x.got.bytes x.got.count qs

-- ── When the lent memory is the plain list ─────────────────────────────────────────────────────────────────────────────

-- the rows of the index for the texts ts, of which the first stands at the offset
abbrev pub text_rows : ℕ → List (List ℕ) → List Row
text_rows offset [] = []
text_rows offset (t ∷ ts) = text_row offset t ∷ text_rows (offset + text_size_lem t) ts

abbrev pub row_hash : Row → ℕ
row_hash r = r.d

pub record Texts (text strings : List ℕ) (bytes count : ℕ) (ts : List (List ℕ)) : Type 0 where
  pub stands : take bytes text ≡ section ts
  pub size : bytes ≡ text_bytes_lem ts
  pub rows : rows_of strings count ≡ text_rows 0 ts
  pub room : bytes ≤ text_capacity_of (length text)
  pub row_room : count ≤ capacity_of (length strings)
  pub apart : (i j : ℕ) → i < j → j < length ts → same_words (get_or ts i []) (get_or ts j []) ≡ false
  pub chained : Chained row_hash (capacity_of (length strings)) count strings
