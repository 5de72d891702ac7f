-- THE ROWS OF A FILE, as words: document 01's "Rows", with the fields in struct order (v9/raw.rs), and the string section; and all sections of a file.
use Rattle.std.proofs.Math.Option.{Option, none, some}
use Rattle.std.specs.Prelude.{List, [], ◌∷◌, ◌++◌, map, ℕ, suc, ◌≤◌, length}
use Rattle.text.specs.Leb128.{encoded}
use Rattle.model.specs.Basics.{Entry}
use Rattle.model.specs.Rows.{MAX, Text}
use Rattle.model.specs.Converter.{File, Function, Location, nowhere, at, Tables}
use Rattle.model.specs.Counts.{text_offset}
use Rattle.model.specs.Written.{locations}

-- a reference to a row: its index, or MAX
abbrev pub index_word : Option ℕ → ℕ
index_word none = MAX
index_word (some i) = i

-- a reference to a text: its offset, or MAX
abbrev pub text_word : List Text → Option ℕ → ℕ
text_word ts none = MAX
text_word ts (some i) = text_offset ts i

-- "Texts are stored name, directory, compilation directory", but the row has them the other way round
abbrev pub file_words : List Text → File → List ℕ
file_words ts x =
    text_word ts x.comp_dir
    ∷ text_word ts x.directory
    ∷ text_word ts x.name
    ∷ text_word ts x.srcsrv_name
    ∷ text_word ts x.srcsrv_dir
    ∷ text_word ts x.revision
    ∷ []

-- the second word is a function's compilation directory, which is not kept there any more
abbrev pub function_words : List Text → Function → List ℕ
function_words ts f = text_word ts f.name ∷ MAX ∷ f.entry ∷ f.language ∷ []

-- "four times MAX"
abbrev pub location_words : Location → List ℕ
location_words nowhere = MAX ∷ MAX ∷ MAX ∷ MAX ∷ []
location_words (at f n i c) = index_word f ∷ n ∷ i ∷ index_word c ∷ []

-- "range starts"
abbrev pub starts : Tables → List ℕ
starts s = map (λ (e : Entry Location). e.key) s.ranges

-- "A text is stored once: shortest unsigned LEB128 length, then bytes"
unfoldable pub string_section : List Text → List ℕ
string_section [] = []
string_section (t ∷ ts) = encoded (length t) ++ (t ++ string_section ts)

-- ── The sections ───────────────────────────────────────────────────────────────────────────────────────────────────────

-- what a file has after its header, in document 01's order ("Writer"): rows as words, the starts, the string section
pub record Sections : Type 0 where
  pub files : List (List ℕ)
  pub functions : List (List ℕ)
  pub locations : List (List ℕ)
  pub starts : List ℕ
  pub strings : List ℕ

-- of tables whose ranges are in order: "files, functions, call locations followed by range locations, range starts, texts"
abbrev pub sections : Tables → Sections
sections s = record {
  files = map (file_words s.texts) s.files;
  functions = map (function_words s.texts) s.functions;
  locations = map location_words (locations s);
  starts = starts s;
  strings = string_section s.texts;
}

-- starts that ascend strictly, the first of them at least b: a reader refuses others (12)
abbrev pub Ascending : ℕ → List ℕ → Type 0
Ascending b [] = Unit {0}
Ascending b (k ∷ ks) = (b ≤ k) × Ascending (suc k) ks
