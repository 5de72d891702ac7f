-- THE BYTES OF A FILE whose rows are given as words: document 01 "Writer", "Rows"; writer.rs, `serialize`.
use Rattle.std.specs.Prelude.{ℕ, ◌*◌, ◌≤◌, ◌≡◌, List, [], ◌∷◌, ◌++◌, length}
use Rattle.slices.specs.Bytes.{word_bytes, Words32, table_bytes}
use Rattle.raw.specs.Rows.{version_info_bytes, header_words, header_bytes}
use Rattle.raw.specs.Head.{version_info, header, padding}
use Rattle.raw.specs.declared.Header.{Header}
use Rattle.model.specs.FileWords.{Sections, Ascending}

-- the header that tells of the sections
abbrev pub sections_header : List ℕ → ℕ → Sections → Header
sections_header id a z = header id a (length z.files) (length z.functions) (length z.locations) (length z.starts) (length z.strings)

-- "bytes 53 59 4D 43, version 9, header, then files, functions, call locations followed by range locations, range starts, texts, each on a multiple of 8.
-- Nothing follows the texts." Only the range starts can end off a multiple of 8
unfoldable pub file_bytes : List ℕ → ℕ → Sections → List ℕ
file_bytes id a z =
    version_info_bytes version_info
    ++ (header_bytes (sections_header id a z)
    ++ (table_bytes word_bytes z.files
    ++ (table_bytes word_bytes z.functions
    ++ (table_bytes word_bytes z.locations
    ++ (word_bytes z.starts ++ (padding (length z.starts * 4) ++ z.strings))))))

-- ── What has a file ──

-- each row has n words of 32 bits
abbrev pub Rows : ℕ → List (List ℕ) → Type 0
Rows n [] = Unit {0}
Rows n (r ∷ rs) = ((length r ≡ n) × Words32 r) × Rows n rs

-- rows of 24, 16 and 16 bytes, starts that ascend strictly, a location for each of them, a debug id of 32 bytes, and a header whose numbers have 32 bits each
pub record Readable (id : List ℕ) (a : ℕ) (z : Sections) : Type 0 where
  pub id_size : length id ≡ 32
  pub numbers : Words32 (header_words (sections_header id a z))
  pub files : Rows 6 z.files
  pub functions : Rows 4 z.functions
  pub locations : Rows 4 z.locations
  pub starts : Words32 z.starts
  pub ascending : Ascending 0 z.starts
  pub fewer : length z.starts ≤ length z.locations
