-- The rows of a file (document 01 "Rows"; raw.rs and v9/raw.rs), each with its fields in struct order: as bytes, and as read at an offset.
use Rattle.std.specs.Prelude.{ℕ, ◌+◌, ◌<◌, ◌^◌, ◌≡◌, Bool, ◌&&◌, List, [], ◌∷◌, ◌++◌, eqb, length}
use Rattle.slices.specs.Bytes.{le, le_at, bytes_at, word_bytes, Words32}
use Rattle.raw.specs.declared.VersionInfo.{VersionInfo}
use Rattle.raw.specs.declared.Header.{Header}
use Rattle.raw.specs.declared.File.{File}
use Rattle.raw.specs.declared.Function.{Function}
use Rattle.raw.specs.declared.SourceLocation.{SourceLocation}
use Rattle.raw.specs.declared.Range.{Range}

-- MAX of document 01
abbrev pub max32 : ℕ
max32 = 0xffff_ffff

-- VersionInfo: 8 bytes
abbrev pub version_info_words : VersionInfo → List ℕ
version_info_words v = v.magic ∷ v.version ∷ []

unfoldable pub version_info_bytes : VersionInfo → List ℕ
version_info_bytes v = word_bytes (version_info_words v)

unfoldable pub version_info_at : List ℕ → ℕ → VersionInfo
version_info_at s at = record { magic = le_at 4 s at; version = le_at 4 s (at + 4) }

-- Header: 72 bytes. The debug id, six numbers, the variable header in 16 bits, 14 reserved bytes
abbrev pub header_words : Header → List ℕ
header_words h =
    h.arch ∷ h.num_files ∷ h.num_functions ∷ h.num_source_locations ∷ h.num_ranges ∷ h.string_bytes ∷ []

unfoldable pub header_bytes : Header → List ℕ
header_bytes h = h.debug_id ++ (word_bytes (header_words h) ++ (le 2 h.variable_header ++ h.reserved))

unfoldable pub header_at : List ℕ → ℕ → Header
header_at s at = record {
  debug_id = bytes_at 32 s at;
  arch = le_at 4 s (at + 32);
  num_files = le_at 4 s (at + 36);
  num_functions = le_at 4 s (at + 40);
  num_source_locations = le_at 4 s (at + 44);
  num_ranges = le_at 4 s (at + 48);
  string_bytes = le_at 4 s (at + 52);
  variable_header = le_at 2 s (at + 56);
  reserved = bytes_at 14 s (at + 58);
}

-- what the types of the struct say of a header
pub record HeaderFits (h : Header) : Type 0 where
  pub id : length h.debug_id ≡ 32
  pub numbers : Words32 (header_words h)
  pub variables : h.variable_header < 2 ^ 16
  pub zeros : length h.reserved ≡ 14

-- File: 24 bytes, in the order of v9/raw.rs and not of the writer's literal
abbrev pub file_words_lem : File → List ℕ
file_words_lem f =
    f.comp_dir_offset ∷ f.directory_offset ∷ f.name_offset ∷ f.srcsrv_name_offset ∷ f.srcsrv_dir_offset ∷ f.srcsrv_revision_offset ∷ []

unfoldable pub file_bytes_lem : File → List ℕ
file_bytes_lem f = word_bytes (file_words_lem f)

unfoldable pub file_at_lem : List ℕ → ℕ → File
file_at_lem s at = record {
  comp_dir_offset = le_at 4 s at;
  directory_offset = le_at 4 s (at + 4);
  name_offset = le_at 4 s (at + 8);
  srcsrv_name_offset = le_at 4 s (at + 12);
  srcsrv_dir_offset = le_at 4 s (at + 16);
  srcsrv_revision_offset = le_at 4 s (at + 20);
}

-- Function: 16 bytes
abbrev pub function_words_lem : Function → List ℕ
function_words_lem f = f.name_offset ∷ f.comp_dir_offset ∷ f.entry_pc ∷ f.lang ∷ []

unfoldable pub function_bytes : Function → List ℕ
function_bytes f = word_bytes (function_words_lem f)

unfoldable pub function_at_lem : List ℕ → ℕ → Function
function_at_lem s at = record {
  name_offset = le_at 4 s at;
  comp_dir_offset = le_at 4 s (at + 4);
  entry_pc = le_at 4 s (at + 8);
  lang = le_at 4 s (at + 12);
}

-- SourceLocation: 16 bytes
abbrev pub location_words_lem : SourceLocation → List ℕ
location_words_lem l = l.file_idx ∷ l.line ∷ l.function_idx ∷ l.inlined_into_idx ∷ []

unfoldable pub location_bytes : SourceLocation → List ℕ
location_bytes l = word_bytes (location_words_lem l)

unfoldable pub location_at : List ℕ → ℕ → SourceLocation
location_at s at = record {
  file_idx = le_at 4 s at;
  line = le_at 4 s (at + 4);
  function_idx = le_at 4 s (at + 8);
  inlined_into_idx = le_at 4 s (at + 12);
}

-- the empty mapping: four times MAX
abbrev pub no_source_location : SourceLocation
no_source_location =
    record { file_idx = max32; line = max32; function_idx = max32; inlined_into_idx = max32 }

-- whether a location is the empty mapping, field by field
unfoldable pub is_no_source_location : SourceLocation → Bool
is_no_source_location l =
    eqb l.file_idx max32 && (eqb l.line max32 && (eqb l.function_idx max32 && eqb l.inlined_into_idx max32))

-- Range: 4 bytes, the start address
unfoldable pub range_bytes : Range → List ℕ
range_bytes r = word_bytes (r.0 ∷ [])

unfoldable pub range_at_lem : List ℕ → ℕ → Range
range_at_lem s at = record { 0 = le_at 4 s at }
