-- What a written file has besides its rows: the first eight bytes, the header of given counts, and zeros up to a multiple of 8 (document 01 "Writer", "Rows").
use Rattle.std.specs.Prelude.{ℕ, ◌-◌, ◌%◌, List, replicate}
use Rattle.raw.specs.declared.VersionInfo.{VersionInfo}
use Rattle.raw.specs.declared.Header.{Header}

-- "bytes 53 59 4D 43, version 9"
abbrev pub version_info : VersionInfo
version_info = record { magic = 0x434d_5953; version = 9 }

-- "32-byte debug id, unread; then arch, files, functions, locations, ranges, string bytes (32 bits each), 16-bit variable header, 14 zeros"
abbrev pub header : List ℕ → ℕ → ℕ → ℕ → ℕ → ℕ → ℕ → Header
header id arch files functions locations ranges texts = record {
  debug_id = id;
  arch = arch;
  num_files = files;
  num_functions = functions;
  num_source_locations = locations;
  num_ranges = ranges;
  string_bytes = texts;
  variable_header = 0;
  reserved = replicate 14 0;
}

-- zeros from n bytes up to a multiple of 8
unfoldable pub padding : ℕ → List ℕ
padding n = replicate ((8 - n % 8) % 8) 0
