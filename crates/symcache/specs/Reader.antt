-- The reader: document 01 "Reader" and numbers 1 to 12; `SymCache::parse` of v9/mod.rs over what follows the first eight bytes.
use Rattle.std.specs.Prelude.{ℕ, ◌+◌, ◌*◌, ◌/◌, ◌-◌, ◌≤◌, ◌<◌, ◌^◌, List, cond, not, eqb, ltb, length}
use Rattle.std.proofs.Math.Option.{Option, none, some}
use Rattle.raw.specs.declared.Header.{Header}
use Rattle.raw.specs.declared.File.{File}
use Rattle.raw.specs.declared.Function.{Function}
use Rattle.raw.specs.declared.SourceLocation.{SourceLocation}
use Rattle.raw.specs.Rows.{version_info_at, header_at, file_at_lem, function_at_lem, location_at}
use Rattle.symcache.specs.declared.ErrorKind.TheVariants as kind
use Rattle.symcache.specs.declared.SymCache.{SymCache}
use Rattle.symcache.specs.Answers.{Answer, gives, refusal_of, refuse_if, and_then}
-- the starts of the ranges
pub use Rattle.search.specs.Search.{start_at}
unfoldable pub use Rattle.search.specs.Search.{ascending_from, ascending}

-- the magic bytes 53 59 4D 43 as a little-endian number, and reversed
abbrev pub magic : ℕ
magic = 0x434d5953

abbrev pub reversed_magic : ℕ
reversed_magic = 0x53594d43

-- the next multiple of 8
unfoldable pub aligned : ℕ → ℕ
aligned n = (n + 7) / 8 * 8

-- where the tables lie that a header tells of: "files, functions, call locations followed by range locations, range starts, texts, each on a multiple of 8"
abbrev pub files_end : Header → ℕ
files_end h = aligned 80 + 24 * h.num_files

abbrev pub functions_end : Header → ℕ
functions_end h = aligned (files_end h) + 16 * h.num_functions

abbrev pub locations_end : Header → ℕ
locations_end h = aligned (functions_end h) + 16 * h.num_source_locations

abbrev pub ranges_end : Header → ℕ
ranges_end h = aligned (locations_end h) + 4 * h.num_ranges

unfoldable pub layout_of : Header → SymCache
layout_of h = record {
  files = aligned 80;
  num_files = h.num_files;
  functions = aligned (files_end h);
  num_functions = h.num_functions;
  source_locations = aligned (functions_end h);
  num_source_locations = h.num_source_locations;
  ranges = aligned (locations_end h);
  num_ranges = h.num_ranges;
  strings = aligned (ranges_end h);
  string_bytes = h.string_bytes;
}

-- no offset that a header tells of comes near the end of the address space
pub record Low (c : SymCache) : Type 0 where
  pub files : c.files < 2 ^ 40
  pub functions : c.functions < 2 ^ 40
  pub locations : c.source_locations < 2 ^ 40
  pub ranges : c.ranges < 2 ^ 40
  pub strings : c.strings < 2 ^ 40

-- 6 to 11, of a file of `n` bytes. Where the padding before the texts is short, what is found of the texts is 0, and so is the difference
unfoldable pub tested : ℕ → SymCache → ℕ → Answer SymCache
tested n c variables =
    refuse_if (ltb n (c.files + 24 * c.num_files)) (refusal_of kind.InvalidFiles)
    (refuse_if (ltb n (c.functions + 16 * c.num_functions)) (refusal_of kind.InvalidFunctions)
    (refuse_if (ltb n (c.source_locations + 16 * c.num_source_locations)) (refusal_of kind.InvalidSourceLocations)
    (refuse_if (ltb n (c.ranges + 4 * c.num_ranges)) (refusal_of kind.InvalidRanges)
    (refuse_if (ltb c.num_source_locations c.num_ranges) (refusal_of kind.InvalidRanges)
    (refuse_if (ltb n (c.strings + c.string_bytes)) (refusal_of (kind.UnexpectedStringBytes c.string_bytes (n - c.strings)))
    (refuse_if (eqb variables 1) (refusal_of kind.InvalidVariableHeader) (gives c)))))))

-- 1 to 11
unfoldable pub parsed : List ℕ → Answer SymCache
parsed s =
    refuse_if (ltb (length s) 8) (refusal_of kind.TooShort)
    (refuse_if (eqb (version_info_at s 0).magic reversed_magic) (refusal_of kind.WrongEndianness)
    (refuse_if (not (eqb (version_info_at s 0).magic magic)) (refusal_of kind.WrongFormat)
    (refuse_if (not (eqb (version_info_at s 0).version 9)) (refusal_of kind.WrongVersion)
    (refuse_if (ltb (length s) 80) (refusal_of kind.InvalidHeader)
    (tested (length s) (layout_of (header_at s 8)) (header_at s 8).variable_header)))))

-- what an accepted file has: its tables lie in its `n` bytes
pub record Within (n : ℕ) (c : SymCache) : Type 0 where
  pub files : c.files + 24 * c.num_files ≤ n
  pub functions : c.functions + 16 * c.num_functions ≤ n
  pub locations : c.source_locations + 16 * c.num_source_locations ≤ n
  pub ranges : c.ranges + 4 * c.num_ranges ≤ n
  pub fewer : c.num_ranges ≤ c.num_source_locations
  pub strings : c.strings + c.string_bytes ≤ n

-- 1 to 12: "starts not strictly ascending, from lookup only"
unfoldable pub opened : List ℕ → Answer SymCache
opened s =
    and_then (parsed s) (λ c. refuse_if (not (ascending (start_at s c.ranges) c.num_ranges)) (refusal_of kind.UnorderedRanges) (gives c))

-- ── The rows of a file that was read ──

unfoldable pub location_in_lem : List ℕ → SymCache → ℕ → SourceLocation
location_in_lem s c i = location_at s (c.source_locations + 16 * i)

unfoldable pub function_in_lem : List ℕ → SymCache → ℕ → Option Function
function_in_lem s c i = cond (ltb i c.num_functions) (some (function_at_lem s (c.functions + 16 * i))) none

unfoldable pub file_in_lem : List ℕ → SymCache → ℕ → Option File
file_in_lem s c i = cond (ltb i c.num_files) (some (file_at_lem s (c.files + 24 * i))) none
