-- Document 01's small worked file, read and looked up by computation: M1, M2, M3, and the address 2^32.
use Prim.Native.Nat.{ℕ, ◌^◌}
use mathlib.Core.Path.{◌≡◌, refl}
use mathlib.Core.Bool.{true, false}
use mathlib.Core.List.{List, [], ◌∷◌, map}
use lib.ListN.{take, set}
use lib.Seq.{sets}
use Rattle.slices.specs.Bytes.{le_at, bytes_at}
use Rattle.raw.specs.Rows.{max32, version_info_at, header_at, file_at_lem, function_at_lem, location_at, is_no_source_location, range_at_lem}
use Rattle.symcache.specs.declared.SymCache.{SymCache}
use Rattle.lookup.specs.declared.SourceLocations.{SourceLocations}
use Rattle.lookup.specs.declared.Frame.{Frame}
unfoldable pub use Rattle.symcache.proofs.WorkedFile.{worked}
use Rattle.symcache.specs.Answers.{gives, refuses, refuse_if, and_then}
use Rattle.symcache.specs.Reader.{aligned, layout_of, tested, parsed, ascending_from, ascending, opened}
use Rattle.lookup.specs.Lookup.{count_in_lem, search_in, found_among, usable, found_in, walk_at_lem, met, frame_in_lem, ended, step_in_lem, frames_in}
use Rattle.symcache.specs.Reader.{location_in_lem, function_in_lem, file_in_lem}
use Rattle.read_back.specs.Ends.{ends_by_rule?}

-- where its tables lie
abbrev pub tables : SymCache
tables = record {
  files = 80;
  num_files = 2;
  functions = 128;
  num_functions = 2;
  source_locations = 160;
  num_source_locations = 6;
  ranges = 256;
  num_ranges = 5;
  strings = 280;
  string_bytes = 25;
}

pub worked-opens : opened worked ≡ gives tables
unfolding worked opened parsed refuse_if and_then tested layout_of aligned ascending ascending_from version_info_at header_at range_at_lem le_at bytes_at
worked-opens = refl

-- 304 of the 305 bytes give 10 with 25, 24
pub cut_short : parsed (take 304 worked) ≡ refuses (record { number = 10; expected = 25; found = 24 })
unfolding worked parsed refuse_if tested layout_of aligned version_info_at header_at le_at bytes_at
cut_short = refl

-- what the lister prints of a frame: location, function, line, file
pub record Listed : Type 0 where
  pub location : ℕ
  pub function : ℕ
  pub line : ℕ
  pub file : ℕ

abbrev pub listed : Frame → Listed
listed f = record { location = f.location_idx; function = f.function_idx; line = f.line; file = f.file_idx }

abbrev frames : ℕ → List Listed
frames a = map listed (frames_in worked tables 6 (walk_at_lem worked tables a))

-- M1: two frames
pub m1 : frames 0x1003 ≡ record { location = 2; function = 1; line = 0x32; file = 1 } ∷ record { location = 0; function = 0; line = 0xA; file = 0 } ∷ []
unfolding worked walk_at_lem found_in found_among usable search_in count_in_lem frames_in step_in_lem ended met frame_in_lem location_in_lem function_in_lem file_in_lem file_at_lem function_at_lem location_at is_no_source_location range_at_lem le_at
m1 = refl

-- M2: none
pub m2 : frames 0x1010 ≡ []
unfolding worked walk_at_lem found_in found_among usable search_in count_in_lem frames_in step_in_lem ended met frame_in_lem location_in_lem function_in_lem file_in_lem file_at_lem function_at_lem location_at is_no_source_location range_at_lem le_at
m2 = refl

-- M3: none
pub m3 : frames 0x0FFF ≡ []
unfolding worked walk_at_lem found_in found_among usable search_in count_in_lem frames_in step_in_lem ended met frame_in_lem location_in_lem function_in_lem file_in_lem file_at_lem function_at_lem location_at is_no_source_location range_at_lem le_at
m3 = refl

pub past_the_end : frames (2 ^ 32) ≡ []
unfolding worked walk_at_lem found_in found_among usable search_in count_in_lem frames_in step_in_lem ended met frame_in_lem location_in_lem function_in_lem file_in_lem file_at_lem function_at_lem location_at is_no_source_location range_at_lem le_at
past_the_end = refl

-- the empty mapping met later in a chain is a frame: the worked file with its last location as the caller of location 2
abbrev into_the_end : List ℕ
into_the_end = set worked 204 5

pub met-later : map listed (frames_in into_the_end tables 6 (walk_at_lem into_the_end tables 0x1003))
    ≡ record { location = 2; function = 1; line = 0x32; file = 1 } ∷ record { location = 5; function = max32; line = max32; file = max32 } ∷ []
unfolding worked walk_at_lem found_in found_among usable search_in count_in_lem frames_in step_in_lem ended met frame_in_lem location_in_lem function_in_lem file_in_lem file_at_lem function_at_lem location_at is_no_source_location range_at_lem le_at
met-later = refl

-- a chain that comes back ends where it meets itself: location 0 as its own caller
abbrev round : List ℕ
round = sets worked 172 (0 ∷ 0 ∷ 0 ∷ 0 ∷ [])

pub met_again : map listed (frames_in round tables 6 (walk_at_lem round tables 0x1003))
    ≡ record { location = 2; function = 1; line = 0x32; file = 1 } ∷ record { location = 0; function = 0; line = 0xA; file = 0 } ∷ []
unfolding worked walk_at_lem found_in found_among usable search_in count_in_lem frames_in step_in_lem ended met frame_in_lem location_in_lem function_in_lem file_in_lem file_at_lem function_at_lem location_at is_no_source_location range_at_lem le_at
met_again = refl

-- a made_up cursor is cut by its steps where the rule goes on: no lookup and no step leads to it (NeverCut: `never_cut`)
abbrev made_up : SourceLocations
made_up = record { first = 3; current = 0; steps = 6 }

pub made_up_cut : (ended worked tables made_up ≡ true) × (ends_by_rule? worked tables made_up ≡ false)
unfolding worked ended ends_by_rule? met location_in_lem location_at le_at
made_up_cut = (refl, refl)
