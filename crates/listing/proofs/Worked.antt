-- Document 01's lister example, computed: the worked file's listing. Beside it a file that is too long, an empty one, and starts that do not ascend, without
-- input.
use Prim.Native.Nat.{ℕ}
use mathlib.Core.Path.{◌≡◌, refl}
use mathlib.Core.List.{List, [], ◌∷◌, ◌++◌}
use lib.ListN.{set}
use Rattle.slices.specs.Bytes.{le_at, bytes_at}
use Rattle.raw.specs.Rows.{version_info_at, header_at, file_at_lem, function_at_lem, location_at, is_no_source_location, range_at_lem}
use Rattle.symcache.specs.Answers.{refuse_if, and_then}
use Rattle.symcache.specs.Reader.{aligned, layout_of, tested, parsed, ascending_from, ascending, opened, location_in_lem, function_in_lem, file_in_lem}
use Rattle.symcache.proofs.WorkedFile.{worked}
use Rattle.lookup.specs.Lookup.{last_start, location_of_range, belongs_to, met, frame_in_lem, ended, step_in_lem, frames_in}
use Rattle.input_lines.specs.Line.{digit_of, all_digits, number_from, meaning, lines_after}
use Rattle.input_lines.specs.Input.{told, all_told}
use Rattle.printed_lines.specs.Printed.{hex_digit, hex_field, spaced, frame_line_lem, no_frame_line, bad_line, refused_line}
use Rattle.listing.specs.Listing.{loaded, too_long, frames_of, frame_lines, address_lines, line_prints, lines_print, file_prints, listing_of}

-- "1003", 0A, "1010", 0A
example : listing_of (loaded worked) (49 ∷ 48 ∷ 48 ∷ 51 ∷ 10 ∷ 49 ∷ 48 ∷ 49 ∷ 48 ∷ 10 ∷ [])
    ≡ frame_line_lem 0x1003 0 2 1 0x32 1 ++ (frame_line_lem 0x1003 1 0 0 0xA 0 ++ no_frame_line 0x1010)
unfolding worked frame_line_lem no_frame_line hex_field hex_digit spaced listing_of file_prints lines_print line_prints address_lines frame_lines frames_of told all_told digit_of all_digits number_from meaning lines_after last_start location_of_range belongs_to frames_in step_in_lem ended met frame_in_lem location_in_lem function_in_lem file_in_lem file_at_lem function_at_lem location_at is_no_source_location range_at_lem le_at bytes_at opened parsed refuse_if and_then tested layout_of aligned ascending ascending_from version_info_at header_at
example = refl

-- an empty line, "x" without 0A
bad : listing_of (loaded worked) (10 ∷ 120 ∷ []) ≡ bad_line 1 ++ bad_line 2
unfolding worked bad_line hex_field hex_digit spaced listing_of file_prints lines_print line_prints told all_told digit_of all_digits number_from meaning lines_after range_at_lem le_at bytes_at opened parsed refuse_if and_then tested layout_of aligned ascending ascending_from version_info_at header_at
bad = refl

long : (input : List ℕ) → listing_of too_long input ≡ refused_line 20
unfolding listing_of
long input = refl

empty : (input : List ℕ) → listing_of (loaded []) input ≡ refused_line 1
unfolding listing_of file_prints opened parsed refuse_if and_then
empty input = refl

-- the second start is the first
unordered : listing_of (loaded (set worked 260 0)) [] ≡ refused_line 12
unfolding worked listing_of file_prints range_at_lem le_at bytes_at opened parsed refuse_if and_then tested layout_of aligned ascending ascending_from version_info_at header_at
unordered = refl
