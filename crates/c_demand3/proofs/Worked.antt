-- Document 01's small worked file through the exported calls, by computation: it is opened, and address 0x1003 looked up; two frames, then the end. 304 of its 305 bytes give 10 with 25, 24. And a
-- beginning.
use mathlib.Core.Path.{◌≡◌, refl}
use mathlib.Core.List.{[], ◌∷◌}
use lib.ListN.{take, replicate}
use Rattle.slices.specs.Bytes.{le_at, bytes_at}
use Rattle.raw.specs.Rows.{max32, version_info_at, header_at, file_at_lem, function_at_lem, location_at, is_no_source_location, range_at_lem}
use Rattle.symcache.specs.Answers.{refuse_if, and_then}
use Rattle.symcache.specs.Reader.{aligned, layout_of, tested, parsed, ascending_from, ascending, opened}
use Rattle.lookup.specs.Lookup.{last_start, location_of_range, belongs_to, looked_up_lem, met, frame_in_lem, ended, step_in_lem, stepped}
use Rattle.symcache.specs.Reader.{location_in_lem, function_in_lem, file_in_lem}
use Rattle.read_back.proofs.WorkedBytes.{worked}
use Rattle.memory.specs.Memory.{memory}
use Rattle.memory.specs.Record.{begin_of}
use Rattle.c_words.specs.Record.{words_of}
use Rattle.c_words.specs.Writing.{call_left, begin_call}
use Rattle.c_reading.specs.Reading.{filled, moved, answered, steps_to, refused, cached, parse_call, open_call, walk_of, lookup_call, next_call}

-- a beginning: the debug id 01 02, arch 5, names of functions undecorated; the record's words after it
pub worked-begun : begin_call (replicate 21 7) (1 ∷ 2 ∷ []) 5 3 0 (memory (7 ∷ []) [] [] [] [] (7 ∷ 7 ∷ []))
    ≡ call_left 0 (513 ∷ 0 ∷ 0 ∷ 0 ∷ 0 ∷ 0 ∷ 0 ∷ 0 ∷ 5 ∷ 1 ∷ 0 ∷ 0 ∷ 0 ∷ 0 ∷ 0 ∷ 0 ∷ 0 ∷ 0 ∷ 0 ∷ 1 ∷ 7 ∷ []) (memory (0 ∷ []) [] [] [] [] (0 ∷ 0 ∷ [])) []
unfolding begin_call begin_of words_of bytes_at le_at
worked-begun = refl

pub worked-opened : open_call worked (replicate 11 7) ≡ filled 0 (80 ∷ 2 ∷ 128 ∷ 2 ∷ 160 ∷ 6 ∷ 256 ∷ 5 ∷ 280 ∷ 25 ∷ 7 ∷ [])
unfolding worked open_call cached opened parsed refuse_if and_then tested layout_of aligned ascending ascending_from version_info_at header_at range_at_lem le_at bytes_at
worked-opened = refl

pub worked_cut : parse_call (take 304 worked) (replicate 3 7) ≡ filled 10 (25 ∷ 24 ∷ 7 ∷ [])
unfolding worked parse_call cached refused parsed refuse_if tested layout_of aligned version_info_at header_at le_at bytes_at
worked_cut = refl

pub worked-looked_up : lookup_call worked 0x1003 (7 ∷ 7 ∷ 7 ∷ []) ≡ filled 0 (2 ∷ 2 ∷ 0 ∷ [])
unfolding worked lookup_call answered looked_up_lem opened parsed refuse_if and_then tested layout_of aligned ascending ascending_from version_info_at header_at range_at_lem le_at bytes_at belongs_to location_of_range last_start location_in_lem location_at is_no_source_location
worked-looked_up = refl

-- the inlinee pos: a file; location 2, function 1, line 50, file 1, no entry, language 2; its six texts
pub worked-first : next_call worked (2 ∷ 2 ∷ 0 ∷ []) (replicate 13 7)
    ≡ moved 0 (2 ∷ 0 ∷ 1 ∷ []) (2 ∷ 2 ∷ 1 ∷ 50 ∷ 1 ∷ max32 ∷ 2 ∷ 13 ∷ 9 ∷ 20 ∷ max32 ∷ max32 ∷ max32 ∷ [])
unfolding worked next_call steps_to walk_of stepped parsed refuse_if and_then tested layout_of aligned version_info_at header_at range_at_lem le_at bytes_at step_in_lem ended met frame_in_lem location_in_lem function_in_lem file_in_lem file_at_lem function_at_lem location_at
worked-first = refl

-- the root trk: location 0, function 0, line 10, file 0, entry 0x1000, language 2
pub worked_second : next_call worked (2 ∷ 0 ∷ 1 ∷ []) (replicate 13 7)
    ≡ moved 0 (2 ∷ max32 ∷ 2 ∷ []) (2 ∷ 0 ∷ 0 ∷ 10 ∷ 0 ∷ 0x1000 ∷ 2 ∷ 13 ∷ 9 ∷ 4 ∷ max32 ∷ max32 ∷ max32 ∷ [])
unfolding worked next_call steps_to walk_of stepped parsed refuse_if and_then tested layout_of aligned version_info_at header_at range_at_lem le_at bytes_at step_in_lem ended met frame_in_lem location_in_lem function_in_lem file_in_lem file_at_lem function_at_lem location_at
worked_second = refl

pub worked-end : next_call worked (2 ∷ max32 ∷ 2 ∷ []) (7 ∷ 7 ∷ []) ≡ moved 0 (2 ∷ max32 ∷ 2 ∷ []) (0 ∷ 7 ∷ [])
unfolding worked next_call steps_to walk_of stepped parsed refuse_if and_then tested layout_of aligned version_info_at header_at range_at_lem le_at bytes_at step_in_lem ended met frame_in_lem location_in_lem function_in_lem file_in_lem file_at_lem function_at_lem location_at
worked-end = refl
