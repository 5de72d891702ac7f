-- Document 01's small worked file, computed from the tables that its rows make: 305 bytes, in an output that is one byte longer; and 18 where it is one byte shorter.
use Prim.Native.Nat.{ℕ}
use mathlib.Core.Bool.{true, false}
use mathlib.Core.Path.{◌≡◌, refl}
use mathlib.Core.List.{List, [], ◌∷◌, ◌++◌}
use lib.ListN.{replicate}
use Rattle.model.specs.Basics.{before, place, sort}
use Rattle.slices.specs.Bytes.{le, word_bytes, table_bytes}
use Rattle.raw.specs.Rows.{max32, version_info_bytes, header_bytes, file_bytes_lem, function_bytes, location_bytes, range_bytes}
use Rattle.raw.specs.Head.{padding}
use Rattle.raw.specs.declared.SourceLocation.{SourceLocation}
use Rattle.tables.specs.Table.{row_at, link_at, head_at, set_row, append_of, bucket_of, walk, key_of, same_row, hash_of, hit_at, newest_of, lookup_of, insert_at, insert_of, capacity_of, rows_from}
use Rattle.tables.specs.Ranges.{range_row_lem, get_of, put_at, put_of}
use Rattle.strings.specs.Strings.{text_capacity_of}
use Rattle.memory.specs.Memory.{Memory, memory}
use Rattle.memory.specs.Record.{usable_in, fits_in_lem}
use Rattle.memory.specs.declared.Converter.{Converter}
use Rattle.serialize.specs.Sections.{file_row, function_row, call_row, entries, in_order, location_row, start_row}
use Rattle.serialize.specs.File.{written_file, wrote, serialize_of}

location : ℕ → ℕ → ℕ → ℕ → SourceLocation
location file line function into = record { file_idx = file; line = line; function_idx = function; inlined_into_idx = into }

-- the ranges, inserted out of order
put : ℕ → ℕ → SourceLocation → List ℕ → List ℕ
put n start l t = (put_of t n (range_row_lem start l)).table

pub ranges : List ℕ
ranges =
    put 4 0x1010 (location max32 max32 max32 max32)
    (put 3 0x1006 (location 0 10 0 max32)
    (put 2 0x1002 (location 1 50 1 0) (put 1 0x1000 (location 0 10 0 max32) (put 0 0x1008 (location 0 11 0 max32) (replicate 40 0)))))

pub tables : Memory
tables =
    memory (3 ∷ 116 ∷ 114 ∷ 107 ∷ 4 ∷ 97 ∷ 46 ∷ 114 ∷ 115 ∷ 3 ∷ 115 ∷ 114 ∷ 99 ∷ 2 ∷ 47 ∷ 98 ∷ 3 ∷ 112 ∷ 111 ∷ 115 ∷ 4 ∷ 112 ∷ 46 ∷ 114 ∷ 115 ∷ []) [] (13 ∷ 9 ∷ 4 ∷ 4294967295 ∷ 4294967295 ∷ 4294967295 ∷ 0 ∷ 13 ∷ 9 ∷ 20 ∷ 4294967295 ∷ 4294967295 ∷ 4294967295 ∷ 0 ∷ 0 ∷ 0 ∷ []) (0 ∷ 4294967295 ∷ 4096 ∷ 2 ∷ 0 ∷ 0 ∷ 0 ∷ 16 ∷ 4294967295 ∷ 4294967295 ∷ 2 ∷ 0 ∷ 0 ∷ 0 ∷ 0 ∷ 0 ∷ []) (0 ∷ 10 ∷ 0 ∷ 4294967295 ∷ 0 ∷ 0 ∷ 0 ∷ 0 ∷ []) ranges

pub converter : Converter
converter = record {
  debug_id = replicate 32 0;
  arch = 0;
  undecorate_functions = false;
  undecorate_symbols = false;
  «open» = true;
  state = record { string_bytes = 25; strings = 0; files = 2; functions = 2; call_locations = 1; ranges = 5 };
  clamped_lines = 0;
}

pub file : List ℕ
file =
    83 ∷ 89 ∷ 77 ∷ 67 ∷ 9 ∷ 0 ∷ 0 ∷ 0 ∷ 0 ∷ 0 ∷ 0 ∷ 0 ∷ 0 ∷ 0 ∷ 0 ∷ 0 ∷ 0 ∷ 0 ∷ 0 ∷ 0 ∷ 0 ∷ 0 ∷ 0 ∷ 0 ∷ 0 ∷ 0 ∷ 0 ∷ 0 ∷ 0 ∷ 0 ∷ 0 ∷ 0 ∷ 0 ∷ 0 ∷ 0 ∷ 0 ∷ 0 ∷ 0 ∷ 0 ∷ 0 ∷ 0 ∷ 0 ∷ 0 ∷ 0 ∷ 2 ∷ 0 ∷ 0 ∷ 0 ∷ 2 ∷ 0 ∷ 0 ∷ 0 ∷ 6 ∷ 0 ∷ 0 ∷ 0 ∷ 5 ∷ 0 ∷ 0 ∷ 0 ∷ 25 ∷ 0 ∷ 0 ∷ 0 ∷ 0 ∷ 0 ∷ 0 ∷ 0 ∷ 0 ∷ 0 ∷ 0 ∷ 0 ∷ 0 ∷ 0 ∷ 0 ∷ 0 ∷ 0 ∷ 0 ∷ 0 ∷ 0 ∷ 13 ∷ 0 ∷ 0 ∷ 0 ∷ 9 ∷ 0 ∷ 0 ∷ 0 ∷ 4 ∷ 0 ∷ 0 ∷ 0 ∷ 255 ∷ 255 ∷ 255 ∷ 255 ∷ 255 ∷ 255 ∷ 255 ∷ 255 ∷ 255 ∷ 255 ∷ 255 ∷ 255 ∷ 13 ∷ 0 ∷ 0 ∷ 0 ∷ 9 ∷ 0 ∷ 0 ∷ 0 ∷ 20 ∷ 0 ∷ 0 ∷ 0 ∷ 255 ∷ 255 ∷ 255 ∷ 255 ∷ 255 ∷ 255 ∷ 255 ∷ 255 ∷ 255 ∷ 255 ∷ 255 ∷ 255 ∷ 0 ∷ 0 ∷ 0 ∷ 0 ∷ 255 ∷ 255 ∷ 255 ∷ 255 ∷ 0 ∷ 16 ∷ 0 ∷ 0 ∷ 2 ∷ 0 ∷ 0 ∷ 0 ∷ 16 ∷ 0 ∷ 0 ∷ 0 ∷ 255 ∷ 255 ∷ 255 ∷ 255 ∷ 255 ∷ 255 ∷ 255 ∷ 255 ∷ 2 ∷ 0 ∷ 0 ∷ 0 ∷ 0 ∷ 0 ∷ 0 ∷ 0 ∷ 10 ∷ 0 ∷ 0 ∷ 0 ∷ 0 ∷ 0 ∷ 0 ∷ 0 ∷ 255 ∷ 255 ∷ 255 ∷ 255 ∷ 0 ∷ 0 ∷ 0 ∷ 0 ∷ 10 ∷ 0 ∷ 0 ∷ 0 ∷ 0 ∷ 0 ∷ 0 ∷ 0 ∷ 255 ∷ 255 ∷ 255 ∷ 255 ∷ 1 ∷ 0 ∷ 0 ∷ 0 ∷ 50 ∷ 0 ∷ 0 ∷ 0 ∷ 1 ∷ 0 ∷ 0 ∷ 0 ∷ 0 ∷ 0 ∷ 0 ∷ 0 ∷ 0 ∷ 0 ∷ 0 ∷ 0 ∷ 10 ∷ 0 ∷ 0 ∷ 0 ∷ 0 ∷ 0 ∷ 0 ∷ 0 ∷ 255 ∷ 255 ∷ 255 ∷ 255 ∷ 0 ∷ 0 ∷ 0 ∷ 0 ∷ 11 ∷ 0 ∷ 0 ∷ 0 ∷ 0 ∷ 0 ∷ 0 ∷ 0 ∷ 255 ∷ 255 ∷ 255 ∷ 255 ∷ 255 ∷ 255 ∷ 255 ∷ 255 ∷ 255 ∷ 255 ∷ 255 ∷ 255 ∷ 255 ∷ 255 ∷ 255 ∷ 255 ∷ 255 ∷ 255 ∷ 255 ∷ 255 ∷ 0 ∷ 16 ∷ 0 ∷ 0 ∷ 2 ∷ 16 ∷ 0 ∷ 0 ∷ 6 ∷ 16 ∷ 0 ∷ 0 ∷ 8 ∷ 16 ∷ 0 ∷ 0 ∷ 16 ∷ 16 ∷ 0 ∷ 0 ∷ 0 ∷ 0 ∷ 0 ∷ 0 ∷ 3 ∷ 116 ∷ 114 ∷ 107 ∷ 4 ∷ 97 ∷ 46 ∷ 114 ∷ 115 ∷ 3 ∷ 115 ∷ 114 ∷ 99 ∷ 2 ∷ 47 ∷ 98 ∷ 3 ∷ 112 ∷ 111 ∷ 115 ∷ 4 ∷ 112 ∷ 46 ∷ 114 ∷ 115 ∷ []

pub worked-file : serialize_of converter tables (replicate 306 7) ≡ wrote 0 305 (file ++ (7 ∷ []))
unfolding location put ranges tables converter file serialize_of usable_in fits_in_lem written_file version_info_bytes header_bytes word_bytes le table_bytes file_row file_bytes_lem function_row function_bytes call_row location_bytes location_row start_row range_bytes padding in_order entries sort place before rows_from row_at get_of lookup_of newest_of walk hit_at key_of same_row hash_of bucket_of link_at head_at capacity_of text_capacity_of put_of put_at insert_of insert_at append_of set_row
worked-file = refl

pub worked-short : serialize_of converter tables (replicate 304 7) ≡ wrote 18 0 (replicate 304 7)
unfolding location put ranges tables converter file serialize_of usable_in fits_in_lem written_file version_info_bytes header_bytes word_bytes le table_bytes file_row file_bytes_lem function_row function_bytes call_row location_bytes location_row start_row range_bytes padding in_order entries sort place before rows_from row_at get_of lookup_of newest_of walk hit_at key_of same_row hash_of bucket_of link_at head_at capacity_of text_capacity_of put_of put_at insert_of insert_at append_of set_row
worked-short = refl
