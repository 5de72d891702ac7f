-- THE CONVERTER'S RECORD: what it says of the lent tables, a new one, and one after a call. Document 01 "Converter" and "Who causes which number".
use Rattle.std.specs.Prelude.{Bool, true, cond, ◌&&◌, List, ℕ, ◌+◌, min, leb}
use Rattle.tables.specs.Table.{capacity_of}
use Rattle.strings.specs.Strings.{text_capacity_of}
use Rattle.memory.specs.declared.State.{State}
use Rattle.memory.specs.declared.Converter.{Converter}
use Rattle.memory.specs.declared.Lengths.{Lengths}
use Rattle.memory.specs.Memory.{Memory, Words, words, lent, zeroed}

-- ── Capacities ─────────────────────────────────────────────────────────────────────────────────────────────────────────

-- no count is above its table's capacity: "one of its counts above the table's capacity" (19);
-- "a table would need more rows or bytes after this call than its capacity" (17)
unfoldable pub fits_in_lem : State → Lengths → Bool
fits_in_lem s l =
    leb s.string_bytes (text_capacity_of l.string_bytes)
    && (leb s.strings (capacity_of l.strings)
    && (leb s.files (capacity_of l.files)
    && (leb s.functions (capacity_of l.functions)
    && (leb s.call_locations (capacity_of l.call_locations) && leb s.ranges (capacity_of l.ranges)))))

abbrev pub fits? : Words → Bool
fits? w = fits_in_lem w.st (lent w.mm)

-- 19: "converter closed, or one of its counts above the table's capacity"
unfoldable pub usable_in : Converter → Lengths → Bool
usable_in c l = c.«open» && fits_in_lem c.state l

abbrev pub usable? : Converter → Memory → Bool
usable? c m = usable_in c (lent m)

-- ── Other counts, and other tables with them ───────────────────────────────────────────────────────────────────────────

abbrev pub with_strings : State → ℕ → ℕ → State
with_strings s b n = record {
  string_bytes = b;
  strings = n;
  files = s.files;
  functions = s.functions;
  call_locations = s.call_locations;
  ranges = s.ranges;
}

abbrev pub with_files : State → ℕ → State
with_files s n = record {
  string_bytes = s.string_bytes;
  strings = s.strings;
  files = n;
  functions = s.functions;
  call_locations = s.call_locations;
  ranges = s.ranges;
}

abbrev pub with_functions : State → ℕ → State
with_functions s n = record {
  string_bytes = s.string_bytes;
  strings = s.strings;
  files = s.files;
  functions = n;
  call_locations = s.call_locations;
  ranges = s.ranges;
}

abbrev pub with_calls : State → ℕ → State
with_calls s n = record {
  string_bytes = s.string_bytes;
  strings = s.strings;
  files = s.files;
  functions = s.functions;
  call_locations = n;
  ranges = s.ranges;
}

abbrev pub with_ranges : State → ℕ → State
with_ranges s n = record {
  string_bytes = s.string_bytes;
  strings = s.strings;
  files = s.files;
  functions = s.functions;
  call_locations = s.call_locations;
  ranges = n;
}

-- a table after a step, with its count; the others stay
abbrev pub texts_become : Words → ℕ → ℕ → List ℕ → List ℕ → Words
texts_become w b n x i = words (with_strings w.st b n) x i w.mm.files w.mm.functions w.mm.calls w.mm.ranges

abbrev pub files_become : Words → ℕ → List ℕ → Words
files_become w n t = words (with_files w.st n) w.mm.text w.mm.strings t w.mm.functions w.mm.calls w.mm.ranges

abbrev pub functions_become : Words → ℕ → List ℕ → Words
functions_become w n t = words (with_functions w.st n) w.mm.text w.mm.strings w.mm.files t w.mm.calls w.mm.ranges

abbrev pub calls_become : Words → ℕ → List ℕ → Words
calls_become w n t = words (with_calls w.st n) w.mm.text w.mm.strings w.mm.files w.mm.functions t w.mm.ranges

abbrev pub ranges_become : Words → ℕ → List ℕ → Words
ranges_become w n t = words (with_ranges w.st n) w.mm.text w.mm.strings w.mm.files w.mm.functions w.mm.calls t

-- ── A beginning, and the record after a call ───────────────────────────────────────────────────────────────────────────

-- nothing in use
abbrev pub unused : State
unused = record { string_bytes = 0; strings = 0; files = 0; functions = 0; call_locations = 0; ranges = 0 }

-- what it was begun with, nothing in use, no line rows counted, and open
abbrev pub begun : List ℕ → ℕ → Bool → Bool → Converter
begun id arch f s = record {
  debug_id = id;
  arch = arch;
  undecorate_functions = f;
  undecorate_symbols = s;
  «open» = true;
  state = unused;
  clamped_lines = 0;
}

-- "Beginning takes the debug id, the arch number and the two switches, and zeroes the lent tables"
unfoldable pub begin_of : List ℕ → ℕ → Bool → Bool → Memory → Converter × Memory
begin_of id arch f s m = (begun id arch f s, zeroed m)

-- a count "is 0 after beginning and while closed" (K5)
abbrev pub while_open : Bool → ℕ → ℕ
while_open o n = cond o n 0

abbrev pub with_state : Converter → Bool → State → Converter
with_state c o s = record {
  debug_id = c.debug_id;
  arch = c.arch;
  undecorate_functions = c.undecorate_functions;
  undecorate_symbols = c.undecorate_symbols;
  «open» = o;
  state = s;
  clamped_lines = while_open o c.clamped_lines;
}

-- ── The count of clamped line rows: document 02, K5 ────────────────────────────────────────────────────────────────────

-- "a 64-bit number", which "stays at 2^64 − 1 once there"
abbrev pub capped : ℕ → ℕ
capped n = min n 0xffff_ffff_ffff_ffff

-- so many more line rows counted
abbrev pub with_clamped : Converter → ℕ → Converter
with_clamped c n = record {
  debug_id = c.debug_id;
  arch = c.arch;
  undecorate_functions = c.undecorate_functions;
  undecorate_symbols = c.undecorate_symbols;
  «open» = c.«open»;
  state = c.state;
  clamped_lines = capped (c.clamped_lines + n);
}

-- what "it hands out on request"
unfoldable pub clamped_lines_lem : Converter → ℕ
clamped_lines_lem c = while_open c.«open» c.clamped_lines

-- the counts with the tables
abbrev pub words_of_lem : Converter → Memory → Words
words_of_lem c m = record { st = c.state; mm = m }
