-- The exported calls of the converter and the writer: each reads the record, does what the call of `writer` or `serialize` does (writer's Calls,
-- serialize's File), and stores the record where it
-- was accepted or closed. All for any content and any length.
use Rattle.std.specs.Prelude.{ℕ, cond, List, [], ltb, length}
use Rattle.slices.specs.Bytes.{bytes_at}
use Rattle.rows.specs.Columns.{Columns}
use Rattle.rows.specs.declared.OptionalPart.{OptionalPart}
use Rattle.memory.specs.Memory.{Memory}
use Rattle.symbol_call.specs.Calls.{Called, symbol_of}
use Rattle.writer.specs.Calls.{tree_of}
use Rattle.memory.specs.Record.{begin_of, clamped_lines_lem}
use Rattle.line_calls.specs.Calls.{LinesCalled, lines_of}
use Rattle.serialize.specs.File.{serialize_of}
use Rattle.c_reading.specs.Stored.{stored}
use Rattle.slices.specs.Slices.{yes}
use Rattle.c_words.specs.Record.{converter_of, words_of, kept, len_words}

-- what a call leaves: document 01's number, the record's words, the six tables, scratch
pub record CallLeft : Type 0 where
  pub code : ℕ
  pub words : List ℕ
  pub memory : Memory
  pub scratch : List ℕ

abbrev pub call_left : ℕ → List ℕ → Memory → List ℕ → CallLeft
call_left n r m s = record { code = n; words = r; memory = m; scratch = s }

abbrev pub leaves : List ℕ → Called → CallLeft
leaves r o = call_left o.code (kept o.code o.converter r) o.memory o.scratch

-- "debug_id: its first 32 bytes; missing ones are 0. Begin answers 0, or 19 where the record has fewer than 20 words (then nothing changes)"
unfoldable pub begin_call : List ℕ → List ℕ → ℕ → ℕ → ℕ → Memory → CallLeft
begin_call r id arch f s m =
    let b = begin_of (bytes_at 32 id 0) arch (yes f) (yes s) m in
    cond (ltb (length r) 20) (call_left 19 r m []) (call_left 0 (stored (words_of b.0) r) b.1 [])

unfoldable pub tree_call : List ℕ → Memory → List ℕ → Columns → CallLeft
tree_call r m s k = leaves r (tree_of (converter_of r) m s k)

-- a tree whose line rows are one lent list: what a tree call leaves, and the memory that the line rows are unpacked into
pub record LinesCallLeft : Type 0 where
  pub tree : CallLeft
  pub unpacked64 : List ℕ
  pub unpacked32 : List ℕ

abbrev pub lines_left_lem : CallLeft → List ℕ → List ℕ → LinesCallLeft
lines_left_lem l u v = record { tree = l; unpacked64 = u; unpacked32 = v }

abbrev pub lines_leave : List ℕ → LinesCalled → LinesCallLeft
lines_leave r o = lines_left_lem (leaves r o.called) o.unpacked64 o.unpacked32

unfoldable pub lines_call : List ℕ → Memory → List ℕ → List ℕ → List ℕ → Columns → LinesCallLeft
lines_call r m s u v k = lines_leave r (lines_of (converter_of r) m s u v k)

-- a symbol's name, where it is named
abbrev pub name_at : ℕ → ℕ → ℕ → OptionalPart
name_at named start len = record { present = yes named; part = record { start = start; len = len } }

unfoldable pub symbol_call : List ℕ → Memory → List ℕ → ℕ → ℕ → OptionalPart → CallLeft
symbol_call r m t address size name = leaves r (symbol_of (converter_of r) m t address size name)

-- "as a 64-bit number it hands out on request. It is 0 after beginning and while closed" (K5)
unfoldable pub clamped_call : List ℕ → ℕ
clamped_call r = clamped_lines_lem (converter_of r)

-- ── Writing ────────────────────────────────────────────────────────────────────────────────────────────────────────────

-- the number, the output, and the words of the length
pub record LeftFile : Type 0 where
  pub code : ℕ
  pub output : List ℕ
  pub len : List ℕ

abbrev pub left_file : ℕ → List ℕ → List ℕ → LeftFile
left_file n o l = record { code = n; output = o; len = l }

unfoldable pub serialize_call : List ℕ → Memory → List ℕ → List ℕ → LeftFile
serialize_call r m out l =
    let w = serialize_of (converter_of r) m out in
    left_file w.code w.output (len_words w.code w.len l)
