-- AN INPUT OF LINES (document 01, "Lister"), and how it is read in pieces of any length.
use Rattle.std.specs.Prelude.{ℕ, Option, Some, None, Ok, Err, ◌+◌, ◌%◌, cond, List, [], ◌∷◌, ◌==◌}
use Rattle.input_lines.specs.declared.Input.{Input}
use Rattle.input_lines.specs.declared.ReadOn.{ReadOn}
use Rattle.input_lines.specs.declared.AtEnd.{AtEnd}
use Rattle.input_lines.specs.Line.{Got, meaning, lines_after, line_start, feed_of, finish_of}

-- ── What an input says ──

-- what a whole line says, with its number
unfoldable pub told : ℕ → Option ℕ → Got
told n (Some a) = Some (Ok a)
told n None = Some (Err (record { 0 = n }))

-- what lines say, one after the other, the first of them with the number n. "its number from 1 modulo 2^32"
unfoldable pub all_told : ℕ → List (List ℕ) → List Got
all_told n [] = []
all_told n (line ∷ lines) = told (n % 4294967296) (meaning line) ∷ all_told (n + 1) lines

-- what an input says
abbrev pub input_says : List ℕ → List Got
input_says input = all_told 1 (lines_after [] input)

-- ── Read in pieces ──

-- before the first byte
unfoldable pub input_start : Input
input_start = record { line = line_start; number = 1 }

-- after one byte more, which is not the line's 0A
unfoldable pub fed : Input → ℕ → Input
fed s b = record { line = feed_of s.line b; number = s.number }

-- the line after the one at hand
unfoldable pub after_line : Input → Input
after_line s = record { line = line_start; number = (s.number + 1) % 4294967296 }

-- the line at hand is whole: what it says, and the line after it
unfoldable pub whole_line : Input → AtEnd
whole_line s = record { input = after_line s; got = told s.number (finish_of s.line) }

-- the same, in a piece that goes on at a place
unfoldable pub line_at_lem : Input → ℕ → ReadOn
line_at_lem s i = record { input = (whole_line s).input; next = i; got = (whole_line s).got }

-- reading on in a piece, of which these bytes from place i on are left: up to the end of a line, or to that of the piece
unfoldable pub read_on : Input → ℕ → List ℕ → ReadOn
read_on s i [] = record { input = s; next = i; got = None }
read_on s i (b ∷ bs) = cond (b == 10) (line_at_lem s (i + 1)) (read_on (fed s b) (i + 1) bs)

-- the input has ended: "bytes after the last 0A, if any, are a line"
unfoldable pub at_end : Input → AtEnd
at_end s = cond (s.line.digits == 0) (record { input = s; got = None }) (whole_line s)
