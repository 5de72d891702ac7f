-- A line of the lister's input (document 01, "Lister"), as a list of bytes without its 0A.
use Rattle.std.specs.Prelude.{
  ℕ,
  Option,
  Some,
  None,
  Result,
  ◌+◌,
  ◌-◌,
  ◌*◌,
  ◌%◌,
  Bool,
  true,
  false,
  cond,
  not,
  ◌&&◌,
  ◌||◌,
  List,
  [],
  ◌∷◌,
  ◌++◌,
  length,
  ◌==◌,
  nat_le,
  nat_lt,
}
use Rattle.input_lines.specs.declared.LineState.{LineState}
use Rattle.input_lines.specs.declared.BadLine.{BadLine}

-- "hexadecimal digits of either case": the value of a digit, and 16 for any other byte
unfoldable pub digit_of : ℕ → ℕ
digit_of b =
    cond (nat_le 48 b && nat_le b 57) (b - 48)
    (cond (nat_le 65 b && nat_le b 70) (b - 55)
    (cond (nat_le 97 b && nat_le b 102) (b - 87)
    16))

unfoldable pub all_digits : List ℕ → Bool
all_digits [] = true
all_digits (b ∷ bs) = nat_lt (digit_of b) 16 && all_digits bs

-- the number that digits write after those of v, the first digit highest
unfoldable pub number_from : ℕ → List ℕ → ℕ
number_from v [] = v
number_from v (b ∷ bs) = number_from (v * 16 + digit_of b) bs

-- "lines of 1 to 16 hexadecimal digits"; every other line is bad, "empty ones too"
unfoldable pub meaning : List ℕ → Option ℕ
meaning line = cond (nat_le 1 (length line) && nat_le (length line) 16 && all_digits line) (Some (number_from 0 line)) None

-- what `start`, `feed` and `finish` give: the bytes so far, counted up to 17, the number that they write, modulo 2^64,
-- and whether one of them was no digit
unfoldable pub line_start : LineState
line_start = record { digits = 0; value = 0; bad = false }

-- 1152921504606846976 is 2^60
unfoldable pub feed_of : LineState → ℕ → LineState
feed_of s b = record {
  digits = cond (nat_lt s.digits 17) (s.digits + 1) 17;
  value = s.value % 1152921504606846976 * 16 + digit_of b % 16;
  bad = s.bad || nat_le 16 (digit_of b);
}

unfoldable pub finish_of : LineState → Option ℕ
finish_of s = cond (nat_le 1 s.digits && nat_le s.digits 16 && not s.bad) (Some s.value) None

-- "Lines end with byte 0A ..; bytes after the last 0A, if any, are a line": the lines of an input, where `line` is
-- what has come of the line at hand
unfoldable pub lines_after : List ℕ → List ℕ → List (List ℕ)
lines_after [] [] = []
lines_after (b ∷ bs) [] = (b ∷ bs) ∷ []
lines_after line (b ∷ rest) = cond (b == 10) (line ∷ lines_after [] rest) (lines_after (line ++ (b ∷ [])) rest)

-- what reading gives: a whole line, with its address or bad, or that the line goes on
abbrev pub Got : Type 0
Got = Option (Result ℕ BadLine)
