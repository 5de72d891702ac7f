-- The lines that the lister prints (document 01, "Lister"), as lists of bytes.
use Rattle.std.specs.Prelude.{ℕ, zero, suc, ◌+◌, ◌/◌, ◌%◌, List, [], ◌∷◌, ◌++◌, cond, leb, ltb, length}
use Rattle.std.proofs.lemmas.List.Edits.{sets}

-- "upper-case hexadecimal": the byte of a digit below 16
unfoldable pub hex_digit : ℕ → ℕ
hex_digit d = cond (ltb d 10) (48 + d) (55 + d)

-- a number in `width` digits, the highest first
unfoldable pub hex_field : ℕ → ℕ → List ℕ
hex_field zero v = []
hex_field (suc width) v = hex_field width (v / 16) ++ (hex_digit (v % 16) ∷ [])

-- "single spaces": a space, then 8 digits
unfoldable pub spaced : ℕ → List ℕ
spaced v = 32 ∷ hex_field 8 v

-- "address (16 digits), frame number from 0, location, function, line, file (8 each ..)"
unfoldable pub frame_line_lem : ℕ → ℕ → ℕ → ℕ → ℕ → ℕ → List ℕ
frame_line_lem address number location function line file =
    hex_field 16 address ++ spaced number ++ spaced location ++ spaced function ++ spaced line ++ spaced file ++ (10 ∷ [])

-- "No frame: address, FFFFFFFF"
unfoldable pub no_frame_line : ℕ → List ℕ
no_frame_line address = hex_field 16 address ++ spaced 4294967295 ++ (10 ∷ [])

-- "Bad line ..: ?, its number from 1 modulo 2^32 (8)"
unfoldable pub bad_line : ℕ → List ℕ
bad_line number = 63 ∷ spaced number ++ (10 ∷ [])

-- "REFUSED and the number (2 decimal digits)"
unfoldable pub refused_line : ℕ → List ℕ
refused_line number =
    82 ∷ 69 ∷ 70 ∷ 85 ∷ 83 ∷ 69 ∷ 68 ∷ 32 ∷ (48 + number / 10 % 10) ∷ (48 + number % 10) ∷ 10 ∷ []

-- what a function that prints a line to a lent buffer answers, and what it leaves there
pub record WroteLine : Type 0 where
  pub next : ℕ
  pub out : List ℕ

abbrev pub wrote_line : ℕ → List ℕ → WroteLine
wrote_line n s = record { next = n; out = s }

-- the line from `at` on, and the place after it; where it has no room, nothing changes and the answer is `at`
unfoldable pub put_line : List ℕ → ℕ → List ℕ → WroteLine
put_line out at line = cond (leb (at + length line) (length out)) (wrote_line (at + length line) (sets out at line)) (wrote_line at out)
