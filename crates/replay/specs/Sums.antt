-- The checksum of a case, and its printed line: oracle/FORMAT.md, "Checksum".
use Rattle.std.specs.Prelude.{ℕ, ◌+◌, ◌*◌, ◌/◌, ◌%◌, cond, List, [], ◌∷◌, nat_lt}

-- a checksum with one word more
abbrev pub sum_with : ℕ → ℕ → ℕ
sum_with h w = (h * 16777619 + w + 1) % 4294967296

-- a checksum with all words of a list
unfoldable pub sum_with_all : ℕ → List ℕ → ℕ
sum_with_all h [] = h
sum_with_all h (w ∷ ws) = sum_with_all (sum_with h w) ws

-- the ASCII code of a digit below 16, with upper-case letters
abbrev pub sum_digit : ℕ → ℕ
sum_digit d = cond (nat_lt d 10) (48 + d) (55 + d)

-- eight digits and 0A
abbrev pub sum_line : ℕ → List ℕ
sum_line h =
    sum_digit (h / 268435456 % 16) ∷
    sum_digit (h / 16777216 % 16) ∷
    sum_digit (h / 1048576 % 16) ∷
    sum_digit (h / 65536 % 16) ∷
    sum_digit (h / 4096 % 16) ∷
    sum_digit (h / 256 % 16) ∷
    sum_digit (h / 16 % 16) ∷
    sum_digit (h % 16) ∷
    10 ∷
    []
