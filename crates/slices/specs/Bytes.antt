-- Numbers as bytes, little-endian, written once for every width (document 01: "Files are little-endian").
use Rattle.std.specs.Prelude.{ℕ, zero, suc, ◌+◌, ◌*◌, ◌/◌, ◌%◌, ◌<◌, ◌^◌, ◌≡◌, List, [], ◌∷◌, ◌++◌, get_or}

-- `v` in `w` bytes, the lowest first
unfoldable pub le : ℕ → ℕ → List ℕ
le zero v = []
le (suc w) v = v % 256 ∷ le w (v / 256)

-- the number in the `w` bytes of `s` from `at` on; a byte past the end counts as 0
unfoldable pub le_at : ℕ → List ℕ → ℕ → ℕ
le_at zero s at = 0
le_at (suc w) s at = get_or s at 0 + 256 * le_at w s (suc at)

-- the `n` bytes of `s` from `at` on; 0 past the end
unfoldable pub bytes_at : ℕ → List ℕ → ℕ → List ℕ
bytes_at zero s at = []
bytes_at (suc n) s at = get_or s at 0 ∷ bytes_at n s (suc at)

-- numbers of 32 bits, one after the other
unfoldable pub word_bytes : List ℕ → List ℕ
word_bytes [] = []
word_bytes (v ∷ vs) = le 4 v ++ word_bytes vs

-- each of them has 32 bits
abbrev pub Words32 : List ℕ → Type 0
Words32 [] = Unit {0}
Words32 (v ∷ vs) = (v < 2 ^ 32) × Words32 vs

-- the bytes `bs` stand in `s` from `at` on
abbrev pub Stands : List ℕ → List ℕ → ℕ → Type 0
Stands [] s at = Unit {0}
Stands (b ∷ bs) s at = (get_or s at 0 ≡ b) × Stands bs s (suc at)

-- the rows of a table, one after the other
unfoldable pub table_bytes : {A : Type 0} → (A → List ℕ) → List A → List ℕ
table_bytes bytes [] = []
table_bytes bytes (x ∷ xs) = bytes x ++ table_bytes bytes xs
