-- Two numbers of 32 bits in eight bytes, little-endian.
use Rattle.std.specs.Prelude.{ℕ, ◌+◌, ◌≡◌, List, [], ◌∷◌}
use Rattle.std.proofs.Common.{arith}
use Rattle.slices.specs.Bytes.{le_at, bytes_at, word_bytes}
use Rattle.slices.proofs.Bytes.{le_at-cut}
use Rattle.loaded_test.specs.declared.Pair.{Pair}

unfoldable pub pair_bytes : Pair → List ℕ
pair_bytes p = word_bytes (p.first ∷ p.second ∷ [])

unfoldable pub pair_at : List ℕ → ℕ → Pair
pair_at s at = record { first = le_at 4 s at; second = le_at 4 s (at + 4) }

-- a law of `Loaded`: cut out with zeros past the end, a pair reads as itself
pub pair_cut : (s : List ℕ) (at : ℕ) → pair_at (bytes_at 72 s at) 0 ≡ pair_at s at
unfolding pair_at
pair_cut s at =
    rw (le_at-cut 4 72 s at 0 at (omega arith) (omega arith), le_at-cut 4 72 s at 4 (at + 4) (omega arith) (omega arith))
