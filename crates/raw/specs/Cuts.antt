-- A row cut out of bytes, with zeros past the end, reads as the row itself: what each row proves of the trait `Stored`.
use Rattle.std.specs.Prelude.{ℕ, ◌+◌, ◌≤◌, ◌≡◌, List, refl}
use Rattle.std.proofs.Common.{arith}
use Rattle.slices.specs.Bytes.{le_at, bytes_at}
use Rattle.slices.proofs.Bytes.{le_at-cut, bytes_at_cut}
use Rattle.raw.specs.Rows.{version_info_at, header_at, file_at_lem, function_at_lem, location_at, range_at_lem}

cut_word : (s : List ℕ) (at k : ℕ) → k + 4 ≤ 72 → le_at 4 (bytes_at 72 s at) k ≡ le_at 4 s (at + k)
cut_word s at k h = le_at-cut 4 72 s at k (at + k) h refl

first_word : (s : List ℕ) (at : ℕ) → le_at 4 (bytes_at 72 s at) 0 ≡ le_at 4 s at
first_word s at = le_at-cut 4 72 s at 0 at (omega arith) (omega arith)

pub version_info-cut : (s : List ℕ) (at : ℕ) → version_info_at (bytes_at 72 s at) 0 ≡ version_info_at s at
unfolding version_info_at
version_info-cut s at = rw (first_word s at, cut_word s at 4 (omega arith))

pub file-cut : (s : List ℕ) (at : ℕ) → file_at_lem (bytes_at 72 s at) 0 ≡ file_at_lem s at
unfolding file_at_lem
file-cut s at =
    rw (
      first_word s at,
      cut_word s at 4 (omega arith),
      cut_word s at 8 (omega arith),
      cut_word s at 12 (omega arith),
      cut_word s at 16 (omega arith),
      cut_word s at 20 (omega arith),
    )

pub function-cut : (s : List ℕ) (at : ℕ) → function_at_lem (bytes_at 72 s at) 0 ≡ function_at_lem s at
unfolding function_at_lem
function-cut s at =
    rw (first_word s at, cut_word s at 4 (omega arith), cut_word s at 8 (omega arith), cut_word s at 12 (omega arith))

pub location-cut : (s : List ℕ) (at : ℕ) → location_at (bytes_at 72 s at) 0 ≡ location_at s at
unfolding location_at
location-cut s at =
    rw (first_word s at, cut_word s at 4 (omega arith), cut_word s at 8 (omega arith), cut_word s at 12 (omega arith))

pub range_cut : (s : List ℕ) (at : ℕ) → range_at_lem (bytes_at 72 s at) 0 ≡ range_at_lem s at
unfolding range_at_lem
range_cut s at = rw (first_word s at)

pub header-cut : (s : List ℕ) (at : ℕ) → header_at (bytes_at 72 s at) 0 ≡ header_at s at
unfolding header_at
header-cut s at =
    rw (
      bytes_at_cut 32 72 s at 0 at (omega arith) (omega arith),
      cut_word s at 32 (omega arith),
      cut_word s at 36 (omega arith),
      cut_word s at 40 (omega arith),
      cut_word s at 44 (omega arith),
      cut_word s at 48 (omega arith),
      cut_word s at 52 (omega arith),
      le_at-cut 2 72 s at 56 (at + 56) (omega arith) refl,
      bytes_at_cut 14 72 s at 58 (at + 58) (omega arith) refl,
    )
