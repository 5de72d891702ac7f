-- Document 01's marked examples M4 and M5, computed, and the corners of K5.
use Rattle.std.specs.Prelude.{◌≡◌, refl, true, false, List, [], ◌∷◌, ℕ, ◌+◌, ◌-◌}
use Rattle.std.proofs.Math.Option.{none, some}
use Rattle.model.specs.Rows.{MAX, LineRow, FunctionRow}
use Rattle.rows.specs.Columns.{boundaries_of}
use Rattle.rows.specs.Clamped.{clamped_lines_in, clamped_rows}

-- rows of which only what is counted by matters
abbrev line : ℕ → ℕ → LineRow
line address size =
    record { address = address; size = some size; number = 1; name = []; directory = []; srcsrv_name = none; srcsrv_dir = none; revision = none }

abbrev function : ℕ → List LineRow → FunctionRow
function size lines = record { depth = 0; address = 0; size = size; inline = false; language = 0; name = []; comp_dir = []; lines = lines }

pub record Marked : Type 0 where
  -- "address MAX, no size: (MAX, MAX)"; start plus 1 is above MAX
  pub M4 : (size : ℕ) → boundaries_of MAX false size ≡ record { start = MAX; end = MAX; cut = true }
  -- "MAX − 5, size 5: end MAX", which is not above it
  pub M5 : boundaries_of (MAX - 5) true 5 ≡ record { start = MAX - 5; end = MAX; cut = false }
  pub below : boundaries_of (MAX - 6) true 5 ≡ record { start = MAX - 6; end = MAX - 1; cut = false }  -- one less is not the end
  pub above : boundaries_of (MAX - 5) true 6 ≡ record { start = MAX - 5; end = MAX; cut = true }  -- start plus size is MAX + 1
  pub far : boundaries_of 0x1_0000_0000 true 5 ≡ record { start = MAX; end = MAX; cut = true }  -- 2^32 is clamped
  pub none_at_max : boundaries_of MAX true 0 ≡ record { start = MAX; end = MAX; cut = false }  -- size 0 at MAX: neither is above it
  pub none_past_max : boundaries_of (MAX + 1) true 0 ≡ record { start = MAX; end = MAX; cut = true }  -- the address alone is
  pub last_single : (size : ℕ) → boundaries_of (MAX - 1) false size ≡ record { start = MAX - 1; end = MAX; cut = false }
  -- "each row once, in skipped functions as well": a root of size 0 with lines at MAX + 1 and 0, and an inlinee with one that ends at MAX + 1
  pub counted : clamped_rows (function 0 (line (MAX + 1) 0 ∷ line 0 8 ∷ []) ∷ function 4 (line (MAX - 5) 6 ∷ []) ∷ []) ≡ 2

pub marked : Marked
unfolding boundaries_of clamped_lines_in clamped_rows
marked = record {
  M4 = λ size. refl;
  M5 = refl;
  below = refl;
  above = refl;
  far = refl;
  none_at_max = refl;
  none_past_max = refl;
  last_single = λ size. refl;
  counted = refl;
}
