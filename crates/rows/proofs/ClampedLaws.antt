-- Counting the line rows whose addresses were cut back: over columns row by row, and that neither texts nor how the rows lie under functions matter.
use mathlib.Core.Path.{◌≡◌, refl, sym, ap, ap₂, ◌∙◌}
use mathlib.Core.Bool.{Bool, true, false, cond, ◌||◌}
use mathlib.Core.Option.{none, some}
use mathlib.Core.List.{List, [], ◌∷◌, ◌++◌}
use Prim.Native.Nat.{ℕ, zero, suc, ◌+◌, ◌/◌, min}
use native.Mathlib.Nat.{zero-add}
use native.Mathlib.Numerals.{add-one}
use Rattle.std.specs.List.{filter, range_with_len}
use native.Mathlib.Omega.{arith}
use lib.Dec.{ltb}
use lib.ListN.{length}
use Rattle.model.specs.Rows.{MAX, LineRow}
use Rattle.rows.specs.Columns.{Columns, columns, line_rows, line_struct, boundaries_of, line_at, lines_from}
use Rattle.rows.specs.Clamped.{clamped?, clamped_lines_in, cut_at, clamped_columns_lem}

-- one or none
abbrev one : Bool → ℕ
one b = cond b 1 0

pub clamped_append : (ns ms : List LineRow) → clamped_lines_in (ns ++ ms) ≡ clamped_lines_in ns + clamped_lines_in ms
unfolding clamped_lines_in
clamped_append [] ms = omega arith
clamped_append (n ∷ ns) ms =
    let e : clamped_lines_in (ns ++ ms) ≡ clamped_lines_in ns + clamped_lines_in ms = clamped_append ns ms in
    omega arith

module _ (k : Columns) where
  -- the row's own test is that of its struct
  clamped_at : (j : ℕ) → clamped? (line_at k j) ≡ cut_at k.lines64 k.lines32 j
  unfolding line_at cut_at boundaries_of
  clamped_at j = go (line_struct k j).has_size
    where
      go : (h : Bool) → (ltb MAX (line_struct k j).address || ltb MAX (min (line_struct k j).address MAX + elim (cond h (some (line_struct k j).size) none) [ none ↦ 1 | some z ↦ z ]))
          ≡ (ltb MAX (line_struct k j).address || ltb MAX (min (line_struct k j).address MAX + cond h (line_struct k j).size 1))
      go true = refl
      go false = refl

-- ── The columns, row by row ──

module _ (l64 l32 : List ℕ) where
  counted : (n j : ℕ) → length (filter (cut_at l64 l32) (range_with_len j n)) ≡ clamped_lines_in (lines_from (columns [] [] l64 l32 []) j n)
  unfolding clamped_lines_in lines_from
  counted zero j = refl
  counted (suc n) j =
      kept (cut_at l64 l32 j) (filter (cut_at l64 l32) (range_with_len (j + 1) n))
      ∙ ap₂ (λ (b : Bool) (m : ℕ). one b + m) (sym (clamped_at (columns [] [] l64 l32 []) j)) (rw (add-one j) (counted n (suc j)))
    where
      kept : (b : Bool) (xs : List ℕ) → length (cond b (j ∷ xs) xs) ≡ one b + length xs
      kept true xs = omega arith
      kept false xs = sym (zero-add (length xs))

  -- as many as are found among the numbers of all rows
  pub clamped_found : (n : ℕ) {count : ℕ} → n ≡ length l64 / 3 → count ≡ length (filter (cut_at l64 l32) (range_with_len 0 n)) → count ≡ clamped_columns_lem l64 l32
  unfolding clamped_columns_lem
  clamped_found n e f = f ∙ (counted n 0 ∙ ap (λ (m : ℕ). clamped_lines_in (lines_from (columns [] [] l64 l32 []) 0 m)) e)

-- ── The rows of a tree ──

-- the texts and the function rows do not matter
pub clamped_columns : (k : Columns) → clamped_columns_lem k.lines64 k.lines32 ≡ clamped_lines_in (lines_from k 0 (line_rows k))
unfolding clamped_columns_lem lines_from clamped_lines_in
clamped_columns k = go (line_rows k) 0
  where
    go : (n j : ℕ) → clamped_lines_in (lines_from (columns [] [] k.lines64 k.lines32 []) j n) ≡ clamped_lines_in (lines_from k j n)
    go zero j = refl
    go (suc n) j = ap₂ (λ (b : Bool) (m : ℕ). one b + m) (clamped_at (columns [] [] k.lines64 k.lines32 []) j ∙ sym (clamped_at k j)) (go n (suc j))
