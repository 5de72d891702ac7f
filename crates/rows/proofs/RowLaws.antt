-- What the model reads of a row is what its struct has: one law a field, and the corners. Each holds by definition.
use mathlib.Core.Path.{◌≡◌, refl, ap}
use mathlib.Core.Bool.{Bool, true, false, cond}
use mathlib.Core.Option.{none, some}
use mathlib.Core.List.{List, [], ◌∷◌, ◌++◌}
use Prim.Native.Nat.{ℕ, zero, suc, ◌+◌, min}
use native.Mathlib.Nat.{zero-add, add-zero, suc-add, add-suc}
use lib.Dec.{eqb, ltb}
use Rattle.model.specs.Rows.{MAX, cut32, LineRow, boundaries, skipped, function_end}
use Rattle.rows.specs.Columns.{Columns, function_struct, line_struct, boundaries_of, text_of, optional_of, line_at, lines_from, tree_row, tree_rows_from}

module _ (k : Columns) (i j : ℕ) where
  pub tree_row-depth : (tree_row k i j).depth ≡ (function_struct k i).depth
  unfolding tree_row
  tree_row-depth = refl

  pub tree_row-address : (tree_row k i j).address ≡ (function_struct k i).address
  unfolding tree_row
  tree_row-address = refl

  pub tree_row-size : (tree_row k i j).size ≡ (function_struct k i).size
  unfolding tree_row
  tree_row-size = refl

  pub tree_row-inline : (tree_row k i j).inline ≡ (function_struct k i).inline
  unfolding tree_row
  tree_row-inline = refl

  pub tree_row-language : (tree_row k i j).language ≡ (function_struct k i).language
  unfolding tree_row
  tree_row-language = refl

  pub tree_row-name : (tree_row k i j).name ≡ text_of k.text (function_struct k i).name
  unfolding tree_row
  tree_row-name = refl

  pub tree_row-comp_dir : (tree_row k i j).comp_dir ≡ text_of k.text (function_struct k i).comp_dir
  unfolding tree_row
  tree_row-comp_dir = refl

  pub tree_row-lines : (tree_row k i j).lines ≡ lines_from k j (function_struct k i).lines
  unfolding tree_row
  tree_row-lines = refl

  pub tree_row-skipped : skipped (tree_row k i j) ≡ cond (eqb (function_struct k i).size 0) true (ltb MAX (function_struct k i).address)
  unfolding tree_row
  tree_row-skipped = refl

  pub tree_row-end : function_end (tree_row k i j) ≡ cut32 ((function_struct k i).address + (function_struct k i).size)
  unfolding tree_row
  tree_row-end = refl

module _ (k : Columns) (j : ℕ) where
  pub line_at_address : (line_at k j).address ≡ (line_struct k j).address
  unfolding line_at
  line_at_address = refl

  pub line_at_size : (line_at k j).size ≡ cond (line_struct k j).has_size (some (line_struct k j).size) none
  unfolding line_at
  line_at_size = refl

  pub line_at_number : (line_at k j).number ≡ (line_struct k j).number
  unfolding line_at
  line_at_number = refl

  pub line_at_name : (line_at k j).name ≡ text_of k.text (line_struct k j).name
  unfolding line_at
  line_at_name = refl

  pub line_at_directory : (line_at k j).directory ≡ text_of k.text (line_struct k j).directory
  unfolding line_at
  line_at_directory = refl

  pub line_at_srcsrv_name : (line_at k j).srcsrv_name ≡ optional_of k.text (line_struct k j).srcsrv_name
  unfolding line_at
  line_at_srcsrv_name = refl

  pub line_at_srcsrv_dir : (line_at k j).srcsrv_dir ≡ optional_of k.text (line_struct k j).srcsrv_dir
  unfolding line_at
  line_at_srcsrv_dir = refl

  pub line_at_revision : (line_at k j).revision ≡ optional_of k.text (line_struct k j).revision
  unfolding line_at
  line_at_revision = refl

  -- what `line_boundaries` answers of the struct is the model's span of the line
  pub line_at_boundaries : boundaries (line_at k j)
      ≡ (let l = line_struct k j in let b = boundaries_of l.address l.has_size l.size in record { from = b.start; to = b.end })
  unfolding line_at boundaries_of
  line_at_boundaries = go (line_struct k j).has_size
    where
      go : (h : Bool) → boundaries (record {
        address = (line_struct k j).address;
        size = cond h (some (line_struct k j).size) none;
        number = (line_struct k j).number;
        name = text_of k.text (line_struct k j).name;
        directory = text_of k.text (line_struct k j).directory;
        srcsrv_name = optional_of k.text (line_struct k j).srcsrv_name;
        srcsrv_dir = optional_of k.text (line_struct k j).srcsrv_dir;
        revision = optional_of k.text (line_struct k j).revision;
      })
          ≡ record { from = min (line_struct k j).address MAX; to = min (min (line_struct k j).address MAX + cond h (line_struct k j).size 1) MAX }
      go true = refl
      go false = refl

-- ── Lists of rows, by one ──

module _ (k : Columns) where
  pub lines_from_none : (j : ℕ) → lines_from k j 0 ≡ []
  unfolding lines_from
  lines_from_none j = refl

  pub lines_from_more : (j n : ℕ) → lines_from k j (suc n) ≡ line_at k j ∷ lines_from k (suc j) n
  unfolding lines_from
  lines_from_more j n = refl

  pub tree_rows_from-none : (i j : ℕ) → tree_rows_from k i 0 j ≡ []
  unfolding tree_rows_from
  tree_rows_from-none i j = refl

  pub tree_rows_from-more : (i n j : ℕ) → tree_rows_from k i (suc n) j ≡ tree_row k i j ∷ tree_rows_from k (suc i) n (j + (function_struct k i).lines)
  unfolding tree_rows_from
  tree_rows_from-more i n j = refl

  pub lines_from_append : (j m n : ℕ) → lines_from k j (m + n) ≡ lines_from k j m ++ lines_from k (j + m) n
  unfolding lines_from
  lines_from_append j zero n = rw (zero-add n, add-zero j)
  lines_from_append j (suc m) n = rw (suc-add m n, add-suc j m, ← suc-add j m) (ap (λ (l : List LineRow). line_at k j ∷ l) (lines_from_append (suc j) m n))
