-- ROWS IN PREORDER: only the call locations of the depths up to the next row's are ever read, and each line row is an inlinee range of one depth at most. So the pairs that are stacked fit.
use mathlib.Core.Path.{◌≡◌, refl, ap, ◌∙◌}
use mathlib.Core.Logic.{◌⊎◌, inl, inr, ⊎_elim, ◌≢◌}
use mathlib.Core.List.{List, [], ◌∷◌, ◌++◌, map}
use Prim.Native.Nat.{ℕ, zero, suc, ◌+◌, ◌*◌, ◌-◌, ◌≤◌, ◌<◌}
use native.Mathlib.Omega.{arith}
use native.Mathlib.Nat.{add-suc, suc-add}
use native.Mathlib.Numerals.{add-one}
use lib.ListN.{length, get_or, length-append, length-map}
use borrow.Author.Tests.{le-leb, lt-leb, eq-eqb, ne_eqb}
use Rattle.slices.proofs.Cases.{lt-or_ge, eq-or-ne}
use Rattle.model.specs.Basics.{Deep}
use Rattle.model.specs.Rows.{FunctionRow}
use Rattle.model.specs.Machine.{Input, Machine, Ref, set_at_m, kid_spans_m, row_m, convert_m}
use Rattle.model.specs.Converter.{input, deep}
use Rattle.model.specs.Premises.{Legal}
use Rattle.model.proofs.Depths.{Steps}
use Rattle.rows.specs.Columns.{Columns, function_rows, function_struct, lines_from, tree_row, tree_rows_from}
use Rattle.refusals.specs.Refusals.{first_line_lem, total}
use Rattle.rows.proofs.RowLaws.{tree_rows_from-more, tree_row-lines}
use Rattle.scratch.specs.Scratch.{ref_of, calls_start, len_at, calls_of, top_of}
use Rattle.scratch.proofs.Pairs.{pairs-same}

-- ── How many inlinee ranges there are ──

module _ {Q N Y : Type 0} (I : Input Q N Y) where
  module _ (d : ℕ) (r : Deep Q) (rs : List (Deep Q)) where
    pub kids-end : r.depth ≤ d → kid_spans_m I d (r ∷ rs) ≡ []
    unfolding kid_spans_m
    kids-end h = rw (le-leb r.depth d h)

    pub kids-here : r.depth ≡ suc d → kid_spans_m I d (r ∷ rs) ≡ map I.span (I.lines r.item) ++ kid_spans_m I d rs
    unfolding kid_spans_m
    kids-here h = rw (lt-leb r.depth d (omega arith), eq-eqb r.depth (suc d) h)

    pub kids-deeper : suc d < r.depth → kid_spans_m I d (r ∷ rs) ≡ kid_spans_m I d rs
    unfolding kid_spans_m
    kids-deeper h = rw (lt-leb r.depth d (omega arith), ne_eqb r.depth (suc d) (omega arith))

  -- of the depths below d together
  unfoldable pub kids : ℕ → List (Deep Q) → ℕ
  kids zero rs = 0
  kids (suc d) rs = kids d rs + length (kid_spans_m I d rs)

  pub kids-suc : (d : ℕ) (rs : List (Deep Q)) → kids (suc d) rs ≡ kids d rs + length (kid_spans_m I d rs)
  unfolding kids
  kids-suc d rs = refl

  kids-none : (d : ℕ) → kids d [] ≡ 0
  unfolding kids kid_spans_m
  kids-none zero = refl
  kids-none (suc d) = let h = kids-none d in omega arith

  -- a row adds its lines to one depth at most, and to none that is not above it
  abbrev Adds : ℕ → Deep Q → List (Deep Q) → Type 0
  Adds d r rs = (kids d (r ∷ rs) ≤ kids d rs + length (I.lines r.item)) × (d < r.depth → kids d (r ∷ rs) ≤ kids d rs)

  adds-more : (d : ℕ) (r : Deep Q) (rs : List (Deep Q)) → Adds d r rs → (r.depth ≤ d) ⊎ (d < r.depth) → (r.depth ≡ suc d) ⊎ (r.depth ≢ suc d) → Adds (suc d) r rs
  unfolding kids
  adds-more d r rs i (inl h) z =
      let e : length (kid_spans_m I d (r ∷ rs)) ≡ 0 = ap length (kids-end d r rs h) in
      let a : kids d (r ∷ rs) ≤ kids d rs + length (I.lines r.item) = i.0 in
      (omega arith, λ g. absurd (omega arith))
  adds-more d r rs i (inr h) (inl z) =
      let e : length (kid_spans_m I d (r ∷ rs)) ≡ length (I.lines r.item) + length (kid_spans_m I d rs) =
      ap length (kids-here d r rs z) ∙ simp (length-append, length-map) in
      let a : kids d (r ∷ rs) ≤ kids d rs = i.1 h in
      (omega arith, λ g. absurd (omega arith))
  adds-more d r rs i (inr h) (inr z) =
      let e : length (kid_spans_m I d (r ∷ rs)) ≡ length (kid_spans_m I d rs) = ap length (kids-deeper d r rs (omega arith)) in
      let a : kids d (r ∷ rs) ≤ kids d rs = i.1 h in
      (omega arith, λ x. omega arith)

  adds : (d : ℕ) (r : Deep Q) (rs : List (Deep Q)) → Adds d r rs
  unfolding kids
  adds zero r rs = (omega arith, λ h. omega arith)
  adds (suc d) r rs = adds-more d r rs (adds d r rs) (⊎_elim inr inl (lt-or_ge d r.depth)) (eq-or-ne r.depth (suc d))

  pub kids-row : (d : ℕ) (r : Deep Q) (rs : List (Deep Q)) → kids d (r ∷ rs) ≤ kids d rs + length (I.lines r.item)
  kids-row d r rs = (adds d r rs).0

-- ── Only the depths up to the next row's are read ──

module _ {Q N Y R P L C S : Type 0} (I : Input Q N Y) (M : Machine Q N Y R P L C S) where
  module _ (ctx ctx' : ℕ → List (Ref C)) where
    set_agree : (d D : ℕ) (cs : List (Ref C)) → d ≤ D → ((j : ℕ) → j ≤ D → ctx j ≡ ctx' j) → (j : ℕ) → j ≤ suc d → set_at_m (suc d) cs ctx j ≡ set_at_m (suc d) cs ctx' j
    unfolding set_at_m
    set_agree d D cs h e j g =
        ⊎_elim (λ z. rw (eq-eqb j (suc d) z)) (λ z. rw (ne_eqb j (suc d) z) (e j (omega arith))) (eq-or-ne j (suc d))

  pub convert_agree : (rs : List (Deep Q)) (D : ℕ) (ctx ctx' : ℕ → List (Ref C)) (w : S) → Steps D rs → ((j : ℕ) → j ≤ D → ctx j ≡ ctx' j) → convert_m I M rs ctx w ≡ convert_m I M rs ctx' w
  unfolding convert_m
  convert_agree [] D ctx ctx' w s e = refl
  convert_agree (r ∷ rs) D ctx ctx' w s e =
      let o = row_m I M r.item (kid_spans_m I r.depth rs) (ctx' r.depth) w in
      rw (e r.depth s.0) (convert_agree rs (suc r.depth) (set_at_m (suc r.depth) o.calls ctx) (set_at_m (suc r.depth) o.calls ctx') o.state s.1 (set_agree ctx ctx' r.depth D o.calls s.0 e))

-- ── The rows of columns ──

pub first-line : (k : Columns) (i : ℕ) → first_line_lem k (i + 1) ≡ first_line_lem k i + (function_struct k i).lines
unfolding total
first-line k i = rw (add-one i) refl

module _ (k : Columns) where
  pub length-lines : (j n : ℕ) → length (lines_from k j n) ≡ n
  unfolding lines_from
  length-lines j zero = refl
  length-lines j (suc n) = ap suc (length-lines (suc j) n)

  -- the rows from i on
  abbrev pub rows_left : ℕ → List (Deep FunctionRow)
  rows_left i = map deep (tree_rows_from k i (function_rows k - i) (first_line_lem k i))

  pub rows_next : (i : ℕ) → i < function_rows k → rows_left i ≡ deep (tree_row k i (first_line_lem k i)) ∷ rows_left (i + 1)
  rows_next i h =
      let e : function_rows k - i ≡ suc (function_rows k - (i + 1)) = omega arith in
      rw (e, tree_rows_from-more k i (function_rows k - (i + 1)) (first_line_lem k i), first-line k i, add-one i)

  pub rows_none : (i : ℕ) → function_rows k ≤ i → rows_left i ≡ []
  unfolding tree_rows_from
  rows_none i h = let e : function_rows k - i ≡ 0 = omega arith in rw e

  -- the inlinee ranges of the rows to come are no more than their lines
  kids_of : (n i d : ℕ) → kids input d (map deep (tree_rows_from k i n (first_line_lem k i))) + first_line_lem k i ≤ first_line_lem k (i + n)
  unfolding tree_rows_from
  kids_of zero i d = let e : i + 0 ≡ i = omega arith in let h : kids input d [] ≡ 0 = kids-none input d in rw e (omega arith)
  kids_of (suc n) i d =
      let r = tree_row k i (first_line_lem k i) in
      let rs = map deep (tree_rows_from k (suc i) n (first_line_lem k i + (function_struct k i).lines)) in
      let z : first_line_lem k (suc i) ≡ first_line_lem k i + (function_struct k i).lines = rw (add-one i) at (first-line k i) in
      let g : kids input d rs + (first_line_lem k i + (function_struct k i).lines) ≤ first_line_lem k (suc i + n) = rw z at (kids_of n (suc i) d) in
      let a : kids input d (deep r ∷ rs) ≤ kids input d rs + length r.lines = kids-row input d (deep r) rs in
      let b : length r.lines ≡ (function_struct k i).lines = ap length (tree_row-lines k i (first_line_lem k i)) ∙ length-lines (first_line_lem k i) (function_struct k i).lines in
      rw (add-suc i n, ← suc-add i n) (omega arith)

  pub kids_fit : (i d : ℕ) → i ≤ function_rows k → kids input d (rows_left i) + first_line_lem k i ≤ first_line_lem k (function_rows k)
  kids_fit i d h = let e : i + (function_rows k - i) ≡ function_rows k = omega arith in rw e at (kids_of (function_rows k - i) i d)

pub steps_of : (d : ℕ) (rs : List FunctionRow) → Legal d rs → Steps (suc d) (map deep rs)
steps_of d [] h = tt
steps_of d (r ∷ rs) h = (h.1, steps_of r.depth rs h.2)

-- ── What a row leaves of the call locations of its own depth and of those above it ──

module _ (s s' : List ℕ) (base d top : ℕ) (low : d * 4 + 4 ≤ base) (kept : (j : ℕ) → j < base + top * 2 → (j < d * 4) ⊎ (d * 4 + 4 ≤ j) → get_or s' j 0 ≡ get_or s j 0) where
  word_kept : (j i : ℕ) → j < d → i < 4 → get_or s' (j * 4 + i) 0 ≡ get_or s (j * 4 + i) 0
  word_kept j i h g = kept (j * 4 + i) (omega arith) (inl (omega arith))

  pub start-kept : (j : ℕ) → j < d → calls_start s' j ≡ calls_start s j
  start-kept j h =
      let z : j * 4 + 0 ≡ j * 4 = omega arith in
      let a : get_or s' (j * 4) 0 ≡ get_or s (j * 4) 0 = rw z at (word_kept j 0 h (omega arith)) in
      let b : get_or s' (j * 4 + 1) 0 ≡ get_or s (j * 4 + 1) 0 = word_kept j 1 h (omega arith) in
      omega arith

  len-kept : (j : ℕ) → j < d → len_at s' j ≡ len_at s j
  len-kept j h =
      let a : get_or s' (j * 4 + 2) 0 ≡ get_or s (j * 4 + 2) 0 = word_kept j 2 h (omega arith) in
      let b : get_or s' (j * 4 + 3) 0 ≡ get_or s (j * 4 + 3) 0 = word_kept j 3 h (omega arith) in
      omega arith

  pub top_kept : (j : ℕ) → j ≤ d → top_of s' j ≡ top_of s j
  unfolding top_of
  top_kept zero h = refl
  top_kept (suc j) h =
      let a : calls_start s' j ≡ calls_start s j = start-kept j (omega arith) in
      let b : len_at s' j ≡ len_at s j = len-kept j (omega arith) in
      omega arith

  pub calls-kept : (j : ℕ) → j ≤ d → top_of s j ≤ top → calls_of s' base j ≡ calls_of s base j
  unfolding calls_of top_of
  calls-kept zero h g = refl
  calls-kept (suc j) h g =
      rw (start-kept j (omega arith), len-kept j (omega arith))
      (ap (map ref_of) (pairs-same s s' (base + calls_start s j * 2) (len_at s j) (λ i p q. kept i (omega arith) (inr (omega arith)))))
