-- A TREE, ROW BY ROW: the rows still to come, with the call locations that scratch holds, leave what all rows leave; and the next row's inlinee ranges have room.
use mathlib.Core.Path.{◌≡◌, refl, sym, ap, ◌∙◌}
use mathlib.Core.Logic.{⊎_elim}
use mathlib.Core.List.{List, map}
use Prim.Native.Nat.{ℕ, zero, suc, ◌+◌, ◌*◌, ◌-◌, ◌≤◌, ◌<◌}
use native.Mathlib.Omega.{arith}
use native.Mathlib.Nat.{eq-or-lt_of_le}
use lib.ListN.{length}
use borrow.Author.Tests.{eq-eqb, ne_eqb}
use Rattle.slices.proofs.Cases.{eq-or-ne}
use Rattle.model.specs.Rows.{MAX, LineRow, FunctionRow, SymbolRow}
use Rattle.model.specs.Machine.{Machine, LoopedM, set_at_m, kid_spans_m, row_m, convert_m, start_m}
use Rattle.model.specs.Converter.{input, deep}
use Rattle.model.proofs.Depths.{Steps}
use Rattle.rows.specs.Columns.{Columns, function_rows, line_rows, function_struct, tree_row, tree_rows_lem, later_rows}
use Rattle.refusals.specs.Refusals.{first_line_lem, total}
use Rattle.rows.proofs.RowLaws.{tree_row-depth, tree_row-lines}
use Rattle.refusals.proofs.Accepted.{Accepted}
use Rattle.scratch.specs.Scratch.{calls_start, calls_of, top_of, kid_spans, RowDone}
use Rattle.scratch.proofs.Rows.{kids, kids-suc, kids-row, convert_agree, first-line, rows_left, rows_next, rows_none, kids_fit, length-lines, steps_of, start-kept, top_kept, calls-kept}

module _ {R P L S : Type 0} (M : Machine FunctionRow LineRow SymbolRow R P L ℕ S) (k : Columns) (size : ℕ) (w₀ : S) where
  -- the pairs begin after four words for each function row
  abbrev pub base : ℕ
  base = function_rows k * 4

  abbrev pub all-rows : S
  all-rows = convert_m input M (map deep (tree_rows_lem k)) (start_m input M) w₀

  -- rows up to i are done; scratch holds the call locations of the depths up to `bound`, each after those of the depth before it
  pub record Rowing (s : List ℕ) (i first : ℕ) (w : S) : Type 0 where
    pub bound : ℕ
    pub all : convert_m input M (rows_left k i) (calls_of s base) w ≡ all-rows
    pub done : i ≤ function_rows k
    pub first_is : first ≡ first_line_lem k i
    pub steps : Steps bound (rows_left k i)
    pub low : bound ≤ i
    pub above : (j : ℕ) → j < bound → top_of s j ≤ calls_start s j
    pub tops : (j : ℕ) → j ≤ bound → top_of s j ≤ first_line_lem k i + kids input j (rows_left k i)
    pub len : length s ≡ size

  module _ (ok : Accepted k size) where
    pub starts : M.base ≡ MAX → (s : List ℕ) → length s ≡ size → Rowing s 0 0 w₀
    unfolding calls_of top_of start_m total
    starts z s h =
        let n : function_rows k - 0 ≡ function_rows k = omega arith in
        let e : rows_left k 0 ≡ map deep (tree_rows_lem k) = rw n refl in
        let f : Steps 0 (map deep (tree_rows_lem k)) = rw ok.rows_are (omega (arith, ok.first), rw ok.first (steps_of 0 (later_rows k) ok.legal)) in
        record {
          bound = 0;
          all = rw e (convert_agree input M (map deep (tree_rows_lem k)) 0 (calls_of s base) (start_m input M) w₀ f (λ j g. rw (none j g, z)));
          done = omega arith;
          first_is = refl;
          steps = rw e f;
          low = omega arith;
          above = λ j g. absurd (omega arith);
          tops = λ j g. rw (none j g) (omega arith);
          len = h;
        }
      where
        none : (j : ℕ) → j ≤ 0 → j ≡ 0
        none j h = omega arith

    -- ── One row ──

    module _ (s : List ℕ) (i first : ℕ) (w : S) (r : Rowing s i first w) (h : i < function_rows k) where
      abbrev q : FunctionRow
      q = tree_row k i first

      abbrev d : ℕ
      d = (function_struct k i).depth

      abbrev spans : ℕ
      spans = length (kid_spans k d (i + 1) (first + (function_struct k i).lines))

      later : kid_spans k d (i + 1) (first + (function_struct k i).lines) ≡ kid_spans_m input d (rows_left k (i + 1))
      later = rw (r.first_is, first-line k i)

      next-steps : (d ≤ r.bound) × Steps (suc d) (rows_left k (i + 1))
      next-steps = rw (← tree_row-depth k i (first_line_lem k i)) (rw (rows_next k i h) at r.steps)

      -- what is stacked and what the next row brings, against all line rows
      stacked : (j : ℕ) → j ≤ d → top_of s j ≤ first_line_lem k (i + 1) + kids input j (rows_left k (i + 1))
      stacked j g =
          let p = tree_row k i (first_line_lem k i) in
          let a : top_of s j ≤ first_line_lem k i + kids input j (rows_left k i) = r.tops j (omega (arith, next-steps.0)) in
          let b : kids input j (rows_left k i) ≤ kids input j (rows_left k (i + 1)) + length p.lines =
          rw (rows_next k i h) (kids-row input j (deep p) (rows_left k (i + 1))) in
          let c : length p.lines ≡ (function_struct k i).lines = ap length (tree_row-lines k i (first_line_lem k i)) ∙ length-lines k (first_line_lem k i) (function_struct k i).lines in
          let e : first_line_lem k (i + 1) ≡ first_line_lem k i + (function_struct k i).lines = first-line k i in
          omega arith

      pub depth_low : d < function_rows k
      depth_low = omega (arith, next-steps.0, r.low)

      pub spans_fit : top_of s d + spans ≤ line_rows k
      spans_fit =
          let a : top_of s d ≤ first_line_lem k (i + 1) + kids input d (rows_left k (i + 1)) = stacked d (omega arith) in
          let b : kids input (suc d) (rows_left k (i + 1)) ≡ kids input d (rows_left k (i + 1)) + length (kid_spans_m input d (rows_left k (i + 1))) = kids-suc input d (rows_left k (i + 1)) in
          let c : kids input (suc d) (rows_left k (i + 1)) + first_line_lem k (i + 1) ≤ first_line_lem k (function_rows k) = kids_fit k (i + 1) (suc d) (omega arith) in
          let e : spans ≡ length (kid_spans_m input d (rows_left k (i + 1))) = ap length later in
          omega (arith, ok.sum)

      pub room_fits : base + (top_of s d + spans) * 2 ≤ length s
      room_fits = let a : top_of s d + spans ≤ line_rows k = spans_fit in omega (arith, ok.room, r.len)

      -- each depth's call locations lie below the next one's
      tops_grow : (n j : ℕ) → j + n ≤ d → top_of s j ≤ top_of s (j + n)
      unfolding top_of
      tops_grow zero j g = let z : j + 0 ≡ j = omega arith in rw z (omega arith)
      tops_grow (suc n) j g =
          let z : j + suc n ≡ suc (j + n) = omega arith in
          let a : top_of s j ≤ top_of s (j + n) = tops_grow n j (omega arith) in
          let b : top_of s (j + n) ≤ calls_start s (j + n) = r.above (j + n) (omega (arith, next-steps.0)) in
          rw z (omega arith)

      below_top : (j : ℕ) → j ≤ d → top_of s j ≤ top_of s d
      below_top j g = let z : j + (d - j) ≡ d = omega arith in rw z at (tops_grow (d - j) j (omega arith))

      module _ (s' : List ℕ) (w' : S)
          (done : RowDone base d (top_of s d) spans (row_m input M q (kid_spans k d (i + 1) (first + (function_struct k i).lines)) (calls_of s base d) w) s s' w')
          (same : length s' ≡ length s) where
        abbrev o : LoopedM ℕ S
        o = row_m input M (tree_row k i (first_line_lem k i)) (kid_spans_m input d (rows_left k (i + 1))) (calls_of s base d) w

        o_is : row_m input M q (kid_spans k d (i + 1) (first + (function_struct k i).lines)) (calls_of s base d) w ≡ o
        o_is = rw (later, r.first_is)

        table-low : d * 4 + 4 ≤ base
        table-low = let a = depth_low in omega arith

        -- the call locations that the rows to come may read
        held : (j : ℕ) → j ≤ suc d → set_at_m (suc d) o.calls (calls_of s base) j ≡ calls_of s' base j
        unfolding set_at_m
        held j g =
            ⊎_elim (λ z. rw (eq-eqb j (suc d) z, z) (sym (done.calls ∙ ap (λ (x : LoopedM ℕ S). x.calls) o_is)))
            (λ z. rw (ne_eqb j (suc d) z) (sym (calls-kept s s' base d (top_of s d) table-low done.kept j (omega arith) (below_top j (omega arith)))))
            (eq-or-ne j (suc d))

        one-row : convert_m input M (rows_left k i) (calls_of s base) w ≡ convert_m input M (rows_left k (i + 1)) (set_at_m (suc d) o.calls (calls_of s base)) o.state
        unfolding convert_m
        one-row = rw (rows_next k i h, convert_m, tree_row-depth k i (first_line_lem k i))

        top-next : top_of s' (suc d) ≤ top_of s d + spans
        unfolding top_of
        top-next = omega (arith, done.start, done.few)

        pub next : Rowing s' (i + 1) (first + (function_struct k i).lines) w'
        next = record {
          bound = suc d;
          all =
              rw (done.state ∙ ap (λ (x : LoopedM ℕ S). x.state) o_is)
              (sym (convert_agree input M (rows_left k (i + 1)) (suc d) (set_at_m (suc d) o.calls (calls_of s base)) (calls_of s' base) o.state next-steps.1 held)
              ∙ sym one-row
              ∙ r.all);
          done = omega arith;
          first_is = ap (λ (n : ℕ). n + (function_struct k i).lines) r.first_is ∙ sym (first-line k i);
          steps = next-steps.1;
          low = omega (arith, next-steps.0, r.low);
          above = λ j g.
              ⊎_elim
              (λ z. rw (z, done.start, top_kept s s' base d (top_of s d) table-low done.kept d (omega arith)) (omega arith))
              (λ l. rw (start-kept s s' base d (top_of s d) table-low done.kept j l, top_kept s s' base d (top_of s d) table-low done.kept j (omega arith))
              (r.above j (omega (arith, next-steps.0))))
              (eq-or-lt_of_le {n = j} {m = d} (omega arith));
          tops = λ j g.
              ⊎_elim
              (λ z.
              let a : top_of s' (suc d) ≤ top_of s d + spans = top-next in
              let b : top_of s d ≤ first_line_lem k (i + 1) + kids input d (rows_left k (i + 1)) = stacked d (omega arith) in
              let c : kids input (suc d) (rows_left k (i + 1)) ≡ kids input d (rows_left k (i + 1)) + length (kid_spans_m input d (rows_left k (i + 1))) = kids-suc input d (rows_left k (i + 1)) in
              let e : spans ≡ length (kid_spans_m input d (rows_left k (i + 1))) = ap length later in
              rw z (omega arith))
              (λ l. rw (top_kept s s' base d (top_of s d) table-low done.kept j (omega arith)) (stacked j (omega arith)))
              (eq-or-lt_of_le {n = j} {m = suc d} g);
          len = same ∙ r.len;
        }

    pub ends : (s : List ℕ) (i first : ℕ) (w : S) → Rowing s i first w → function_rows k ≤ i → w ≡ all-rows
    unfolding convert_m
    ends s i first w r h = rw (rows_none k i h) at r.all
