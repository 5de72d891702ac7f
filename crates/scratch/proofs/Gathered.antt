-- THE INLINEE RANGES OF A ROW, in scratch: stored line by line and row by row, then sorted.
use mathlib.Core.Path.{◌≡◌, refl, sym, ap, ◌∙◌}
use mathlib.Core.List.{List, [], ◌∷◌, ◌++◌, map, append_assoc}
use Prim.Native.Nat.{ℕ, zero, suc, ◌+◌, ◌*◌, ◌-◌, ◌≤◌, ◌<◌}
use native.Mathlib.Omega.{arith}
use native.Mathlib.Numerals.{add-one}
use lib.ListN.{length, get_or, set, take, drop, length-append, length-map}
use lib.Seq.{sets, sets-eq, take_at, drop_at, get_or_at, length-take-le}
use Rattle.slices.proofs.Bytes.{sets_join}
use Rattle.model.specs.Basics.{Span, sort}
use Rattle.model.specs.Rows.{boundaries}
use Rattle.model.specs.Machine.{kid_spans_m}
use Rattle.model.specs.Converter.{input, deep}
use Rattle.sorting.specs.Pairs.{pair_words, sorted_of}
use Rattle.sorting.proofs.Order.{sort-length}
use Rattle.sorting.proofs.Pairs.{length-pair_words, sorted-pair_words}
use Rattle.rows.specs.Columns.{Columns, columns, function_rows, function_struct, line_struct, boundaries_of, line_at, lines_from, tree_row, tree_rows_from}
use Rattle.rows.proofs.RowLaws.{line_at_boundaries, tree_rows_from-none, tree_rows_from-more, tree_row-depth, tree_row-lines}
use Rattle.scratch.specs.Scratch.{pairs_at, line_spans, kid_spans}
use Rattle.scratch.proofs.Rows.{kids-end, kids-here, kids-deeper, length-lines}
use Rattle.scratch.proofs.Lines.{lines_next, lines-done}

pub pair_words-append : (ps qs : List Span) → pair_words (ps ++ qs) ≡ pair_words ps ++ pair_words qs
unfolding pair_words
pair_words-append [] qs = refl
pair_words-append (p ∷ ps) qs = ap (λ (l : List ℕ). p.from ∷ p.to ∷ l) (pair_words-append ps qs)

-- ── The lines of one row ──

module _ (k : Columns) (first count b : ℕ) (s₀ : List ℕ) where
  -- i lines are stored, from word b on; what is still to be stored leaves what all of them leave
  abbrev pub Pushed : List ℕ → ℕ → Type 0
  Pushed s i = sets s (b + i * 2) (pair_words (line_spans k (first + i) (count - i))) ≡ sets s₀ b (pair_words (line_spans k first count))

  pub pushed_none : Pushed s₀ 0
  pushed_none =
      let e : b + 0 * 2 ≡ b = omega arith in
      let f : first + 0 ≡ first = omega arith in
      let g : count - 0 ≡ count = omega arith in
      rw (e, f, g)

  -- the two words of one more line
  pub pushed_more : (s : List ℕ) (i : ℕ) → i < count → Pushed s i
      → let l = line_struct k (first + i) in let p = boundaries_of l.address l.has_size l.size in Pushed (set (set s (b + i * 2) p.start) (b + i * 2 + 1) p.end) (i + 1)
  unfolding pair_words
  pushed_more s i h e =
      let z : b + (i + 1) * 2 ≡ suc (suc (b + i * 2)) = omega arith in
      let y : b + i * 2 + 1 ≡ suc (b + i * 2) = omega arith in
      let rest = line_spans k (first + (i + 1)) (count - (i + 1)) in
      let l = line_struct k (first + i) in
      let p = boundaries_of l.address l.has_size l.size in
      let f : line_spans k (first + i) (count - i) ≡ record { from = p.start; to = p.end } ∷ rest =
      ap (map boundaries) (lines_next k first count i h) ∙ ap (λ (x : Span). x ∷ rest) (line_at_boundaries k (first + i)) in
      rw (z, y) (rw f at e)

  pub pushed_all : (s : List ℕ) (i : ℕ) → count ≤ i → Pushed s i → s ≡ sets s₀ b (pair_words (line_spans k first count))
  unfolding pair_words
  pushed_all s i h e = rw (lines-done k first count i h) at e

-- ── The rows ──

module _ (k : Columns) (d : ℕ) where
  module _ (i j : ℕ) (h : i < function_rows k) where
    spans-row : kid_spans k d i j ≡ kid_spans_m input d (deep (tree_row k i j) ∷ map deep (tree_rows_from k (i + 1) (function_rows k - (i + 1)) (j + (function_struct k i).lines)))
    spans-row =
        let e : function_rows k - i ≡ suc (function_rows k - (i + 1)) = omega arith in
        rw (e, tree_rows_from-more k i (function_rows k - (i + 1)) j, add-one i)

    pub spans-end : (function_struct k i).depth ≤ d → kid_spans k d i j ≡ []
    spans-end g = spans-row ∙ kids-end input d _ _ (rw (tree_row-depth k i j) g)

    pub spans-here : (function_struct k i).depth ≡ suc d → kid_spans k d i j ≡ line_spans k j (function_struct k i).lines ++ kid_spans k d (i + 1) (j + (function_struct k i).lines)
    spans-here g = spans-row ∙ kids-here input d _ _ (tree_row-depth k i j ∙ g) ∙ rw (tree_row-lines k i j) refl

    pub spans-deeper : suc d < (function_struct k i).depth → kid_spans k d i j ≡ kid_spans k d (i + 1) (j + (function_struct k i).lines)
    spans-deeper g = spans-row ∙ kids-deeper input d _ _ (rw (tree_row-depth k i j) g)

  pub spans-none : (i j : ℕ) → function_rows k ≤ i → kid_spans k d i j ≡ []
  unfolding kid_spans_m
  spans-none i j h = let e : function_rows k - i ≡ 0 = omega arith in rw (e, tree_rows_from-none k i j)

  -- n pairs are stored, of the rows up to i, whose line rows begin at j
  module _ (b : ℕ) (s₀ : List ℕ) (all : List Span) where
    pub record Gathering (s : List ℕ) (i j n : ℕ) : Type 0 where
      pub count : n + length (kid_spans k d i j) ≡ length all
      pub stored : sets s (b + n * 2) (pair_words (kid_spans k d i j)) ≡ sets s₀ b (pair_words all)

    module _ (s : List ℕ) (i j n : ℕ) (g : Gathering s i j n) where
      pub gathered : kid_spans k d i j ≡ [] → (n ≡ length all) × (s ≡ sets s₀ b (pair_words all))
      unfolding pair_words
      gathered e = (omega (arith, rw e at g.count), rw e at g.stored)

      pub gather_deeper : i < function_rows k → suc d < (function_struct k i).depth → Gathering s (i + 1) (j + (function_struct k i).lines) n
      gather_deeper h l = let e = spans-deeper i j h l in record { count = rw e at g.count; stored = rw e at g.stored }

      pub gather_here : i < function_rows k → (function_struct k i).depth ≡ suc d → (s' : List ℕ) → s' ≡ sets s (b + n * 2) (pair_words (line_spans k j (function_struct k i).lines))
          → Gathering s' (i + 1) (j + (function_struct k i).lines) (n + (function_struct k i).lines)
      gather_here h l s' f =
          let m = (function_struct k i).lines in
          let ls = line_spans k j m in
          let rest = kid_spans k d (i + 1) (j + m) in
          let e : kid_spans k d i j ≡ ls ++ rest = spans-here i j h l in
          let a : length ls ≡ m = length-map (lines_from k j m) boundaries ∙ length-lines k j m in
          let c : length (kid_spans k d i j) ≡ length ls + length rest = ap length e ∙ length-append ls rest in
          let w : length (pair_words ls) ≡ 2 * length ls = length-pair_words ls in
          record {
            count = omega (arith, g.count);
            stored =
                rw f (sets_join (pair_words ls) (pair_words rest) s (b + n * 2) (b + (n + m) * 2) (omega arith)
                ∙ rw (← pair_words-append ls rest, ← e) g.stored);
          }

-- the boundaries of lines do not go by the text
module _ (f64 f32 l64 l32 t : List ℕ) where
  abbrev with-text : Columns
  with-text = columns f64 f32 l64 l32 t

  abbrev without : Columns
  without = columns f64 f32 l64 l32 []

  lines-text : (n j : ℕ) → line_spans with-text j n ≡ line_spans without j n
  unfolding lines_from
  lines-text zero j = refl
  lines-text (suc n) j =
      let l = line_struct without j in
      let p = boundaries_of l.address l.has_size l.size in
      let e : boundaries (line_at with-text j) ≡ record { from = p.start; to = p.end } = line_at_boundaries with-text j in
      let f : boundaries (line_at without j) ≡ record { from = p.start; to = p.end } = line_at_boundaries without j in
      ap (λ (x : Span). x ∷ line_spans with-text (suc j) n) (e ∙ sym f) ∙ ap (λ (x : List Span). boundaries (line_at without j) ∷ x) (lines-text n (suc j))

  spans-text-from : (d n i j : ℕ) → kid_spans_m input d (map deep (tree_rows_from with-text i n j)) ≡ kid_spans_m input d (map deep (tree_rows_from without i n j))
  unfolding kid_spans_m tree_rows_from tree_row
  spans-text-from d zero i j = refl
  spans-text-from d (suc n) i j = rw (lines-text (function_struct without i).lines j, spans-text-from d n (suc i) (j + (function_struct without i).lines))

  pub spans-text : (d i j : ℕ) → kid_spans with-text d i j ≡ kid_spans without d i j
  spans-text d i j = spans-text-from d (function_rows without - i) i j

-- ── Sorted ──

pub pairs_stand : (p : List ℕ) (ps : List Span) (q : List ℕ) (b n : ℕ) → length p ≡ b → length ps ≡ n → pairs_at (p ++ (pair_words ps ++ q)) b n ≡ ps
unfolding pairs_at pair_words
pairs_stand p [] q b zero e f = refl
pairs_stand p [] q b (suc n) e f = absurd (omega arith)
pairs_stand p (r ∷ rs) q b zero e f = absurd (omega arith)
pairs_stand p (r ∷ rs) q b (suc n) e f =
    let l = r.from ∷ r.to ∷ (pair_words rs ++ q) in
    let u : get_or (p ++ l) b 0 ≡ r.from = get_or_at p r.from (r.to ∷ (pair_words rs ++ q)) 0 b e in
    let v : p ++ l ≡ (p ++ (r.from ∷ [])) ++ (r.to ∷ (pair_words rs ++ q)) = sym (append_assoc p (r.from ∷ []) (r.to ∷ (pair_words rs ++ q))) in
    let x : p ++ l ≡ (p ++ (r.from ∷ r.to ∷ [])) ++ (pair_words rs ++ q) = sym (append_assoc p (r.from ∷ r.to ∷ []) (pair_words rs ++ q)) in
    let y : get_or (p ++ l) (b + 1) 0 ≡ r.to =
    ap (λ (z : List ℕ). get_or z (b + 1) 0) v ∙ get_or_at (p ++ (r.from ∷ [])) r.to (pair_words rs ++ q) 0 (b + 1) (length-append p (r.from ∷ []) ∙ ap (λ (z : ℕ). z + 1) e) in
    let w : pairs_at (p ++ l) (b + 2) n ≡ rs =
    ap (λ (z : List ℕ). pairs_at z (b + 2) n) x
    ∙ pairs_stand (p ++ (r.from ∷ r.to ∷ [])) rs q (b + 2) n (length-append p (r.from ∷ r.to ∷ []) ∙ ap (λ (z : ℕ). z + 2) e) (omega arith) in
    rw (u, y, w)

-- the pairs `ss` were stored from word b on, and these words were sorted
module _ (s s₁ s₂ : List ℕ) (b e : ℕ) (ss : List Span) (end : e ≡ b + length ss * 2) (room : e ≤ length s)
    (stored : s₁ ≡ sets s b (pair_words ss)) (sorted : s₂ ≡ take b s₁ ++ (sorted_of (take (e - b) (drop b s₁)) ++ drop e s₁)) where
  in_parts : s₁ ≡ take b s ++ (pair_words ss ++ drop e s)
  in_parts =
      let w : length (pair_words ss) ≡ 2 * length ss = length-pair_words ss in
      let z : b + length (pair_words ss) ≡ e = omega arith in
      stored ∙ sets-eq (pair_words ss) s b (omega arith) ∙ rw z (append_assoc (take b s) (pair_words ss) (drop e s))

  long : length (take b s) ≡ b
  long = length-take-le b s (omega arith)

  after : s₂ ≡ take b s ++ (pair_words (sort ss) ++ drop e s₁)
  after =
      let w : length (pair_words ss) ≡ 2 * length ss = length-pair_words ss in
      let a : take b s₁ ≡ take b s = rw in_parts (take_at (take b s) (pair_words ss ++ drop e s) b long) in
      let c : drop b s₁ ≡ pair_words ss ++ drop e s = rw in_parts (drop_at (take b s) (pair_words ss ++ drop e s) b long) in
      let d : take (e - b) (drop b s₁) ≡ pair_words ss = rw c (take_at (pair_words ss) (drop e s) (e - b) (omega arith)) in
      sorted ∙ rw (a, d, sorted-pair_words ss)

  pub sorted-pairs : pairs_at s₂ b (length ss) ≡ sort ss
  sorted-pairs = rw after (pairs_stand (take b s) (sort ss) (drop e s₁) b (length ss) long (sort-length ss))

  pub sorted-kept : take b s₂ ≡ take b s
  sorted-kept = rw after (take_at (take b s) (pair_words (sort ss) ++ drop e s₁) b long)
