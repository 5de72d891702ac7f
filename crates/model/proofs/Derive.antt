-- From the premises on rows to those of the ideal theorem: under them nothing is clamped, cut or skipped.
use mathlib.Core.Path.{◌≡◌, refl, sym, ap, ◌∙◌, subst}
use mathlib.Core.Bool.{Bool, true, false, cond}
use mathlib.Core.Option.{Option, none, some}
use mathlib.Core.Logic.{◌⊎◌, inl, inr, ◌≢◌, ⊎_elim}
use mathlib.Core.List.{List, [], ◌∷◌, ◌++◌, map, reverse}
use Prim.Native.Nat.{ℕ, zero, suc, ◌+◌, ◌≤◌, ◌<◌}
use native.Mathlib.Omega.{arith}
use lib.Dec.{ltb, leb, eqb}
use borrow.Author.Tests.{lt-ltb, le-ltb, le-leb, lt-leb, eq-eqb, ne_eqb, leb-true, eqb-false, ltb-false}
use Rattle.slices.proofs.Cases.{lt-or_ge, eq-or-ne}
use Rattle.model.specs.Basics.{◌∈◌, here, there, Span, Deep, items, Asc, Apart, coversb, Covers}
use Rattle.model.specs.Rows.{MAX, cut32, Text, LineRow, FunctionRow, SymbolRow, Given, tree_rows, symbol_row, line_size, boundaries, skipped, function_end, symbol_skipped, symbol_end}
use Rattle.model.specs.Machine.{OpM}
use Rattle.model.specs.Converter.{input, deep, op, Setup}
use Rattle.model.specs.Frames.{Frame}
use Rattle.model.specs.Premises.{reach, reaches, all_reaches, inlinees, Legal, RowWell, LastAt, InlineeWell, RowsWell, TreeWell, WellNested, Named, Counted, NotIn, SymbolClear, Separate, AllSeparate, wanted, line_at_lem, nested_at, stack_of}
use Rattle.model.proofs.Ideal.{Line, Row, Op, idle, Nested, Forest, nil, row, spans, spans_of, LastEnd, Within, WellRow, WellInlinee, WellTree, Well, Clear, ClearOps, AllClear, frame_at, stack_at, covering, preorder}
use Rattle.model.proofs.Spans.{∈-elim, ∈-map, map-∈, ∈-cases, covered?, Out}
use Rattle.model.proofs.Trees.{stack_skip}
use Rattle.model.proofs.Stacks.{plain-tree, root_covers}
use Rattle.model.proofs.Depths.{under, Steps, under-above, under_at, under-below, rows_are}
use Rattle.model.proofs.Means.{line_of_lem, row_of_lem, deep_of, kids_of, op_of_lem, inner, Sound, SoundTree, SoundOp}
use Rattle.model.proofs.Keeps.{means}

-- ── One row ──

span_path : (r s : Span) → r.from ≡ s.from → r.to ≡ s.to → r ≡ s
span_path r s p q = λ i. record { from = p i; to = q i }

unclamped : (n : LineRow) → n.address + line_size n ≤ MAX → boundaries n ≡ reach n
unclamped n h = span_path (boundaries n) (reach n) (omega arith) (omega arith)

pub end_is : (q : FunctionRow) → RowWell q → function_end q ≡ q.address + q.size
end_is q w = omega (arith, w.low)

line_low : (q : FunctionRow) → RowWell q → (n : LineRow) → n ∈ q.lines → n.address + line_size n ≤ MAX
line_low q w n i = omega (arith, w.low, w.inside n i)

pub kept : (q : FunctionRow) → RowWell q → skipped q ≡ false
kept q w = rw (ne_eqb q.size 0 (omega (arith, w.sized)), le-ltb MAX q.address (omega (arith, w.low)))

uncut : (q : FunctionRow) → RowWell q → (n : LineRow) → n ∈ q.lines → cut32 n.address ≡ (boundaries n).from
uncut q w n i = let h = line_low q w n i in omega arith

module _ (X : Setup) where
  abbrev row_of : FunctionRow → Row Frame
  row_of = row_of_lem input (means X)

  abbrev line_of : FunctionRow → LineRow → Line Frame
  line_of = line_of_lem input (means X)

  spans-reach : (q : FunctionRow) (ns : List LineRow) → ((n : LineRow) → n ∈ ns → n.address + line_size n ≤ MAX) → spans_of (map (line_of q) ns) ≡ map reach ns
  spans-reach q [] h = refl
  spans-reach q (n ∷ ns) h = cc (unclamped n (h n here), spans-reach q ns (λ m i. h m (there i)))

  row_spans : (q : FunctionRow) → RowWell q → spans_of (row_of q).lines ≡ reaches q
  row_spans q w = spans-reach q q.lines (line_low q w)

  well-row : (q : FunctionRow) → RowWell q → WellRow (row_of q)
  well-row q w = record {
    sized = omega (arith, end_is q w, w.sized);
    lines-asc = subst (Asc q.address) (sym (row_spans q w)) w.ascending;
    lines_in = λ l i. go l (map-∈ (line_of q) q.lines i);
  }
    where
      go : (l : Line Frame) → (n : LineRow) × (n ∈ q.lines) × (l ≡ line_of q n) → l.span.to ≤ function_end q
      go l p =
          let (n, i, e) = p in
          let h : (line_of q n).span.to ≤ function_end q = omega (arith, end_is q w, ap (λ (s : Span). s.to) (unclamped n (line_low q w n i)), w.inside n i) in
          subst (λ (k : Line Frame). k.span.to ≤ function_end q) (sym e) h

  last_of : (q : FunctionRow) (e : ℕ) (ns : List LineRow) → ((n : LineRow) → n ∈ ns → n.address + line_size n ≤ MAX) → LastAt ns e → LastEnd (map (line_of q) ns) e
  last_of q e [] h k = k
  last_of q e (n ∷ []) h k = ap (λ (s : Span). s.to) (unclamped n (h n here)) ∙ k
  last_of q e (n ∷ n' ∷ ns) h k = last_of q e (n' ∷ ns) (λ m i. h m (there i)) k

  well-inlinee : (q k : FunctionRow) → RowWell q → RowWell k → InlineeWell q k → WellInlinee (row_of q).lines (row_of k)
  well-inlinee q k w v h = record {
    well = well-row k v;
    last = subst (LastEnd (row_of k).lines) (sym (end_is k v)) (last_of k (k.address + k.size) k.lines (line_low k v) h.last);
    within = λ l i. go l (map-∈ (line_of k) k.lines i);
  }
    where
      go : (l : Line Frame) → (n : LineRow) × (n ∈ k.lines) × (l ≡ line_of k n) → Within l.span (row_of q).lines
      go l p =
          let (n, i, e) = p in
          let (m, j, a, b) = h.within n i in
          let hn = ap (λ (s : Span). s.to) (unclamped n (line_low k v n i)) in
          let hm = ap (λ (s : Span). s.to) (unclamped m (line_low q w m j)) in
          let gn = ap (λ (s : Span). s.from) (unclamped n (line_low k v n i)) in
          let gm = ap (λ (s : Span). s.from) (unclamped m (line_low q w m j)) in
          let r : Within (line_of k n).span (row_of q).lines = (line_of q m, ∈-map (line_of q) j, omega arith, omega arith) in
          subst (λ (t : Line Frame). Within t.span (row_of q).lines) (sym e) r

  -- ── Its inlinees ──

  module _ (d : ℕ) (r : FunctionRow) (rs : List FunctionRow) where
    inlinees-stop : r.depth ≤ d → inlinees d (r ∷ rs) ≡ []
    unfolding inlinees
    inlinees-stop h = rw (le-leb r.depth d h)

    inlinees-here : r.depth ≡ suc d → inlinees d (r ∷ rs) ≡ r ∷ inlinees d rs
    unfolding inlinees
    inlinees-here h = rw (lt-leb r.depth d (omega arith), eq-eqb r.depth (suc d) h)

    inlinees_skip : suc d < r.depth → inlinees d (r ∷ rs) ≡ inlinees d rs
    unfolding inlinees
    inlinees_skip h = rw (lt-leb r.depth d (omega arith), ne_eqb r.depth (suc d) (omega arith))

  -- above, at or below
  data Sort (d e : ℕ) : Type 0 where
    stops : e ≤ d → Sort d e
    kid : e ≡ suc d → Sort d e
    deeper : suc d < e → Sort d e

  sort_of : (d e : ℕ) → Sort d e
  sort_of d e = ⊎_elim (λ h. stops (omega arith)) (λ h. ⊎_elim (λ z. kid z) (λ z. deeper (omega arith)) (eq-or-ne e (suc d))) (lt-or_ge e (suc d))

  inlinees-∈ : (d : ℕ) (rs : List FunctionRow) (k : FunctionRow) → k ∈ inlinees d rs → k ∈ rs
  unfolding inlinees
  inlinees-∈ d [] k i = i
  inlinees-∈ d (r ∷ rs) k i = go (sort_of d r.depth) (λ j. inlinees-∈ d rs k j)
    where
      go : Sort d r.depth → (k ∈ inlinees d rs → k ∈ rs) → k ∈ (r ∷ rs)
      go (stops h) ih = elim (subst (λ (l : List FunctionRow). k ∈ l) (inlinees-stop d r rs h) i) [ ]
      go (kid h) ih = ⊎_elim (λ e. subst (λ (l : FunctionRow). l ∈ (r ∷ rs)) (sym e) here) (λ j. there (ih j)) (∈-cases (subst (λ (l : List FunctionRow). k ∈ l) (inlinees-here d r rs h) i))
      go (deeper h) ih = there (ih (subst (λ (l : List FunctionRow). k ∈ l) (inlinees_skip d r rs h) i))

  row-well : (rs : List FunctionRow) → RowsWell rs → (k : FunctionRow) → k ∈ rs → RowWell k
  row-well [] w k i = elim i [ ]
  row-well (r ∷ rs) w k i = ∈-elim RowWell w.0 (row-well rs w.3) k i

  abbrev deeps : List FunctionRow → List (Deep (Row Frame))
  deeps rs = map (deep_of input (means X)) (map deep rs)

  abbrev forest : ℕ → List FunctionRow → Forest Frame
  forest d rs = under (suc d) (deeps rs)

  -- their lines
  spans_are : (d : ℕ) (rs : List FunctionRow) → RowsWell rs → spans (forest d rs) ≡ all_reaches (inlinees d rs)
  unfolding under inlinees
  spans_are d [] w = refl
  spans_are d (r ∷ rs) w = go (sort_of d r.depth) (spans_are d rs w.3)
    where
      go : Sort d r.depth → spans (forest d rs) ≡ all_reaches (inlinees d rs) → spans (forest d (r ∷ rs)) ≡ all_reaches (inlinees d (r ∷ rs))
      go (stops h) ih = rw (inlinees-stop d r rs h, under-above (suc d) (deep_of input (means X) (deep r)) (deeps rs) (omega arith))
      go (kid h) ih =
          ap spans (under_at (suc d) (deep_of input (means X) (deep r)) (deeps rs) h)
          ∙ cc (row_spans r w.0, ih)
          ∙ ap all_reaches (sym (inlinees-here d r rs h))
      go (deeper h) ih = ap spans (under-below (suc d) (deep_of input (means X) (deep r)) (deeps rs) h) ∙ ih ∙ ap all_reaches (sym (inlinees_skip d r rs h))

  nested : (q : FunctionRow) (d : ℕ) (rs : List FunctionRow) → RowWell q → RowsWell rs → ((k : FunctionRow) → k ∈ inlinees d rs → InlineeWell q k) → Nested (row_of q).lines (forest d rs)
  unfolding under inlinees
  nested q d [] v w h = tt
  nested q d (r ∷ rs) v w h = go (sort_of d r.depth) (nested q d rs v w.3) (nested r (suc d) rs w.0 w.3)
    where
      go : Sort d r.depth → (((k : FunctionRow) → k ∈ inlinees d rs → InlineeWell q k) → Nested (row_of q).lines (forest d rs))
          → (((k : FunctionRow) → k ∈ inlinees (suc d) rs → InlineeWell r k) → Nested (row_of r).lines (forest (suc d) rs))
          → Nested (row_of q).lines (forest d (r ∷ rs))
      go (stops z) ih kids = rw (under-above (suc d) (deep_of input (means X) (deep r)) (deeps rs) (omega arith)) tt
      go (kid z) ih kids =
          let g : (k : FunctionRow) → k ∈ (r ∷ inlinees d rs) → InlineeWell q k = λ k i. h k (subst (λ (l : List FunctionRow). k ∈ l) (sym (inlinees-here d r rs z)) i) in
          rw (under_at (suc d) (deep_of input (means X) (deep r)) (deeps rs) z) (
            well-inlinee q r v w.0 (g r here),
            subst Apart (sym (spans_are (suc d) rs w.3)) (subst (λ (e : ℕ). Apart (all_reaches (inlinees e rs))) z w.2),
            kids (λ k i. w.1 k (subst (λ (e : ℕ). k ∈ inlinees e rs) (sym z) i)),
            ih (λ k i. g k (there i)),
          )
      go (deeper z) ih kids =
          rw (under-below (suc d) (deep_of input (means X) (deep r)) (deeps rs) z) (ih (λ k i. h k (subst (λ (l : List FunctionRow). k ∈ l) (sym (inlinees_skip d r rs z)) i)))

  -- ── A tree ──

  pub well-tree : (q : FunctionRow) (rs : List FunctionRow) → TreeWell q rs → WellTree (row_of q) (kids_of input (means X) (map deep rs))
  well-tree q rs w =
      let (v, k, a, r) = w.rows in
      record {
        root = well-row q v;
        apart = subst Apart (sym (spans_are 0 rs r)) (subst (λ (e : ℕ). Apart (all_reaches (inlinees e rs))) w.first a);
        nested = nested q 0 rs v r (λ j i. k j (subst (λ (e : ℕ). j ∈ inlinees e rs) (sym w.first) i));
      }

  steps_of_legal : (d : ℕ) (rs : List FunctionRow) → Legal d rs → Steps (suc d) (map deep rs)
  steps_of_legal d [] h = tt
  steps_of_legal d (r ∷ rs) h = (h.1, steps_of_legal r.depth rs h.2)

  deeper_of_legal : (d : ℕ) (rs : List FunctionRow) → Legal d rs → (r : FunctionRow) → r ∈ rs → 1 ≤ r.depth
  deeper_of_legal d [] h r i = elim i [ ]
  deeper_of_legal d (p ∷ rs) h r i = ∈-elim (λ (t : FunctionRow). 1 ≤ t.depth) h.0 (deeper_of_legal p.depth rs h.2) r i

  inner-true : (d : ℕ) → 1 ≤ d → inner d ≡ true
  inner-true zero h = absurd (omega arith)
  inner-true (suc d) h = refl

  pub sound-tree : (q : FunctionRow) (rs : List FunctionRow) → TreeWell q rs → SoundTree input q (map deep rs)
  sound-tree q rs w =
      let (v, k, a, r) = w.rows in
      record {
        root = record { flag = w.root; kept = kept q v; uncut = uncut q v };
        rows = λ p i. go p (map-∈ deep rs i);
        steps = steps_of_legal 0 rs w.legal;
        deeper = λ p i. let (x, j, e) = map-∈ deep rs i in subst (λ (t : Deep FunctionRow). 1 ≤ t.depth) (sym e) (deeper_of_legal 0 rs w.legal x j);
      }
    where
      go : (p : Deep FunctionRow) → (r : FunctionRow) × (r ∈ rs) × (p ≡ deep r) → Sound input p.depth p.item
      go p t =
          let (r, j, e) = t in
          let v = row-well rs w.rows.3 r j in
          let s : Sound input r.depth r = record { flag = w.others r j ∙ sym (inner-true r.depth (deeper_of_legal 0 rs w.legal r j)); kept = kept r v; uncut = uncut r v } in
          subst (λ (t : Deep FunctionRow). Sound input t.depth t.item) (sym e) s

  pub sound-op : (g : Given) → WellNested g → SoundOp input (op g)
  sound-op (tree_rows q rs) w = sound-tree q rs w
  sound-op (symbol_row y) w = tt

  abbrev pub op_of : Given → Op Frame
  op_of g = op_of_lem input (means X) (op g)

  pub well-op : (g : Given) → WellNested g → Well (op_of g)
  well-op (tree_rows q rs) w = well-tree q rs w
  well-op (symbol_row y) w = go (symbol_skipped y)
    where
      go : (t : Bool) → Well (cond t idle (Op.symbol y.address (symbol_end y) ((means X).sym-frame y)))
      go true = tt
      go false = tt

  -- ── Between calls ──

  module _ (q : FunctionRow) (v : RowWell q) (y : SymbolRow) (c : SymbolClear q y) where
    abbrev sym_of : Option ℕ → Op Frame
    sym_of e = Op.symbol y.address e ((means X).sym-frame y)

    not_in : (k : ℕ) → NotIn k q → (k ≤ q.address) ⊎ (function_end q ≤ k)
    not_in k (inl h) = inl h
    not_in k (inr h) = inr (omega (arith, end_is q v))

    end-clear : Counted y → Clear (row_of q) (sym_of (symbol_end y))
    end-clear n = go (eqb y.size 0) (leb (y.address + y.size) MAX) refl refl
      where
        go : (t u : Bool) → eqb y.size 0 ≡ t → leb (y.address + y.size) MAX ≡ u → Clear (row_of q) (sym_of (cond t none (cond u (some (y.address + y.size)) none)))
        go true u e f = not_in _ (c.start n)
        go false true e f =
            let z : 0 < y.size = ⊎_elim (λ h. absurd (eqb-false y.size 0 e (omega arith))) (λ h. h) (lt-or_ge y.size 1) in
            (not_in _ (c.start n), not_in _ (c.end n z (leb-true _ _ f)))
        go false false e f = not_in _ (c.start n)

    symbol-clear : Clear (row_of q) (op_of (symbol_row y))
    symbol-clear = go y.name refl
      where
        low : (o : Option Text) → y.name ≡ o → Named o → (t : Bool) → ltb MAX y.address ≡ t → Clear (row_of q) (cond t idle (sym_of (symbol_end y)))
        low o e n true z = tt
        low o e n false z = end-clear (subst Named (sym e) n, ltb-false _ _ z)

        go : (o : Option Text) → y.name ≡ o → Clear (row_of q) (cond (elim o [ none ↦ true | some t ↦ ltb MAX y.address ]) idle (sym_of (symbol_end y)))
        go none e = tt
        go (some t) e = low (some t) e tt (ltb MAX y.address) refl

  after-symbol : (o : Op Frame) (q : FunctionRow) (rs : List FunctionRow) → Clear (row_of q) o → (o ≡ idle) ⊎ ((a : ℕ) × (e : Option ℕ) × (f : Frame) × (o ≡ Op.symbol a e f)) → ClearOps o (op_of (tree_rows q rs))
  after-symbol o q rs h (inl e) = rw e tt
  after-symbol o q rs h (inr p) = let (a, d, f, e) = p in rw e (subst (Clear (row_of q)) e h)

  symbol-shape : (y : SymbolRow) → (op_of (symbol_row y) ≡ idle) ⊎ ((a : ℕ) × (e : Option ℕ) × (f : Frame) × (op_of (symbol_row y) ≡ Op.symbol a e f))
  symbol-shape y = go (symbol_skipped y)
    where
      go : (t : Bool) → (cond t idle (Op.symbol y.address (symbol_end y) ((means X).sym-frame y)) ≡ idle) ⊎ ((a : ℕ) × (e : Option ℕ) × (f : Frame) × (cond t idle (Op.symbol y.address (symbol_end y) ((means X).sym-frame y)) ≡ Op.symbol a e f))
      go true = inl refl
      go false = inr (y.address, symbol_end y, (means X).sym-frame y, refl)

  symbols_clear : (o p : Op Frame) → (o ≡ idle) ⊎ ((a : ℕ) × (e : Option ℕ) × (f : Frame) × (o ≡ Op.symbol a e f)) → (p ≡ idle) ⊎ ((a : ℕ) × (e : Option ℕ) × (f : Frame) × (p ≡ Op.symbol a e f)) → ClearOps o p
  symbols_clear o p (inl e) u = rw e tt
  symbols_clear o p (inr t) (inl e) = let (a, d, f, z) = t in rw (z, e) tt
  symbols_clear o p (inr t) (inr u) = let (a, d, f, z) = t in let (b, c, g, w) = u in rw (z, w) tt

  clear_ops : (g h : Given) → WellNested g → WellNested h → Separate g h → ClearOps (op_of g) (op_of h)
  clear_ops (tree_rows q rs) (tree_rows p ps) w v s =
      let e = end_is q w.rows.0 in
      let f = end_is p v.rows.0 in
      ⊎_elim (λ z. inr (omega arith)) (λ z. inl (omega arith)) s
  clear_ops (tree_rows q rs) (symbol_row y) w v s = symbol-clear q w.rows.0 y s
  clear_ops (symbol_row y) (tree_rows q rs) w v s = after-symbol (op_of (symbol_row y)) q rs (symbol-clear q v.rows.0 y s) (symbol-shape y)
  clear_ops (symbol_row y) (symbol_row z) w v s = symbols_clear (op_of (symbol_row y)) (op_of (symbol_row z)) (symbol-shape y) (symbol-shape z)

  pub all-clear : (gs : List Given) → ((g : Given) → g ∈ gs → WellNested g) → AllSeparate gs → AllClear (map (op_of_lem input (means X)) (map op gs))
  all-clear [] w s = tt
  all-clear (g ∷ gs) w s = (λ p i. go p (map-∈ (op_of_lem input (means X)) (map op gs) i), all-clear gs (λ h i. w h (there i)) s.1)
    where
      go : (p : Op Frame) → (o : OpM FunctionRow SymbolRow) × (o ∈ map op gs) × (p ≡ op_of_lem input (means X) o) → ClearOps (op_of g) p
      go p t =
          let (o, i, e) = t in
          let (h, j, f) = map-∈ op gs i in
          subst (ClearOps (op_of g)) (sym (e ∙ ap (op_of_lem input (means X)) f)) (clear_ops g h (w g here) (w h (there j)) (s.0 h j))

  -- ── The frames ──

  frame_is : (q : FunctionRow) (n : LineRow) → n.number < 4294967296 → (means X).frame q n ≡ wanted X q n
  frame_is q n h = let e : cut32 n.number ≡ n.number = omega arith in λ i. record { name = (wanted X q n).name; entry = (wanted X q n).entry; language = q.language; number = e i; file = (wanted X q n).file }

  abbrev frame_of-line : FunctionRow → Option LineRow → Option Frame
  frame_of-line q none = none
  frame_of-line q (some n) = some (wanted X q n)

  frame_line : (q : FunctionRow) (x : ℕ) (ns : List LineRow) → ((n : LineRow) → n ∈ ns → n.address + line_size n ≤ MAX) → ((n : LineRow) → n ∈ ns → n.number < 4294967296)
      → frame_at (map (line_of q) ns) x ≡ frame_of-line q (line_at_lem ns x)
  unfolding frame_at line_at_lem
  frame_line q x [] h k = refl
  frame_line q x (n ∷ ns) h k =
      ap (λ (s : Span). cond (coversb s x) (some ((means X).frame q n)) (frame_at (map (line_of q) ns) x)) (unclamped n (h n here))
      ∙ go (coversb (reach n) x) (frame_line q x ns (λ m i. h m (there i)) (λ m i. k m (there i)))
    where
      go : (t : Bool) → frame_at (map (line_of q) ns) x ≡ frame_of-line q (line_at_lem ns x) → cond t (some ((means X).frame q n)) (frame_at (map (line_of q) ns) x) ≡ frame_of-line q (cond t (some n) (line_at_lem ns x))
      go true ih = ap some (frame_is q n (k n here))
      go false ih = ih

  pub found-is : (x : ℕ) (rs : List FunctionRow) → RowsWell rs → covering x (deeps rs) ≡ nested_at X x rs
  unfolding covering nested_at
  found-is x [] w = refl
  found-is x (q ∷ rs) w = go (line_at_lem q.lines x) refl (frame_line q x q.lines (line_low q w.0) w.0.numbers) (found-is x rs w.3)
    where
      go : (o : Option LineRow) → line_at_lem q.lines x ≡ o → frame_at (map (line_of q) q.lines) x ≡ frame_of-line q (line_at_lem q.lines x) → covering x (deeps rs) ≡ nested_at X x rs
          → covering x (deeps (q ∷ rs)) ≡ nested_at X x (q ∷ rs)
      go none e f ih = rw (f ∙ ap (frame_of-line q) e, covering, e, nested_at) ih
      go (some n) e f ih = rw (f ∙ ap (frame_of-line q) e, covering, e, nested_at) (ap (λ (t : List (Deep Frame)). record { depth = q.depth; item = wanted X q n } ∷ t) ih)

  pub covers_is : (q : FunctionRow) → RowWell q → (n : LineRow) → n ∈ q.lines → boundaries n ≡ reach n
  covers_is q w n i = unclamped n (line_low q w n i)

  -- ── A tree's rows, and its root's lines ──

  steps-deeps : (d : ℕ) (rs : List FunctionRow) → Legal d rs → Steps (suc d) (deeps rs)
  steps-deeps d [] h = tt
  steps-deeps d (r ∷ rs) h = (h.1, steps-deeps r.depth rs h.2)

  deeper-deeps : (d : ℕ) (rs : List FunctionRow) → Legal d rs → (r : Deep (Row Frame)) → r ∈ deeps rs → 1 ≤ r.depth
  deeper-deeps d [] h r i = elim i [ ]
  deeper-deeps d (p ∷ rs) h r i = ∈-elim (λ (t : Deep (Row Frame)). 1 ≤ t.depth) h.0 (deeper-deeps p.depth rs h.2) r i

  -- the depth of the first row is 0
  pub first-deep : (q : FunctionRow) (rs : List FunctionRow) → TreeWell q rs → ◌≡◌ {A = List (Deep FunctionRow)} (record { depth = 0; item = q } ∷ map deep rs) (map deep (q ∷ rs))
  first-deep q rs w = ap (λ (d : ℕ). record { depth = d; item = q } ∷ map deep rs) (sym w.first)

  found_rows : (x : ℕ) (q : FunctionRow) (rs : List FunctionRow) → TreeWell q rs → covering x (preorder 0 (row (row_of q) (kids_of input (means X) (map deep rs)) nil)) ≡ nested_at X x (q ∷ rs)
  found_rows x q rs w =
      ap (covering x) (rows_are (deeps rs) (steps-deeps 0 rs w.legal) (deeper-deeps 0 rs w.legal) (row_of q) ∙ ap (map (deep_of input (means X))) (first-deep q rs w))
      ∙ found-is x (q ∷ rs) w.rows

  -- where a line of any row covers x, one of the root's does
  pub root_line : (x : ℕ) (q : FunctionRow) (rs : List FunctionRow) → TreeWell q rs → nested_at X x (q ∷ rs) ≢ [] → (n : LineRow) × (n ∈ q.lines) × Covers (reach n) x
  root_line x q rs w h =
      let (l, i, c) = root_covers x (row_of q) (kids_of input (means X) (map deep rs)) (well-tree q rs w) (λ e. h (sym (found_rows x q rs w) ∙ e)) in
      let (n, j, e) = map-∈ (line_of q) q.lines i in
      (n, j, subst (λ (s : Span). Covers s x) (covers_is q w.rows.0 n j) (subst (λ (t : Line Frame). Covers t.span x) e c))

  -- ── The frames that demand 3 asks for: plainly and by recursion ──

  under_none : (d : ℕ) (rs : List (Deep (Row Frame))) → ((r : Deep (Row Frame)) → r ∈ rs → d < r.depth) → under d rs ≡ nil
  unfolding under
  under_none d [] h = refl
  under_none d (r ∷ rs) h = under-below d r rs (h r here) ∙ under_none d rs (λ p i. h p (there i))

  stack-under : (x d : ℕ) (rs : List FunctionRow) → RowsWell rs → stack_of X x d rs ≡ stack_at (under d (deeps rs)) x
  unfolding stack_of stack_at
  stack-under x d [] w = ap (λ (f : Forest Frame). stack_at f x) (sym (under_none d [] (λ r i. elim i [ ])))
  stack-under x d (q ∷ rs) w = go (lt-or_ge q.depth d) (eq-or-ne q.depth d) (stack-under x d rs w.3) (stack-under x (suc d) rs w.3)
    where
      here-is : (o : Option LineRow) → line_at_lem q.lines x ≡ o → frame_at (map (line_of q) q.lines) x ≡ frame_of-line q (line_at_lem q.lines x) → stack_of X x d rs ≡ stack_at (under d (deeps rs)) x
          → stack_of X x (suc d) rs ≡ stack_at (under (suc d) (deeps rs)) x
          → elim (line_at_lem q.lines x) [ none ↦ stack_of X x d rs | some n ↦ stack_of X x (suc d) rs ++ (wanted X q n ∷ []) ] ≡ stack_at (row (row_of q) (under (suc d) (deeps rs)) (under d (deeps rs))) x
      here-is none e f p k = rw (e, f ∙ ap (frame_of-line q) e, stack_at) p
      here-is (some n) e f p k = rw (e, f ∙ ap (frame_of-line q) e, stack_at) (ap (λ (t : List Frame). t ++ (wanted X q n ∷ [])) k)

      go : (q.depth < d) ⊎ (d ≤ q.depth) → (q.depth ≡ d) ⊎ (q.depth ≢ d) → stack_of X x d rs ≡ stack_at (under d (deeps rs)) x → stack_of X x (suc d) rs ≡ stack_at (under (suc d) (deeps rs)) x
          → stack_of X x d (q ∷ rs) ≡ stack_at (under d (deeps (q ∷ rs))) x
      go (inl h) z p k = rw (lt-ltb q.depth d h, stack_of, under-above d (record { depth = q.depth; item = row_of q }) (deeps rs) h)
      go (inr h) (inl z) p k =
          rw (le-ltb q.depth d h, eq-eqb q.depth d z, stack_of, under_at d (record { depth = q.depth; item = row_of q }) (deeps rs) z)
          (here-is (line_at_lem q.lines x) refl (frame_line q x q.lines (line_low q w.0) w.0.numbers) p k)
      go (inr h) (inr z) p k =
          rw (le-ltb q.depth d h, ne_eqb q.depth d z, stack_of, under-below d (record { depth = q.depth; item = row_of q }) (deeps rs) (omega arith)) p

  -- AT EACH ADDRESS THEY ARE THE SAME
  pub stack-nested : (x : ℕ) (q : FunctionRow) (rs : List FunctionRow) → TreeWell q rs → stack_of X x 0 (q ∷ rs) ≡ reverse (items (nested_at X x (q ∷ rs)))
  unfolding stack_at
  stack-nested x q rs w = as_tree ∙ ⊎_elim hit miss (covered? x (spans_of (row_of q).lines))
    where
      kids : Forest Frame
      kids = kids_of input (means X) (map deep rs)

      as_tree : stack_of X x 0 (q ∷ rs) ≡ stack_at (row (row_of q) kids nil) x
      as_tree =
          stack-under x 0 (q ∷ rs) w.rows
          ∙ ap (λ (f : Forest Frame). stack_at f x)
          (under_at 0 (record { depth = q.depth; item = row_of q }) (deeps rs) w.first ∙ ap (row (row_of q) kids) (under_none 0 (deeps rs) (λ r i. let h = deeper-deeps 0 rs w.legal r i in omega arith)))

      hit : (s : Span) × (s ∈ spans_of (row_of q).lines) × Covers s x → stack_at (row (row_of q) kids nil) x ≡ reverse (items (nested_at X x (q ∷ rs)))
      hit (s, i, c) =
          let (l, j, e) = map-∈ (λ (k : Line Frame). k.span) (row_of q).lines i in
          (plain-tree x (row_of q) kids (well-tree q rs w) l j (subst (λ (t : Span). Covers t x) e c)).stack_is ∙ ap (λ (t : List (Deep Frame)). reverse (items t)) (found_rows x q rs w)

      miss : Out x (spans_of (row_of q).lines) → stack_at (row (row_of q) kids nil) x ≡ reverse (items (nested_at X x (q ∷ rs)))
      miss out = stack_skip (row_of q) kids nil x out ∙ none-there (nested_at X x (q ∷ rs)) refl
        where
          none-there : (v : List (Deep Frame)) → nested_at X x (q ∷ rs) ≡ v → ◌≡◌ {A = List Frame} [] (reverse (items v))
          none-there [] e = refl
          none-there (d ∷ v) e =
              let (l, i, c) = root_covers x (row_of q) kids (well-tree q rs w) (λ z. let bad : ◌≡◌ {A = List (Deep Frame)} [] (d ∷ v) = sym z ∙ found_rows x q rs w ∙ e in let no : ◌≡◌ {A = ℕ} 0 1 = cc in omega arith) in
              absurd (⊎_elim (λ z. omega (arith, c)) (λ z. omega (arith, c)) (out l.span (∈-map (λ (k : Line Frame). k.span) i)))
