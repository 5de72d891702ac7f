-- The converter over flat rows in preorder, each with its depth, and no recursion on a tree: one pass over the rows. `ctx d` holds the
-- call locations for rows at depth d; each row sets those of the depth below it. It is the converter over the tree.
use mathlib.Core.Path.{◌≡◌, refl, sym, ap, ◌∙◌}
use mathlib.Core.Bool.{cond}
use mathlib.Core.Logic.{◌≢◌}
use mathlib.Core.List.{List, [], ◌∷◌, ◌++◌, append_assoc, append-nil}
use Prim.Native.Nat.{ℕ, zero, suc, ◌≤◌, ◌<◌}
use native.Mathlib.Omega.{arith}
use lib.Dec.{leb, eqb}
use borrow.Author.Tests.{le-leb, lt-leb, eq-eqb, ne_eqb}
use Rattle.model.specs.Basics.{Span, sort, Deep}
use Rattle.model.proofs.Ideal.{Row, Forest, nil, row, Map, insert-end, insert_soft, Call, Looped, loop, own, visit, convert, convert-root, spans_of, spans, preorder}

abbrev pub Context : Type 0 → Type 0
Context F = ℕ → List (Call F)

module _ {F : Type 0} where
  unfoldable pub set_at : ℕ → List (Call F) → Context F → Context F
  set_at d cs ctx = λ j. cond (eqb j d) cs (ctx j)

  -- the lines of the rows one deeper than d, up to the first row that is not deeper than d
  unfoldable pub kid_spans : ℕ → List (Deep (Row F)) → List Span
  kid_spans d [] = []
  kid_spans d (r ∷ rs) =
      cond (leb r.depth d) [] (cond (eqb r.depth (suc d)) (spans_of r.item.lines ++ kid_spans d rs) (kid_spans d rs))

  -- after a row's own lines: a root's entry, and the end
  unfoldable pub closing : ℕ → Row F → Map F → Map F
  closing zero r m = insert-end r.stop (insert_soft r.entry (r.bare ∷ []) m)
  closing (suc d) r m = insert-end r.stop m

  -- one row at depth d, given the ranges of its inlinees and its call locations: it is passed over if there are none
  unfoldable pub flat_row : ℕ → Row F → List Span → List (Call F) → Map F → Looped F
  flat_row d r ss [] m = record { map = m; calls = [] }
  flat_row d r ss (c ∷ cs) m = let o = loop r.lines c.stack cs (sort ss) 0 m in record { map = closing d r o.map; calls = o.calls }

  unfoldable pub convert_flat : List (Deep (Row F)) → Context F → Map F → Map F
  convert_flat [] ctx m = m
  convert_flat (r ∷ rs) ctx m =
      let o = flat_row r.depth r.item (kid_spans r.depth rs) (ctx r.depth) m in
      convert_flat rs (set_at (suc r.depth) o.calls ctx) o.map

  unfoldable pub start : Context F
  start zero = record { addr = 0; stack = [] } ∷ []
  start (suc d) = []

  -- ── It is the same ──

  set_same : (d : ℕ) (cs : List (Call F)) (ctx : Context F) → set_at d cs ctx d ≡ cs
  unfolding set_at
  set_same d cs ctx = rw (eq-eqb d d refl)

  set_other : (d : ℕ) (cs : List (Call F)) (ctx : Context F) (j : ℕ) → j ≢ d → set_at d cs ctx j ≡ ctx j
  unfolding set_at
  set_other d cs ctx j h = rw (ne_eqb j d h)

  abbrev deep : ℕ → Row F → Deep (Row F)
  deep d r = record { depth = d; item = r }

  preorder-row : (d : ℕ) (r : Row F) (kids sibs : Forest F) (rest : List (Deep (Row F)))
      → preorder d (row r kids sibs) ++ rest ≡ deep d r ∷ (preorder (suc d) kids ++ (preorder d sibs ++ rest))
  unfolding preorder
  preorder-row d r kids sibs rest = ap (λ (t : List (Deep (Row F))). deep d r ∷ t) (append_assoc (preorder (suc d) kids) (preorder d sibs) rest)

  preorder-nil : (d : ℕ) (rest : List (Deep (Row F))) → preorder d nil ++ rest ≡ rest
  unfolding preorder
  preorder-nil d rest = refl

  module _ (d e : ℕ) (r : Row F) (rs : List (Deep (Row F))) where
    spans_skip : suc d < e → kid_spans d (deep e r ∷ rs) ≡ kid_spans d rs
    unfolding kid_spans
    spans_skip h = rw (lt-leb e d (omega arith), ne_eqb e (suc d) (omega arith))

    spans-kid : suc d ≡ e → kid_spans d (deep e r ∷ rs) ≡ spans_of r.lines ++ kid_spans d rs
    unfolding kid_spans
    spans-kid h = rw (lt-leb e d (omega arith), eq-eqb e (suc d) (sym h))

    spans-stop : e ≤ d → kid_spans d (deep e r ∷ rs) ≡ []
    unfolding kid_spans
    spans-stop h = rw (le-leb e d h)

  -- rows that are deeper by two or more are passed over
  deep_skip : (f : Forest F) (d e : ℕ) (rest : List (Deep (Row F))) → suc d < e → kid_spans d (preorder e f ++ rest) ≡ kid_spans d rest
  deep_skip nil d e rest h = ap (kid_spans d) (preorder-nil e rest)
  deep_skip (row r kids sibs) d e rest h =
      ap (kid_spans d) (preorder-row e r kids sibs rest) ∙ spans_skip d e r _ h
      ∙ deep_skip kids d (suc e) (preorder e sibs ++ rest) (omega arith) ∙ deep_skip sibs d e rest h

  kids_flat : (f : Forest F) (d : ℕ) (rest : List (Deep (Row F))) → kid_spans d rest ≡ [] → kid_spans d (preorder (suc d) f ++ rest) ≡ spans f
  kids_flat nil d rest h = ap (kid_spans d) (preorder-nil (suc d) rest) ∙ h
  kids_flat (row r kids sibs) d rest h =
      ap (kid_spans d) (preorder-row (suc d) r kids sibs rest) ∙ spans-kid d (suc d) r _ refl
      ∙ ap (λ (t : List Span). spans_of r.lines ++ t) (deep_skip kids d (suc (suc d)) (preorder (suc d) sibs ++ rest) (omega arith) ∙ kids_flat sibs d rest h)

  -- a row at depth e ends the inlinees of a row at a depth from e on
  ends : (f : Forest F) (d e : ℕ) (rest : List (Deep (Row F))) → e ≤ d → kid_spans d rest ≡ [] → kid_spans d (preorder e f ++ rest) ≡ []
  ends nil d e rest h k = ap (kid_spans d) (preorder-nil e rest) ∙ k
  ends (row r kids sibs) d e rest h k = ap (kid_spans d) (preorder-row e r kids sibs rest) ∙ spans-stop d e r _ h

  -- what one pass over the rows of a forest leaves
  record Passed (d : ℕ) (f : Forest F) (rest : List (Deep (Row F))) (ctx : Context F) (m : Map F) : Type 0 where
    ctx' : Context F
    agrees : (j : ℕ) → j ≤ d → ctx' j ≡ ctx j
    result : convert_flat (preorder d f ++ rest) ctx m ≡ convert_flat rest ctx' (visit (ctx d) (convert f) m)

  nil-visit : (cs : List (Call F)) (m : Map F) → m ≡ visit cs (convert nil) m
  unfolding convert visit
  nil-visit [] m = refl
  nil-visit (c ∷ cs) m = refl

  row-visit : (d : ℕ) (r : Row F) (kids sibs : Forest F) (cs : List (Call F)) (m : Map F) → let o = own r (spans kids) cs m in
      visit cs (convert sibs) (visit o.calls (convert kids) (visit cs (λ x. closing (suc d) r) o.map)) ≡ visit cs (convert (row r kids sibs)) m
  unfolding convert visit own closing
  row-visit d r kids sibs [] m = refl
  row-visit d r kids sibs (c ∷ cs) m = refl

  flat_row-is : (d : ℕ) (r : Row F) (ss : List Span) (cs : List (Call F)) (m : Map F)
      → ◌≡◌ {A = Looped F} (flat_row d r ss cs m) (record { map = visit cs (λ x. closing d r) (own r ss cs m).map; calls = (own r ss cs m).calls })
  unfolding flat_row visit own
  flat_row-is d r ss [] m = refl
  flat_row-is d r ss (c ∷ cs) m = refl

  flat_step : (d : ℕ) (r : Row F) (rs : List (Deep (Row F))) (ctx : Context F) (m : Map F) (ss : List Span) → kid_spans d rs ≡ ss → let o = own r ss (ctx d) m in
      convert_flat (deep d r ∷ rs) ctx m ≡ convert_flat rs (set_at (suc d) o.calls ctx) (visit (ctx d) (λ x. closing d r) o.map)
  unfolding convert_flat
  flat_step d r rs ctx m ss h =
      ap (λ (t : List Span). let o = flat_row d r t (ctx d) m in convert_flat rs (set_at (suc d) o.calls ctx) o.map) h
      ∙ ap (λ (o : Looped F). convert_flat rs (set_at (suc d) o.calls ctx) o.map) (flat_row-is d r ss (ctx d) m)

  abbrev Low : ℕ → List (Deep (Row F)) → Type 0
  Low d rest = (e : ℕ) → d ≤ e → kid_spans e rest ≡ []

  module _ (d : ℕ) (r : Row F) (kids sibs : Forest F) (rest : List (Deep (Row F))) (low : Low d rest) (ctx : Context F) (m : Map F) where
    abbrev rest₁ : List (Deep (Row F))
    rest₁ = preorder d sibs ++ rest

    low₁ : Low d rest₁
    low₁ e h = ends sibs e d rest h (low e h)

    abbrev ctx₁ : Context F
    ctx₁ = set_at (suc d) (own r (spans kids) (ctx d) m).calls ctx

    abbrev m₁ : Map F
    m₁ = visit (ctx d) (λ x. closing d r) (own r (spans kids) (ctx d) m).map

    abbrev m₂ : Map F
    m₂ = visit (own r (spans kids) (ctx d) m).calls (convert kids) m₁

    -- a row and its inlinees
    row-kids : (p : Passed (suc d) kids rest₁ ctx₁ m₁) → convert_flat (preorder d (row r kids sibs) ++ rest) ctx m ≡ convert_flat rest₁ p.ctx' m₂
    row-kids p =
        ap (λ (t : List (Deep (Row F))). convert_flat t ctx m) (preorder-row d r kids sibs rest)
        ∙ flat_step d r (preorder (suc d) kids ++ rest₁) ctx m (spans kids) (kids_flat kids d rest₁ (low₁ d (omega arith)))
        ∙ p.result
        ∙ ap (λ (t : List (Call F)). convert_flat rest₁ p.ctx' (visit t (convert kids) m₁)) (set_same (suc d) _ ctx)

    same_ctx : (p : Passed (suc d) kids rest₁ ctx₁ m₁) (j : ℕ) → j ≤ d → p.ctx' j ≡ ctx j
    same_ctx p j h = p.agrees j (omega arith) ∙ set_other (suc d) _ ctx j (omega arith)

  flat_forest : (f : Forest F) (d : ℕ) (rest : List (Deep (Row F))) → Low (suc d) rest → (ctx : Context F) (m : Map F) → Passed (suc d) f rest ctx m
  flat_forest nil d rest low ctx m =
      record { ctx' = ctx; agrees = λ j h. refl; result = ap (λ (t : List (Deep (Row F))). convert_flat t ctx m) (preorder-nil (suc d) rest) ∙ ap (convert_flat rest ctx) (nil-visit (ctx (suc d)) m) }
  flat_forest (row r kids sibs) d rest low ctx m =
      let p = flat_forest kids (suc d) (rest₁ (suc d) r kids sibs rest low ctx m) (λ e h. low₁ (suc d) r kids sibs rest low ctx m e (omega arith)) (ctx₁ (suc d) r kids sibs rest low ctx m) (m₁ (suc d) r kids sibs rest low ctx m) in
      let q = flat_forest sibs d rest low p.ctx' (m₂ (suc d) r kids sibs rest low ctx m) in
      record {
        ctx' = q.ctx';
        agrees = λ j h. q.agrees j h ∙ same_ctx (suc d) r kids sibs rest low ctx m p j h;
        result =
            row-kids (suc d) r kids sibs rest low ctx m p ∙ q.result
            ∙ ap (λ (t : List (Call F)). convert_flat rest q.ctx' (visit t (convert sibs) (m₂ (suc d) r kids sibs rest low ctx m))) (same_ctx (suc d) r kids sibs rest low ctx m p (suc d) (omega arith))
            ∙ ap (convert_flat rest q.ctx') (row-visit d r kids sibs (ctx (suc d)) m);
      }

  -- THE TREE'S ROWS IN ONE PASS
  pub flat_tree : (r : Row F) (kids : Forest F) (m : Map F) → convert_flat (preorder 0 (row r kids nil)) start m ≡ convert-root r kids m
  unfolding convert_flat start visit closing convert-root preorder kid_spans own
  flat_tree r kids m =
      let low : Low 0 [] = λ e h. refl in
      let p = flat_forest kids 0 (rest₁ 0 r kids nil [] low start m) (λ e h. refl) (ctx₁ 0 r kids nil [] low start m) (m₁ 0 r kids nil [] low start m) in
      ap (λ (t : List (Deep (Row F))). convert_flat t start m) (sym (append-nil (preorder 0 (row r kids nil)))) ∙ row-kids 0 r kids nil [] low start m p
