-- The stack by recursion on the tree is the plain one: of all rows, in preorder, those with a line covering x, the deepest first.
use mathlib.Core.Path.{◌≡◌, refl, ap, ◌∙◌, subst}
use mathlib.Core.Option.{Option, none, some}
use mathlib.Core.Logic.{inl, inr, ◌≢◌, ⊎_elim}
use mathlib.Core.List.{List, [], ◌∷◌, ◌++◌, reverse, reverse-cons, append-nil}
use Prim.Native.Nat.{ℕ, suc}
use native.Mathlib.Omega.{arith}
use lib.ListN.{length}
use Rattle.model.specs.Basics.{◌∈◌, Span, Apart, Covers, Deep, items, depths, upto}
use Rattle.model.proofs.Ideal.{Line, Row, Forest, nil, row, spans_of, spans, WellRow, Nested, WellTree, frame_at, stack_at, preorder, covering}
use Rattle.model.proofs.Spans.{map-∈, ∈-left, ∈-right, covered?, Out, apart-right, apart-cross}
use Rattle.model.proofs.Trees.{kids-out, frame-none, frame-some, stack-row, stack_skip}

module _ {F : Type 0} where
  covering-append : (x : ℕ) (a b : List (Deep (Row F))) → covering x (a ++ b) ≡ covering x a ++ covering x b
  unfolding covering
  covering-append x [] b = refl
  covering-append x (r ∷ a) b = go (frame_at r.item.lines x) refl (covering-append x a b)
    where
      go : (o : Option F) → frame_at r.item.lines x ≡ o → covering x (a ++ b) ≡ covering x a ++ covering x b
          → covering x (r ∷ a ++ b) ≡ covering x (r ∷ a) ++ covering x b
      go none e ih = rw (e, covering) ih
      go (some f) e ih = rw (e, covering) (ap (λ (t : List (Deep F)). record { depth = r.depth; item = f } ∷ t) ih)

  abbrev found : ℕ → ℕ → Forest F → List (Deep F)
  found x d f = covering x (preorder d f)

  found-hit : (x d : ℕ) (r : Row F) (kids sibs : Forest F) → WellRow r → (l : Line F) → l ∈ r.lines → Covers l.span x
      → found x d (row r kids sibs) ≡ record { depth = d; item = l.frame } ∷ (found x (suc d) kids ++ found x d sibs)
  unfolding preorder covering
  found-hit x d r kids sibs w l i c =
      rw (frame-some r.entry r.lines x w.lines-asc l i c, covering)
      (ap (λ (t : List (Deep F)). record { depth = d; item = l.frame } ∷ t) (covering-append x (preorder (suc d) kids) (preorder d sibs)))

  found-miss : (x d : ℕ) (r : Row F) (kids sibs : Forest F) → Out x (spans_of r.lines) → found x d (row r kids sibs) ≡ found x (suc d) kids ++ found x d sibs
  unfolding preorder covering
  found-miss x d r kids sibs h = rw (frame-none r.lines x h, covering) (covering-append x (preorder (suc d) kids) (preorder d sibs))

  found_none : (ls : List (Line F)) (x d : ℕ) (f : Forest F) → Nested ls f → Out x (spans f) → found x d f ≡ []
  unfolding preorder covering
  found_none ls x d nil n h = refl
  found_none ls x d (row r kids sibs) n h =
      let out : Out x (spans_of r.lines) = λ s i. h s (∈-left (spans sibs) i) in
      rw (
        found-miss x d r kids sibs out,
        found_none r.lines x (suc d) kids n.2 (kids-out r.lines kids n.2 x out),
        found_none ls x d sibs n.3 (λ s i. h s (∈-right (spans_of r.lines) i)),
      )

  -- f's stack is what is found, deepest first, one row at each depth from d on
  pub record Plainly (x d : ℕ) (f : Forest F) : Type 0 where
    pub stack_is : stack_at f x ≡ reverse (items (found x d f))
    pub depths_are : depths (found x d f) ≡ upto d (length (found x d f))

  plain-hit : (x d : ℕ) (r : Row F) (kids sibs : Forest F) → WellRow r → (l : Line F) → l ∈ r.lines → Covers l.span x
      → found x d sibs ≡ [] → Plainly x (suc d) kids → Plainly x d (row r kids sibs)
  unfolding upto
  plain-hit x d r kids sibs w l i c e p =
      let k : found x d (row r kids sibs) ≡ record { depth = d; item = l.frame } ∷ found x (suc d) kids =
      found-hit x d r kids sibs w l i c ∙ rw (e, append-nil) in
      record {
        stack_is = stack-row r kids sibs x w l i c ∙ ap (λ (t : List F). t ++ (l.frame ∷ [])) p.stack_is ∙ rw (k, reverse-cons);
        depths_are = rw k (ap (λ (t : List ℕ). d ∷ t) p.depths_are);
      }

  pub plain : (ls : List (Line F)) (x d : ℕ) (f : Forest F) → Nested ls f → Apart (spans f) → Plainly x d f
  unfolding preorder covering stack_at upto
  plain ls x d nil n a = record { stack_is = refl; depths_are = refl }
  plain ls x d (row r kids sibs) n a =
      ⊎_elim
      (λ (s, i, c).
      let (l, j, e) = map-∈ (λ (q : Line F). q.span) r.lines i in
      let out : Out x (spans sibs) = λ q k. ⊎_elim (λ z. inl (omega (arith, c))) (λ z. inr (omega (arith, c))) (apart-cross (spans_of r.lines) (spans sibs) a s i q k) in
      plain-hit x d r kids sibs n.0.well l j (subst (λ (t : Span). Covers t x) e c) (found_none ls x d sibs n.3 out) (plain r.lines x (suc d) kids n.2 n.1))
      (λ out.
      let p = plain ls x d sibs n.3 (apart-right (spans_of r.lines) (spans sibs) a) in
      let k : found x d (row r kids sibs) ≡ found x d sibs =
      found-miss x d r kids sibs out ∙ rw (found_none r.lines x (suc d) kids n.2 (kids-out r.lines kids n.2 x out)) in
      record { stack_is = stack_skip r kids sibs x out ∙ p.stack_is ∙ rw k; depths_are = rw k p.depths_are })
      (covered? x (spans_of r.lines))

  pub plain-tree : (x : ℕ) (r : Row F) (kids : Forest F) → WellTree r kids → (l : Line F) → l ∈ r.lines → Covers l.span x → Plainly x 0 (row r kids nil)
  unfolding preorder covering
  plain-tree x r kids w l i c = plain-hit x 0 r kids nil w.root l i c refl (plain r.lines x 1 kids w.nested w.apart)

  -- an address that a line of any row covers is covered by a line of the root
  pub root_covers : (x : ℕ) (r : Row F) (kids : Forest F) → WellTree r kids → covering x (preorder 0 (row r kids nil)) ≢ [] → (l : Line F) × (l ∈ r.lines) × Covers l.span x
  unfolding preorder covering
  root_covers x r kids w h =
      ⊎_elim
      (λ (s, i, c). let (l, j, e) = map-∈ (λ (q : Line F). q.span) r.lines i in (l, j, subst (λ (t : Span). Covers t x) e c))
      (λ out. absurd (h (found-miss x 0 r kids nil out ∙ rw (found_none r.lines x 1 kids w.nested (kids-out r.lines kids w.nested x out)))))
      (covered? x (spans_of r.lines))
