-- Demand 3, ideally: each address that a line of a root covers is looked up as that tree's stack.
use mathlib.Core.Path.{◌≡◌, refl, sym, ◌∙◌, subst}
use mathlib.Core.Option.{none, some}
use mathlib.Core.Logic.{inl, inr, ◌≢◌, ⊎_elim}
use mathlib.Core.List.{List, [], ◌∷◌}
use Prim.Native.Nat.{ℕ, ◌≤◌, ◌<◌}
use native.Mathlib.Omega.{arith}
use Rattle.model.specs.Basics.{◌∈◌, here, there, Covers}
use Rattle.model.proofs.Ideal.{Line, Row, Forest, nil, row, Op, tree, symbol, idle, Map, empty, look, convert-root, convert-symbol, convert-op, run, WellTree, Well, NotInside, Clear, ClearOps, AllClear, stack_at}
use Rattle.model.proofs.Maps.{Keeps, soft_other, soft_keeps, end-other, end_keeps, Sees, sees_look, sees_keep, Solid, solid_mid}
use Rattle.model.proofs.Spans.{∈-cases, ∈-map, asc-from}
use Rattle.model.proofs.Trees.{stack-row, root-off, root-out, root_sees}

module _ {F : Type 0} where
  apart-key : (r : Row F) (a k : ℕ) → NotInside a r → r.entry < k → k < r.stop → k ≢ a
  apart-key r a k (inl h) p q = omega arith
  apart-key r a k (inr h) p q = omega arith

  -- an operation that keeps clear of a root changes no key strictly inside it
  pub op-off : (r : Row F) (o : Op F) (m : Map F) → Well o → Clear r o → (k : ℕ) → r.entry < k → k < r.stop → convert-op o m k ≡ m k
  unfolding convert-op convert-symbol
  op-off r (tree q kids) m w c k h g = root-off q kids m w k (⊎_elim (λ z. inr (omega arith)) (λ z. inl (omega arith)) c)
  op-off r idle m w c k h g = refl
  op-off r (symbol a none f) m w c k h g = soft_other a _ m k (apart-key r a k c h g)
  op-off r (symbol a (some e) f) m w c k h g = end-other e _ k (apart-key r e k c.1 h g) ∙ soft_other a _ m k (apart-key r a k c.0 h g)

  -- and keeps the frames at its entry
  op-out : (r : Row F) (o : Op F) (m : Map F) → Well o → Clear r o → (k : ℕ) → r.entry ≤ k → k < r.stop → Keeps (m k) (convert-op o m k)
  unfolding convert-op convert-symbol
  op-out r (tree q kids) m w c k h g = (root-out q kids m w k (⊎_elim (λ z. inr (omega arith)) (λ z. inl (omega arith)) c)).0
  op-out r idle m w c k h g = λ b v z. z
  op-out r (symbol a none f) m w c k h g = soft_keeps a _ m k
  op-out r (symbol a (some e) f) m w c k h g = λ b v z. end_keeps e _ k b v (soft_keeps a _ m k b v z)

  pub run-keep : (r : Row F) (os : List (Op F)) (m : Map F) → ((o : Op F) → o ∈ os → Well o) → ((o : Op F) → o ∈ os → Clear r o)
      → (s x : ℕ) (v : List F) → Solid v → r.entry ≤ s → x < r.stop → s ≤ x → Sees m s x v → Sees (run os m) s x v
  unfolding run
  run-keep r [] m w c s x v sol h g b q = q
  run-keep r (o ∷ os) m w c s x v sol h g b q =
      run-keep r os (convert-op o m) (λ p i. w p (there i)) (λ p i. c p (there i)) s x v sol h g b
      (sees_keep sol q (λ k y z. op-off r o m (w o here) (c o here) k (omega arith) (omega arith)) (op-out r o m (w o here) (c o here) s h (omega arith)))

  clear-sym : (o : Op F) (r : Row F) (kids : Forest F) → ClearOps o (tree r kids) → Clear r o
  clear-sym (tree q ks) r kids (inl h) = inr h
  clear-sym (tree q ks) r kids (inr h) = inl h
  clear-sym (symbol a e f) r kids h = h
  clear-sym idle r kids h = tt

  module _ (r : Row F) (kids : Forest F) (l : Line F) (i : l ∈ r.lines) (x : ℕ) (cov : Covers l.span x) where
    pub run_sees : (os : List (Op F)) (m : Map F) → ((o : Op F) → o ∈ os → Well o) → AllClear os → tree r kids ∈ os
        → ((k : ℕ) → r.entry < k → k < r.stop → m k ≡ none) → Sees (run os m) l.span.from x (stack_at (row r kids nil) x)
    unfolding run convert-op
    run_sees [] m w c j b = elim j [ ]
    run_sees (o ∷ os) m w c j b = ⊎_elim now (λ j'. later j' (run_sees os (convert-op o m) (λ p k. w p (there k)) c.1 j')) (∈-cases j)
      where
        now : tree r kids ≡ o → Sees (run os (convert-op o m)) l.span.from x (stack_at (row r kids nil) x)
        now e =
            let well : WellTree r kids = subst Well (sym e) (w o here) in
            let clear : (p : Op F) → p ∈ os → Clear r p = subst (λ (q : Op F). (p : Op F) → p ∈ os → ClearOps q p) (sym e) c.0 in
            let low : r.entry ≤ l.span.from = asc-from r.entry well.root.lines-asc (∈-map (λ (q : Line F). q.span) i) in
            let high : l.span.to ≤ r.stop = well.root.lines_in l i in
            let sol : Solid (stack_at (row r kids nil) x) = subst Solid (sym (stack-row r kids nil x well.root l i cov)) (solid_mid (stack_at kids x) l.frame []) in
            subst (λ (q : Op F). Sees (run os (convert-op q m)) l.span.from x (stack_at (row r kids nil) x)) e
            (run-keep r os (convert-root r kids m) (λ p k. w p (there k)) clear l.span.from x _ sol low (omega (arith, cov)) cov.0
            (root_sees r kids m well b l i x cov))

        later : tree r kids ∈ os → (((k : ℕ) → r.entry < k → k < r.stop → convert-op o m k ≡ none) → Sees (run os (convert-op o m)) l.span.from x (stack_at (row r kids nil) x))
            → Sees (run os (convert-op o m)) l.span.from x (stack_at (row r kids nil) x)
        later j' ih = ih (λ k h g. op-off r o m (w o here) (clear-sym o r kids (c.0 (tree r kids) j')) k h g ∙ b k h g)

    -- THE THEOREM
    pub demand : (os : List (Op F)) → ((o : Op F) → o ∈ os → Well o) → AllClear os → tree r kids ∈ os → look (run os empty) x ≡ stack_at (row r kids nil) x
    demand os w c j = sees_look (run_sees os empty w c j (λ k h g. refl))
