-- What every operation of a machine keeps, its loops keep.
use mathlib.Core.Path.{◌≡◌, refl, ◌∙◌}
use mathlib.Core.Bool.{Bool, true, false, cond}
use mathlib.Core.Option.{Option, none, some}
use mathlib.Core.List.{List, [], ◌∷◌}
use Prim.Native.Nat.{ℕ, suc}
use lib.Dec.{ltb}
use Rattle.model.specs.Basics.{Span, Deep, sort}
use Rattle.model.specs.Machine.{Input, Machine, Ref, OpM, tree_m, symbol_m, advance_m, set_at_m, kid_spans_m, unless_held, put_end, walk_m, loop_m, entry_m, closing_m, row_m, convert_m, start_m, named_symbol_m, convert_symbol_m, convert_op_m, run_m}

module _ {Q N Y R P L C S A : Type 0} (I : Input Q N Y) (M : Machine Q N Y R P L C S) (f : S → A) where
  -- f is what is kept of the state
  pub record Keeps : Type 0 where
    pub put : (a : ℕ) (l : L) (s : S) → f (M.put a l s) ≡ f s
    pub begin : (q : Q) (s : S) → f (M.begin q s).1 ≡ f s
    pub locate : (q : Q) (r : R) (n : N) (c : C) (s : S) → f (M.locate q r n c s).1 ≡ f s
    pub enter : (l : L) (s : S) → f (M.enter l s).1 ≡ f s
    pub sym_begin : (y : Y) (s : S) → f (M.sym_begin y s).1 ≡ f s
    pub sym_locate : (y : Y) (p : P) (s : S) → f (M.sym_locate y p s).1 ≡ f s

  module _ (k : Keeps) where
    -- ── One range ──

    pub unless_held_keeps : (a : ℕ) (t s : S) → f t ≡ f s → f (unless_held I M a t s) ≡ f s
    unfolding unless_held
    unless_held_keeps a t s h = go (M.get s a)
      where
        one : (b : Bool) → f (cond b t s) ≡ f s
        one true = h
        one false = refl

        go : (o : Option L) → f (elim o [ none ↦ t | some w ↦ cond (M.is_none w) t s ]) ≡ f s
        go none = h
        go (some w) = one (M.is_none w)

    pub put_end_keeps : (a : ℕ) (s : S) → f (put_end I M a s) ≡ f s
    unfolding put_end
    put_end_keeps a s = go (M.get s a)
      where
        go : (o : Option L) → f (elim o [ none ↦ M.put a M.none_loc s | some w ↦ s ]) ≡ f s
        go none = k.put a M.none_loc s
        go (some w) = refl

    -- ── The walk over one line ──

    module _ (l : L) (e : ℕ) where
      pub walk_keeps : (a : ℕ) (rs : List Span) (s : S) → f (walk_m I M l e a rs s).state ≡ f s
      unfolding walk_m
      walk_keeps a [] s = go (ltb a e) refl
        where
          go : (t : Bool) → ltb a e ≡ t → f (walk_m I M l e a [] s).state ≡ f s
          go true z = rw (z, walk_m) (k.put a l s)
          go false z = rw (z, walk_m) refl
      walk_keeps a (r ∷ rs) s = go (ltb a e) (ltb r.from e) refl refl (walk_keeps r.to rs)
        where
          s₁ : S
          s₁ = cond (ltb a r.from) (M.put a l s) s

          first : (t : Bool) → f (cond t (M.put a l s) s) ≡ f s
          first true = k.put a l s
          first false = refl

          go : (t u : Bool) → ltb a e ≡ t → ltb r.from e ≡ u → ((s₂ : S) → f (walk_m I M l e r.to rs s₂).state ≡ f s₂) → f (walk_m I M l e a (r ∷ rs) s).state ≡ f s
          go false u z y ih = rw (z, walk_m) refl
          go true false z y ih = rw (z, y, walk_m) (first (ltb a r.from))
          go true true z y ih = rw (z, y, walk_m) (ih (M.enter l s₁).1 ∙ (k.enter l s₁ ∙ first (ltb a r.from)))

    -- ── The loop over the lines ──

    module _ (q : Q) (r : R) where
      pub loop_keeps : (ns : List N) (w : C) (cs : List (Ref C)) (rs : List Span) (at : ℕ) (s : S) → f (loop_m I M q r ns w cs rs at s).state ≡ f s
      unfolding loop_m
      loop_keeps [] w cs rs at s = refl
      loop_keeps (n ∷ ns) w cs rs at s = go (ltb (I.cut n) at) refl (loop_keeps ns)
        where
          go : (t : Bool) → ltb (I.cut n) at ≡ t → ((w₁ : C) (cs₁ : List (Ref C)) (rs₁ : List Span) (at₁ : ℕ) (s₁ : S) → f (loop_m I M q r ns w₁ cs₁ rs₁ at₁ s₁).state ≡ f s₁)
              → f (loop_m I M q r (n ∷ ns) w cs rs at s).state ≡ f s
          go true z ih = rw (z, loop_m) (ih w cs rs at s)
          go false z ih =
              rw (z, loop_m)
              (let c = advance_m (I.span n).from w cs in
              let l = M.locate q r n c.now s in
              let o = walk_m I M l.0 (I.span n).to (I.span n).from rs l.1 in
              ih c.now c.next o.left o.at o.state ∙ (walk_keeps l.0 (I.span n).to (I.span n).from rs l.1 ∙ k.locate q r n c.now s))

      pub entry_keeps : (s : S) → f (entry_m I M q r s) ≡ f s
      unfolding entry_m
      entry_keeps s = go (I.inline q) refl
        where
          go : (t : Bool) → I.inline q ≡ t → f (entry_m I M q r s) ≡ f s
          go true z = rw (z, entry_m) refl
          go false z = rw (z, entry_m) (unless_held_keeps (I.entry q) (M.put (I.entry q) (M.bare q r) s) s (k.put (I.entry q) (M.bare q r) s))

      pub closing_keeps : (s : S) → f (closing_m I M q r s) ≡ f s
      unfolding closing_m
      closing_keeps s = put_end_keeps (I.stop q) (entry_m I M q r s) ∙ entry_keeps s

    -- ── Rows, symbols, lists ──

    pub row_keeps : (q : Q) (ss : List Span) (cs : List (Ref C)) (s : S) → f (row_m I M q ss cs s).state ≡ f s
    unfolding row_m
    row_keeps q ss [] s = refl
    row_keeps q ss (c ∷ cs) s = go (I.skipped q) refl
      where
        go : (t : Bool) → I.skipped q ≡ t → f (row_m I M q ss (c ∷ cs) s).state ≡ f s
        go true z = rw (z, row_m) refl
        go false z =
            rw (z, row_m)
            (let b = M.begin q s in
            let o = loop_m I M q b.0 (I.lines q) c.ref cs (sort ss) 0 b.1 in
            closing_keeps q b.0 o.state ∙ (loop_keeps q b.0 (I.lines q) c.ref cs (sort ss) 0 b.1 ∙ k.begin q s))

    pub convert_keeps : (rs : List (Deep Q)) (ctx : ℕ → List (Ref C)) (s : S) → f (convert_m I M rs ctx s) ≡ f s
    unfolding convert_m
    convert_keeps [] ctx s = refl
    convert_keeps (r ∷ rs) ctx s =
        let ss = kid_spans_m I r.depth rs in
        let o = row_m I M r.item ss (ctx r.depth) s in
        convert_keeps rs (set_at_m (suc r.depth) o.calls ctx) o.state ∙ row_keeps r.item ss (ctx r.depth) s

    pub named-symbol_keeps : (y : Y) (s : S) → f (named_symbol_m I M y s) ≡ f s
    unfolding named_symbol_m
    named-symbol_keeps y s = go (I.sym_end y) ∙ kept
      where
        b : P × S
        b = M.sym_begin y s

        l : L × S
        l = M.sym_locate y b.0 b.1

        t : S
        t = unless_held I M (I.sym_addr y) (M.put (I.sym_addr y) l.0 l.1) b.1

        kept : f t ≡ f s
        kept = unless_held_keeps (I.sym_addr y) (M.put (I.sym_addr y) l.0 l.1) b.1 (k.put (I.sym_addr y) l.0 l.1 ∙ k.sym_locate y b.0 b.1) ∙ k.sym_begin y s

        go : (o : Option ℕ) → f (elim o [ none ↦ t | some e ↦ put_end I M e t ]) ≡ f t
        go none = refl
        go (some e) = put_end_keeps e t

    pub symbol_keeps : (y : Y) (s : S) → f (convert_symbol_m I M y s) ≡ f s
    unfolding convert_symbol_m
    symbol_keeps y s = go (I.sym_skipped y) refl
      where
        go : (t : Bool) → I.sym_skipped y ≡ t → f (convert_symbol_m I M y s) ≡ f s
        go true z = rw (z, convert_symbol_m) refl
        go false z = rw (z, convert_symbol_m) (named-symbol_keeps y s)

    pub op_keeps : (o : OpM Q Y) (s : S) → f (convert_op_m I M o s) ≡ f s
    unfolding convert_op_m
    op_keeps (tree_m q rs) s = convert_keeps (record { depth = 0; item = q } ∷ rs) (start_m I M) s
    op_keeps (symbol_m y) s = symbol_keeps y s

    pub run_keeps : (os : List (OpM Q Y)) (s : S) → f (run_m I M os s) ≡ f s
    unfolding run_m
    run_keeps [] s = refl
    run_keeps (o ∷ os) s = run_keeps os (convert_op_m I M o s) ∙ op_keeps o s
