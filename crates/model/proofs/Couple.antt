-- Two machines over the same input, for EVERY list, well nested or not: if each of their operations keeps a relation between their states, so do whole runs.
-- With one machine that holds nothing it is an invariant of the other.
use mathlib.Core.Path.{◌≡◌, refl, sym, ap, ◌∙◌, subst}
use mathlib.Core.Bool.{Bool, true, false, cond}
use mathlib.Core.Option.{Option, none, some}
use mathlib.Core.Logic.{◌⊎◌, inl, inr, ⊎_elim}
use mathlib.Core.List.{List, [], ◌∷◌, ◌++◌, map}
use Prim.Native.Nat.{ℕ, zero, suc}
use native.Mathlib.Omega.{arith}
use lib.Dec.{ltb, leb, eqb}
use borrow.Author.Tests.{eqb-true}
use Rattle.model.specs.Basics.{◌∈◌, here, there, Span, Deep, sort}
use Rattle.model.specs.Machine.{Input, Machine, OpM, tree_m, symbol_m, Ref, WalkedM, LoopedM, CursorM, advance_m, set_at_m, kid_spans_m, unless_held, put_end, walk_m, loop_m, entry_m, closing_m, row_m, convert_m, start_m, named_symbol_m, convert_symbol_m, convert_op_m, run_m}
use Rattle.model.proofs.Spans.{∈-elim, ∈-append, map-∈, sort-∈}

-- `State s s'`: the states agree. `Ext s s' t t'`: t and t' come after s and s'. `Loc s s' d l l'`: l and l' were made for one row at depth d. `Cal s s' d c c'`: c and c' are references
-- to call locations for the rows at depth d. `Fun s s' d q r r'`: r and r' are what `begin` made of the row q at depth d
pub record Couple (Q R R' L L' C C' S S' : Type 0) : Type 1 where
  pub State : S → S' → Type 0
  pub Ext : S → S' → S → S' → Type 0
  pub Loc : S → S' → ℕ → L → L' → Type 0
  pub Cal : S → S' → ℕ → C → C' → Type 0
  pub Fun : S → S' → ℕ → Q → R → R' → Type 0

-- what is given may be restricted: to rows `Row d q` at depth d, to symbols `Symbol y`; and the keys that lines put are `Key`s
pub record Limits (Q Y : Type 0) : Type 1 where
  pub Row : ℕ → Q → Type 0
  pub Symbol : Y → Type 0
  pub Key : ℕ → Type 0

module _ {Q N Y R R' P P' L L' C C' S S' : Type 0} (I : Input Q N Y) (M : Machine Q N Y R P L C S) (M' : Machine Q N Y R' P' L' C' S') (G : Limits Q Y) (K : Couple Q R R' L L' C C' S S') where
  pub record Next (s : S) (s' : S') (t : S) (t' : S') : Type 0 where
    pub ext : K.Ext s s' t t'
    pub state : K.State t t'

  -- What must be kept. The laws speak of whole steps where these look at the state (`closing_m`, `named_symbol_m`): a machine that is full may go its own way in them
  pub record Preserves : Type 0 where
    pub ext_refl : (s : S) (s' : S') → K.Ext s s' s s'
    pub ext_trans : {s t u : S} {s' t' u' : S'} → K.Ext s s' t t' → K.Ext t t' u u' → K.Ext s s' u u'
    pub loc-ext : {s t : S} {s' t' : S'} {d : ℕ} {l : L} {l' : L'} → K.Ext s s' t t' → K.Loc s s' d l l' → K.Loc t t' d l l'
    pub cal_ext : {s t : S} {s' t' : S'} {d : ℕ} {c : C} {c' : C'} → K.Ext s s' t t' → K.Cal s s' d c c' → K.Cal t t' d c c'
    pub fun_ext : {s t : S} {s' t' : S'} {d : ℕ} {q : Q} {r : R} {r' : R'} → K.Ext s s' t t' → K.Fun s s' d q r r' → K.Fun t t' d q r r'
    pub keys : (n : N) → G.Key (I.span n).from × G.Key (I.span n).to
    pub put_law : (d k : ℕ) (l : L) (l' : L') (s : S) (s' : S') → G.Key k → K.State s s' → K.Loc s s' d l l' → Next s s' (M.put k l s) (M'.put k l' s')
    pub begin_law : (d : ℕ) (q : Q) (s : S) (s' : S') → G.Row d q → I.skipped q ≡ false → K.State s s'
        → let t = M.begin q s in let t' = M'.begin q s' in Next s s' t.1 t'.1 × K.Fun t.1 t'.1 d q t.0 t'.0
    pub locate_law : (d : ℕ) (q : Q) (r : R) (r' : R') (n : N) (c : C) (c' : C') (s : S) (s' : S') → G.Row d q → n ∈ I.lines q → K.State s s' → K.Fun s s' d q r r' → K.Cal s s' d c c'
        → let t = M.locate q r n c s in let t' = M'.locate q r' n c' s' in Next s s' t.1 t'.1 × K.Loc t.1 t'.1 d t.0 t'.0
    pub enter_law : (d : ℕ) (l : L) (l' : L') (s : S) (s' : S') → K.State s s' → K.Loc s s' d l l'
        → let t = M.enter l s in let t' = M'.enter l' s' in Next s s' t.1 t'.1 × K.Cal t.1 t'.1 (suc d) t.0 t'.0
    pub base_law : (s : S) (s' : S') → K.State s s' → K.Cal s s' 0 M.base M'.base
    pub close_law : (d : ℕ) (q : Q) (r : R) (r' : R') (s : S) (s' : S') → G.Row d q → I.skipped q ≡ false → K.State s s' → K.Fun s s' d q r r' → Next s s' (closing_m I M q r s) (closing_m I M' q r' s')
    pub symbol_law : (y : Y) (s : S) (s' : S') → G.Symbol y → I.sym_skipped y ≡ false → K.State s s' → Next s s' (named_symbol_m I M y s) (named_symbol_m I M' y s')

  abbrev pub Allowed : OpM Q Y → Type 0
  Allowed (tree_m q rs) = G.Row 0 q × ((r : Deep Q) → r ∈ rs → G.Row r.depth r.item)
  Allowed (symbol_m y) = G.Symbol y

  module _ (W : Preserves) where
    stay : {s : S} {s' : S'} → K.State s s' → Next s s' s s'
    stay {s} {s'} h = record { ext = W.ext_refl s s'; state = h }

    then : {s t u : S} {s' t' u' : S'} → K.Ext s s' t t' → Next t t' u u' → Next s s' u u'
    then e h = record { ext = W.ext_trans e h.ext; state = h.state }

    -- ── Call locations: the same addresses, and references that agree ──

    pub data Calls (s : S) (s' : S') (d : ℕ) : List (Ref C) → List (Ref C') → Type 0 where
      no_calls : Calls s s' d [] []
      a_call : {c : Ref C} {c' : Ref C'} {cs : List (Ref C)} {cs' : List (Ref C')} → c.addr ≡ c'.addr → K.Cal s s' d c.ref c'.ref → Calls s s' d cs cs' → Calls s s' d (c ∷ cs) (c' ∷ cs')

    calls-ext : {s t : S} {s' t' : S'} {d : ℕ} {cs : List (Ref C)} {cs' : List (Ref C')} → K.Ext s s' t t' → Calls s s' d cs cs' → Calls t t' d cs cs'
    calls-ext e no_calls = no_calls
    calls-ext e (a_call a h k) = a_call a (W.cal_ext e h) (calls-ext e k)

    calls-append : {s : S} {s' : S'} {d : ℕ} {cs ds : List (Ref C)} {cs' ds' : List (Ref C')} → Calls s s' d cs cs' → Calls s s' d ds ds' → Calls s s' d (cs ++ ds) (cs' ++ ds')
    calls-append no_calls k = k
    calls-append (a_call a h j) k = a_call a h (calls-append j k)

    record Cursors (s : S) (s' : S') (d : ℕ) (p : CursorM C) (p' : CursorM C') : Type 0 where
      now : K.Cal s s' d p.now p'.now
      next : Calls s s' d p.next p'.next

    advance-both : (a : ℕ) {s : S} {s' : S'} {d : ℕ} (w : C) (w' : C') {cs : List (Ref C)} {cs' : List (Ref C')} → K.Cal s s' d w w' → Calls s s' d cs cs' → Cursors s s' d (advance_m a w cs) (advance_m a w' cs')
    unfolding advance_m
    advance-both a w w' h no_calls = record { now = h; next = no_calls }
    advance-both a {s} {s'} {d} w w' h (a_call {c = c} {c' = c'} {cs = cs} {cs' = cs'} e j k) = go (leb c.addr a) refl (advance-both a c.ref c'.ref j k)
      where
        go : (t : Bool) → leb c.addr a ≡ t → Cursors s s' d (advance_m a c.ref cs) (advance_m a c'.ref cs') → Cursors s s' d (advance_m a w (c ∷ cs)) (advance_m a w' (c' ∷ cs'))
        go true z ih = rw (z, advance_m, ap (λ (n : ℕ). leb n a) (sym e) ∙ z, advance_m) ih
        go false z ih = rw (z, advance_m, ap (λ (n : ℕ). leb n a) (sym e) ∙ z, advance_m) (record { now = h; next = a_call e j k })

    -- ── The walk over one line ──

    record Walks (d : ℕ) (rs : List Span) (s : S) (s' : S') (p : WalkedM C S) (p' : WalkedM C' S') : Type 0 where
      next : Next s s' p.state p'.state
      calls_are : Calls p.state p'.state (suc d) p.calls p'.calls
      left_is : p.left ≡ p'.left
      left_in : (r : Span) → r ∈ p.left → r ∈ rs
      at-is : p.at ≡ p'.at

    module _ (d : ℕ) (q : Q) (ok : G.Row d q) where
      module _ (l : L) (l' : L') (e : ℕ) where
        walk-both : (a : ℕ) (rs : List Span) (s : S) (s' : S') → G.Key a → ((r : Span) → r ∈ rs → G.Key r.to) → K.Loc s s' d l l' → K.State s s'
            → Walks d rs s s' (walk_m I M l e a rs s) (walk_m I M' l' e a rs s')
        unfolding walk_m
        walk-both a [] s s' b bs h st = go (ltb a e) refl
          where
            go : (t : Bool) → ltb a e ≡ t → Walks d [] s s' (walk_m I M l e a [] s) (walk_m I M' l' e a [] s')
            go true z = rw (z, walk_m) (record { next = W.put_law d a l l' s s' b st h; calls_are = no_calls; left_is = refl; left_in = λ r i. i; at-is = refl })
            go false z = rw (z, walk_m) (record { next = stay st; calls_are = no_calls; left_is = refl; left_in = λ r i. i; at-is = refl })
        walk-both a (r ∷ rs) s s' b bs h st = go (ltb a e) (ltb r.from e) refl refl (walk-both r.to rs)
          where
            s₁ : S
            s₁ = cond (ltb a r.from) (M.put a l s) s

            s₁' : S'
            s₁' = cond (ltb a r.from) (M'.put a l' s') s'

            first : (t : Bool) → Next s s' (cond t (M.put a l s) s) (cond t (M'.put a l' s') s')
            first true = W.put_law d a l l' s s' b st h
            first false = stay st

            go : (t u : Bool) → ltb a e ≡ t → ltb r.from e ≡ u
                → ((s₂ : S) (s₂' : S') → G.Key r.to → ((p : Span) → p ∈ rs → G.Key p.to) → K.Loc s₂ s₂' d l l' → K.State s₂ s₂' → Walks d rs s₂ s₂' (walk_m I M l e r.to rs s₂) (walk_m I M' l' e r.to rs s₂'))
                → Walks d (r ∷ rs) s s' (walk_m I M l e a (r ∷ rs) s) (walk_m I M' l' e a (r ∷ rs) s')
            go false u z y ih = rw (z, walk_m) (record { next = stay st; calls_are = no_calls; left_is = refl; left_in = λ p i. i; at-is = refl })
            go true false z y ih = rw (z, y, walk_m) (record { next = first (ltb a r.from); calls_are = no_calls; left_is = refl; left_in = λ p i. i; at-is = refl })
            go true true z y ih =
                rw (z, y, walk_m)
                (let p = first (ltb a r.from) in
                let h₁ = W.loc-ext p.ext h in
                let (n, cal) = W.enter_law d l l' s₁ s₁' p.state h₁ in
                let w = ih (M.enter l s₁).1 (M'.enter l' s₁').1 (bs r here) (λ p i. bs p (there i)) (W.loc-ext n.ext h₁) n.state in
                record {
                  next = then p.ext (then n.ext w.next);
                  calls_are = a_call refl (W.cal_ext w.next.ext cal) w.calls_are;
                  left_is = w.left_is;
                  left_in = λ p i. there (w.left_in p i);
                  at-is = w.at-is;
                })

      -- ── The loop over the lines ──

      pub record Loops (s : S) (s' : S') (p : LoopedM C S) (p' : LoopedM C' S') : Type 0 where
        pub next : Next s s' p.state p'.state
        pub calls_are : Calls p.state p'.state (suc d) p.calls p'.calls

      loop-both : (r : R) (r' : R') (ns : List N) (w : C) (w' : C') (cs : List (Ref C)) (cs' : List (Ref C')) (rs : List Span) (at : ℕ) (s : S) (s' : S')
          → ((n : N) → n ∈ ns → n ∈ I.lines q) → ((p : Span) → p ∈ rs → G.Key p.to) → K.Fun s s' d q r r' → K.Cal s s' d w w' → Calls s s' d cs cs' → K.State s s'
          → Loops s s' (loop_m I M q r ns w cs rs at s) (loop_m I M' q r' ns w' cs' rs at s')
      unfolding loop_m
      loop-both r r' [] w w' cs cs' rs at s s' u bs f c k st = record { next = stay st; calls_are = no_calls }
      loop-both r r' (n ∷ ns) w w' cs cs' rs at s s' u bs f c k st = go (ltb (I.cut n) at) refl (loop-both r r' ns)
        where
          u' : (m : N) → m ∈ ns → m ∈ I.lines q
          u' m i = u m (there i)

          go : (t : Bool) → ltb (I.cut n) at ≡ t
              → ((w₁ : C) (w₁' : C') (cs₁ : List (Ref C)) (cs₁' : List (Ref C')) (rs₁ : List Span) (at₁ : ℕ) (s₁ : S) (s₁' : S')
              → ((m : N) → m ∈ ns → m ∈ I.lines q) → ((p : Span) → p ∈ rs₁ → G.Key p.to) → K.Fun s₁ s₁' d q r r' → K.Cal s₁ s₁' d w₁ w₁' → Calls s₁ s₁' d cs₁ cs₁' → K.State s₁ s₁'
              → Loops s₁ s₁' (loop_m I M q r ns w₁ cs₁ rs₁ at₁ s₁) (loop_m I M' q r' ns w₁' cs₁' rs₁ at₁ s₁'))
              → Loops s s' (loop_m I M q r (n ∷ ns) w cs rs at s) (loop_m I M' q r' (n ∷ ns) w' cs' rs at s')
          go true z ih = rw (z, loop_m) (ih w w' cs cs' rs at s s' u' bs f c k st)
          go false z ih =
              rw (z, loop_m)
              (let a = advance-both (I.span n).from w w' c k in
              let am = advance_m (I.span n).from w cs in
              let am' = advance_m (I.span n).from w' cs' in
              let l = M.locate q r n am.now s in
              let l' = M'.locate q r' n am'.now s' in
              let (x, loc) = W.locate_law d q r r' n am.now am'.now s s' ok (u n here) st f a.now in
              let o = walk-both l.0 l'.0 (I.span n).to (I.span n).from rs l.1 l'.1 (W.keys n).0 bs loc x.state in
              let om = walk_m I M l.0 (I.span n).to (I.span n).from rs l.1 in
              let om' = walk_m I M' l'.0 (I.span n).to (I.span n).from rs l'.1 in
              let e : K.Ext s s' om.state om'.state = W.ext_trans x.ext o.next.ext in
              let p₀ = ih am.now am'.now am.next am'.next om.left om.at om.state om'.state
              u' (λ p i. bs p (o.left_in p i)) (W.fun_ext e f) (W.cal_ext e a.now) (calls-ext e a.next) o.next.state in
              let pm = loop_m I M q r ns am.now am.next om.left om.at om.state in
              let p₁ : Loops om.state om'.state pm (loop_m I M' q r' ns am'.now am'.next om'.left om.at om'.state) =
              subst (λ (t : List Span). Loops om.state om'.state pm (loop_m I M' q r' ns am'.now am'.next t om.at om'.state)) o.left_is p₀ in
              let p : Loops om.state om'.state pm (loop_m I M' q r' ns am'.now am'.next om'.left om'.at om'.state) =
              subst (λ (t : ℕ). Loops om.state om'.state pm (loop_m I M' q r' ns am'.now am'.next om'.left t om'.state)) o.at-is p₁ in
              record { next = then e p.next; calls_are = calls-append (calls-ext p.next.ext o.calls_are) p.calls_are })

      -- ── A row ──

      pub row-both : (ss : List Span) {cs : List (Ref C)} {cs' : List (Ref C')} (s : S) (s' : S') → ((p : Span) → p ∈ ss → G.Key p.to) → Calls s s' d cs cs' → K.State s s'
          → Loops s s' (row_m I M q ss cs s) (row_m I M' q ss cs' s')
      unfolding row_m
      row-both ss s s' bs no_calls st = record { next = stay st; calls_are = no_calls }
      row-both ss s s' bs (a_call {c = c} {c' = c'} {cs = cs} {cs' = cs'} e j k) st = go (I.skipped q) refl
        where
          go : (t : Bool) → I.skipped q ≡ t → Loops s s' (row_m I M q ss (c ∷ cs) s) (row_m I M' q ss (c' ∷ cs') s')
          go true z = rw (z, row_m) (record { next = stay st; calls_are = no_calls })
          go false z =
              rw (z, row_m)
              (let b = M.begin q s in
              let b' = M'.begin q s' in
              let (x, f) = W.begin_law d q s s' ok z st in
              let o = loop-both b.0 b'.0 (I.lines q) c.ref c'.ref cs cs' (sort ss) 0 b.1 b'.1 (λ n i. i) (λ p i. bs p (sort-∈ ss i)) f (W.cal_ext x.ext j) (calls-ext x.ext k) x.state in
              let om = loop_m I M q b.0 (I.lines q) c.ref cs (sort ss) 0 b.1 in
              let om' = loop_m I M' q b'.0 (I.lines q) c'.ref cs' (sort ss) 0 b'.1 in
              let t = W.close_law d q b.0 b'.0 om.state om'.state ok z o.next.state (W.fun_ext o.next.ext f) in
              record { next = then x.ext (then o.next.ext t); calls_are = calls-ext t.ext o.calls_are })

    -- ── Rows, trees and lists ──

    kid-keys : (d : ℕ) (rs : List (Deep Q)) (p : Span) → p ∈ kid_spans_m I d rs → G.Key p.to
    unfolding kid_spans_m
    kid-keys d [] p i = elim i [ ]
    kid-keys d (r ∷ rs) p i = go (leb r.depth d) (eqb r.depth (suc d)) (λ j. kid-keys d rs p j) i
      where
        go : (t u : Bool) → (p ∈ kid_spans_m I d rs → G.Key p.to) → p ∈ cond t [] (cond u (map I.span (I.lines r.item) ++ kid_spans_m I d rs) (kid_spans_m I d rs)) → G.Key p.to
        go true u ih j = elim j [ ]
        go false true ih j = ⊎_elim (λ k. let (n, h, e) = map-∈ I.span (I.lines r.item) k in subst (λ (t : Span). G.Key t.to) (sym e) (W.keys n).1) ih (∈-append (map I.span (I.lines r.item)) j)
        go false false ih j = ih j

    set_both : (d : ℕ) {s : S} {s' : S'} (cs : List (Ref C)) (cs' : List (Ref C')) (ctx : ℕ → List (Ref C)) (ctx' : ℕ → List (Ref C')) → Calls s s' d cs cs' → ((j : ℕ) → Calls s s' j (ctx j) (ctx' j))
        → (j : ℕ) → Calls s s' j (set_at_m d cs ctx j) (set_at_m d cs' ctx' j)
    unfolding set_at_m
    set_both d {s} {s'} cs cs' ctx ctx' h k j = go (eqb j d) refl
      where
        go : (t : Bool) → eqb j d ≡ t → Calls s s' j (cond t cs (ctx j)) (cond t cs' (ctx' j))
        go true e = subst (λ (n : ℕ). Calls s s' n cs cs') (sym (eqb-true j d e)) h
        go false e = k j

    -- ANY ROWS, AT ANY DEPTHS
    pub convert-both : (rs : List (Deep Q)) (ctx : ℕ → List (Ref C)) (ctx' : ℕ → List (Ref C')) (s : S) (s' : S') → ((r : Deep Q) → r ∈ rs → G.Row r.depth r.item)
        → ((j : ℕ) → Calls s s' j (ctx j) (ctx' j)) → K.State s s' → Next s s' (convert_m I M rs ctx s) (convert_m I M' rs ctx' s')
    unfolding convert_m
    convert-both [] ctx ctx' s s' g k st = stay st
    convert-both (r ∷ rs) ctx ctx' s s' g k st =
        let ss = kid_spans_m I r.depth rs in
        let om = row_m I M r.item ss (ctx r.depth) s in
        let om' = row_m I M' r.item ss (ctx' r.depth) s' in
        let o = row-both r.depth r.item (g r here) ss s s' (kid-keys r.depth rs) (k r.depth) st in
        then o.next.ext
        (convert-both rs (set_at_m (suc r.depth) om.calls ctx) (set_at_m (suc r.depth) om'.calls ctx') om.state om'.state (λ p i. g p (there i))
        (set_both (suc r.depth) om.calls om'.calls ctx ctx' o.calls_are (λ j. calls-ext o.next.ext (k j))) o.next.state)

    start-both : (s : S) (s' : S') → K.State s s' → (j : ℕ) → Calls s s' j (start_m I M j) (start_m I M' j)
    unfolding start_m
    start-both s s' st zero = a_call refl (W.base_law s s' st) no_calls
    start-both s s' st (suc j) = no_calls

    pub op-both : (o : OpM Q Y) (s : S) (s' : S') → Allowed o → K.State s s' → Next s s' (convert_op_m I M o s) (convert_op_m I M' o s')
    unfolding convert_op_m convert_symbol_m
    op-both (tree_m q rs) s s' a st =
        convert-both (record { depth = 0; item = q } ∷ rs) (start_m I M) (start_m I M') s s' (∈-elim (λ (r : Deep Q). G.Row r.depth r.item) a.0 a.1) (start-both s s' st) st
    op-both (symbol_m y) s s' a st = go (I.sym_skipped y) refl
      where
        go : (t : Bool) → I.sym_skipped y ≡ t → Next s s' (convert_symbol_m I M y s) (convert_symbol_m I M' y s')
        go true z = rw (z, convert_symbol_m) (stay st)
        go false z = rw (z, convert_symbol_m) (W.symbol_law y s s' a z st)

    -- ANY LIST
    pub run-both : (os : List (OpM Q Y)) (s : S) (s' : S') → ((o : OpM Q Y) → o ∈ os → Allowed o) → K.State s s' → Next s s' (run_m I M os s) (run_m I M' os s')
    unfolding run_m
    run-both [] s s' a st = stay st
    run-both (o ∷ os) s s' a st = let n = op-both o s s' (a o here) st in then n.ext (run-both os (convert_op_m I M o s) (convert_op_m I M' o s') (λ p i. a p (there i)) n.state)

-- ── The same from laws of the single operations, where both machines find the same keys held, or one of them is `Free`: full, and so of no account ──

-- what a key holds in both: nothing, or locations that are both the empty mapping or both not
pub data Alike {L L' : Type 0} (f : L → Bool) (f' : L' → Bool) : Option L → Option L' → Type 0 where
  vacant : Alike f f' none none
  held : {l : L} {l' : L'} → f l ≡ f' l' → Alike f f' (some l) (some l')

module _ {Q N Y R R' P P' L L' C C' S S' : Type 0} (I : Input Q N Y) (M : Machine Q N Y R P L C S) (M' : Machine Q N Y R' P' L' C' S') (G : Limits Q Y) (K : Couple Q R R' L L' C C' S S') (Txt : S → S' → Y → P → P' → Type 0) (Free : S → S' → Type 0) where
  pub record Single : Type 0 where
    pub ext_refl : (s : S) (s' : S') → K.Ext s s' s s'
    pub ext_trans : {s t u : S} {s' t' u' : S'} → K.Ext s s' t t' → K.Ext t t' u u' → K.Ext s s' u u'
    pub loc-ext : {s t : S} {s' t' : S'} {d : ℕ} {l : L} {l' : L'} → K.Ext s s' t t' → K.Loc s s' d l l' → K.Loc t t' d l l'
    pub cal_ext : {s t : S} {s' t' : S'} {d : ℕ} {c : C} {c' : C'} → K.Ext s s' t t' → K.Cal s s' d c c' → K.Cal t t' d c c'
    pub fun_ext : {s t : S} {s' t' : S'} {d : ℕ} {q : Q} {r : R} {r' : R'} → K.Ext s s' t t' → K.Fun s s' d q r r' → K.Fun t t' d q r r'
    pub keys : (n : N) → G.Key (I.span n).from × G.Key (I.span n).to
    pub row-keys : (d : ℕ) (q : Q) → G.Row d q → I.skipped q ≡ false → G.Key (I.entry q) × G.Key (I.stop q)
    pub symbol-keys : (y : Y) → G.Symbol y → I.sym_skipped y ≡ false → G.Key (I.sym_addr y) × ((e : ℕ) → I.sym_end y ≡ some e → G.Key e)
    pub get_law : (k : ℕ) (s : S) (s' : S') → G.Key k → K.State s s' → Alike M.is_none M'.is_none (M.get s k) (M'.get s' k) ⊎ Free s s'
    pub mix_law : {s t : S} {s' t' : S'} → Free s s' → Next I M M' G K s s' t t' → Next I M M' G K s s' t s' × Next I M M' G K s s' s t'
    pub put_law : (d k : ℕ) (l : L) (l' : L') (s : S) (s' : S') → G.Key k → K.State s s' → K.Loc s s' d l l' → Next I M M' G K s s' (M.put k l s) (M'.put k l' s')
    pub none_law : (k : ℕ) (s : S) (s' : S') → G.Key k → K.State s s' → Next I M M' G K s s' (M.put k M.none_loc s) (M'.put k M'.none_loc s')
    pub begin_law : (d : ℕ) (q : Q) (s : S) (s' : S') → G.Row d q → I.skipped q ≡ false → K.State s s'
        → let t = M.begin q s in let t' = M'.begin q s' in Next I M M' G K s s' t.1 t'.1 × K.Fun t.1 t'.1 d q t.0 t'.0
    pub locate_law : (d : ℕ) (q : Q) (r : R) (r' : R') (n : N) (c : C) (c' : C') (s : S) (s' : S') → G.Row d q → n ∈ I.lines q → K.State s s' → K.Fun s s' d q r r' → K.Cal s s' d c c'
        → let t = M.locate q r n c s in let t' = M'.locate q r' n c' s' in Next I M M' G K s s' t.1 t'.1 × K.Loc t.1 t'.1 d t.0 t'.0
    pub enter_law : (d : ℕ) (l : L) (l' : L') (s : S) (s' : S') → K.State s s' → K.Loc s s' d l l'
        → let t = M.enter l s in let t' = M'.enter l' s' in Next I M M' G K s s' t.1 t'.1 × K.Cal t.1 t'.1 (suc d) t.0 t'.0
    pub base_law : (s : S) (s' : S') → K.State s s' → K.Cal s s' 0 M.base M'.base
    pub bare_law : (d : ℕ) (q : Q) (r : R) (r' : R') (s : S) (s' : S') → G.Row d q → K.State s s' → K.Fun s s' d q r r' → K.Loc s s' d (M.bare q r) (M'.bare q r')
    pub sym_begin_law : (y : Y) (s : S) (s' : S') → G.Symbol y → I.sym_skipped y ≡ false → K.State s s'
        → let t = M.sym_begin y s in let t' = M'.sym_begin y s' in Next I M M' G K s s' t.1 t'.1 × Txt t.1 t'.1 y t.0 t'.0
    pub sym_locate_law : (y : Y) (p : P) (p' : P') (s : S) (s' : S') → G.Symbol y → I.sym_skipped y ≡ false → K.State s s' → Txt s s' y p p'
        → let t = M.sym_locate y p s in let t' = M'.sym_locate y p' s' in Next I M M' G K s s' t.1 t'.1 × K.Loc t.1 t'.1 0 t.0 t'.0

  module _ (W : Single) where
    abbrev Nx : S → S' → S → S' → Type 0
    Nx = Next I M M' G K

    stays : {s : S} {s' : S'} → K.State s s' → Nx s s' s s'
    stays {s} {s'} h = record { ext = W.ext_refl s s'; state = h }

    and_then : {s t u : S} {s' t' u' : S'} → K.Ext s s' t t' → Nx t t' u u' → Nx s s' u u'
    and_then e h = record { ext = W.ext_trans e h.ext; state = h.state }

    end-both : (a : ℕ) (s : S) (s' : S') → G.Key a → K.State s s' → Nx s s' (put_end I M a s) (put_end I M' a s')
    unfolding put_end
    end-both a s s' k st = go (M.get s a) (M'.get s' a) refl refl (W.get_law a s s' k st)
      where
        n : Nx s s' (M.put a M.none_loc s) (M'.put a M'.none_loc s')
        n = W.none_law a s s' k st

        go : (o : Option L) (o' : Option L') → M.get s a ≡ o → M'.get s' a ≡ o' → Alike M.is_none M'.is_none o o' ⊎ Free s s' → Nx s s' (put_end I M a s) (put_end I M' a s')
        go none none e f z = rw (e, put_end, f, put_end) n
        go (some l) (some l') e f z = rw (e, put_end, f, put_end) (stays st)
        go none (some l') e f (inl z) = elim z [ ]
        go none (some l') e f (inr z) = rw (e, put_end, f, put_end) (W.mix_law z n).0
        go (some l) none e f (inl z) = elim z [ ]
        go (some l) none e f (inr z) = rw (e, put_end, f, put_end) (W.mix_law z n).1

    unless_both : (a : ℕ) {s t : S} {s' t' : S'} → G.Key a → Nx s s' t t' → K.State s s' → Nx s s' (unless_held I M a t s) (unless_held I M' a t' s')
    unfolding unless_held
    unless_both a {s} {t} {s'} {t'} k n st = go (M.get s a) (M'.get s' a) refl refl (W.get_law a s s' k st)
      where
        pick : (b b' : Bool) → b ≡ b' → Nx s s' (cond b t s) (cond b' t' s')
        pick true true e = n
        pick true false e = let bad : ◌≡◌ {A = ℕ} 0 1 = cc in absurd (omega arith)
        pick false true e = let bad : ◌≡◌ {A = ℕ} 0 1 = cc in absurd (omega arith)
        pick false false e = stays st

        free : Free s s' → (b b' : Bool) → Nx s s' (cond b t s) (cond b' t' s')
        free z true true = n
        free z true false = (W.mix_law z n).0
        free z false true = (W.mix_law z n).1
        free z false false = stays st

        go : (o : Option L) (o' : Option L') → M.get s a ≡ o → M'.get s' a ≡ o' → Alike M.is_none M'.is_none o o' ⊎ Free s s' → Nx s s' (unless_held I M a t s) (unless_held I M' a t' s')
        go none none e f z = rw (e, unless_held, f, unless_held) n
        go (some l) (some l') e f (inl (held h)) = rw (e, unless_held, f, unless_held) (pick (M.is_none l) (M'.is_none l') h)
        go (some l) (some l') e f (inr z) = rw (e, unless_held, f, unless_held) (free z (M.is_none l) (M'.is_none l'))
        go none (some l') e f (inl z) = elim z [ ]
        go none (some l') e f (inr z) = rw (e, unless_held, f, unless_held) (free z true (M'.is_none l'))
        go (some l) none e f (inl z) = elim z [ ]
        go (some l) none e f (inr z) = rw (e, unless_held, f, unless_held) (free z (M.is_none l) true)

    entry-both : (d : ℕ) (q : Q) (r : R) (r' : R') (s : S) (s' : S') → G.Row d q → I.skipped q ≡ false → K.State s s' → K.Fun s s' d q r r' → Nx s s' (entry_m I M q r s) (entry_m I M' q r' s')
    unfolding entry_m
    entry-both d q r r' s s' ok z st f = go (I.inline q) refl
      where
        go : (t : Bool) → I.inline q ≡ t → Nx s s' (entry_m I M q r s) (entry_m I M' q r' s')
        go true e = rw (e, entry_m) (stays st)
        go false e = rw (e, entry_m) (unless_both (I.entry q) (W.row-keys d q ok z).0 (W.put_law d (I.entry q) (M.bare q r) (M'.bare q r') s s' (W.row-keys d q ok z).0 st (W.bare_law d q r r' s s' ok st f)) st)

    close_both : (d : ℕ) (q : Q) (r : R) (r' : R') (s : S) (s' : S') → G.Row d q → I.skipped q ≡ false → K.State s s' → K.Fun s s' d q r r' → Nx s s' (closing_m I M q r s) (closing_m I M' q r' s')
    unfolding closing_m
    close_both d q r r' s s' ok z st f =
        let p = entry-both d q r r' s s' ok z st f in
        let k = (W.row-keys d q ok z).1 in
        and_then p.ext (end-both (I.stop q) _ _ k p.state)

    symbol-both : (y : Y) (s : S) (s' : S') → G.Symbol y → I.sym_skipped y ≡ false → K.State s s' → Nx s s' (named_symbol_m I M y s) (named_symbol_m I M' y s')
    unfolding named_symbol_m
    symbol-both y s s' ok z st =
        let (ka, ke) = W.symbol-keys y ok z in
        let (n₁, txt) = W.sym_begin_law y s s' ok z st in
        let (n₂, loc) = W.sym_locate_law y _ _ _ _ ok z n₁.state txt in
        let p = unless_both (I.sym_addr y) ka (and_then n₂.ext (W.put_law 0 (I.sym_addr y) _ _ _ _ ka n₂.state loc)) n₁.state in
        go (I.sym_end y) refl (and_then n₁.ext p)
      where
        b : P × S
        b = M.sym_begin y s

        b' : P' × S'
        b' = M'.sym_begin y s'

        t : S
        t = unless_held I M (I.sym_addr y) (M.put (I.sym_addr y) (M.sym_locate y b.0 b.1).0 (M.sym_locate y b.0 b.1).1) b.1

        t' : S'
        t' = unless_held I M' (I.sym_addr y) (M'.put (I.sym_addr y) (M'.sym_locate y b'.0 b'.1).0 (M'.sym_locate y b'.0 b'.1).1) b'.1

        go : (o : Option ℕ) → I.sym_end y ≡ o → Nx s s' t t' → Nx s s' (named_symbol_m I M y s) (named_symbol_m I M' y s')
        go none e h = rw (e, named_symbol_m) h
        go (some a) e h = rw (e, named_symbol_m) (and_then h.ext (end-both a t t' ((W.symbol-keys y ok z).1 a e) h.state))

    -- THE LAWS OF SINGLE OPERATIONS ARE ENOUGH
    pub single_preserves : Preserves I M M' G K
    single_preserves = record {
      ext_refl = W.ext_refl;
      ext_trans = W.ext_trans;
      loc-ext = W.loc-ext;
      cal_ext = W.cal_ext;
      fun_ext = W.fun_ext;
      keys = W.keys;
      put_law = W.put_law;
      begin_law = W.begin_law;
      locate_law = W.locate_law;
      enter_law = W.enter_law;
      base_law = W.base_law;
      close_law = close_both;
      symbol_law = symbol-both;
    }
