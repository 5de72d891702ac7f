-- A machine whose tables keep what they hold simulates the ideal converter.
use mathlib.Core.Path.{◌≡◌, refl, sym, ap, ◌∙◌, subst}
use mathlib.Core.Bool.{Bool, true, false, cond}
use mathlib.Core.Option.{Option, none, some}
use mathlib.Core.Logic.{◌⊎◌, inl, inr, ◌≢◌}
use mathlib.Core.List.{List, [], ◌∷◌, ◌++◌, map, reverse}
use Prim.Native.Nat.{ℕ, zero, suc, ◌≤◌, ◌<◌}
use native.Mathlib.Omega.{arith}
use lib.ListN.{length}
use lib.Dec.{ltb, eqb}
use borrow.Author.Tests.{le-leb, lt-leb}
use Rattle.slices.proofs.Cases.{lt-or_ge, eq-or-ne}
use Rattle.model.specs.Basics.{◌∈◌, here, there, Span, items, depths, upto, Covers, Deep, sort}
use Rattle.model.specs.Machine.{Input, Machine, OpM, tree_m, symbol_m, Ref, WalkedM, LoopedM, CursorM, advance_m, set_at_m, kid_spans_m, unless_held, put_end, walk_m, loop_m, entry_m, closing_m, row_m, convert_m, start_m, named_symbol_m, convert_symbol_m, convert_op_m, run_m}
use Rattle.model.proofs.Ideal.{Row, Map, insert, insert_soft, insert-end, Call, Walked, Looped, Cursor, walk, advance, loop, look, nil, row, empty, spans_of, convert-symbol, convert-op, run, preorder, covering, stack_at, Well, AllClear}
use Rattle.model.proofs.Maps.{insert-same, insert-other, Sees, look_down, sees_look}
use Rattle.model.proofs.Spans.{∈-elim, ∈-map, map-∈}
use Rattle.model.proofs.Stacks.{plain-tree}
use Rattle.model.proofs.Theorem.{run_sees}
use Rattle.model.proofs.Depths.{Steps, rows_are}
use Rattle.model.proofs.Flat.{Context, set_at, kid_spans, closing, flat_row, convert_flat, start, flat_tree}
use Rattle.model.proofs.Means.{Means, line_of_lem, row_of_lem, deep_of, inner, Sound, SoundTree, SoundOp, kids_of, op_of_lem}

-- What the tables hold. `Good s`: they are in order. `Ext s t`: t has all that s has. `Loc s l v`: in s the location l stands for
-- the frames v. `Cal s c v`: the reference c does. `Fun s q r`: r is what `begin` made of the row q. `Txt s y p`: p is what `sym_begin` made of y
pub record Relates (Q Y R P L C S F : Type 0) : Type 1 where
  pub Good : S → Type 0
  pub Ext : S → S → Type 0
  pub Loc : S → L → List F → Type 0
  pub Cal : S → C → List F → Type 0
  pub Fun : S → Q → R → Type 0
  pub Txt : S → Y → P → Type 0

-- What they must keep
pub record Laws {Q N Y R P L C S F : Type 0} (M : Machine Q N Y R P L C S) (T : Means Q N Y F) (K : Relates Q Y R P L C S F) : Type 0 where
  pub ext_refl : (s : S) → K.Ext s s
  pub ext_trans : {s t u : S} → K.Ext s t → K.Ext t u → K.Ext s u
  pub good-ext : {s t : S} → K.Ext s t → K.Good s → K.Good t
  pub loc-ext : {s t : S} {l : L} {v : List F} → K.Ext s t → K.Loc s l v → K.Loc t l v
  pub cal_ext : {s t : S} {c : C} {v : List F} → K.Ext s t → K.Cal s c v → K.Cal t c v
  pub fun_ext : {s t : S} {q : Q} {r : R} → K.Ext s t → K.Fun s q r → K.Fun t q r
  pub put_law : (k : ℕ) (l : L) (s : S) (v : List F) → K.Good s → K.Loc s l v
      → let t = M.put k l s in K.Ext s t × (M.get t k ≡ some l) × ((j : ℕ) → j ≢ k → M.get t j ≡ M.get s j)
  pub begin_law : (q : Q) (s : S) → K.Good s → let t = M.begin q s in K.Ext s t.1 × ((k : ℕ) → M.get t.1 k ≡ M.get s k) × K.Fun t.1 q t.0
  pub locate_law : (q : Q) (r : R) (n : N) (c : C) (s : S) (w : List F) → K.Good s → K.Fun s q r → K.Cal s c w
      → let t = M.locate q r n c s in K.Ext s t.1 × ((k : ℕ) → M.get t.1 k ≡ M.get s k) × K.Loc t.1 t.0 (T.frame q n ∷ w)
  pub enter_law : (l : L) (s : S) (f : F) (w : List F) → K.Good s → K.Loc s l (f ∷ w)
      → let t = M.enter l s in K.Ext s t.1 × ((k : ℕ) → M.get t.1 k ≡ M.get s k) × K.Cal t.1 t.0 (f ∷ w)
  pub bare_law : (q : Q) (r : R) (s : S) → K.Good s → K.Fun s q r → K.Loc s (M.bare q r) (T.bare-frame q ∷ [])
  pub none_law : (s : S) → K.Good s → K.Loc s M.none_loc []
  pub is-none-yes : (s : S) (l : L) → K.Good s → K.Loc s l [] → M.is_none l ≡ true
  pub is-none_no : (s : S) (l : L) (f : F) (w : List F) → K.Good s → K.Loc s l (f ∷ w) → M.is_none l ≡ false
  pub base_law : (s : S) → K.Good s → K.Cal s M.base []
  pub sym_begin_law : (y : Y) (s : S) → K.Good s → let t = M.sym_begin y s in K.Ext s t.1 × ((k : ℕ) → M.get t.1 k ≡ M.get s k) × K.Txt t.1 y t.0
  pub sym_locate_law : (y : Y) (p : P) (s : S) → K.Good s → K.Txt s y p
      → let t = M.sym_locate y p s in K.Ext s t.1 × ((k : ℕ) → M.get t.1 k ≡ M.get s k) × K.Loc t.1 t.0 (T.sym-frame y ∷ [])

module _ {Q N Y R P L C S F : Type 0} (I : Input Q N Y) (M : Machine Q N Y R P L C S) (T : Means Q N Y F) (K : Relates Q Y R P L C S F) (W : Laws M T K) where
  -- what a key holds in the machine, and ideally
  pub data Match (s : S) : Option L → Option (List F) → Type 0 where
    neither : Match s none none
    both : {l : L} {v : List F} → K.Loc s l v → Match s (some l) (some v)

  match_ext : {s t : S} {o : Option L} {p : Option (List F)} → K.Ext s t → Match s o p → Match t o p
  match_ext e neither = neither
  match_ext e (both h) = both (W.loc-ext e h)

  pub record Sim (s : S) (m : Map F) : Type 0 where
    pub good : K.Good s
    pub keys : (k : ℕ) → Match s (M.get s k) (m k)

  pub record Step (s t : S) (m : Map F) : Type 0 where
    pub ext : K.Ext s t
    pub sim : Sim t m

  stay : {s : S} {m : Map F} → Sim s m → Step s s m
  stay {s} sm = record { ext = W.ext_refl s; sim = sm }

  -- a step that leaves the ranges
  sim-same : {s t : S} {m : Map F} → K.Ext s t → ((k : ℕ) → M.get t k ≡ M.get s k) → Sim s m → Sim t m
  sim-same {s} {t} {m} e g h = record { good = W.good-ext e h.good; keys = λ k. subst (λ (o : Option L). Match t o (m k)) (sym (g k)) (match_ext e (h.keys k)) }

  sim_put : (k : ℕ) {s : S} {m : Map F} {l : L} {v : List F} → K.Loc s l v → Sim s m → Step s (M.put k l s) (insert k v m)
  sim_put k {s} {m} {l} {v} h sm = record { ext = p.0; sim = record { good = W.good-ext p.0 sm.good; keys = λ j. go j (eq-or-ne j k) } }
    where
      p : K.Ext s (M.put k l s) × (M.get (M.put k l s) k ≡ some l) × ((j : ℕ) → j ≢ k → M.get (M.put k l s) j ≡ M.get s j)
      p = W.put_law k l s v sm.good h

      go : (j : ℕ) → (j ≡ k) ⊎ (j ≢ k) → Match (M.put k l s) (M.get (M.put k l s) j) (insert k v m j)
      go j (inl e) = subst (λ (i : ℕ). Match (M.put k l s) (M.get (M.put k l s) i) (insert k v m i)) (sym e) (rw (p.1, insert-same k v m) (both (W.loc-ext p.0 h)))
      go j (inr n) = rw (p.2 j n, insert-other k v m j n) (match_ext p.0 (sm.keys j))

  step_trans : {s t u : S} {m : Map F} → K.Ext s t → Step t u m → Step s u m
  step_trans e h = record { ext = W.ext_trans e h.ext; sim = h.sim }

  sim_unless : (a : ℕ) (v : List F) {s t : S} {m : Map F} → Step s t (insert a v m) → Sim s m → Step s (unless_held I M a t s) (insert_soft a v m)
  unfolding unless_held insert_soft
  sim_unless a v {s} {t} {m} h sm = go (M.get s a) (m a) refl refl (sm.keys a)
    where
      go : (o : Option L) (p : Option (List F)) → M.get s a ≡ o → m a ≡ p → Match s o p → Step s (unless_held I M a t s) (insert_soft a v m)
      go none none e f neither = rw (e, unless_held, f, insert_soft) h
      go none (some _) e f x = elim x [ ]
      go (some l) none e f x = elim x [ ]
      go (some l) (some []) e f (both q) = rw (e, unless_held, f, insert_soft, W.is-none-yes s l sm.good q) h
      go (some l) (some (x ∷ w)) e f (both q) = rw (e, unless_held, f, insert_soft, W.is-none_no s l x w sm.good q) (stay sm)

  sim-end : (a : ℕ) {s : S} {m : Map F} → Sim s m → Step s (put_end I M a s) (insert-end a m)
  unfolding put_end insert-end
  sim-end a {s} {m} sm = go (M.get s a) (m a) refl refl (sm.keys a)
    where
      go : (o : Option L) (p : Option (List F)) → M.get s a ≡ o → m a ≡ p → Match s o p → Step s (put_end I M a s) (insert-end a m)
      go none none e f neither = rw (e, put_end, f, insert-end) (sim_put a (W.none_law s sm.good) sm)
      go none (some _) e f x = elim x [ ]
      go (some l) none e f x = elim x [ ]
      go (some l) (some v) e f (both q) = rw (e, put_end, f, insert-end) (stay sm)

  -- ── Call locations ──

  abbrev pub CallsSim : S → List (Ref C) → List (Call F) → Type 0
  CallsSim s [] [] = Unit {0}
  CallsSim s [] (d ∷ ds) = ⊥
  CallsSim s (c ∷ cs) [] = ⊥
  CallsSim s (c ∷ cs) (d ∷ ds) = (c.addr ≡ d.addr) × K.Cal s c.ref d.stack × CallsSim s cs ds

  calls-ext : {s t : S} (cs : List (Ref C)) (ds : List (Call F)) → K.Ext s t → CallsSim s cs ds → CallsSim t cs ds
  calls-ext [] [] e h = tt
  calls-ext [] (d ∷ ds) e h = h
  calls-ext (c ∷ cs) [] e h = h
  calls-ext (c ∷ cs) (d ∷ ds) e h = (h.0, W.cal_ext e h.1, calls-ext cs ds e h.2)

  calls-append : (s : S) (cs : List (Ref C)) (ds : List (Call F)) (cs' : List (Ref C)) (ds' : List (Call F)) → CallsSim s cs ds → CallsSim s cs' ds' → CallsSim s (cs ++ cs') (ds ++ ds')
  calls-append s [] [] cs' ds' h k = k
  calls-append s [] (d ∷ ds) cs' ds' h k = absurd h
  calls-append s (c ∷ cs) [] cs' ds' h k = absurd h
  calls-append s (c ∷ cs) (d ∷ ds) cs' ds' h k = (h.0, h.1, calls-append s cs ds cs' ds' h.2 k)

  record CursorSim (s : S) (p : CursorM C) (q : Cursor F) : Type 0 where
    now-sim : K.Cal s p.now q.now
    next-sim : CallsSim s p.next q.next

  advance-sim : (a : ℕ) (s : S) (w : C) (v : List F) (cs : List (Ref C)) (ds : List (Call F)) → K.Cal s w v → CallsSim s cs ds → CursorSim s (advance_m a w cs) (advance a v ds)
  unfolding advance_m advance
  advance-sim a s w v [] [] h k = record { now-sim = h; next-sim = tt }
  advance-sim a s w v [] (d ∷ ds) h k = absurd k
  advance-sim a s w v (c ∷ cs) [] h k = absurd k
  advance-sim a s w v (c ∷ cs) (d ∷ ds) h k = go (lt-or_ge a d.addr) (advance-sim a s c.ref d.stack cs ds k.1 k.2)
    where
      go : (a < d.addr) ⊎ (d.addr ≤ a) → CursorSim s (advance_m a c.ref cs) (advance a d.stack ds) → CursorSim s (advance_m a w (c ∷ cs)) (advance a v (d ∷ ds))
      go (inl g) ih = rw (lt-leb c.addr a (omega (arith, k.0)), advance_m, lt-leb d.addr a g, advance) (record { now-sim = h; next-sim = k })
      go (inr g) ih = rw (le-leb c.addr a (omega (arith, k.0)), advance_m, le-leb d.addr a g, advance) ih

  -- ── The walk ──

  record WalkSim (s : S) (p : WalkedM C S) (q : Walked F) : Type 0 where
    ext : K.Ext s p.state
    sim : Sim p.state q.map
    calls-sim : CallsSim p.state p.calls q.calls
    left_is : p.left ≡ q.left
    at-is : p.at ≡ q.at

  module _ (l : L) (f : F) (fs : List F) (e : ℕ) where
    abbrev v : List F
    v = f ∷ fs

    walk-sim : (a : ℕ) (rs : List Span) (s : S) (m : Map F) → K.Loc s l v → Sim s m → WalkSim s (walk_m I M l e a rs s) (walk v e a rs m)
    unfolding walk_m walk
    walk-sim a [] s m h sm = go (ltb a e) refl
      where
        go : (t : Bool) → ltb a e ≡ t → WalkSim s (walk_m I M l e a [] s) (walk v e a [] m)
        go true z = rw (z, walk_m, walk) (let p = sim_put a h sm in record { ext = p.ext; sim = p.sim; calls-sim = tt; left_is = refl; at-is = refl })
        go false z = rw (z, walk_m, walk) (record { ext = W.ext_refl s; sim = sm; calls-sim = tt; left_is = refl; at-is = refl })
    walk-sim a (r ∷ rs) s m h sm = go (ltb a e) (ltb r.from e) refl refl (walk-sim r.to rs)
      where
        s₁ : S
        s₁ = cond (ltb a r.from) (M.put a l s) s

        m₁ : Map F
        m₁ = cond (ltb a r.from) (insert a v m) m

        first : (t : Bool) → Step s (cond t (M.put a l s) s) (cond t (insert a v m) m)
        first true = sim_put a h sm
        first false = stay sm

        go : (t u : Bool) → ltb a e ≡ t → ltb r.from e ≡ u → ((s' : S) (m' : Map F) → K.Loc s' l v → Sim s' m' → WalkSim s' (walk_m I M l e r.to rs s') (walk v e r.to rs m'))
            → WalkSim s (walk_m I M l e a (r ∷ rs) s) (walk v e a (r ∷ rs) m)
        go false u z y ih = rw (z, walk_m, walk) (record { ext = W.ext_refl s; sim = sm; calls-sim = tt; left_is = refl; at-is = refl })
        go true false z y ih = rw (z, y, walk_m, walk) (let p = first (ltb a r.from) in record { ext = p.ext; sim = p.sim; calls-sim = tt; left_is = refl; at-is = refl })
        go true true z y ih =
            rw (z, y, walk_m, walk)
            (let p = first (ltb a r.from) in
            let (x₁, same, cal) = W.enter_law l s₁ f fs p.sim.good (W.loc-ext p.ext h) in
            let w = ih (M.enter l s₁).1 m₁ (W.loc-ext x₁ (W.loc-ext p.ext h)) (sim-same x₁ same p.sim) in
            record {
              ext = W.ext_trans p.ext (W.ext_trans x₁ w.ext);
              sim = w.sim;
              calls-sim = (refl, W.cal_ext w.ext cal, w.calls-sim);
              left_is = w.left_is;
              at-is = w.at-is;
            })

  -- ── The loop ──

  record LoopSim (s : S) (p : LoopedM C S) (q : Looped F) : Type 0 where
    ext : K.Ext s p.state
    sim : Sim p.state q.map
    calls-sim : CallsSim p.state p.calls q.calls

  loop-sim : (q : Q) (r : R) (ns : List N) (w : C) (v : List F) (cs : List (Ref C)) (ds : List (Call F)) (rs : List Span) (at : ℕ) (s : S) (m : Map F)
      → K.Fun s q r → K.Cal s w v → CallsSim s cs ds → Sim s m → ((n : N) → n ∈ ns → I.cut n ≡ (I.span n).from)
      → LoopSim s (loop_m I M q r ns w cs rs at s) (loop (map (line_of_lem I T q) ns) v ds rs at m)
  unfolding loop_m loop
  loop-sim q r [] w v cs ds rs at s m f c k sm u = record { ext = W.ext_refl s; sim = sm; calls-sim = tt }
  loop-sim q r (n ∷ ns) w v cs ds rs at s m f c k sm u = go (ltb (I.span n).from at) refl (loop-sim q r ns)
    where
      ns_uncut : (n' : N) → n' ∈ ns → I.cut n' ≡ (I.span n').from
      ns_uncut n' i = u n' (there i)

      go : (t : Bool) → ltb (I.span n).from at ≡ t
          → ((w' : C) (v' : List F) (cs' : List (Ref C)) (ds' : List (Call F)) (rs' : List Span) (at' : ℕ) (s' : S) (m' : Map F)
          → K.Fun s' q r → K.Cal s' w' v' → CallsSim s' cs' ds' → Sim s' m' → ((n' : N) → n' ∈ ns → I.cut n' ≡ (I.span n').from)
          → LoopSim s' (loop_m I M q r ns w' cs' rs' at' s') (loop (map (line_of_lem I T q) ns) v' ds' rs' at' m'))
          → LoopSim s (loop_m I M q r (n ∷ ns) w cs rs at s) (loop (map (line_of_lem I T q) (n ∷ ns)) v ds rs at m)
      go true z ih = rw (ap (λ (a : ℕ). ltb a at) (u n here) ∙ z, loop_m, z, loop) (ih w v cs ds rs at s m f c k sm ns_uncut)
      go false z ih =
          rw (ap (λ (a : ℕ). ltb a at) (u n here) ∙ z, loop_m, z, loop)
          (let a = advance-sim (I.span n).from s w v cs ds c k in
          let am = advance_m (I.span n).from w cs in
          let ai = advance (I.span n).from v ds in
          let l = M.locate q r n am.now s in
          let (x₁, same, loc) = W.locate_law q r n am.now s ai.now sm.good f a.now-sim in
          let o = walk-sim l.0 (T.frame q n) ai.now (I.span n).to (I.span n).from rs l.1 m loc (sim-same x₁ same sm) in
          let om = walk_m I M l.0 (I.span n).to (I.span n).from rs l.1 in
          let oi = walk (T.frame q n ∷ ai.now) (I.span n).to (I.span n).from rs m in
          let x₂ : K.Ext s om.state = W.ext_trans x₁ o.ext in
          let p₀ = ih am.now ai.now am.next ai.next om.left om.at om.state oi.map
          (W.fun_ext x₂ f) (W.cal_ext x₂ a.now-sim) (calls-ext am.next ai.next x₂ a.next-sim) o.sim ns_uncut in
          let pm = loop_m I M q r ns am.now am.next om.left om.at om.state in
          let p₁ : LoopSim om.state pm (loop (map (line_of_lem I T q) ns) ai.now ai.next oi.left om.at oi.map) =
          subst (λ (t : List Span). LoopSim om.state pm (loop (map (line_of_lem I T q) ns) ai.now ai.next t om.at oi.map)) o.left_is p₀ in
          let p : LoopSim om.state pm (loop (map (line_of_lem I T q) ns) ai.now ai.next oi.left oi.at oi.map) =
          subst (λ (t : ℕ). LoopSim om.state pm (loop (map (line_of_lem I T q) ns) ai.now ai.next oi.left t oi.map)) o.at-is p₁ in
          record {
            ext = W.ext_trans x₂ p.ext;
            sim = p.sim;
            calls-sim = calls-append pm.state om.calls oi.calls pm.calls _ (calls-ext om.calls oi.calls p.ext o.calls-sim) p.calls-sim;
          })

  -- ── Rows ──

  entry-sim : (d : ℕ) (q : Q) (r : R) (s : S) (m : Map F) → I.inline q ≡ inner d → K.Fun s q r → Sim s m
      → Step s (put_end I M (I.stop q) (entry_m I M q r s)) (closing d (row_of_lem I T q) m)
  unfolding entry_m closing
  entry-sim zero q r s m e f sm =
      rw (e, entry_m)
      (let p = sim_unless (I.entry q) (T.bare-frame q ∷ []) (sim_put (I.entry q) (W.bare_law q r s sm.good f) sm) sm in
      step_trans p.ext (sim-end (I.stop q) p.sim))
  entry-sim (suc d) q r s m e f sm = rw (e, entry_m) (sim-end (I.stop q) sm)

  closing-sim : (d : ℕ) (q : Q) (r : R) (s : S) (m : Map F) → I.inline q ≡ inner d → K.Fun s q r → Sim s m → Step s (closing_m I M q r s) (closing d (row_of_lem I T q) m)
  unfolding closing_m
  closing-sim d q r s m e f sm = entry-sim d q r s m e f sm

  row-sim : (d : ℕ) (q : Q) (ss : List Span) (cs : List (Ref C)) (ds : List (Call F)) (s : S) (m : Map F) → Sound I d q → CallsSim s cs ds → Sim s m
      → LoopSim s (row_m I M q ss cs s) (flat_row d (row_of_lem I T q) ss ds m)
  unfolding row_m flat_row
  row-sim d q ss [] [] s m g k sm = record { ext = W.ext_refl s; sim = sm; calls-sim = tt }
  row-sim d q ss [] (e ∷ ds) s m g k sm = absurd k
  row-sim d q ss (c ∷ cs) [] s m g k sm = absurd k
  row-sim d q ss (c ∷ cs) (e ∷ ds) s m g k sm =
      rw (g.kept, row_m)
      (let b = M.begin q s in
      let (x₁, same, f) = W.begin_law q s sm.good in
      let o = loop-sim q b.0 (I.lines q) c.ref e.stack cs ds (sort ss) 0 b.1 m f (W.cal_ext x₁ k.1) (calls-ext cs ds x₁ k.2) (sim-same x₁ same sm) g.uncut in
      let om = loop_m I M q b.0 (I.lines q) c.ref cs (sort ss) 0 b.1 in
      let oi = loop (map (line_of_lem I T q) (I.lines q)) e.stack ds (sort ss) 0 m in
      let t = closing-sim d q b.0 om.state oi.map g.flag (W.fun_ext o.ext f) o.sim in
      record { ext = W.ext_trans x₁ (W.ext_trans o.ext t.ext); sim = t.sim; calls-sim = calls-ext om.calls oi.calls t.ext o.calls-sim })

  map-spans : (q : Q) (ns : List N) → map I.span ns ≡ spans_of (map (line_of_lem I T q) ns)
  map-spans q [] = refl
  map-spans q (n ∷ ns) = ap (λ (t : List Span). I.span n ∷ t) (map-spans q ns)

  kids-same : (d : ℕ) (rs : List (Deep Q)) → kid_spans_m I d rs ≡ kid_spans d (map (deep_of I T) rs)
  unfolding kid_spans_m kid_spans
  kids-same d [] = refl
  kids-same d (r ∷ rs) = rw (map-spans r.item (I.lines r.item), kids-same d rs)

  set-sim : (d : ℕ) (s : S) (cs : List (Ref C)) (ds : List (Call F)) (ctx : ℕ → List (Ref C)) (ctx' : Context F) → CallsSim s cs ds → ((j : ℕ) → CallsSim s (ctx j) (ctx' j))
      → (j : ℕ) → CallsSim s (set_at_m d cs ctx j) (set_at d ds ctx' j)
  unfolding set_at_m set_at
  set-sim d s cs ds ctx ctx' h k j = go (eqb j d)
    where
      go : (t : Bool) → CallsSim s (cond t cs (ctx j)) (cond t ds (ctx' j))
      go true = h
      go false = k j

  convert-sim : (rs : List (Deep Q)) (ctx : ℕ → List (Ref C)) (ctx' : Context F) (s : S) (m : Map F) → ((r : Deep Q) → r ∈ rs → Sound I r.depth r.item)
      → ((j : ℕ) → CallsSim s (ctx j) (ctx' j)) → Sim s m → Step s (convert_m I M rs ctx s) (convert_flat (map (deep_of I T) rs) ctx' m)
  unfolding convert_m convert_flat
  convert-sim [] ctx ctx' s m g k sm = record { ext = W.ext_refl s; sim = sm }
  convert-sim (r ∷ rs) ctx ctx' s m g k sm =
      let ss = kid_spans_m I r.depth rs in
      let om = row_m I M r.item ss (ctx r.depth) s in
      let oi = flat_row r.depth (row_of_lem I T r.item) (kid_spans r.depth (map (deep_of I T) rs)) (ctx' r.depth) m in
      let o : LoopSim s om oi =
      subst (λ (t : List Span). LoopSim s om (flat_row r.depth (row_of_lem I T r.item) t (ctx' r.depth) m)) (kids-same r.depth rs)
      (row-sim r.depth r.item ss (ctx r.depth) (ctx' r.depth) s m (g r here) (k r.depth) sm) in
      step_trans o.ext
      (convert-sim rs (set_at_m (suc r.depth) om.calls ctx) (set_at (suc r.depth) oi.calls ctx') om.state oi.map (λ q i. g q (there i))
      (set-sim (suc r.depth) om.state om.calls oi.calls ctx ctx' o.calls-sim (λ j. calls-ext (ctx j) (ctx' j) o.ext (k j))) o.sim)

  -- ── Trees and symbols ──

  steps_of : (d : ℕ) (rs : List (Deep Q)) → Steps d rs → Steps d (map (deep_of I T) rs)
  steps_of d [] h = tt
  steps_of d (r ∷ rs) h = (h.0, steps_of (suc r.depth) rs h.1)

  deeper_of : (rs : List (Deep Q)) → ((r : Deep Q) → r ∈ rs → 1 ≤ r.depth) → (r : Deep (Row F)) → r ∈ map (deep_of I T) rs → 1 ≤ r.depth
  deeper_of rs h r i = let (q, j, e) = map-∈ (deep_of I T) rs i in subst (λ (t : Deep (Row F)). 1 ≤ t.depth) (sym e) (h q j)

  start-sim : (s : S) → K.Good s → (j : ℕ) → CallsSim s (start_m I M j) (start j)
  unfolding start_m start
  start-sim s g zero = (refl, W.base_law s g, tt)
  start-sim s g (suc j) = tt

  tree-sim : (q : Q) (rs : List (Deep Q)) (s : S) (m : Map F) → SoundTree I q rs → Sim s m → Step s (convert_op_m I M (tree_m q rs) s) (convert-op (op_of_lem I T (tree_m q rs)) m)
  unfolding convert_op_m convert-op
  tree-sim q rs s m g sm =
      let root : Deep Q = record { depth = 0; item = q } in
      let sound : (r : Deep Q) → r ∈ (root ∷ rs) → Sound I r.depth r.item = ∈-elim (λ (r : Deep Q). Sound I r.depth r.item) g.root g.rows in
      subst (Step s (convert_m I M (root ∷ rs) (start_m I M) s))
      (ap (λ (t : List (Deep (Row F))). convert_flat t start m) (sym (rows_are (map (deep_of I T) rs) (steps_of 1 rs g.steps) (deeper_of rs g.deeper) (row_of_lem I T q))) ∙ flat_tree (row_of_lem I T q) (kids_of I T rs) m)
      (convert-sim (root ∷ rs) (start_m I M) start s m sound (start-sim s sm.good) sm)

  named-sim : (y : Y) (s : S) (m : Map F) → Sim s m → Step s (named_symbol_m I M y s) (convert-symbol (I.sym_addr y) (I.sym_end y) (T.sym-frame y) m)
  unfolding named_symbol_m convert-symbol
  named-sim y s m sm =
      let b = M.sym_begin y s in
      let (x₁, same₁, txt) = W.sym_begin_law y s sm.good in
      let sm₁ = sim-same x₁ same₁ sm in
      let (x₂, same₂, loc) = W.sym_locate_law y b.0 b.1 sm₁.good txt in
      let a = I.sym_addr y in
      let p = sim_unless a (T.sym-frame y ∷ []) (step_trans x₂ (sim_put a loc (sim-same x₂ same₂ sm₁))) sm₁ in
      step_trans x₁ (go p (I.sym_end y) refl)
    where
      b : P × S
      b = M.sym_begin y s

      t : S
      t = unless_held I M (I.sym_addr y) (M.put (I.sym_addr y) (M.sym_locate y b.0 b.1).0 (M.sym_locate y b.0 b.1).1) b.1

      go : Step b.1 t (insert_soft (I.sym_addr y) (T.sym-frame y ∷ []) m) → (o : Option ℕ) → I.sym_end y ≡ o
          → Step b.1 (named_symbol_m I M y s) (convert-symbol (I.sym_addr y) (I.sym_end y) (T.sym-frame y) m)
      go p none e = rw (e, named_symbol_m, convert-symbol) p
      go p (some a) e = rw (e, named_symbol_m, convert-symbol) (step_trans p.ext (sim-end a p.sim))

  symbol-sim : (y : Y) (s : S) (m : Map F) → Sim s m → Step s (convert_op_m I M (symbol_m y) s) (convert-op (op_of_lem I T (symbol_m y)) m)
  unfolding convert_op_m convert-op convert_symbol_m
  symbol-sim y s m sm = go (I.sym_skipped y) refl
    where
      go : (t : Bool) → I.sym_skipped y ≡ t → Step s (convert_symbol_m I M y s) (convert-op (op_of_lem I T (symbol_m y)) m)
      go true e = rw (e, convert_symbol_m) (stay sm)
      go false e = rw (e, convert_symbol_m) (named-sim y s m sm)

  op-sim : (o : OpM Q Y) (s : S) (m : Map F) → SoundOp I o → Sim s m → Step s (convert_op_m I M o s) (convert-op (op_of_lem I T o) m)
  op-sim (tree_m q rs) s m g sm = tree-sim q rs s m g sm
  op-sim (symbol_m y) s m g sm = symbol-sim y s m sm

  pub run_sim : (os : List (OpM Q Y)) (s : S) (m : Map F) → ((o : OpM Q Y) → o ∈ os → SoundOp I o) → Sim s m → Step s (run_m I M os s) (run (map (op_of_lem I T) os) m)
  unfolding run_m run
  run_sim [] s m g sm = record { ext = W.ext_refl s; sim = sm }
  run_sim (o ∷ os) s m g sm = let p = op-sim o s m (g o here) sm in step_trans p.ext (run_sim os _ _ (λ q i. g q (there i)) p.sim)

  match_some : (s : S) (l : L) (o : Option L) (p : Option (List F)) → o ≡ some l → Match s o p → (v : List F) × (p ≡ some v) × K.Loc s l v
  match_some s l none (some _) e x = elim x [ ]
  match_some s l (some k) none e x = elim x [ ]
  match_some s l none none e neither = let z : ◌≡◌ {A = ℕ} 0 1 = cc in absurd (omega arith)
  match_some s l (some k) (some v) e (both h) = (v, refl, subst (λ (t : L). K.Loc s t v) (cc) h)

  match_none : (s : S) (o : Option L) (p : Option (List F)) → o ≡ none → Match s o p → p ≡ none
  match_none s none none e neither = refl
  match_none s none (some _) e x = elim x [ ]
  match_none s (some k) none e x = elim x [ ]
  match_none s (some k) (some v) e (both h) = cc

  match_here : (s : S) (v : List F) (o : Option L) (p : Option (List F)) → p ≡ some v → Match s o p → (l : L) × (o ≡ some l)
  match_here s v none (some _) e x = elim x [ ]
  match_here s v (some k) none e x = elim x [ ]
  match_here s v none none e neither = let z : ◌≡◌ {A = ℕ} 0 1 = cc in absurd (omega arith)
  match_here s v (some k) (some w) e (both h) = (k, refl)

  match_gone : (s : S) (o : Option L) (p : Option (List F)) → p ≡ none → Match s o p → o ≡ none
  match_gone s none none e neither = refl
  match_gone s none (some _) e x = elim x [ ]
  match_gone s (some k) none e x = elim x [ ]
  match_gone s (some k) (some v) e (both h) = cc

  -- ── After a list ──

  module _ (os : List (OpM Q Y)) (s₀ : S) (good : K.Good s₀) (vacant : (k : ℕ) → M.get s₀ k ≡ none) (sound : (o : OpM Q Y) → o ∈ os → SoundOp I o) where
    abbrev s : S
    s = run_m I M os s₀

    -- the ideal converter's map
    abbrev pub mapped : Map F
    mapped = run (map (op_of_lem I T) os) empty

    done : Sim s mapped
    done = (run_sim os s₀ empty sound (record { good = good; keys = λ k. rw (vacant k) neither })).sim

    pub machine_good : K.Good s
    machine_good = done.good

    -- a location at a start stands for the frames that the map has there
    pub machine_holds : (k : ℕ) (l : L) → M.get s k ≡ some l → (v : List F) × (mapped k ≡ some v) × K.Loc s l v
    machine_holds k l e = match_some s l (M.get s k) (mapped k) e (done.keys k)

    -- and what the map sees at x, the location at the greatest start that is at most x stands for
    pub machine_sees : (a x : ℕ) (v : List F) → Sees mapped a x v
        → (key : ℕ) × (l : L) × (key ≤ x) × (M.get s key ≡ some l) × ((k : ℕ) → key < k → k ≤ x → M.get s k ≡ none) × K.Loc s l v
    machine_sees a x v q =
        let (l, e) = match_here s v (M.get s q.key) (mapped q.key) q.held (done.keys q.key) in
        let (w, z, loc) = machine_holds q.key l e in
        let same : some w ≡ some v = sym z ∙ q.held in
        (q.key, l, q.high, e, λ k g y. match_gone s (M.get s k) (mapped k) (q.bare k g y) (done.keys k), subst (K.Loc s l) (cc) loc)

    -- ── The demand, of a machine ──

    module _ (well : (o : OpM Q Y) → o ∈ os → Well (op_of_lem I T o)) (clear : AllClear (map (op_of_lem I T) os))
        (q : Q) (rs : List (Deep Q)) (i : tree_m q rs ∈ os) (n : N) (j : n ∈ I.lines q) (x : ℕ) (cov : Covers (I.span n) x)
      where
        abbrev pub stack : List F
        stack = stack_at (row (row_of_lem I T q) (kids_of I T rs) nil) x

        -- the map sees the tree's stack
        pub machine_stack : Sees mapped (I.span n).from x stack
        machine_stack =
            run_sees (row_of_lem I T q) (kids_of I T rs) (line_of_lem I T q n) (∈-map (line_of_lem I T q) j) x cov (map (op_of_lem I T) os) empty
            (λ o k. let (p, y, e) = map-∈ (op_of_lem I T) os k in subst Well (sym e) (well p y)) clear (∈-map (op_of_lem I T) i) (λ k g y. refl)

        -- so the location at the greatest start that is at most x stands for that stack
        pub machine_demand : (key : ℕ) (l : L) → key ≤ x → M.get s key ≡ some l → ((k : ℕ) → key < k → k ≤ x → M.get s k ≡ none) → K.Loc s l stack
        machine_demand key l h e b =
            let (v, z, loc) = machine_holds key l e in
            let seen : look mapped x ≡ v = look_down mapped key v z x h (λ k g y. match_none s (M.get s k) (mapped k) (b k g y) (done.keys k)) in
            subst (K.Loc s l) (sym seen ∙ sees_look machine_stack) loc

        -- and there is one
        pub machine_finds : (key : ℕ) × (l : L) × (key ≤ x) × (M.get s key ≡ some l) × ((k : ℕ) → key < k → k ≤ x → M.get s k ≡ none)
        machine_finds = let (key, l, h, e, b, loc) = machine_sees (I.span n).from x stack machine_stack in (key, l, h, e, b)

        -- the stack, said plainly of the rows as they came
        abbrev pub found : List (Deep F)
        found = covering x (map (deep_of I T) (record { depth = 0; item = q } ∷ rs))

        pub machine_plain : (stack ≡ reverse (items found)) × (depths found ≡ upto 0 (length found))
        machine_plain =
            let g = sound (tree_m q rs) i in
            let p = plain-tree x (row_of_lem I T q) (kids_of I T rs) (well (tree_m q rs) i) (line_of_lem I T q n) (∈-map (line_of_lem I T q) j) cov in
            let e : preorder 0 (row (row_of_lem I T q) (kids_of I T rs) nil) ≡ map (deep_of I T) (record { depth = 0; item = q } ∷ rs) =
            rows_are (map (deep_of I T) rs) (steps_of 1 rs g.steps) (deeper_of rs g.deeper) (row_of_lem I T q) in
            subst (λ (t : List (Deep (Row F))). (stack ≡ reverse (items (covering x t))) × (depths (covering x t) ≡ upto 0 (length (covering x t)))) e (p.stack_is, p.depths_are)
