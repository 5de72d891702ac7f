-- DEMAND 3, OF THE PLAIN CONVERTER: for every list of accepted calls that meets document 01's premises, stated on the rows as they were given.
use mathlib.Core.Path.{◌≡◌, refl, sym, ap, ◌∙◌, subst}
use mathlib.Core.Option.{none, some}
use mathlib.Core.Logic.{inl, inr, ◌≢◌, ⊎_elim}
use mathlib.Core.List.{List, [], ◌∷◌, ◌++◌, map, reverse}
use Prim.Native.Nat.{ℕ, ◌+◌, ◌≤◌, ◌<◌}
use native.Mathlib.Omega.{arith}
use lib.ListN.{length}
use borrow.Author.Tests.{le-ltb}
use Rattle.model.specs.Basics.{◌∈◌, here, there, Span, Deep, Covers, items, depths, upto}
use Rattle.model.specs.Rows.{MAX, LineRow, FunctionRow, SymbolRow, Given, tree_rows, boundaries}
use Rattle.model.specs.Machine.{OpM}
use Rattle.model.specs.Converter.{input, deep, op, Setup, Location, Tables, nothing, range_at, plain, converted}
use Rattle.model.specs.Frames.{Frame, frames_of, frames_at}
use Rattle.model.specs.Premises.{reach, RowWell, WellNested, RootsClear, Separate, AllSeparate, nested_at, stack_of}
use Rattle.model.proofs.Ideal.{Op, Map, empty, run, Well, covering}
use Rattle.model.proofs.Maps.{Sees}
use Rattle.model.proofs.Spans.{∈-cases, ∈-left, ∈-right, ∈-append, ∈-map, map-∈, asc-from}
use Rattle.model.proofs.Means.{SoundOp, op_of_lem, deep_of}
use Rattle.model.proofs.Simulate.{machine_good, machine_holds, machine_sees, machine_stack, machine_plain}
use Rattle.model.proofs.Chains.{frames-found, best-is}
use Rattle.model.proofs.Keeps.{Any, Ordered, ordered-nothing, means, relates, plain_laws}
use Rattle.model.proofs.Derive.{stack-nested, sound-op, well-op, all-clear, first-deep, found-is, covers_is, root_line}

vacant : (k : ℕ) → range_at nothing.ranges k ≡ none
unfolding range_at
vacant k = refl

-- the calls as operations of the ideal converter, and its map after them
abbrev pub operations : Setup → List Given → List (Op Frame)
operations X gs = map (op_of_lem input (means X)) (map op gs)

abbrev pub ideal : Setup → List Given → Map Frame
ideal X gs = run (operations X gs) empty

-- ── The tables are as that map ──

module _ (X : Setup) (gs : List Given) (well : (g : Given) → g ∈ gs → WellNested g) where
  sounds : (o : OpM FunctionRow SymbolRow) → o ∈ map op gs → SoundOp input o
  sounds o i = let (g, j, e) = map-∈ op gs i in subst (SoundOp input) (sym e) (sound-op X g (well g j))

  good : Ordered Any (converted X gs)
  good = machine_good input (plain X) (means X) (relates X) (plain_laws X) (map op gs) nothing (ordered-nothing Any) vacant sounds

  -- a start holds the frames that the map has there
  pub start-frames : (k : ℕ) (l : Location) → range_at (converted X gs).ranges k ≡ some l → ideal X gs k ≡ some (frames_of (converted X gs) l)
  start-frames k l e =
      let (v, held, chain) = machine_holds input (plain X) (means X) (relates X) (plain_laws X) (map op gs) nothing (ordered-nothing Any) vacant sounds k l e in
      held ∙ ap some (sym (frames-found (converted X gs) good.calls_down l v chain))

  -- what the map sees is found
  pub seen-frames : (a x : ℕ) (v : List Frame) → x ≤ MAX → Sees (ideal X gs) a x v → frames_at (converted X gs) x ≡ v
  unfolding frames_at
  seen-frames a x v h q =
      let s : Tables = converted X gs in
      let (key, l, low, held, bare, chain) = machine_sees input (plain X) (means X) (relates X) (plain_laws X) (map op gs) nothing (ordered-nothing Any) vacant sounds a x v q in
      let (e, hit, at_key, at_value) = best-is s.ranges x key l low held bare in
      let seen : frames_at s x ≡ frames_of s e.value = rw (le-ltb MAX x h, frames_at, hit) in
      seen ∙ ap (frames_of s) at_value ∙ frames-found s good.calls_down l v chain

-- ── Demand 3 ──

module _ (X : Setup) (gs : List Given) (well : (g : Given) → g ∈ gs → WellNested g) (separate : AllSeparate gs) where
  wells : (o : OpM FunctionRow SymbolRow) → o ∈ map op gs → Well (op_of_lem input (means X) o)
  wells o i = let (g, j, e) = map-∈ op gs i in subst (λ (p : OpM FunctionRow SymbolRow). Well (op_of_lem input (means X) p)) (sym e) (well-op X g (well g j))

  module _ (q : FunctionRow) (rs : List FunctionRow) (i : tree_rows q rs ∈ gs) (x : ℕ) where
    -- at an address that a line of the root covers
    pub demand-root : (n : LineRow) → n ∈ q.lines → Covers (reach n) x
        → let found = nested_at X x (q ∷ rs) in (frames_at (converted X gs) x ≡ reverse (items found)) × (depths found ≡ upto 0 (length found))
    demand-root n j c =
        let w = well (tree_rows q rs) i in
        let cov : Covers (boundaries n) x = subst (λ (s : Span). Covers s x) (sym (covers_is X q w.rows.0 n j)) c in
        let clear = all-clear X gs well separate in
        let sees = machine_stack input (plain X) (means X) (relates X) (plain_laws X) (map op gs) nothing (ordered-nothing Any) vacant (sounds X gs well) wells clear q (map deep rs) (∈-map op i) n j x cov in
        let p = machine_plain input (plain X) (means X) (relates X) (plain_laws X) (map op gs) nothing (ordered-nothing Any) vacant (sounds X gs well) wells clear q (map deep rs) (∈-map op i) n j x cov in
        let found-eq : covering x (map (deep_of input (means X)) (record { depth = 0; item = q } ∷ map deep rs)) ≡ nested_at X x (q ∷ rs) =
        ap (λ (t : List (Deep FunctionRow)). covering x (map (deep_of input (means X)) t)) (first-deep X q rs w) ∙ found-is X x (q ∷ rs) w.rows in (
          seen-frames X gs well _ x _ (omega (arith, w.rows.0.inside n j, w.rows.0.low, c.1)) sees ∙ p.0 ∙ ap (λ (t : List (Deep Frame)). reverse (items t)) found-eq,
          subst (λ (t : List (Deep Frame)). depths t ≡ upto 0 (length t)) found-eq p.1,
        )

    -- and at one that a line of any row covers
    pub demand : let found = nested_at X x (q ∷ rs) in found ≢ [] → (frames_at (converted X gs) x ≡ reverse (items found)) × (depths found ≡ upto 0 (length found))
    demand h = let (n, j, c) = root_line X x q rs (well (tree_rows q rs) i) h in demand-root n j c

    -- the same frames, by recursion on the tree
    pub demand-stack : nested_at X x (q ∷ rs) ≢ [] → frames_at (converted X gs) x ≡ stack_of X x 0 (q ∷ rs)
    demand-stack h = (demand h).0 ∙ sym (stack-nested X x q rs (well (tree_rows q rs) i))

  -- ── No row of another tree covers that address ──

  separate-sym : (q p : FunctionRow) → RootsClear q p → RootsClear p q
  separate-sym q p (inl h) = inr h
  separate-sym q p (inr h) = inl h

  apart_from : (q : FunctionRow) (rs : List FunctionRow) (p : FunctionRow) (ps : List FunctionRow) (a b : List Given) → AllSeparate (a ++ (tree_rows q rs ∷ b)) → tree_rows p ps ∈ (a ++ b) → RootsClear q p
  apart_from q rs p ps [] b s i = s.0 (tree_rows p ps) i
  apart_from q rs p ps (g ∷ a) b s i =
      ⊎_elim
      (λ e. separate-sym p q (subst (λ (t : Given). Separate t (tree_rows q rs)) (sym e) (s.0 (tree_rows q rs) (∈-right a here))))
      (λ j. apart_from q rs p ps a b s.1 j)
      (∈-cases i)

  inside-root : (q : FunctionRow) (x : ℕ) (n : LineRow) → RowWell q → n ∈ q.lines → Covers (reach n) x → (q.address ≤ x) × (x < q.address + q.size)
  inside-root q x n w j c = (omega (arith, asc-from q.address w.ascending (∈-map reach j), c.0), omega (arith, w.inside n j, c.1))

  pub alone : (x : ℕ) (q : FunctionRow) (rs : List FunctionRow) (a b : List Given) → gs ≡ a ++ (tree_rows q rs ∷ b) → nested_at X x (q ∷ rs) ≢ []
      → (p : FunctionRow) (ps : List FunctionRow) → tree_rows p ps ∈ (a ++ b) → nested_at X x (p ∷ ps) ≡ []
  alone x q rs a b e h p ps i = go (nested_at X x (p ∷ ps)) refl
    where
      in_q : tree_rows q rs ∈ gs
      in_q = subst (λ (l : List Given). tree_rows q rs ∈ l) (sym e) (∈-right a here)

      in_p : tree_rows p ps ∈ gs
      in_p = subst (λ (l : List Given). tree_rows p ps ∈ l) (sym e) (⊎_elim (λ j. ∈-left (tree_rows q rs ∷ b) j) (λ j. ∈-right a (there j)) (∈-append a i))

      clash : nested_at X x (p ∷ ps) ≢ [] → ⊥
      clash k =
          let w = well (tree_rows q rs) in_q in
          let v = well (tree_rows p ps) in_p in
          let (n, j, c) = root_line X x q rs w h in
          let (m, j', c') = root_line X x p ps v k in
          let u = inside-root q x n w.rows.0 j c in
          let u' = inside-root p x m v.rows.0 j' c' in
          ⊎_elim (λ z. omega (arith, u, u')) (λ z. omega (arith, u, u')) (apart_from q rs p ps a b (subst AllSeparate e separate) i)

      go : (l : List (Deep Frame)) → nested_at X x (p ∷ ps) ≡ l → nested_at X x (p ∷ ps) ≡ []
      go [] z = z
      go (d ∷ l) z = absurd (clash (λ y. let bad : ◌≡◌ {A = ℕ} 0 1 = cc in omega arith))
