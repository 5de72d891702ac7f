-- SYMBOLS AND GAPS, of the plain converter (K13): for every list whose trees are well nested and whose symbols are well, at every address (`symbols_and_gaps`). Every start that holds frames lies in a counted
-- extent (`frames_in_extents`) and the end of each is a start (`ends_are_starts`): so there are none outside. In a symbol's extent its start holds its frame, and there is no other start.
use mathlib.Core.Path.{◌≡◌, refl, sym, ap, ◌∙◌, subst}
use mathlib.Core.Bool.{Bool, true, false}
use mathlib.Core.Option.{Option, none, some}
use mathlib.Core.Logic.{◌⊎◌, inl, inr, ⊎_elim}
use mathlib.Core.List.{List, [], ◌∷◌, map}
use Prim.Native.Nat.{ℕ, ◌+◌, ◌≤◌, ◌<◌}
use native.Mathlib.Omega.{arith}
use lib.Dec.{ltb}
use borrow.Author.Tests.{lt-ltb, le-ltb, le-leb, ltb-false, ne_eqb}
use Rattle.slices.proofs.Cases.{lt-or_ge, none-some}
use Rattle.model.specs.Basics.{◌∈◌, here, there, Covers, Entry}
use Rattle.model.specs.Rows.{MAX, Text, SymbolRow, Given, tree_rows, symbol_row, symbol_skipped, symbol_end}
use Rattle.model.specs.Converter.{input, op, Setup, Location, converted}
use Rattle.model.specs.Frames.{Frame, frames_of, best, frames_at}
use Rattle.model.specs.Premises.{TreeWell, WellNested, Named, Counted}
use Rattle.model.specs.Gaps.{symbol_extent, InExtent, SymbolsApart, AllSymbolsApart, SymbolsWell, wanted_symbol, SymbolsAndGaps, IsStart, FramesInExtents, EndsAreStarts}
use Rattle.model.proofs.Ideal.{Op, symbol, idle, Map, empty, convert-op, run, Well}
use Rattle.model.proofs.Maps.{Sees}
use Rattle.model.proofs.Spans.{∈-cases, map-∈}
use Rattle.model.proofs.Extents.{Brings, run_brings, Beside, Fresh, op_fresh, symbol-seen, run-beside}
use Rattle.model.proofs.Means.{op_of_lem}
use Rattle.model.proofs.Chains.{Best, Answers, best-answers}
use Rattle.model.proofs.Keeps.{means}
use Rattle.model.proofs.Derive.{end_is, kept, op_of, well-op}
use Rattle.model.proofs.Demand.{operations, start-frames, seen-frames}
use Rattle.model.proofs.Starts.{root_ends, symbol-ends}

-- ── A symbol ──

counted-kept : (y : SymbolRow) → Counted y → symbol_skipped y ≡ false
counted-kept y c = go y.name c.0
  where
    go : (o : Option Text) → Named o → elim o [ none ↦ true | some t ↦ ltb MAX y.address ] ≡ false
    go none n = absurd n
    go (some t) n = le-ltb MAX y.address c.1

kept-counted : (y : SymbolRow) → symbol_skipped y ≡ false → Counted y
kept-counted y z = go y.name z
  where
    go : (o : Option Text) → elim o [ none ↦ true | some t ↦ ltb MAX y.address ] ≡ false → Named o × (y.address ≤ MAX)
    go none e = let bad : ◌≡◌ {A = ℕ} 0 1 = cc in absurd (omega arith)
    go (some t) e = (tt, ltb-false MAX y.address e)

-- it has a size and an end of at most MAX
abbrev Ended : SymbolRow → Type 0
Ended y = (0 < y.size) × (y.address + y.size ≤ MAX)

end-counts : (y : SymbolRow) → Ended y → symbol_end y ≡ some (y.address + y.size)
end-counts y w = rw (ne_eqb y.size 0 (omega (arith, w.0)), le-leb (y.address + y.size) MAX w.1)

-- what is asked of a call alone
abbrev CallWell : Given → Type 0
CallWell (tree_rows q rs) = TreeWell q rs
CallWell (symbol_row y) = Counted y → Ended y

call-nested : (g : Given) → CallWell g → WellNested g
call-nested (tree_rows q rs) w = w
call-nested (symbol_row y) w = tt

-- ── The calls as operations of the ideal converter ──

module _ (X : Setup) where
  -- each operation is a call's
  call_of : (gs : List Given) (o : Op Frame) → o ∈ operations X gs → (g : Given) × (g ∈ gs) × (o ≡ op_of X g)
  call_of gs o i =
      let (p, j, e) = map-∈ (op_of_lem input (means X)) (map op gs) i in
      let (g, k, z) = map-∈ op gs j in
      (g, k, e ∙ ap (op_of_lem input (means X)) z)

  -- and what holds of each call's holds of each
  each : (P : Op Frame → Type 0) (gs : List Given) → ((g : Given) → g ∈ gs → P (op_of X g)) → (o : Op Frame) → o ∈ operations X gs → P o
  each P gs h o i = let (g, j, e) = call_of gs o i in subst P (sym e) (h g j)

  abbrev symbol_op : SymbolRow → Op Frame
  symbol_op y = symbol y.address (some (y.address + y.size)) (wanted_symbol X y)

  counted-op : (y : SymbolRow) → Counted y → Ended y → op_of X (symbol_row y) ≡ symbol_op y
  counted-op y c w = rw (counted-kept y c, end-counts y w)

  -- a symbol that does not count does nothing
  symbol-op : (y : SymbolRow) → (Counted y → Ended y) → (op_of X (symbol_row y) ≡ idle) ⊎ (Counted y × (op_of X (symbol_row y) ≡ symbol_op y))
  symbol-op y w = go (symbol_skipped y) refl
    where
      go : (t : Bool) → symbol_skipped y ≡ t → (op_of X (symbol_row y) ≡ idle) ⊎ (Counted y × (op_of X (symbol_row y) ≡ symbol_op y))
      go true e = inl (rw e)
      go false e = let c = kept-counted y e in inr (c, counted-op y c (w c))

  -- frames are brought into the extent alone
  in_extent : (g : Given) → CallWell g → (k : ℕ) → Brings (op_of X g) k → InExtent g k
  in_extent (tree_rows q rs) w k b = (b.0, omega (arith, b.1, end_is q w.rows.0))
  in_extent (symbol_row y) w k b =
      ⊎_elim
      (λ e. absurd (subst (λ (o : Op Frame). Brings o k) e b))
      (λ (c, e). let at : k ≡ y.address = subst (λ (o : Op Frame). Brings o k) e b in (c, (omega arith, omega (arith, w c))))
      (symbol-op y w)

  -- ── The two facts ──

  module _ (gs : List Given) (fine : (g : Given) → g ∈ gs → CallWell g) where
    nested : (g : Given) → g ∈ gs → WellNested g
    nested g i = call-nested g (fine g i)

    wells : (o : Op Frame) → o ∈ operations X gs → Well o
    wells = each Well gs (λ g i. well-op X g (nested g i))

    frames_come : FramesInExtents X gs
    frames_come k l e n = go (frames_of (converted X gs) l) refl
      where
        go : (v : List Frame) → frames_of (converted X gs) l ≡ v → (g : Given) × (g ∈ gs) × InExtent g k
        go [] z = absurd (n z)
        go (f ∷ w) z =
            ⊎_elim
            (λ y. none-some y)
            (λ (o, i, b). let (g, j, y) = call_of gs o i in (g, j, in_extent g (fine g j) k (subst (λ (p : Op Frame). Brings p k) y b)))
            (run_brings (operations X gs) empty wells k f w (start-frames X gs nested k l e ∙ ap some z))

    ends_stand : EndsAreStarts X gs
    ends_stand = record {
      of_root = λ q rs i. let w = (fine (tree_rows q rs) i).rows.0 in subst (IsStart (converted X gs)) (end_is q w) (root_ends X gs q rs i (kept q w));
      of_symbol = λ y i c. symbol-ends X gs y (y.address + y.size) i (counted-kept y c) (end-counts y (fine (symbol_row y) i c));
    }

  -- ── In no extent ──

  module _ (gs : List Given) (frames : FramesInExtents X gs) (ends : EndsAreStarts X gs) (x : ℕ) (outside : (g : Given) → g ∈ gs → InExtent g x → ⊥) where
    -- an extent that begins at most at x ends at most at x
    past : (g : Given) → g ∈ gs → (k : ℕ) → k ≤ x → InExtent g k → (e : ℕ) × (k < e) × (e ≤ x) × IsStart (converted X gs) e
    past (tree_rows q rs) i k h c =
        let e = q.address + q.size in
        (e, c.1, ⊎_elim (λ z. absurd (outside (tree_rows q rs) i (omega (arith, c), z))) (λ z. z) (lt-or_ge x e), ends.of_root q rs i)
    past (symbol_row y) i k h c =
        let e = y.address + y.size in
        (e, c.1.1, ⊎_elim (λ z. absurd (outside (symbol_row y) i (c.0, (omega (arith, c.1), z)))) (λ z. z) (lt-or_ge x e), ends.of_symbol y i c.0)

    -- so the greatest start that is at most x holds no frames
    best-bare : (e : Entry Location) → Best (converted X gs).ranges x e → frames_of (converted X gs) e.value ≡ []
    best-bare e b = go (frames_of (converted X gs) e.value) refl
      where
        go : (v : List Frame) → frames_of (converted X gs) e.value ≡ v → frames_of (converted X gs) e.value ≡ []
        go [] z = z
        go (f ∷ w) z =
            let (g, i, c) = frames e.key e.value b.holds (λ y. let bad : ◌≡◌ {A = ℕ} 0 1 = cc in omega arith) in
            let (k, after, high, start) = past g i e.key b.low c in
            none-some (sym (b.bare k after high) ∙ start.1)

    gap : frames_at (converted X gs) x ≡ []
    unfolding frames_at
    gap = ⊎_elim (λ h. rw (lt-ltb MAX x h, frames_at)) (λ h. low h (best (converted X gs).ranges x) refl (best-answers (converted X gs).ranges x)) (lt-or_ge MAX x)
      where
        low : x ≤ MAX → (o : Option (Entry Location)) → best (converted X gs).ranges x ≡ o → Answers (converted X gs).ranges x o → frames_at (converted X gs) x ≡ []
        low h none e b = rw (le-ltb MAX x h, frames_at, e)
        low h (some d) e b = rw (le-ltb MAX x h, frames_at, e) (best-bare d b)

  -- ── In a symbol's extent ──

  module _ (y : SymbolRow) (counted : Counted y) (ended : Ended y) (x : ℕ) (cov : Covers (symbol_extent y) x) where
    -- an operation keeps beside the symbol
    abbrev Keeping : Op Frame → Type 0
    Keeping = Beside y.address (y.address + y.size) (wanted_symbol X y) x cov

    -- a call whose extent is apart keeps beside the symbol
    beside : (g : Given) → CallWell g → SymbolsApart (symbol_row y) g → Keeping (op_of X g)
    beside (tree_rows q rs) w a = ⊎_elim (λ z. inr z) (λ z. inl (omega (arith, end_is q w.rows.0))) (a counted)
    beside (symbol_row z) w a =
        ⊎_elim
        (λ e. subst Keeping (sym e) tt)
        (λ (c, e). subst Keeping (sym e) (omega (arith, w c), ⊎_elim (λ h. inr h) (λ h. inl h) (a counted c)))
        (symbol-op z w)

    apart-sym : (g : Given) → SymbolsApart g (symbol_row y) → SymbolsApart (symbol_row y) g
    apart-sym (tree_rows q rs) a = λ c. ⊎_elim (λ h. inr h) (λ h. inl h) (a c)
    apart-sym (symbol_row z) a = λ c d. ⊎_elim (λ h. inr h) (λ h. inl h) (a d c)

    list_sees : (gs : List Given) (m : Map Frame) → ((g : Given) → g ∈ gs → CallWell g) → AllSymbolsApart gs → symbol_row y ∈ gs
        → Fresh y.address (y.address + y.size) (wanted_symbol X y) x cov m → Sees (run (operations X gs) m) y.address x (wanted_symbol X y ∷ [])
    unfolding run
    list_sees [] m fine apart i n = elim i [ ]
    list_sees (g ∷ gs) m fine apart i n = ⊎_elim now (λ j. later j (list_sees gs (convert-op (op_of X g) m) (λ h k. fine h (there k)) apart.1 j)) (∈-cases i)
      where
        well : (h : Given) → h ∈ (g ∷ gs) → Well (op_of X h)
        well h k = well-op X h (call-nested h (fine h k))

        now : symbol_row y ≡ g → Sees (run (operations X gs) (convert-op (op_of X g) m)) y.address x (wanted_symbol X y ∷ [])
        now e =
            let others : (h : Given) → h ∈ gs → SymbolsApart (symbol_row y) h = subst (λ (t : Given). (h : Given) → h ∈ gs → SymbolsApart t h) (sym e) apart.0 in
            let is : op_of X g ≡ symbol_op y = ap (op_of X) (sym e) ∙ counted-op y counted ended in
            run-beside y.address (y.address + y.size) (wanted_symbol X y) x cov (operations X gs) (convert-op (op_of X g) m)
            (each Well gs (λ h k. well h (there k)))
            (each Keeping gs (λ h k. beside h (fine h (there k)) (others h k)))
            (subst (λ (o : Op Frame). Sees (convert-op o m) y.address x (wanted_symbol X y ∷ [])) (sym is) (symbol-seen y.address (y.address + y.size) (wanted_symbol X y) x cov m n))

        later : symbol_row y ∈ gs
            → (Fresh y.address (y.address + y.size) (wanted_symbol X y) x cov (convert-op (op_of X g) m) → Sees (run (operations X gs) (convert-op (op_of X g) m)) y.address x (wanted_symbol X y ∷ []))
            → Sees (run (operations X gs) (convert-op (op_of X g) m)) y.address x (wanted_symbol X y ∷ [])
        later j ih =
            ih (op_fresh y.address (y.address + y.size) (wanted_symbol X y) x cov (op_of X g) m (well g here) (beside g (fine g here) (apart-sym g (apart.0 (symbol_row y) j))) n)

  -- ── K13 ──

  module _ (gs : List Given) (well : (g : Given) → g ∈ gs → WellNested g) (symbols : SymbolsWell gs) where
    calls-well : (g : Given) → g ∈ gs → CallWell g
    calls-well (tree_rows q rs) i = well (tree_rows q rs) i
    calls-well (symbol_row y) i = λ c. (symbols.sized y i c, symbols.low y i c)

    pub frames_in_extents : FramesInExtents X gs
    frames_in_extents = frames_come gs calls-well

    pub ends_are_starts : EndsAreStarts X gs
    ends_are_starts = ends_stand gs calls-well

    pub symbols_and_gaps : SymbolsAndGaps X gs (λ x fs. frames_at (converted X gs) x ≡ fs)
    symbols_and_gaps = record {
      in_symbol = λ y i c x cov.
          let ended = calls-well (symbol_row y) i c in
          seen-frames X gs well y.address x (wanted_symbol X y ∷ []) (omega (arith, ended, cov))
          (list_sees y c ended x cov gs empty calls-well symbols.apart i (λ g w e. none-some e, λ k a b. refl));
      in_none = λ x outside. gap gs frames_in_extents ends_are_starts x outside;
    }

-- what is given one way is given another
pub shown_too : {X : Setup} {gs : List Given} {A B : ℕ → List Frame → Type 0} → ((x : ℕ) (fs : List Frame) → A x fs → B x fs) → SymbolsAndGaps X gs A → SymbolsAndGaps X gs B
shown_too h p = record { in_symbol = λ y i c x cov. h x _ (p.in_symbol y i c x cov); in_none = λ x outside. h x [] (p.in_none x outside) }
