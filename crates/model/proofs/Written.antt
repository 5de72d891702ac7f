-- WHAT A FILE SHOWS: the tables in file order, looked up as document 01's "Lookup" says, give the plain tables' frames, for EVERY list and EVERY address. So demand 3 holds of them.
use mathlib.Core.Path.{◌≡◌, refl, sym, ap, ◌∙◌, subst}
use mathlib.Core.Bool.{Bool, true, false}
use mathlib.Core.Option.{Option, none, some}
use mathlib.Core.Logic.{◌⊎◌, inl, inr, ◌≢◌, ⊎_elim}
use mathlib.Core.List.{List, [], ◌∷◌, ◌++◌, map, reverse}
use Prim.Native.Nat.{ℕ, zero, suc, ◌+◌, ◌≤◌, ◌<◌}
use native.Mathlib.Nat.{suc-add, zero-add}
use native.Mathlib.Omega.{arith}
use lib.ListN.{length, get_elem?, length-append}
use lib.Dec.{ltb}
use borrow.Author.Tests.{le-leb, lt-leb, lt-ltb, le-ltb, eq-eqb, ne_eqb}
use Rattle.slices.proofs.Cases.{lt-or_ge, eq-or-ne, none-some}
use Rattle.model.specs.Basics.{◌∈◌, here, there, Entry, items, depths, upto}
use Rattle.model.specs.Rows.{MAX, FunctionRow, Given, tree_rows}
use Rattle.model.specs.Converter.{Setup, Location, at, Tables, range_at, converted}
use Rattle.model.specs.Frames.{Frame, frame_of, caller_of, frames_of, best, frames_at}
use Rattle.model.specs.Premises.{WellNested, AllSeparate, nested_at}
use Rattle.model.specs.Written.{place_range, by_start, over, as_written, locations, count, met?, follow, frames_from, looked_up}
use Rattle.model.proofs.Spans.{∈-elim}
use Rattle.model.proofs.Intern.{At, at_length, at_elem}
use Rattle.model.proofs.Chains.{some-eq, Larger, Chain, off, top, deeper, chain-larger, Down, CallsDown, frame_found, frames-found, range_here, range_there, best-is, best-answers, Answers, Unique}
use Rattle.model.proofs.Demand.{demand}
use Rattle.model.proofs.Always.{always, frames-short}

-- ── In order of start ──

module _ {L : Type 0} where
  -- strictly ascending, from b on
  abbrev pub Sorted : ℕ → List (Entry L) → Type 0
  Sorted b [] = Unit {0}
  Sorted b (e ∷ es) = (b ≤ e.key) × Sorted (suc e.key) es

  module _ (k : ℕ) (v : L) (e : Entry L) (es : List (Entry L)) where
    place-before : k < e.key → place_range k v (e ∷ es) ≡ record { key = k; value = v } ∷ e ∷ es
    unfolding place_range
    place-before h = rw (lt-ltb k e.key h)

    place_at : k ≡ e.key → place_range k v (e ∷ es) ≡ record { key = k; value = v } ∷ es
    unfolding place_range
    place_at h = rw (le-ltb k e.key (omega arith), eq-eqb k e.key h)

    place_after : e.key < k → place_range k v (e ∷ es) ≡ e ∷ place_range k v es
    unfolding place_range
    place_after h = rw (le-ltb k e.key (omega arith), ne_eqb k e.key (omega arith))

  placed_same : (k : ℕ) (v : L) (t : List (Entry L)) → range_at (place_range k v t) k ≡ some v
  unfolding place_range
  placed_same k v [] = range_here _ [] k refl
  placed_same k v (e ∷ es) = go (lt-or_ge k e.key) (eq-or-ne k e.key) (placed_same k v es)
    where
      go : (k < e.key) ⊎ (e.key ≤ k) → (k ≡ e.key) ⊎ (k ≢ e.key) → range_at (place_range k v es) k ≡ some v → range_at (place_range k v (e ∷ es)) k ≡ some v
      go (inl h) z ih = rw (place-before k v e es h) (range_here _ (e ∷ es) k refl)
      go (inr h) (inl z) ih = rw (place_at k v e es z) (range_here _ es k refl)
      go (inr h) (inr z) ih = rw (place_after k v e es (omega arith)) (range_there e (place_range k v es) k z ∙ ih)

  placed-other : (k : ℕ) (v : L) (t : List (Entry L)) (x : ℕ) → x ≢ k → range_at (place_range k v t) x ≡ range_at t x
  unfolding place_range
  placed-other k v [] x n = range_there _ [] x n
  placed-other k v (e ∷ es) x n = go (lt-or_ge k e.key) (eq-or-ne k e.key) (eq-or-ne x e.key) (placed-other k v es x n)
    where
      go : (k < e.key) ⊎ (e.key ≤ k) → (k ≡ e.key) ⊎ (k ≢ e.key) → (x ≡ e.key) ⊎ (x ≢ e.key) → range_at (place_range k v es) x ≡ range_at es x → range_at (place_range k v (e ∷ es)) x ≡ range_at (e ∷ es) x
      go (inl h) z w ih = rw (place-before k v e es h) (range_there _ (e ∷ es) x n)
      go (inr h) (inl z) w ih = rw (place_at k v e es z) (range_there _ es x n ∙ sym (range_there e es x (omega arith)))
      go (inr h) (inr z) (inl w) ih = rw (place_after k v e es (omega arith)) (range_here e (place_range k v es) x w ∙ sym (range_here e es x w))
      go (inr h) (inr z) (inr w) ih = rw (place_after k v e es (omega arith)) (range_there e (place_range k v es) x w ∙ ih ∙ sym (range_there e es x w))

  placed-sorted : (b k : ℕ) (v : L) (t : List (Entry L)) → b ≤ k → Sorted b t → Sorted b (place_range k v t)
  unfolding place_range
  placed-sorted b k v [] h s = (h, tt)
  placed-sorted b k v (e ∷ es) h s = go (lt-or_ge k e.key) (eq-or-ne k e.key) (placed-sorted (suc e.key) k v es)
    where
      go : (k < e.key) ⊎ (e.key ≤ k) → (k ≡ e.key) ⊎ (k ≢ e.key) → (e.key < k → Sorted (suc e.key) es → Sorted (suc e.key) (place_range k v es)) → Sorted b (place_range k v (e ∷ es))
      go (inl g) z ih = rw (place-before k v e es g) (h, (g, s.1))
      go (inr g) (inl z) ih = rw (place_at k v e es z) (h, subst (λ (n : ℕ). Sorted (suc n) es) (sym z) s.1)
      go (inr g) (inr z) ih = rw (place_after k v e es (omega arith)) (s.0, ih (omega arith) s.1)

  -- THE ORDER OF A FILE: every start holds what it held, and the starts ascend strictly
  pub by_start-same : (t : List (Entry L)) (x : ℕ) → range_at (by_start t) x ≡ range_at t x
  unfolding by_start
  by_start-same [] x = refl
  by_start-same (e ∷ es) x = go (eq-or-ne x e.key) (by_start-same es x)
    where
      go : (x ≡ e.key) ⊎ (x ≢ e.key) → range_at (by_start es) x ≡ range_at es x → range_at (by_start (e ∷ es)) x ≡ range_at (e ∷ es) x
      go (inl z) ih = rw z (placed_same e.key e.value (by_start es) ∙ sym (range_here e es e.key refl))
      go (inr n) ih = placed-other e.key e.value (by_start es) x n ∙ ih ∙ sym (range_there e es x n)

  pub by_start-sorted : (t : List (Entry L)) → Sorted 0 (by_start t)
  unfolding by_start
  by_start-sorted [] = tt
  by_start-sorted (e ∷ es) = placed-sorted 0 e.key e.value (by_start es) (omega arith) (by_start-sorted es)

  placed-length : (k : ℕ) (v : L) (t : List (Entry L)) → range_at t k ≡ none → length (place_range k v t) ≡ suc (length t)
  unfolding place_range
  placed-length k v [] h = refl
  placed-length k v (e ∷ es) h = go (lt-or_ge k e.key) (eq-or-ne k e.key) (placed-length k v es)
    where
      go : (k < e.key) ⊎ (e.key ≤ k) → (k ≡ e.key) ⊎ (k ≢ e.key) → (range_at es k ≡ none → length (place_range k v es) ≡ suc (length es)) → length (place_range k v (e ∷ es)) ≡ suc (suc (length es))
      go (inl g) z ih = rw (place-before k v e es g)
      go (inr g) (inl z) ih = none-some (sym h ∙ range_here e es k z)
      go (inr g) (inr z) ih = rw (place_after k v e es (omega arith)) (ap suc (ih (sym (range_there e es k z) ∙ h)))

  -- as many as there were, where each start stands once
  pub by_start-length : (t : List (Entry L)) → Unique t → length (by_start t) ≡ length t
  unfolding by_start
  by_start-length [] u = refl
  by_start-length (e ∷ es) u = placed-length e.key e.value (by_start es) (by_start-same es e.key ∙ u.0) ∙ ap suc (by_start-length es u.1)

  -- below the first start there is none
  pub none-low : (b : ℕ) (t : List (Entry L)) → Sorted b t → (x : ℕ) → x < b → range_at t x ≡ none
  unfolding range_at
  none-low b [] s x h = refl
  none-low b (e ∷ es) s x h = range_there e es x (omega (arith, s.0)) ∙ none-low (suc e.key) es s.1 x (omega (arith, s.0))

  entry_path : (d e : Entry L) → d.key ≡ e.key → d.value ≡ e.value → d ≡ e
  entry_path d e p q = λ i. record { key = p i; value = q i }

  -- and there is one such order only: whatever ascends and holds the same is the same list
  pub sorted-unique : (a b : ℕ) (t u : List (Entry L)) → Sorted a t → Sorted b u → ((x : ℕ) → range_at t x ≡ range_at u x) → t ≡ u
  unfolding range_at
  sorted-unique a b [] [] s r h = refl
  sorted-unique a b [] (e ∷ es) s r h = none-some (h e.key ∙ range_here e es e.key refl)
  sorted-unique a b (d ∷ ds) [] s r h = none-some (sym (h d.key) ∙ range_here d ds d.key refl)
  sorted-unique a b (d ∷ ds) (e ∷ es) s r h = let p = entry_path d e keys values in rw p (ap (λ (t : List (Entry L)). e ∷ t) (sorted-unique (suc d.key) (suc e.key) ds es s.1 r.1 tails))
    where
      at-d : range_at (e ∷ es) d.key ≡ some d.value
      at-d = sym (h d.key) ∙ range_here d ds d.key refl

      at-e : range_at (d ∷ ds) e.key ≡ some e.value
      at-e = h e.key ∙ range_here e es e.key refl

      keys : d.key ≡ e.key
      keys =
          ⊎_elim (λ z. none-some (sym (none-low e.key (e ∷ es) (omega arith, r.1) d.key z) ∙ at-d))
          (λ z. ⊎_elim (λ y. none-some (sym (none-low d.key (d ∷ ds) (omega arith, s.1) e.key y) ∙ at-e)) (λ y. omega arith) (lt-or_ge e.key d.key))
          (lt-or_ge d.key e.key)

      values : d.value ≡ e.value
      values = some-eq (sym at-d ∙ range_here e es d.key keys)

      tails : (x : ℕ) → range_at ds x ≡ range_at es x
      tails x = go (eq-or-ne x d.key)
        where
          go : (x ≡ d.key) ⊎ (x ≢ d.key) → range_at ds x ≡ range_at es x
          go (inl z) = none-low (suc d.key) ds s.1 x (omega arith) ∙ sym (none-low (suc e.key) es r.1 x (omega (arith, keys)))
          go (inr n) = sym (range_there d ds x n) ∙ h x ∙ range_there e es x (λ z. n (z ∙ sym keys))

-- ── The search ──

pub record Found (rows : List (Entry Location)) (x i : ℕ) : Type 0 where
  pub entry : Entry Location
  pub stands : get_elem? rows i ≡ some entry
  pub low : entry.key ≤ x
  pub holds : range_at rows entry.key ≡ some entry.value
  pub bare : (j : ℕ) → entry.key < j → j ≤ x → range_at rows j ≡ none

abbrev Spec : List (Entry Location) → ℕ → ℕ → Type 0
Spec rows x zero = (j : ℕ) → j ≤ x → range_at rows j ≡ none
Spec rows x (suc i) = Found rows x i

count_spec : (b : ℕ) (rows : List (Entry Location)) → Sorted b rows → (x : ℕ) → Spec rows x (count rows x)
unfolding count range_at
count_spec b [] s x = λ j h. refl
count_spec b (e ∷ es) s x = go (lt-or_ge x e.key) (count_spec (suc e.key) es s.1 x)
  where
    more : (n : ℕ) → e.key ≤ x → Spec es x n → Spec (e ∷ es) x (suc n)
    more zero h k = record { entry = e; stands = refl; low = h; holds = range_here e es e.key refl; bare = λ j y z. range_there e es j (omega arith) ∙ k j z }
    more (suc i) h k =
        let after : e.key < k.entry.key =
        ⊎_elim (λ y. let bad : ◌≡◌ {A = Option Location} none (some k.entry.value) = sym (none-low (suc e.key) es s.1 k.entry.key y) ∙ k.holds in clash bad) (λ y. y) (lt-or_ge k.entry.key (suc e.key)) in
        record { entry = k.entry; stands = k.stands; low = k.low; holds = range_there e es k.entry.key (omega arith) ∙ k.holds; bare = λ j y z. range_there e es j (omega arith) ∙ k.bare j y z }
      where
        clash : {A : Type 0} {l : Location} → ◌≡◌ {A = Option Location} none (some l) → A
        clash z = let bad : ◌≡◌ {A = ℕ} 0 1 = cc in absurd (omega arith)

    go : (x < e.key) ⊎ (e.key ≤ x) → Spec es x (count es x) → Spec (e ∷ es) x (count (e ∷ es) x)
    go (inl h) ih = rw (lt-leb e.key x h, count) (λ j k. none-low e.key (e ∷ es) (omega arith, s.1) j (omega arith))
    go (inr h) ih = rw (le-leb e.key x h, count) (more (count es x) h ih)

past : {A : Type 0} (xs ys : List A) (i : ℕ) → get_elem? (xs ++ ys) (length xs + i) ≡ get_elem? ys i
past [] ys i = ap (get_elem? ys) (zero-add i)
past (x ∷ xs) ys i = rw (suc-add (length xs) i) (past xs ys i)

mapped : (rows : List (Entry Location)) (i : ℕ) (e : Entry Location) → get_elem? rows i ≡ some e → get_elem? (map (λ (d : Entry Location). d.value) rows) i ≡ some e.value
mapped [] i e h = let bad : ◌≡◌ {A = ℕ} 0 1 = cc in absurd (omega arith)
mapped (d ∷ rows) zero e h = let z : d ≡ e = cc in ap (λ (t : Entry Location). some t.value) z
mapped (d ∷ rows) (suc i) e h = mapped rows i e h

-- ── The walk ──

pub not-met : (i : ℕ) (met : List ℕ) → ((k : ℕ) → k ∈ met → i < k) → met? i met ≡ false
unfolding met?
not-met i [] h = refl
not-met i (k ∷ ks) h = let g = h k here in rw (ne_eqb i k (omega arith)) (not-met i ks (λ j z. h j (there z)))

follow-none : (k : ℕ) (s : Tables) (met : List ℕ) → follow k s met none ≡ []
unfolding follow
follow-none zero s met = refl
follow-none (suc k) s met = refl

module _ (s : Tables) (down : CallsDown s.calls) where
  step : (k : ℕ) (met : List ℕ) (i : ℕ) (l : Location) → get_elem? (locations s) i ≡ some l → ((j : ℕ) → j ∈ met → i < j) → follow (suc k) s met (some i) ≡ frame_of s l ∷ follow k s (i ∷ met) (caller_of l)
  unfolding follow
  step k met i l e h = rw (not-met i met h, e, follow)

  rest_of : (k : ℕ) (met : List ℕ) (i : ℕ) (l : Location) (v : List Frame) → At s.calls i l → Down i l → i < k → ((j : ℕ) → j ∈ met → i < j) → Chain s l v → follow k s met (some i) ≡ v
  rest_of zero met i l v a d h m c = absurd (omega arith)
  rest_of (suc k) met i l v a d h m off = absurd d
  rest_of (suc k) met i l v a d h m (top {f = f} {n = n} {i = g} {g = w} x) =
      step k met i (at f n g none) (at_elem s.calls _ i _ a) m ∙ rw (follow-none k s (i ∷ met), frame_found s f n g w none x)
  rest_of (suc k) met i l v a d h m (deeper {f = f} {n = n} {i = g} {g = w} {j = j} {l = l'} {v = u} x b c) =
      step k met i (at f n g (some j)) (at_elem s.calls _ i _ a) m
      ∙ rw (frame_found s f n g w (some j) x) (ap (λ (t : List Frame). w ∷ t) (rest_of k (i ∷ met) j l' u b (down j l' b) (omega arith) (∈-elim (λ (z : ℕ). j < z) d (λ z y. let q = m z y in omega arith)) c))

  from_is : (i : ℕ) (l : Location) (v : List Frame) → length s.calls ≤ i → get_elem? (locations s) i ≡ some l → Chain s l v → frames_from s i ≡ v
  unfolding frames_from
  from_is i l v h e off = rw (e, frames_from)
  from_is i l v h e (top {f = f} {n = n} {i = g} {g = w} x) =
      rw (e, frames_from) (step (length (locations s)) [] i (at f n g none) e (λ j z. elim z [ ]) ∙ rw (follow-none (length (locations s)) s (i ∷ []), frame_found s f n g w none x))
  from_is i l v h e (deeper {f = f} {n = n} {i = g} {g = w} {j = j} {l = l'} {v = u} x b c) =
      let k = at_length s.calls j l' b in
      rw (e, frames_from)
      (step (length (locations s)) [] i (at f n g (some j)) e (λ z y. elim y [ ])
      ∙ rw (frame_found s f n g w (some j) x) (ap (λ (t : List Frame). w ∷ t)
      (rest_of (length (locations s)) (i ∷ []) j l' u b (down j l' b) (rw length-append (omega arith)) (∈-elim (λ (z : ℕ). j < z) (omega arith) (λ z y. elim y [ ])) c)))

-- ── Every list, every address ──

module _ (X : Setup) (gs : List Given) where
  -- any rows that ascend and hold the same
  module _ (rows : List (Entry Location)) (same : (k : ℕ) → range_at (converted X gs).ranges k ≡ range_at rows k) (sorted : Sorted 0 rows) (x : ℕ) where
    abbrev s : Tables
    s = converted X gs

    abbrev s' : Tables
    s' = over s rows

    larger : Larger s s'
    larger = record { texts = λ i a h. h; files = λ i a h. h; functions = λ i a h. h; calls = λ i a h. h }

    vacant-both : (o : Option (Entry Location)) → best s.ranges x ≡ o → Answers s.ranges x o → ((j : ℕ) → j ≤ x → range_at rows j ≡ none) → o ≡ none
    vacant-both none e a h = refl
    vacant-both (some d) e a h = let z : ◌≡◌ {A = Option Location} none (some d.value) = sym (same d.key ∙ h d.key a.low) ∙ a.holds in let bad : ◌≡◌ {A = ℕ} 0 1 = cc in absurd (omega arith)

    found-both : (n : ℕ) → count rows x ≡ n → Spec rows x n → ◌≡◌ {A = List Frame} (elim n [ zero ↦ [] | suc i ↦ frames_from s' (length s.calls + i) ]) (elim (best s.ranges x) [ none ↦ [] | some e ↦ frames_of s e.value ])
    found-both zero z h = rw (vacant-both (best s.ranges x) refl (best-answers s.ranges x) h)
    found-both (suc i) z h =
        let e = h.entry in
        let (d, hit, p, q) = best-is s.ranges x e.key e.value h.low (same e.key ∙ h.holds) (λ k y w. same k ∙ h.bare k y w) in
        let (v, c, u) = (always X gs).ranges_in e.key e.value (same e.key ∙ h.holds) in
        rw hit
        (from_is s' (always X gs).calls_down (length s.calls + i) e.value v (omega arith) (past s.calls _ i ∙ mapped rows i e h.stands) (chain-larger larger c)
        ∙ sym (ap (frames_of s) q ∙ frames-found s (always X gs).calls_down e.value v c))

    pub over-looked_up : looked_up s' x ≡ frames_at s x
    unfolding looked_up frames_at
    over-looked_up = go (ltb MAX x) refl
      where
        go : (b : Bool) → ltb MAX x ≡ b → looked_up s' x ≡ frames_at s x
        go true z = rw (z, looked_up, frames_at)
        go false z = rw (z, looked_up, frames_at) (found-both (count rows x) refl (count_spec 0 rows sorted x))

  -- THE FILE'S LOOKUP IS THE PLAIN ONE
  pub written-looked_up : (x : ℕ) → looked_up (as_written (converted X gs)) x ≡ frames_at (converted X gs) x
  written-looked_up x = over-looked_up (by_start (converted X gs).ranges) (λ k. sym (by_start-same (converted X gs).ranges k)) (by_start-sorted (converted X gs).ranges) x

  -- DEMAND 3, of the tables as a file has them
  pub written-demand : ((g : Given) → g ∈ gs → WellNested g) → AllSeparate gs → (q : FunctionRow) (rs : List FunctionRow) → tree_rows q rs ∈ gs → (x : ℕ)
      → let found = nested_at X x (q ∷ rs) in found ≢ [] → (looked_up (as_written (converted X gs)) x ≡ reverse (items found)) × (depths found ≡ upto 0 (length found))
  written-demand well separate q rs i x h = let d = demand X gs well separate q rs i x h in (written-looked_up x ∙ d.0, d.1)

  -- K7, of these: with no row deeper than D, no lookup gives more than D + 1 frames, whether or not the trees are well nested
  pub written-short : (D : ℕ) → ((q : FunctionRow) (rs : List FunctionRow) → tree_rows q rs ∈ gs → (r : FunctionRow) → r ∈ rs → r.depth ≤ D) → (x : ℕ) → length (looked_up (as_written (converted X gs)) x) ≤ suc D
  written-short D shallow x = rw (written-looked_up x) (frames-short X gs D shallow x)
