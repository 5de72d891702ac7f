-- WHAT IS COMPUTED OF A LIST OF CALLS that stands there as numbers (Worked, Instance, SmallCalls, GapCalls, c_demand3's): the number of every call; a test of 32-bit words, for `Typed`; and tests of the
-- premises, demand 3's and K13's. A test that is true gives what is asked for.
use mathlib.Core.Path.{◌≡◌, refl}
use mathlib.Core.Bool.{Bool, true, false, not, ◌&&◌, ◌||◌}
use mathlib.Core.Option.{Option, none, some}
use mathlib.Core.Logic.{◌⊎◌, inl, inr, ⊎_elim}
use mathlib.Core.List.{List, [], ◌∷◌, ◌++◌}
use Prim.Native.Nat.{ℕ, zero, suc, ◌+◌, ◌≤◌, ◌<◌}
use native.Mathlib.Omega.{arith}
use lib.Dec.{leb, ltb, eqb}
use lib.ListN.{length, get_or}
use borrow.Author.Tests.{le-leb, lt-ltb, leb-true, ltb-true, eqb-true, not-true}
use Rattle.slices.proofs.Cases.{false-true, both_true}
use Rattle.model.specs.Basics.{◌∈◌, here, there, Span, Covers, coversb, Asc, Disjoint, Apart}
use Rattle.model.specs.Rows.{MAX, Text, LineRow, FunctionRow, SymbolRow, Given, tree_rows, symbol_row, line_size, symbol_skipped}
use Rattle.model.specs.Premises.{reaches, all_reaches, inlinees, RowWell, LastAt, InlineeWell, RowsWell, Named, Counted, NotIn, SymbolClear, Separate, AllSeparate}
use Rattle.model.specs.Gaps.{root_extent, symbol_extent, InExtent, SymbolsApart, AllSymbolsApart, SymbolsWell}
use Rattle.model.proofs.Spans.{∈-elim}
use Rattle.memory.specs.Memory.{Memory}
use Rattle.demand3.specs.Lists.{Call, tree, lines_tree, symbol, write, Outcome, Standing, next, run, Typed}
use Rattle.demand3.specs.Demand3.{Nested, Premises}

-- ── Tests of a list ──

either_true : (a b : Bool) → (a || b) ≡ true → (a ≡ true) ⊎ (b ≡ true)
either_true true b e = inl e
either_true false b e = inr e

one-le : (a b c d : ℕ) → (leb a b || leb c d) ≡ true → (a ≤ b) ⊎ (c ≤ d)
one-le a b c d h = go (either_true (leb a b) (leb c d) h)
  where
    go : (leb a b ≡ true) ⊎ (leb c d ≡ true) → (a ≤ b) ⊎ (c ≤ d)
    go (inl k) = inl (leb-true a b k)
    go (inr k) = inr (leb-true c d k)

module _ {A : Type 0} (p : A → Bool) where
  -- p holds of every item; of some item
  unfoldable pub every? : List A → Bool
  every? [] = true
  every? (a ∷ l) = p a && every? l

  unfoldable pub some? : List A → Bool
  some? [] = false
  some? (a ∷ l) = p a || some? l

  pub every : (l : List A) → every? l ≡ true → (a : A) → a ∈ l → p a ≡ true
  unfolding every?
  every [] e a i = elim i [ ]
  every (b ∷ l) e a i = let (h, t) = both_true (p b) (every? l) e in ∈-elim (λ c. p c ≡ true) h (every l t) a i

  one : (l : List A) → some? l ≡ true → (a : A) × (a ∈ l) × (p a ≡ true)
  unfolding some?
  one [] e = false-true e
  one (b ∷ l) e = ⊎_elim (λ h. (b, here, h)) (λ h. let (a, i, k) = one l h in (a, there i, k)) (either_true (p b) (some? l) e)

-- ── The number of every call ──

-- `leaves` says of every call what it leaves, as for a list's `next` and `run`
module _ {R : Type 0} (leaves : Call → R → Memory → Outcome R) where
  abbrev pub number_of : Call → Standing R → ℕ
  number_of k r = (leaves k r.carrier r.memory).code

  unfoldable pub numbers : List Call → Standing R → List ℕ
  numbers [] r = []
  numbers (k ∷ ks) r = number_of k r ∷ numbers ks (next leaves k r)

  -- the number of a call in the list
  pub number_in : (before after : List Call) (k : Call) (r : Standing R) → get_or (numbers (before ++ (k ∷ after)) r) (length before) 0 ≡ number_of k (run leaves before r)
  unfolding numbers run
  number_in [] after k r = refl
  number_in (c ∷ before) after k r = number_in before after k (next leaves c r)

-- ── 32-bit words ──

small-words : (t : List ℕ) → every? (λ w. leb w MAX) t ≡ true → (i : ℕ) → get_or t i 0 ≤ MAX
unfolding every?
small-words [] e i = omega arith
small-words (w ∷ t) e zero = leb-true w MAX (both_true (leb w MAX) (every? (λ v. leb v MAX) t) e).0
small-words (w ∷ t) e (suc i) = small-words t (both_true (leb w MAX) (every? (λ v. leb v MAX) t) e).1 i

unfoldable pub typed? : Call → Bool
typed? (tree k s) = every? (λ w. leb w MAX) k.functions32
typed? (lines_tree f64 f32 ls t s u v) = every? (λ w. leb w MAX) f32
typed? (symbol t address size name) = true
typed? (write output) = true

one_typed : (k : Call) → typed? k ≡ true → Typed k
unfolding typed?
one_typed (tree k s) e = small-words k.functions32 e
one_typed (lines_tree f64 f32 ls t s u v) e = small-words f32 e
one_typed (symbol t address size name) e = tt
one_typed (write output) e = tt

pub typed : (ks : List Call) → every? typed? ks ≡ true → (k : Call) → k ∈ ks → Typed k
typed ks e k i = one_typed k (every typed? ks e k i)

-- ── A row ──

unfoldable pub asc? : ℕ → List Span → Bool
asc? b [] = true
asc? b (r ∷ rs) = leb b r.from && (ltb r.from r.to && asc? r.to rs)

asc : (b : ℕ) (rs : List Span) → asc? b rs ≡ true → Asc b rs
unfolding asc?
asc b [] e = tt
asc b (r ∷ rs) e =
    let (h, k) = both_true (leb b r.from) _ e in
    let (l, m) = both_true (ltb r.from r.to) (asc? r.to rs) k in
    (leb-true b r.from h, ltb-true r.from r.to l, asc r.to rs m)

unfoldable pub row_well? : FunctionRow → Bool
row_well? q =
    ltb 0 q.size
    && (leb (q.address + q.size) MAX
    && (asc? q.address (reaches q)
    && (every? (λ n. leb (n.address + line_size n) (q.address + q.size)) q.lines && every? (λ n. ltb n.number 4294967296) q.lines)))

row-well : (q : FunctionRow) → row_well? q ≡ true → RowWell q
unfolding row_well?
row-well q e =
    let (a, e₁) = both_true (ltb 0 q.size) _ e in
    let (b, e₂) = both_true (leb (q.address + q.size) MAX) _ e₁ in
    let (c, e₃) = both_true (asc? q.address (reaches q)) _ e₂ in
    let (d, f) = both_true (every? (λ n. leb (n.address + line_size n) (q.address + q.size)) q.lines) (every? (λ n. ltb n.number 4294967296) q.lines) e₃ in
    record {
      sized = ltb-true 0 q.size a;
      low = leb-true (q.address + q.size) MAX b;
      ascending = asc q.address (reaches q) c;
      inside = λ n i. leb-true (n.address + line_size n) (q.address + q.size) (every (λ n. leb (n.address + line_size n) (q.address + q.size)) q.lines d n i);
      numbers = λ n i. ltb-true n.number 4294967296 (every (λ n. ltb n.number 4294967296) q.lines f n i);
    }

-- ── An inlinee ──

unfoldable pub last_at? : List LineRow → ℕ → Bool
last_at? [] e = false
last_at? (n ∷ []) e = eqb (n.address + line_size n) e
last_at? (n ∷ m ∷ ns) e = last_at? (m ∷ ns) e

last-at : (ns : List LineRow) (e : ℕ) → last_at? ns e ≡ true → LastAt ns e
unfolding last_at?
last-at [] e h = false-true h
last-at (n ∷ []) e h = eqb-true (n.address + line_size n) e h
last-at (n ∷ m ∷ ns) e h = last-at (m ∷ ns) e h

-- the line n lies in the line m
unfoldable pub holds? : LineRow → LineRow → Bool
holds? n m = leb m.address n.address && leb (n.address + line_size n) (m.address + line_size m)

unfoldable pub inlinee_well? : FunctionRow → FunctionRow → Bool
inlinee_well? q k = last_at? k.lines (k.address + k.size) && every? (λ n. some? (holds? n) q.lines) k.lines

inlinee-well : (q k : FunctionRow) → inlinee_well? q k ≡ true → InlineeWell q k
unfolding inlinee_well? holds?
inlinee-well q k e =
    let (a, b) = both_true (last_at? k.lines (k.address + k.size)) (every? (λ n. some? (holds? n) q.lines) k.lines) e in
    record {
      last = last-at k.lines (k.address + k.size) a;
      within = λ n i.
          let (m, j, h) = one (holds? n) q.lines (every (λ n. some? (holds? n) q.lines) k.lines b n i) in
          let (c, d) = both_true (leb m.address n.address) (leb (n.address + line_size n) (m.address + line_size m)) h in
          (m, j, leb-true m.address n.address c, leb-true (n.address + line_size n) (m.address + line_size m) d);
    }

-- ── A tree ──

unfoldable pub disjoint? : Span → Span → Bool
disjoint? r s = leb r.to s.from || leb s.to r.from

disjoint : (r s : Span) → disjoint? r s ≡ true → Disjoint r s
unfolding disjoint?
disjoint r s e = one-le r.to s.from s.to r.from e

unfoldable pub apart? : List Span → Bool
apart? [] = true
apart? (r ∷ rs) = every? (disjoint? r) rs && apart? rs

apart : (rs : List Span) → apart? rs ≡ true → Apart rs
unfolding apart?
apart [] e = tt
apart (r ∷ rs) e = let (a, b) = both_true (every? (disjoint? r) rs) (apart? rs) e in (λ s i. disjoint r s (every (disjoint? r) rs a s i), apart rs b)

unfoldable pub rows_well? : List FunctionRow → Bool
rows_well? [] = true
rows_well? (q ∷ rs) =
    row_well? q && (every? (inlinee_well? q) (inlinees q.depth rs) && (apart? (all_reaches (inlinees q.depth rs)) && rows_well? rs))

rows-well : (qs : List FunctionRow) → rows_well? qs ≡ true → RowsWell qs
unfolding rows_well?
rows-well [] e = tt
rows-well (q ∷ rs) e =
    let (a, e₁) = both_true (row_well? q) _ e in
    let (b, e₂) = both_true (every? (inlinee_well? q) (inlinees q.depth rs)) _ e₁ in
    let (c, d) = both_true (apart? (all_reaches (inlinees q.depth rs))) (rows_well? rs) e₂ in
    (row-well q a, λ k i. inlinee-well q k (every (inlinee_well? q) (inlinees q.depth rs) b k i), apart (all_reaches (inlinees q.depth rs)) c, rows-well rs d)

unfoldable pub nested? : Given → Bool
nested? (tree_rows q rs) = not q.inline && (every? (λ r. r.inline) rs && rows_well? (q ∷ rs))
nested? (symbol_row y) = true

nested : (g : Given) → nested? g ≡ true → Nested g
unfolding nested?
nested (tree_rows q rs) e =
    let (a, e₁) = both_true (not q.inline) _ e in
    let (b, c) = both_true (every? (λ r. r.inline) rs) (rows_well? (q ∷ rs)) e₁ in
    (not-true q.inline a, every (λ r. r.inline) rs b, rows-well (q ∷ rs) c)
nested (symbol_row y) e = tt

-- ── Between the calls ──

unfoldable pub not_in? : ℕ → FunctionRow → Bool
not_in? k q = leb k q.address || leb (q.address + q.size) k

unfoldable pub symbol_clear? : FunctionRow → SymbolRow → Bool
symbol_clear? q y =
    symbol_skipped y
    || (not_in? y.address q && (eqb y.size 0 || (ltb MAX (y.address + y.size) || not_in? (y.address + y.size) q)))

unfoldable pub separate? : Given → Given → Bool
separate? (tree_rows q rs) (tree_rows p ps) = leb (q.address + q.size) p.address || leb (p.address + p.size) q.address
separate? (tree_rows q rs) (symbol_row y) = symbol_clear? q y
separate? (symbol_row y) (tree_rows q rs) = symbol_clear? q y
separate? (symbol_row y) (symbol_row z) = true

unfoldable pub all-separate? : List Given → Bool
all-separate? [] = true
all-separate? (g ∷ gs) = every? (separate? g) gs && all-separate? gs

not_in : (k : ℕ) (q : FunctionRow) → not_in? k q ≡ true → NotIn k q
unfolding not_in?
not_in k q e = one-le k q.address (q.address + q.size) k e

-- a symbol that counts is not skipped
not-skipped : (y : SymbolRow) → Counted y → symbol_skipped y ≡ true → ⊥
not-skipped y c e = go y.name c.0 e
  where
    go : (t : Option Text) → Named t → elim t [ none ↦ true | some u ↦ ltb MAX y.address ] ≡ true → ⊥
    go none n h = n
    go (some u) n h = let above : MAX < y.address = ltb-true MAX y.address h in let below : y.address ≤ MAX = c.1 in omega arith

symbol-clear : (q : FunctionRow) (y : SymbolRow) → symbol_clear? q y ≡ true → SymbolClear q y
unfolding symbol_clear?
symbol-clear q y e = record { start = λ c. (both c).0; end = λ c z m. at-end z m (both c).1 }
  where
    ends? : Bool
    ends? = eqb y.size 0 || (ltb MAX (y.address + y.size) || not_in? (y.address + y.size) q)

    both : Counted y → NotIn y.address q × (ends? ≡ true)
    both c = go (either_true (symbol_skipped y) (not_in? y.address q && ends?) e)
      where
        go : (symbol_skipped y ≡ true) ⊎ ((not_in? y.address q && ends?) ≡ true) → NotIn y.address q × (ends? ≡ true)
        go (inl h) = absurd (not-skipped y c h)
        go (inr h) = let (a, b) = both_true (not_in? y.address q) ends? h in (not_in y.address q a, b)

    at-end : 0 < y.size → y.address + y.size ≤ MAX → ends? ≡ true → NotIn (y.address + y.size) q
    at-end z m h = go (either_true (eqb y.size 0) _ h)
      where
        after : (ltb MAX (y.address + y.size) ≡ true) ⊎ (not_in? (y.address + y.size) q ≡ true) → NotIn (y.address + y.size) q
        after (inl k) = let above : MAX < y.address + y.size = ltb-true MAX (y.address + y.size) k in absurd (omega arith)
        after (inr k) = not_in (y.address + y.size) q k

        go : (eqb y.size 0 ≡ true) ⊎ ((ltb MAX (y.address + y.size) || not_in? (y.address + y.size) q) ≡ true) → NotIn (y.address + y.size) q
        go (inl k) = let none : y.size ≡ 0 = eqb-true y.size 0 k in absurd (omega arith)
        go (inr k) = after (either_true (ltb MAX (y.address + y.size)) (not_in? (y.address + y.size) q) k)

separate : (g h : Given) → separate? g h ≡ true → Separate g h
unfolding separate?
separate (tree_rows q rs) (tree_rows p ps) e = one-le (q.address + q.size) p.address (p.address + p.size) q.address e
separate (tree_rows q rs) (symbol_row y) e = symbol-clear q y e
separate (symbol_row y) (tree_rows q rs) e = symbol-clear q y e
separate (symbol_row y) (symbol_row z) e = tt

all-separate : (gs : List Given) → all-separate? gs ≡ true → AllSeparate gs
unfolding all-separate?
all-separate [] e = tt
all-separate (g ∷ gs) e =
    let (a, b) = both_true (every? (separate? g) gs) (all-separate? gs) e in
    (λ h i. separate g h (every (separate? g) gs a h i), all-separate gs b)

-- ── The premises ──

unfoldable pub premises? : List Given → Bool
premises? gs = every? nested? gs && all-separate? gs

pub premises : (gs : List Given) → premises? gs ≡ true → Premises gs
unfolding premises?
premises gs e =
    let (a, b) = both_true (every? nested? gs) (all-separate? gs) e in
    record { nested = λ g i. nested g (every nested? gs a g i); separate = all-separate gs b }

-- ── K13's premises ──

unfoldable pub symbol_well? : Given → Bool
symbol_well? (tree_rows q rs) = true
symbol_well? (symbol_row y) = symbol_skipped y || (ltb 0 y.size && leb (y.address + y.size) MAX)

unfoldable pub symbols_apart? : Given → Given → Bool
symbols_apart? (tree_rows q rs) (tree_rows p ps) = true
symbols_apart? (tree_rows q rs) (symbol_row y) = symbol_skipped y || disjoint? (root_extent q) (symbol_extent y)
symbols_apart? (symbol_row y) (tree_rows q rs) = symbol_skipped y || disjoint? (symbol_extent y) (root_extent q)
symbols_apart? (symbol_row y) (symbol_row z) = symbol_skipped y || (symbol_skipped z || disjoint? (symbol_extent y) (symbol_extent z))

unfoldable pub all_symbols_apart? : List Given → Bool
all_symbols_apart? [] = true
all_symbols_apart? (g ∷ gs) = every? (symbols_apart? g) gs && all_symbols_apart? gs

unfoldable pub symbols_well? : List Given → Bool
symbols_well? gs = every? symbol_well? gs && all_symbols_apart? gs

-- what is tested of a symbol that counts
of_counted : (y : SymbolRow) (t : Bool) → (symbol_skipped y || t) ≡ true → Counted y → t ≡ true
of_counted y t e c = ⊎_elim (λ h. absurd (not-skipped y c h)) (λ h. h) (either_true (symbol_skipped y) t e)

symbol-well : (gs : List Given) → every? symbol_well? gs ≡ true → (y : SymbolRow) → symbol_row y ∈ gs → Counted y → (ltb 0 y.size && leb (y.address + y.size) MAX) ≡ true
unfolding symbol_well?
symbol-well gs e y i c = of_counted y _ (every symbol_well? gs e (symbol_row y) i) c

symbols_apart : (g h : Given) → symbols_apart? g h ≡ true → SymbolsApart g h
unfolding symbols_apart?
symbols_apart (tree_rows q rs) (tree_rows p ps) e = tt
symbols_apart (tree_rows q rs) (symbol_row y) e = λ c. disjoint (root_extent q) (symbol_extent y) (of_counted y _ e c)
symbols_apart (symbol_row y) (tree_rows q rs) e = λ c. disjoint (symbol_extent y) (root_extent q) (of_counted y _ e c)
symbols_apart (symbol_row y) (symbol_row z) e = λ c d. disjoint (symbol_extent y) (symbol_extent z) (of_counted z _ (of_counted y _ e c) d)

all_symbols_apart : (gs : List Given) → all_symbols_apart? gs ≡ true → AllSymbolsApart gs
unfolding all_symbols_apart?
all_symbols_apart [] e = tt
all_symbols_apart (g ∷ gs) e =
    let (a, b) = both_true (every? (symbols_apart? g) gs) (all_symbols_apart? gs) e in
    (λ h i. symbols_apart g h (every (symbols_apart? g) gs a h i), all_symbols_apart gs b)

pub symbols_well : (gs : List Given) → symbols_well? gs ≡ true → SymbolsWell gs
unfolding symbols_well?
symbols_well gs e =
    let (a, b) = both_true (every? symbol_well? gs) (all_symbols_apart? gs) e in
    record {
      sized = λ y i c. ltb-true 0 y.size (both_true _ _ (symbol-well gs a y i c)).0;
      low = λ y i c. leb-true (y.address + y.size) MAX (both_true (ltb 0 y.size) (leb (y.address + y.size) MAX) (symbol-well gs a y i c)).1;
      apart = all_symbols_apart gs b;
    }

-- x is in no extent
unfoldable pub outside? : ℕ → Given → Bool
outside? x (tree_rows q rs) = not (coversb (root_extent q) x)
outside? x (symbol_row y) = symbol_skipped y || not (coversb (symbol_extent y) x)

uncovered : (r : Span) (x : ℕ) → not (coversb r x) ≡ true → Covers r x → ⊥
uncovered r x e c = false-true (rw (le-leb r.from x c.0, lt-ltb x r.to c.1) at e)

one_outside : (x : ℕ) (g : Given) → outside? x g ≡ true → InExtent g x → ⊥
unfolding outside?
one_outside x (tree_rows q rs) e c = uncovered (root_extent q) x e c
one_outside x (symbol_row y) e c = uncovered (symbol_extent y) x (of_counted y _ e c.0) c.1

pub outside : (x : ℕ) (gs : List Given) → every? (outside? x) gs ≡ true → (g : Given) → g ∈ gs → InExtent g x → ⊥
outside x gs e g i = one_outside x g (every (outside? x) gs e g i)
