-- DEMAND 3 IS PROVED. A write that answers 0 finds the list open, so the memory holds the plain tables of the counted calls (EveryList); what it writes is their file (WrittenFile); and of that
-- file's bytes crate read_back has demand 3. What is left here: the depths that 13 and 25 leave, and that the answer 0 is the file and not 18 or 19.
use mathlib.Core.Path.{◌≡◌, refl, sym, ap, ◌∙◌, subst}
use mathlib.Core.Bool.{Bool, true, false, cond, ◌&&◌}
use mathlib.Core.Option.{Option, none, some}
use mathlib.Core.Logic.{◌≢◌, ⊎_elim}
use mathlib.Core.List.{List, [], ◌∷◌, ◌++◌, map, append-nil}
use Prim.Native.Nat.{ℕ, ◌^◌, ◌≤◌, ◌<◌}
use native.Mathlib.Omega.{arith}
use lib.Dec.{eqb, leb, ltb}
use lib.ListN.{length, drop}
use lib.Seq.{take_at}
use borrow.Author.Tests.{eqb-true, le-leb, lt-ltb}
use Rattle.slices.proofs.Cases.{none-some}
use Rattle.model.specs.Basics.{◌∈◌, here, there, Covers}
use Rattle.model.specs.Rows.{MAX, LineRow, FunctionRow, Given, tree_rows, symbol_row}
use Rattle.model.specs.Converter.{Setup, converted}
use Rattle.model.specs.Frames.{Frame as PlainFrame, frames_at}
use Rattle.model.specs.Counts.{Capacities, plain_fits?}
use Rattle.model.specs.Premises.{reach, Legal, WellNested, line_at_lem, nested_at}
use Rattle.model.specs.Written.{as_written}
use Rattle.model.specs.FileWords.{sections}
use Rattle.model.proofs.Spans.{∈-elim, ∈-append, ∈-left}
use Rattle.model.proofs.Demand.{demand-root, demand-stack, alone}
use Rattle.model.proofs.Gaps.{shown_too, symbols_and_gaps}
use Rattle.rows.specs.Columns.{Columns}
use Rattle.refusals.specs.Refusals.{tree_refusal}
use Rattle.refusals.proofs.Accepted.{accepted}
use Rattle.memory.specs.declared.Converter.{Converter}
use Rattle.steps.proofs.Lengths.{Lens}
use Rattle.serialize.specs.File.{Wrote, wrote, write_answer, serialize_of}
use Rattle.symcache.specs.declared.SymCache.{SymCache}
use Rattle.symcache.specs.Answers.{gives}
use Rattle.symcache.specs.Reader.{layout_of, opened}
use Rattle.lookup.specs.declared.SourceLocations.{SourceLocations}
use Rattle.lookup.specs.Lookup.{looked_up_lem}
use Rattle.read_back.specs.Bytes.{sections_header, file_bytes}
use Rattle.read_back.specs.Shown.{with_stand_in, Walked, Found}
use Rattle.read_back.proofs.Written.{file-shows, file-opened, file-short, file-demand}
use Rattle.symcache.proofs.ReaderLaws.{opened-parsed}
use Rattle.read_back.proofs.Same.{walked_same}
use Rattle.read_back.proofs.NeverCut.{next-ends_by_rule}
use Rattle.symbol_call.specs.Calls.{setup, symbol_of}
use Rattle.writer.specs.Calls.{tree_of}
use Rattle.memory.specs.Record.{usable_in, usable?, begin_of}
use Rattle.steps.specs.Symbols.{symbol_row_lem}
use Rattle.line_rows.specs.Lines.{line_columns}
use Rattle.demand3.specs.Lists.{Call, tree, lines_tree, symbol, write, given_tree, Standing, next, run, by_value, beginning}
use Rattle.demand3.specs.Demand3.{Nested, asked, Reopened, file_written, Demand3}
use Rattle.demand3.proofs.Encoding.{capacities, capacities-lent}
use Rattle.demand3.proofs.OneCall.{lengths_of}
use Rattle.demand3.proofs.EveryList.{Open, Closed, every-list, open_fits, lines_next, scratch_of}
use Rattle.demand3.proofs.WrittenFile.{write-answers}

-- ── The depths of counted trees ──

-- a tree's, and none deeper than 41
abbrev Shaped : Given → Type 0
Shaped (tree_rows q rs) = (q.depth ≡ 0) × (Legal 0 rs × ((r : FunctionRow) → r ∈ rs → r.depth ≤ 41))
Shaped (symbol_row y) = Unit {0}

accepted-tree : (r : Standing Converter) (k : Columns) (s : List ℕ) → (tree_of r.carrier r.memory s k).code ≡ 0 → tree_refusal k (length s) ≡ 0
unfolding tree_of
accepted-tree r k s e = go (usable? r.carrier r.memory) (eqb (tree_refusal k (length s)) 0) refl refl
  where
    go : (a b : Bool) → usable? r.carrier r.memory ≡ a → eqb (tree_refusal k (length s)) 0 ≡ b → tree_refusal k (length s) ≡ 0
    go true true u v = eqb-true (tree_refusal k (length s)) 0 v
    go true false u v = rw (u, v, tree_of) at e
    go false b u v = let bad : ◌≡◌ {A = ℕ} 19 0 = rw (u, tree_of) at e in absurd (omega arith)

tree_shaped : (k : Columns) (s : ℕ) → tree_refusal k s ≡ 0 → Shaped (given_tree k)
tree_shaped k s e = let a = accepted k s e in (a.first, (a.legal, a.shallow))

one_more : (gs : List Given) (g : Given) → ((h : Given) → h ∈ gs → Shaped h) → Shaped g → (h : Given) → h ∈ (gs ++ (g ∷ [])) → Shaped h
one_more gs g a b h i = ⊎_elim (λ j. a h j) (λ j. ∈-elim Shaped b (λ y z. elim z [ ]) h j) (∈-append gs i)

tree-next_shaped : (k : Columns) (s : List ℕ) (r : Standing Converter) → ((g : Given) → g ∈ r.counted → Shaped g) → (g : Given) → g ∈ (next by_value (tree k s) r).counted → Shaped g
unfolding next
tree-next_shaped k s r a = go (eqb (tree_of r.carrier r.memory s k).code 0) refl
  where
    go : (b : Bool) → eqb (tree_of r.carrier r.memory s k).code 0 ≡ b → (g : Given) → g ∈ cond b (r.counted ++ (given_tree k ∷ [])) r.counted → Shaped g
    go true e g i = one_more r.counted (given_tree k) a (tree_shaped k (length s) (accepted-tree r k s (eqb-true _ 0 e))) g i
    go false e g i = a g i

next_shaped : (k : Call) (r : Standing Converter) → ((g : Given) → g ∈ r.counted → Shaped g) → (g : Given) → g ∈ (next by_value k r).counted → Shaped g
unfolding next
next_shaped (tree k s) r a = tree-next_shaped k s r a
next_shaped (lines_tree f64 f32 ls x s u v) r a =
    subst (λ (y : Standing Converter). (g : Given) → g ∈ y.counted → Shaped g) (sym (lines_next f64 f32 ls x s u v r)) (tree-next_shaped (line_columns f64 f32 ls x) (scratch_of f64 f32 ls x s u v r) r a)
next_shaped (symbol t address size name) r a = go (eqb (symbol_of r.carrier r.memory t address size name).code 0)
  where
    go : (b : Bool) (g : Given) → g ∈ cond b (r.counted ++ (symbol_row (symbol_row_lem t address size name) ∷ [])) r.counted → Shaped g
    go true g i = one_more r.counted (symbol_row (symbol_row_lem t address size name)) a tt g i
    go false g i = a g i
next_shaped (write output) r a = a

run_shaped : (ks : List Call) (r : Standing Converter) → ((g : Given) → g ∈ r.counted → Shaped g) → (g : Given) → g ∈ (run by_value ks r).counted → Shaped g
unfolding run
run_shaped [] r a = a
run_shaped (k ∷ ks) r a = run_shaped ks (next by_value k r) (next_shaped k r a)

-- with these, the premises are those of the model
whole : (g : Given) → Nested g → Shaped g → WellNested g
whole (tree_rows q rs) a b = record { first = b.0; legal = b.1.0; root = a.0; others = a.1; rows = a.2 }
whole (symbol_row y) a b = tt

-- ── A line of the root covers the address ──

covers_true : (n : LineRow) (x : ℕ) → Covers (reach n) x → (leb (reach n).from x && ltb x (reach n).to) ≡ true
covers_true n x c = rw (le-leb (reach n).from x c.0, lt-ltb x (reach n).to c.1)

line-found : (ns : List LineRow) (n : LineRow) (x : ℕ) → n ∈ ns → Covers (reach n) x → line_at_lem ns x ≢ none
unfolding line_at_lem
line-found [] n x i c e = elim i [ ]
line-found (m ∷ ns) n x here c e = let z = rw (covers_true n x c) at e in none-some (sym z)
line-found (m ∷ ns) n x (there i) c e = go (leb (reach m).from x && ltb x (reach m).to) refl (line-found ns n x i c)
  where
    go : (b : Bool) → (leb (reach m).from x && ltb x (reach m).to) ≡ b → (line_at_lem ns x ≢ none) → ⊥
    go true z h = let y = rw z at e in none-some (sym y)
    go false z h = h (rw z at e)

found_some : (X : Setup) (q : FunctionRow) (rs : List FunctionRow) (x : ℕ) → line_at_lem q.lines x ≢ none → nested_at X x (q ∷ rs) ≢ []
unfolding nested_at
found_some X q rs x h = go (line_at_lem q.lines x) refl
  where
    go : (o : Option LineRow) → line_at_lem q.lines x ≡ o → nested_at X x (q ∷ rs) ≢ []
    go none e = absurd (h e)
    go (some n) e = λ z. let y = rw (e, nested_at) at z in let bad : ◌≡◌ {A = ℕ} 0 1 = cc in omega arith

-- ── The file of a write that answers 0 ──

-- F where the output holds it, and else 18
taken : (F out : List ℕ) (o : Wrote) → o ≡ write_answer F out → o.code ≡ 0 → file_written o ≡ F
taken F out o e z = go (leb (length F) (length out)) e
  where
    go : (b : Bool) → o ≡ cond b (wrote 0 (length F) (F ++ drop (length F) out)) (wrote 18 0 out) → file_written o ≡ F
    go true h = ap file_written h ∙ take_at F (drop (length F) out) (length F) refl
    go false h = let bad : ◌≡◌ {A = ℕ} 18 0 = sym (ap (λ (w : Wrote). w.code) h) ∙ z in absurd (omega arith)

-- a closed list writes nothing: 19
closed_writes : (n : Lens) (r : Standing Converter) (out : List ℕ) → Closed n r → (serialize_of r.carrier r.memory out).code ≡ 19
unfolding serialize_of usable_in
closed_writes n r out h = rw h.closed

-- what an open list's file shows: f is its bytes
open_shows : (n : Lens) (b : Converter) (r : Standing Converter) (id : List ℕ) (arch : ℕ) (X : Setup) (file : List ℕ) → Open n b r → setup b ≡ X → length id ≡ 32 → arch ≤ MAX
    → ((g : Given) → g ∈ r.counted → Shaped g) → file ≡ file_bytes id arch (sections (as_written (converted X r.counted))) → Reopened id arch X r.counted file
open_shows n b r id arch X file h same size small shaped e =
    record {
      laid_out = e;
      parses = opened-parsed file c opens;
      opens = opens;
      every_address = every;
      ends_by_rule = next-ends_by_rule file;
      few_frames = λ x k fs e w.
          let f = file-shows X gs h.fitting K (capacities-lent n) room id arch size low [] [] x in
          let short = file-short X gs h.fitting K (capacities-lent n) room id arch size low [] [] x 41 (λ q rs i t j. (shaped (tree_rows q rs) i).1.1 t j) in
          let there : looked_up_lem file x ≡ gives f.cursor = subst (λ (l : List ℕ). looked_up_lem l x ≡ gives f.cursor) at f.looked in
          let walk : Walked file f.cursor f.frames = subst (λ (l : List ℕ). Walked l f.cursor f.frames) at f.walked in
          let same : k ≡ f.cursor = cc in
          let long = ap length (walked_same (subst (λ (l : SourceLocations). Walked file l fs) same w) walk) in
          omega arith;
      demanded = λ p q rs i l j x m.
          let well : (g : Given) → g ∈ gs → WellNested g = λ g k. whole g (p.nested g k) (shaped g k) in
          let some : nested_at X x (q ∷ rs) ≢ [] = found_some X q rs x (line-found q.lines l x j m) in
          let dem = demand-root X gs well p.separate q rs i x l j m in
          record {
            frames = λ d. subst (λ (f : List ℕ). Found f d x (asked X d x q rs)) at (file-demand X gs h.fitting K (capacities-lent n) room id arch size low [] d x well p.separate q rs i l j m).0;
            one_a_depth = dem.1;
            by_recursion = sym dem.0 ∙ demand-stack X gs well p.separate q rs i x some;
            alone = λ before after k t ts u. alone X gs well p.separate x q rs before after k some t ts u;
          };
      symbols_and_gaps = λ p w.
          shown_too (λ x fs e d. subst (λ (v : List PlainFrame). Found file d x (map (with_stand_in d) v)) e (every d x))
          (symbols_and_gaps X gs (λ g k. whole g (p.nested g k) (shaped g k)) w);
    }
  where
    gs : List Given
    gs = r.counted

    K : Capacities
    K = capacities n

    low : arch < 2 ^ 32
    low = omega arith

    room : plain_fits? K (converted X gs) ≡ true
    room = subst (λ (Y : Setup). plain_fits? K (converted Y gs) ≡ true) same (open_fits n b r h)

    at : file_bytes id arch (sections (as_written (converted X gs))) ++ [] ≡ file
    at = append-nil _ ∙ sym e

    every : (d : List ℕ) (x : ℕ) → Found file d x (map (with_stand_in d) (frames_at (converted X gs) x))
    every d x = subst (λ (f : List ℕ). Found f d x (map (with_stand_in d) (frames_at (converted X gs) x))) at (file-shows X gs h.fitting K (capacities-lent n) room id arch size low [] d x)

    -- the tables that the header tells of
    c : SymCache
    c = layout_of (sections_header id arch (sections (as_written (converted X gs))))

    opens : opened file ≡ gives c
    opens = subst (λ (f : List ℕ). opened f ≡ gives c) at (file-opened X gs h.fitting K (capacities-lent n) room id arch size low [] [] 0)

-- ── ONE CLAIM ABOUT THE WHOLE LIST ──

among : (before after : List Call) (k c : Call) → k ∈ before → k ∈ (before ++ (c ∷ after))
among before after k c i = ∈-left (c ∷ after) i

pub demand3 : Demand3
unfolding begin_of
demand3 id arch f s m calls size small typed before after out e z =
    ⊎_elim while_open while_closed (every-list id arch f s m before (λ k i. typed k (subst (λ (l : List Call). k ∈ l) (sym e) (among before after k (write out) i))))
  where
    r : Standing Converter
    r = run by_value before (beginning id arch f s m)

    b : Converter
    b = (begin_of id arch f s m).0

    X : Setup
    X = record { functions_on = f; symbols_on = s }

    o : Wrote
    o = serialize_of r.carrier r.memory out

    while_open : Open (lengths_of m) b r → Reopened id arch X r.counted (file_written o)
    while_open h =
        let i : r.carrier.debug_id ≡ id = ap (λ (c : Converter). c.debug_id) h.began in
        let a : r.carrier.arch ≡ arch = ap (λ (c : Converter). c.arch) h.began in
        let w : file_written o ≡ file_bytes r.carrier.debug_id r.carrier.arch (sections (as_written (converted X r.counted))) =
        taken _ out o (write-answers X r.counted (lengths_of m) r.carrier r.memory h.opened h.enc out) z in
        open_shows (lengths_of m) b r id arch X (file_written o) h refl size small (run_shaped before (beginning id arch f s m) (λ g k. elim k [ ])) (rw (i, a) at w)

    while_closed : Closed (lengths_of m) r → Reopened id arch X r.counted (file_written o)
    while_closed h = let bad : ◌≡◌ {A = ℕ} 19 0 = sym (closed_writes (lengths_of m) r out h) ∙ z in absurd (omega arith)
