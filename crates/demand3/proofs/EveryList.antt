-- EVERY LIST OF CALLS AFTER A BEGINNING, refusals and all. The list stands either open, and then the memory holds the plain tables after the calls that count, which fit; or closed, and then
-- the memory is zero and every call is 19. Of each call: its number, by the plain converter alone (17 exactly where the plain tables after it would not fit), and that a refusal other than 17
-- changes nothing.
use mathlib.Core.Path.{◌≡◌, refl, sym, ap, ◌∙◌, subst}
use mathlib.Core.Bool.{Bool, true, false, cond}
use mathlib.Core.Option.{none, some}
use mathlib.Core.Logic.{◌⊎◌, inl, inr, ◌≢◌, ⊎_elim}
use mathlib.Core.List.{List, [], ◌∷◌, ◌++◌, map}
use Prim.Native.Nat.{ℕ}
use native.Mathlib.Omega.{arith}
use lib.Dec.{eqb}
use lib.ListN.{length}
use borrow.Author.Tests.{eqb-true, eqb-false, eq-eqb, ne_eqb}
use Rattle.slices.proofs.Cases.{none-some, both_true, both_of}
use Rattle.text.specs.Utf8.{utf8}
use Rattle.model.specs.Basics.{◌∈◌, here, there}
use Rattle.model.specs.Rows.{Text, Given, symbol_row}
use Rattle.model.specs.Machine.{convert_m, start_m, convert_symbol_m, convert_op_m, run_m}
use Rattle.model.specs.Converter.{Setup, Tables, input, deep, op, converted}
use Rattle.model.specs.Counts.{plain_fits?}
use Rattle.model.proofs.Spans.{∈-elim, ∈-append}
use Rattle.model.proofs.Compact.{GivenFits, SymbolFits}
use Rattle.model.proofs.Grown.{room}
use Rattle.rows.specs.Columns.{Columns, tree_rows_lem, text_of, root_row, later_rows}
use Rattle.refusals.specs.Refusals.{tree_refusal, shaped?, shallow?, texts?, ends?, room?, inside?, optional?, readable?}
use Rattle.rows.specs.declared.OptionalPart.{OptionalPart}
use Rattle.rows.specs.declared.LineRow.{LineRow}
use Rattle.refusals.proofs.Accepted.{Accepted, accepted, given-fits}
use Rattle.memory.specs.Memory.{Memory, Words}
use Rattle.steps.specs.Steps.{over_words}
use Rattle.memory.specs.declared.Converter.{Converter}
use Rattle.steps.proofs.Lengths.{Lens}
use Rattle.symbol_call.specs.Calls.{Called, called, setup, finished, symbol_of}
use Rattle.writer.specs.Calls.{rows_converted, tree_counted, tree_of}
use Rattle.slices.specs.Slices.{zeros}
use Rattle.memory.specs.Record.{usable_in, words_of_lem, usable?, begun, begin_of}
use Rattle.steps.specs.Symbols.{symbol_row_lem}
use Rattle.line_rows.specs.Lines.{line_columns}
use Rattle.line_calls.specs.Calls.{lines_of}
use Rattle.line_calls.proofs.AsTree.{scratch_had, kept, lines_tree as lines-tree-is}
use Rattle.demand3.specs.Lists.{Call, tree, lines_tree, symbol, write, with_accepted, given_tree, Standing, next, run, by_value, beginning, due, Typed}
use Rattle.demand3.proofs.Encoding.{capacities, Enc, has_room, enc-room, enc-fits}
use Rattle.demand3.proofs.OneCall.{Left, call-left, tree_is, symbol-is, converted-more, lengths_of, zero-memory, zero-lengths, begun-holds}

-- ── The invariant: n are the lent lengths, b is the record as it was begun ──

-- the record as it was begun: without what is in use and what was counted
abbrev pub identity : Converter → Converter
identity c = begun c.debug_id c.arch c.undecorate_functions c.undecorate_symbols

pub record Open (n : Lens) (b : Converter) (r : Standing Converter) : Type 0 where
  pub began : identity r.carrier ≡ b
  pub opened : r.carrier.«open» ≡ true
  pub enc : Enc n (converted (setup b) r.counted) (words_of_lem r.carrier r.memory)
  pub fitting : (g : Given) → g ∈ r.counted → GivenFits g  -- what 14 leaves

pub record Closed (n : Lens) (r : Standing Converter) : Type 0 where
  pub closed : r.carrier.«open» ≡ false
  pub zero : r.memory ≡ zero-memory n

abbrev pub Stands : Lens → Converter → Standing Converter → Type 0
Stands n b r = Open n b r ⊎ Closed n r

-- the tables of an open list fit the lent ones
pub open_fits : (n : Lens) (b : Converter) (r : Standing Converter) → Open n b r → plain_fits? (capacities n) (converted (setup b) r.counted) ≡ true
open_fits n b r h = room (capacities n) _ (enc-fits n _ _ h.enc)

-- "A table's capacity is its lent length": the lengths stay as they were lent
pub lengths-stay : (n : Lens) (b : Converter) (r : Standing Converter) → Stands n b r → lengths_of r.memory ≡ n
lengths-stay n b r (inl h) = h.enc.lent
lengths-stay n b r (inr h) = ap lengths_of h.zero ∙ zero-lengths n

-- ── 19 ──

open_usable : (n : Lens) (b : Converter) (r : Standing Converter) → Open n b r → usable? r.carrier r.memory ≡ true
unfolding usable_in
open_usable n b r h = both_of _ _ h.opened (has_room _ (enc-room n _ _ h.enc))

closed_unusable : (n : Lens) (r : Standing Converter) → Closed n r → usable? r.carrier r.memory ≡ false
unfolding usable_in
closed_unusable n r h = rw h.closed

-- closed: 19, and nothing changes
pub closed-tree : (n : Lens) (r : Standing Converter) (k : Columns) (s : List ℕ) → Closed n r → tree_of r.carrier r.memory s k ≡ called 19 r.carrier r.memory s
unfolding tree_of
closed-tree n r k s h = rw (closed_unusable n r h)

pub closed-symbol : (n : Lens) (r : Standing Converter) (t : List ℕ) (address size : ℕ) (name : OptionalPart) → Closed n r → symbol_of r.carrier r.memory t address size name ≡ called 19 r.carrier r.memory []
unfolding symbol_of
closed-symbol n r t address size name h = rw (closed_unusable n r h)

-- ── An accepted call ──

-- where a call given g leaves a list that stood at r
abbrev after : Called → Given → Standing Converter → Standing Converter
after o g r = record { carrier = o.converter; memory = o.memory; counted = with_accepted o.code g r.counted }

-- what an accepted call g leaves and answers, s being its scratch
pub record Done (n : Lens) (b : Converter) (r : Standing Converter) (g : Given) (s : List ℕ) (o : Called) : Type 0 where
  pub code : o.code ≡ due (capacities n) (setup b) r.counted g
  pub stands : Stands n b (after o g r)
  pub scratch : o.scratch ≡ zeros s

module _ (n : Lens) (b : Converter) (r : Standing Converter) (g : Given) (s : List ℕ) (h : Open n b r) (fit : GivenFits g) where
  abbrev X : Setup
  X = setup b

  abbrev before : Tables
  before = converted X r.counted

  abbrev w : Words
  w = words_of_lem r.carrier r.memory

  abbrev u : Words
  u = convert_op_m input (over_words X) (op g) w

  left : Left n (converted X (r.counted ++ (g ∷ []))) u
  left = subst (λ (t : Tables). Left n t u) (sym (converted-more X r.counted g)) (call-left n X g before w h.enc)

  fits_more : (f : Given) → f ∈ (r.counted ++ (g ∷ [])) → GivenFits f
  fits_more = go r.counted h.fitting
    where
      go : (gs : List Given) → ((f : Given) → f ∈ gs → GivenFits f) → (f : Given) → f ∈ (gs ++ (g ∷ [])) → GivenFits f
      go gs k f i = ⊎_elim (λ j. k f j) (λ j. ∈-elim GivenFits fit (λ y z. elim z [ ]) f j) (∈-append gs i)

  -- whatever the record counts
  pub done : (c : Converter) → identity c ≡ identity r.carrier → Done n b r g s (finished c s u)
  unfolding finished
  done c i = go (plain_fits? (capacities n) (converted X (r.counted ++ (g ∷ [])))) refl
    where
      go : (f : Bool) → plain_fits? (capacities n) (converted X (r.counted ++ (g ∷ []))) ≡ f → Done n b r g s (finished c s u)
      go true e =
          rw (left.same ∙ e)
          (record {
            code = rw e;
            stands = inl (record { began = i ∙ h.began; opened = refl; enc = left.enc e; fitting = fits_more });
            scratch = refl;
          })
      go false e = rw (left.same ∙ e) (record { code = rw e; stands = inr (record { closed = refl; zero = ap zero-memory left.lent }); scratch = refl })

-- ── A tree ──

due_17 : (f : Bool) → ◌≡◌ {A = ℕ} (cond f 0 17) 17 → f ≡ false
due_17 true e = absurd (omega arith)
due_17 false e = refl

other_refusals : (k : Columns) (s : ℕ) → tree_refusal k s ≢ 17
unfolding tree_refusal
other_refusals k s = go (shaped? k) (shallow? k) (texts? k) (ends? k) (room? k s)
  where
    go : (a x b c d : Bool) → ◌≢◌ {A = ℕ} (cond a (cond x (cond b (cond c (cond d 0 16) 15) 14) 25) 13) 17
    go false x b c d e = absurd (omega arith)
    go true false b c d e = absurd (omega arith)
    go true true false c d e = absurd (omega arith)
    go true true true false d e = absurd (omega arith)
    go true true true true false e = absurd (omega arith)
    go true true true true true e = absurd (omega arith)

tree-usable : (c : Converter) (m : Memory) (s : List ℕ) (k : Columns) → usable? c m ≡ true
    → tree_of c m s k ≡ cond (eqb (tree_refusal k (length s)) 0) (finished (tree_counted c k) s (rows_converted c m k)) (called (tree_refusal k (length s)) c m s)
unfolding tree_of
tree-usable c m s k e = rw e

module _ (n : Lens) (b : Converter) (r : Standing Converter) (k : Columns) (s : List ℕ) (h : Open n b r) where
  abbrev refusal : ℕ
  refusal = tree_refusal k (length s)

  -- "Every other refusal changes no lent byte and no state"
  pub tree-refused : refusal ≢ 0 → tree_of r.carrier r.memory s k ≡ called refusal r.carrier r.memory s
  tree-refused z = tree-usable r.carrier r.memory s k (open_usable n b r h) ∙ rw (ne_eqb refusal 0 z)

  -- the words that a tree leaves, as the model has them
  rows_are : refusal ≡ 0 → rows_converted r.carrier r.memory k ≡ convert_op_m input (over_words (setup b)) (op (given_tree k)) (words_of_lem r.carrier r.memory)
  rows_are z =
      let a : Accepted k (length s) = accepted k (length s) z in
      let w = words_of_lem r.carrier r.memory in
      let e : setup r.carrier ≡ setup b = ap setup h.began in
      ap (λ (X : Setup). convert_m input (over_words X) (map deep (tree_rows_lem k)) (start_m input (over_words X)) w) e
      ∙ ap (λ l. convert_m input (over_words (setup b)) (map deep l) (start_m input (over_words (setup b))) w) a.rows_are
      ∙ tree_is (setup b) (root_row k) (later_rows k) w a.first

  pub tree-accepted : Typed (tree k s) → refusal ≡ 0 → Done n b r (given_tree k) s (tree_of r.carrier r.memory s k)
  tree-accepted t z =
      let a : Accepted k (length s) = accepted k (length s) z in
      let c : Converter = tree_counted r.carrier k in
      let e : tree_of r.carrier r.memory s k ≡ finished c s (convert_op_m input (over_words (setup b)) (op (given_tree k)) (words_of_lem r.carrier r.memory)) =
      tree-usable r.carrier r.memory s k (open_usable n b r h) ∙ rw (eq-eqb refusal 0 z) (ap (finished c s) (rows_are z)) in
      subst (Done n b r (given_tree k) s) (sym e) (done n b r (given_tree k) s h (given-fits k a.texts a.shape t) c refl)

  -- the number of a tree: 13, 25, 14, 15, 16 as they are due; else 17 if the plain tables after it would not fit; else 0
  pub tree-number : Typed (tree k s) → (tree_of r.carrier r.memory s k).code ≡ cond (eqb refusal 0) (due (capacities n) (setup b) r.counted (given_tree k)) refusal
  tree-number t = go (eqb refusal 0) refl
    where
      go : (f : Bool) → eqb refusal 0 ≡ f → (tree_of r.carrier r.memory s k).code ≡ cond f (due (capacities n) (setup b) r.counted (given_tree k)) refusal
      go true e = (tree-accepted t (eqb-true refusal 0 e)).code
      go false e = ap (λ (o : Called). o.code) (tree-refused (eqb-false refusal 0 e))

  tree-stands : Typed (tree k s) → Stands n b (next by_value (tree k s) r)
  unfolding next
  tree-stands t = go (eqb refusal 0) refl
    where
      go : (f : Bool) → eqb refusal 0 ≡ f → Stands n b (after (tree_of r.carrier r.memory s k) (given_tree k) r)
      go true e = (tree-accepted t (eqb-true refusal 0 e)).stands
      go false e = rw (tree-refused (eqb-false refusal 0 e), e) (inl h)

  -- 17 EXACTLY WHERE IT IS DUE: nothing else is to be refused, and the plain tables after the call need more than a capacity
  pub tree_17 : Typed (tree k s) → (tree_of r.carrier r.memory s k).code ≡ 17 → (refusal ≡ 0) × (plain_fits? (capacities n) (converted (setup b) (r.counted ++ (given_tree k ∷ []))) ≡ false)
  tree_17 t e = go (eqb refusal 0) refl (sym (tree-number t) ∙ e)
    where
      go : (f : Bool) → eqb refusal 0 ≡ f → cond f (due (capacities n) (setup b) r.counted (given_tree k)) refusal ≡ 17
          → (refusal ≡ 0) × (plain_fits? (capacities n) (converted (setup b) (r.counted ++ (given_tree k ∷ []))) ≡ false)
      go true a z = (eqb-true refusal 0 a, due_17 (plain_fits? (capacities n) (converted (setup b) (r.counted ++ (given_tree k ∷ [])))) z)
      go false a z = absurd (other_refusals k (length s) z)

-- ── A tree whose line rows are a list ──

-- Of the standing it is a tree call over the columns that the rows stand for: with its own scratch where there is room to unpack them, else with none
module _ (f64 f32 : List ℕ) (ls : List LineRow) (x s u v : List ℕ) (r : Standing Converter) where
  abbrev cols : Columns
  cols = line_columns f64 f32 ls x

  abbrev pub scratch_of : List ℕ
  scratch_of = scratch_had r.carrier r.memory s u v cols

  abbrev lines-outcome : Called
  lines-outcome = (lines_of r.carrier r.memory s u v cols).called

  same_kept : kept r.carrier r.memory s u v cols lines-outcome ≡ kept r.carrier r.memory s u v cols (tree_of r.carrier r.memory scratch_of cols)
  same_kept = lines-tree-is r.carrier r.memory s u v cols

  pub lines_next : next by_value (lines_tree f64 f32 ls x s u v) r ≡ next by_value (tree cols scratch_of) r
  unfolding next
  lines_next = λ i. record { carrier = (same_kept i).1.0; memory = (same_kept i).1.1; counted = with_accepted (same_kept i).0 (given_tree cols) r.counted }

  -- its number, and 17 exactly where it is due
  pub lines-number : (n : Lens) (b : Converter) → Open n b r → Typed (lines_tree f64 f32 ls x s u v)
      → lines-outcome.code ≡ cond (eqb (tree_refusal cols (length scratch_of)) 0) (due (capacities n) (setup b) r.counted (given_tree cols)) (tree_refusal cols (length scratch_of))
  lines-number n b h t = (λ i. (same_kept i).0) ∙ tree-number n b r cols scratch_of h t

  pub lines_17 : (n : Lens) (b : Converter) → Open n b r → Typed (lines_tree f64 f32 ls x s u v) → lines-outcome.code ≡ 17
      → (tree_refusal cols (length scratch_of) ≡ 0) × (plain_fits? (capacities n) (converted (setup b) (r.counted ++ (given_tree cols ∷ []))) ≡ false)
  lines_17 n b h t e = tree_17 n b r cols scratch_of h t (sym (ap (λ (x : ℕ × (Converter × Memory)). x.0) same_kept) ∙ e)

-- ── A symbol ──

symbol-usable : (c : Converter) (m : Memory) (t : List ℕ) (address size : ℕ) (name : OptionalPart) → usable? c m ≡ true
    → symbol_of c m t address size name ≡ cond (optional? t name) (finished c [] (convert_symbol_m input (over_words (setup c)) (symbol_row_lem t address size name) (words_of_lem c m))) (called 14 c m [])
unfolding symbol_of
symbol-usable c m t address size name e = rw e

-- what 14 leaves
symbol-fits : (t : List ℕ) (address size : ℕ) (name : OptionalPart) → optional? t name ≡ true → SymbolFits (symbol_row_lem t address size name)
unfolding optional? readable?
symbol-fits t address size name e x z = go name.present e z
  where
    go : (f : Bool) → cond f (readable? t name.part) true ≡ true → cond f (some (text_of t name.part)) none ≡ some x → utf8 x ≡ true
    go true a c = let y : text_of t name.part ≡ x = cc in subst (λ (v : Text). utf8 v ≡ true) y (both_true (inside? t name.part) (utf8 (text_of t name.part)) a).1
    go false a c = none-some c

module _ (n : Lens) (b : Converter) (r : Standing Converter) (t : List ℕ) (address size : ℕ) (name : OptionalPart) (h : Open n b r) where
  abbrev g : Given
  g = symbol_row (symbol_row_lem t address size name)

  abbrev outcome : Called
  outcome = symbol_of r.carrier r.memory t address size name

  pub symbol-refused : optional? t name ≡ false → outcome ≡ called 14 r.carrier r.memory []
  symbol-refused z = symbol-usable r.carrier r.memory t address size name (open_usable n b r h) ∙ rw z

  pub symbol-accepted : optional? t name ≡ true → Done n b r g [] outcome
  symbol-accepted z =
      let w = words_of_lem r.carrier r.memory in
      let e : setup r.carrier ≡ setup b = ap setup h.began in
      let i : outcome ≡ finished r.carrier [] (convert_op_m input (over_words (setup b)) (op g) w) =
      symbol-usable r.carrier r.memory t address size name (open_usable n b r h)
      ∙ rw z (ap (λ (X : Setup). finished r.carrier [] (convert_symbol_m input (over_words X) (symbol_row_lem t address size name) w)) e ∙ ap (finished r.carrier []) (symbol-is (setup b) (symbol_row_lem t address size name) w)) in
      subst (Done n b r g []) (sym i) (done n b r g [] h (symbol-fits t address size name z) r.carrier refl)

  -- the number of a symbol: 14 as it is due; else 17 if the plain tables after it would not fit; else 0
  pub symbol-number : outcome.code ≡ cond (optional? t name) (due (capacities n) (setup b) r.counted g) 14
  symbol-number = go (optional? t name) refl
    where
      go : (f : Bool) → optional? t name ≡ f → outcome.code ≡ cond f (due (capacities n) (setup b) r.counted g) 14
      go true e = (symbol-accepted e).code
      go false e = ap (λ (o : Called). o.code) (symbol-refused e)

  pub symbol_17 : outcome.code ≡ 17 → (optional? t name ≡ true) × (plain_fits? (capacities n) (converted (setup b) (r.counted ++ (g ∷ []))) ≡ false)
  symbol_17 e = go (optional? t name) refl (sym symbol-number ∙ e)
    where
      go : (f : Bool) → optional? t name ≡ f → cond f (due (capacities n) (setup b) r.counted g) 14 ≡ 17 → (optional? t name ≡ true) × (plain_fits? (capacities n) (converted (setup b) (r.counted ++ (g ∷ []))) ≡ false)
      go true a z = (a, due_17 (plain_fits? (capacities n) (converted (setup b) (r.counted ++ (g ∷ [])))) z)
      go false a z = absurd (omega arith)

  symbol-stands : Stands n b (next by_value (symbol t address size name) r)
  unfolding next
  symbol-stands = go (optional? t name) refl
    where
      go : (f : Bool) → optional? t name ≡ f → Stands n b (after outcome g r)
      go true e = (symbol-accepted e).stands
      go false e = rw (symbol-refused e) (inl h)

-- ── Every list ──

-- closed, a list stays as it is
closed-next : (n : Lens) (r : Standing Converter) (k : Call) → Closed n r → Closed n (next by_value k r)
unfolding next
closed-next n r (tree k s) h = rw (closed-tree n r k s h) h
closed-next n r (lines_tree f64 f32 ls x s u v) h =
    subst (Closed n) (sym (lines_next f64 f32 ls x s u v r)) (rw (closed-tree n r (line_columns f64 f32 ls x) (scratch_of f64 f32 ls x s u v r) h) h)
closed-next n r (symbol t address size name) h = rw (closed-symbol n r t address size name h) h
closed-next n r (write output) h = h

pub one_more : (n : Lens) (b : Converter) (r : Standing Converter) (k : Call) → Typed k → Stands n b r → Stands n b (next by_value k r)
unfolding next
one_more n b r k t (inr h) = inr (closed-next n r k h)
one_more n b r (tree k s) t (inl h) = tree-stands n b r k s h t
one_more n b r (lines_tree f64 f32 ls x s u v) t (inl h) =
    subst (Stands n b) (sym (lines_next f64 f32 ls x s u v r)) (tree-stands n b r (line_columns f64 f32 ls x) (scratch_of f64 f32 ls x s u v r) h t)
one_more n b r (symbol x address size name) t (inl h) = symbol-stands n b r x address size name h
one_more n b r (write output) t (inl h) = inl h

pub every_more : (n : Lens) (b : Converter) (ks : List Call) (r : Standing Converter) → ((k : Call) → k ∈ ks → Typed k) → Stands n b r → Stands n b (run by_value ks r)
unfolding run
every_more n b [] r t h = h
every_more n b (k ∷ ks) r t h = every_more n b ks (next by_value k r) (λ j i. t j (there i)) (one_more n b r k (t k here) h)

-- a beginning stands open, with nothing counted
pub begun_open : (id : List ℕ) (arch : ℕ) (f s : Bool) (m : Memory) → Open (lengths_of m) (begin_of id arch f s m).0 (beginning id arch f s m)
unfolding begin_of run_m
begun_open id arch f s m = record { began = refl; opened = refl; enc = begun-holds (lengths_of m); fitting = λ g i. elim i [ ] }

-- EVERY LIST
pub every-list : (id : List ℕ) (arch : ℕ) (f s : Bool) (m : Memory) (ks : List Call) → ((k : Call) → k ∈ ks → Typed k) → Stands (lengths_of m) (begin_of id arch f s m).0 (run by_value ks (beginning id arch f s m))
every-list id arch f s m ks t = every_more (lengths_of m) (begin_of id arch f s m).0 ks (beginning id arch f s m) t (inl (begun_open id arch f s m))
