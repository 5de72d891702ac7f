-- The count of clamped line rows over every list of calls. While the list stands open, the record counts those of the accepted trees, at most 2^64 − 1: each call keeps that.
use mathlib.Core.Path.{◌≡◌, refl, sym, ap, ◌∙◌, subst}
use mathlib.Core.Bool.{Bool, true, false, cond, true≢false}
use mathlib.Core.List.{List, [], ◌∷◌, ◌++◌}
use Prim.Native.Nat.{ℕ, ◌+◌}
use native.Mathlib.Omega.{arith}
use lib.Dec.{eqb}
use lib.ListN.{length}
use borrow.Author.Tests.{eqb-true}
use Rattle.slices.proofs.Cases.{both_true}
use Rattle.model.specs.Rows.{FunctionRow, Given, symbol_row}
use Rattle.model.specs.Machine.{convert_symbol_m}
use Rattle.model.specs.Converter.{input}
use Rattle.rows.specs.Columns.{Columns, tree_rows_lem}
use Rattle.rows.specs.Clamped.{clamped_rows}
use Rattle.rows.specs.declared.OptionalPart.{OptionalPart}
use Rattle.refusals.specs.Refusals.{tree_refusal, optional?}
use Rattle.refusals.proofs.Accepted.{accepted}
use Rattle.memory.specs.Memory.{Memory, Words}
use Rattle.memory.specs.declared.Converter.{Converter}
use Rattle.memory.specs.Record.{fits?, usable?, usable_in, words_of_lem, while_open, capped, clamped_lines_lem, begin_of}
use Rattle.steps.specs.Steps.{over_words}
use Rattle.steps.specs.Symbols.{symbol_row_lem}
use Rattle.symbol_call.specs.Calls.{Called, called, setup, finished, symbol_of}
use Rattle.writer.specs.Calls.{rows_converted, tree_counted, tree_of}
use Rattle.line_rows.specs.Lines.{line_columns}
use Rattle.demand3.specs.Lists.{Call, tree, lines_tree, symbol, write, with_accepted, given_tree, Standing, next, run, by_value, beginning}
use Rattle.demand3.specs.Clamped.{clamped_in, clamped_calls, ClampedCounted}
use Rattle.demand3.proofs.EveryList.{scratch_of, lines_next}

-- ── Sums ──

calls-more : (gs : List Given) (g : Given) → clamped_calls (gs ++ (g ∷ [])) ≡ clamped_calls gs + clamped_in g
unfolding clamped_calls
calls-more [] g = omega arith
calls-more (x ∷ gs) g =
    let e : clamped_calls (gs ++ (g ∷ [])) ≡ clamped_calls gs + clamped_in g = calls-more gs g in
    omega arith

-- a capped sum goes on as the sum does
capped-more : (a b n : ℕ) → b ≡ capped a → capped (b + n) ≡ capped (a + n)
capped-more a b n e = omega arith

-- ── One call ──

-- of a record and the calls that count: while open, it counts their clamped line rows
abbrev Right : Converter → List Given → Type 0
Right c gs = c.«open» ≡ true → c.clamped_lines ≡ capped (clamped_calls gs)

-- of a call given g, where gs counted before it
abbrev Leaves : Given → List Given → Called → Type 0
Leaves g gs o = Right o.converter (with_accepted o.code g gs)

pub by_cond : {A : Type 0} (P : A → Type 0) (b : Bool) (x y : A) → (b ≡ true → P x) → (b ≡ false → P y) → P (cond b x y)
by_cond P true x y f g = f refl
by_cond P false x y f g = g refl

module _ (g : Given) (gs : List Given) where
  finished-right : (c : Converter) (s : List ℕ) (w : Words) → c.clamped_lines ≡ capped (clamped_calls gs + clamped_in g) → Leaves g gs (finished c s w)
  unfolding finished
  finished-right c s w e = by_cond (Leaves g gs) (fits? w) _ _ (λ _ o. e ∙ ap capped (sym (calls-more gs g))) (λ _ o. absurd (true≢false (sym o)))

  refused-right : (n : ℕ) (c : Converter) (m : Memory) (s : List ℕ) → eqb n 0 ≡ false → Right c gs → Leaves g gs (called n c m s)
  refused-right n c m s e h o = rw e (h o)

usable_open : (c : Converter) (m : Memory) → usable? c m ≡ true → c.«open» ≡ true
unfolding usable_in
usable_open c m h = (both_true c.«open» _ h).0

module _ (c : Converter) (m : Memory) (gs : List Given) (h : Right c gs) where
  tree-right : (s : List ℕ) (k : Columns) → Leaves (given_tree k) gs (tree_of c m s k)
  unfolding tree_of
  tree-right s k =
      let n = tree_refusal k (length s) in
      by_cond (Leaves (given_tree k) gs) (usable? c m) _ _
      (λ u. by_cond (Leaves (given_tree k) gs) (eqb n 0) _ _
      (λ z. finished-right (given_tree k) gs (tree_counted c k) s (rows_converted c m k)
      (capped-more (clamped_calls gs) c.clamped_lines (clamped_rows (tree_rows_lem k)) (h (usable_open c m u))
      ∙ ap (λ (qs : List FunctionRow). capped (clamped_calls gs + clamped_rows qs)) (accepted k (length s) (eqb-true n 0 z)).rows_are))
      (λ z. refused-right (given_tree k) gs n c m s z h))
      (λ _. refused-right (given_tree k) gs 19 c m s refl h)

  symbol-right : (t : List ℕ) (address size : ℕ) (name : OptionalPart) → Leaves (symbol_row (symbol_row_lem t address size name)) gs (symbol_of c m t address size name)
  unfolding symbol_of
  symbol-right t address size name =
      let g = symbol_row (symbol_row_lem t address size name) in
      by_cond (Leaves g gs) (usable? c m) _ _
      (λ u. by_cond (Leaves g gs) (optional? t name) _ _
      (λ _. finished-right g gs c [] (convert_symbol_m input (over_words (setup c)) (symbol_row_lem t address size name) (words_of_lem c m)) (h (usable_open c m u) ∙ ap capped (omega arith)))
      (λ _. refused-right g gs 14 c m [] refl h))
      (λ _. refused-right g gs 19 c m [] refl h)

-- ── Every list ──

abbrev Counting : Standing Converter → Type 0
Counting r = Right r.carrier r.counted

next-counts : (k : Call) (r : Standing Converter) → Counting r → Counting (next by_value k r)
unfolding next
next-counts (tree k s) r h = tree-right r.carrier r.memory r.counted h s k
next-counts (lines_tree f64 f32 ls x s u v) r h =
    subst Counting (sym (lines_next f64 f32 ls x s u v r))
    (tree-right r.carrier r.memory r.counted h (scratch_of f64 f32 ls x s u v r) (line_columns f64 f32 ls x))
next-counts (symbol t address size name) r h = symbol-right r.carrier r.memory r.counted h t address size name
next-counts (write output) r h = h

every-counts : (ks : List Call) (r : Standing Converter) → Counting r → Counting (run by_value ks r)
unfolding run
every-counts [] r h = h
every-counts (k ∷ ks) r h = every-counts ks (next by_value k r) (next-counts k r h)

begun-counts : (id : List ℕ) (arch : ℕ) (f s : Bool) (m : Memory) → Counting (beginning id arch f s m)
unfolding begin_of clamped_calls
begun-counts id arch f s m o = refl

-- what is handed out goes by whether it is open
handed_out : (c : Converter) (gs : List Given) → Right c gs → clamped_lines_lem c ≡ while_open c.«open» (capped (clamped_calls gs))
unfolding clamped_lines_lem
handed_out c gs h = go c.«open» refl
  where
    go : (o : Bool) → c.«open» ≡ o → while_open o c.clamped_lines ≡ while_open o (capped (clamped_calls gs))
    go true e = h e
    go false e = refl

pub clamped_counted : ClampedCounted
clamped_counted id arch f s m ks =
    let x = run by_value ks (beginning id arch f s m) in
    handed_out x.carrier x.counted (every-counts ks (beginning id arch f s m) (begun-counts id arch f s m))
