-- Of the plain tables, for every list: forgetting the last end commutes with every step (`tables-same`); no step takes a start away (model's `Kept`), so a
-- last end that is set is a start (`last-end-starts`), and the branch at writing adds nothing (`nothing-added`).
use mathlib.Core.Path.{◌≡◌, refl, ap, ◌∙◌, subst}
use mathlib.Core.Bool.{Bool, true, false, cond}
use mathlib.Core.Option.{Option, none, some}
use mathlib.Core.List.{List, [], ◌∷◌, map}
use Prim.Native.Nat.{ℕ, suc, ◌≤◌, ◌<◌}
use native.Mathlib.Omega.{arith}
use lib.Dec.{ltb, leb}
use borrow.Author.Tests.{ltb-true, ltb-false, leb-false, le-leb}
use Rattle.slices.proofs.Cases.{none-some}
use Rattle.model.specs.Basics.{Span, Deep}
use Rattle.model.specs.Rows.{FunctionRow, SymbolRow, Given, skipped, function_end, symbol_skipped}
use Rattle.model.specs.Machine.{Ref, OpM, tree_m, symbol_m, set_at_m, kid_spans_m, put_end, row_m, convert_m, start_m, named_symbol_m, convert_symbol_m, convert_op_m, run_m}
use Rattle.model.specs.Converter.{Setup, Location, Tables, range_at, input, op, plain, converted}
use Rattle.model.specs.Gaps.{IsStart}
use Rattle.model.proofs.Chains.{some-eq}
use Rattle.model.proofs.Starts.{end-held, symbol-kept, row_kept, visited-held}
use Rattle.last_end.specs.Reference.{or_zero, later, cleared, Reference, reference_begun, row_r, convert_r, symbol_r, op_r, run_r, referred, last_end, with_sentinel, reference_tables}

-- ── The rules, in other words ──

-- after a function it is at least the function's end, and at least what it was
pub later-above : (o : Option ℕ) (e a : ℕ) → later o e ≡ some a → (or_zero o ≤ a) × (e ≤ a)
later-above o e a z = go (ltb (or_zero o) e) refl z
  where
    go : (b : Bool) → ltb (or_zero o) e ≡ b → cond b (some e) (some (or_zero o)) ≡ some a → (or_zero o ≤ a) × (e ≤ a)
    go true f y = let k : e ≡ a = some-eq y in let l : or_zero o < e = ltb-true _ _ f in (omega arith, omega arith)
    go false f y = let k : or_zero o ≡ a = some-eq y in let l : e ≤ or_zero o = ltb-false _ _ f in (omega arith, omega arith)

-- after a named symbol it is above the symbol's address, if it is set at all
pub cleared-below : (o : Option ℕ) (y a : ℕ) → cleared o y ≡ some a → y < a
cleared-below o y a z = go (leb (or_zero o) y) refl z
  where
    go : (b : Bool) → leb (or_zero o) y ≡ b → cond b none (some (or_zero o)) ≡ some a → y < a
    go true f e = none-some e
    go false f e = let k : or_zero o ≡ a = some-eq e in let l : y < or_zero o = leb-false _ _ f in omega arith

-- ── Forgetting the last end commutes with every step ──

module _ (X : Setup) where
  row_same : (q : FunctionRow) (ss : List Span) (cs : List (Ref (Option ℕ))) (s : Reference) → let o = row_m input (plain X) q ss cs s.tables in
      let p = row_r X q ss cs s in (p.state.tables ≡ o.state) × (p.calls ≡ o.calls)
  unfolding row_r row_m
  row_same q ss [] s = (refl, refl)
  row_same q ss (c ∷ cs) s = (refl, refl)

  convert-same : (rs : List (Deep FunctionRow)) (ctx : ℕ → List (Ref (Option ℕ))) (s : Reference) → (convert_r X rs ctx s).tables ≡ convert_m input (plain X) rs ctx s.tables
  unfolding convert_r convert_m
  convert-same [] ctx s = refl
  convert-same (r ∷ rs) ctx s =
      let ss = kid_spans_m input r.depth rs in
      let p = row_r X r.item ss (ctx r.depth) s in
      let (e, f) = row_same r.item ss (ctx r.depth) s in
      convert-same rs (set_at_m (suc r.depth) p.calls ctx) p.state
      ∙ ap (λ (cs : List (Ref (Option ℕ))). convert_m input (plain X) rs (set_at_m (suc r.depth) cs ctx) p.state.tables) f
      ∙ ap (λ (t : Tables). convert_m input (plain X) rs (set_at_m (suc r.depth) (row_m input (plain X) r.item ss (ctx r.depth) s.tables).calls ctx) t) e

  op_same : (o : OpM FunctionRow SymbolRow) (s : Reference) → (op_r X o s).tables ≡ convert_op_m input (plain X) o s.tables
  unfolding op_r convert_op_m symbol_r
  op_same (tree_m q rs) s = convert-same (record { depth = 0; item = q } ∷ rs) (start_m input (plain X)) s
  op_same (symbol_m y) s = refl

  run-same : (os : List (OpM FunctionRow SymbolRow)) (s : Reference) → (run_r X os s).tables ≡ run_m input (plain X) os s.tables
  unfolding run_r run_m
  run-same [] s = refl
  run-same (o ∷ os) s = run-same os (op_r X o s) ∙ ap (λ (t : Tables). run_m input (plain X) os t) (op_same o s)

  pub tables-same : (gs : List Given) → (referred X gs).tables ≡ converted X gs
  tables-same gs = run-same (map op gs) reference_begun

-- a is a start of the tables
abbrev pub Held : Tables → ℕ → Type 0
Held = IsStart

module _ (X : Setup) where
  -- after the branch at writing the last end is a start, whatever the tables were
  pub sentinel_held : (s : Reference) (a : ℕ) → s.last ≡ some a → IsStart (with_sentinel X s) a
  unfolding with_sentinel
  sentinel_held s a e = rw (e, with_sentinel) (end-held X a s.tables)

  -- ── A last end that is set is a start ──

  abbrev Stands : Reference → Type 0
  Stands s = (a : ℕ) → s.last ≡ some a → IsStart s.tables a

  later-held : (t : Tables) (o : Option ℕ) (e : ℕ) → ((a : ℕ) → o ≡ some a → IsStart t a) → IsStart t e → (a : ℕ) → later o e ≡ some a → IsStart t a
  later-held t o e g h a z = go (ltb (or_zero o) e) refl z
    where
      -- unset counts as 0, and an end that is not above 0 is 0
      unset : (p : Option ℕ) → o ≡ p → ltb (or_zero p) e ≡ false → or_zero p ≡ a → IsStart t a
      unset none i f y = let k : e ≡ a = omega (arith, ltb-false 0 e f) in subst (IsStart t) k h
      unset (some b) i f y = g a (i ∙ ap some y)

      go : (b : Bool) → ltb (or_zero o) e ≡ b → cond b (some e) (some (or_zero o)) ≡ some a → IsStart t a
      go true f y = subst (IsStart t) (some-eq y) h
      go false f y = unset o refl f (some-eq y)

  cleared-held : (t : Tables) (o : Option ℕ) (y : ℕ) → ((a : ℕ) → o ≡ some a → IsStart t a) → (a : ℕ) → cleared o y ≡ some a → IsStart t a
  cleared-held t none y g a z = none-some (rw (le-leb 0 y (omega arith)) at z)
  cleared-held t (some b) y g a z = go (leb b y) z
    where
      go : (c : Bool) → cond c none (some b) ≡ some a → IsStart t a
      go true e = none-some e
      go false e = g a e

  row-stands : (q : FunctionRow) (ss : List Span) (cs : List (Ref (Option ℕ))) (s : Reference) → Stands s → Stands (row_r X q ss cs s).state
  unfolding row_r
  row-stands q ss [] s h = h
  row-stands q ss (c ∷ cs) s h = go (skipped q) refl
    where
      t : Tables
      t = (row_m input (plain X) q ss (c ∷ cs) s.tables).state

      before : (a : ℕ) → s.last ≡ some a → IsStart t a
      before a e = row_kept X q ss (c ∷ cs) s.tables a (h a e)

      go : (b : Bool) → skipped q ≡ b → (a : ℕ) → cond (skipped q) s.last (later s.last (function_end q)) ≡ some a → IsStart t a
      go true z a e = before a (rw z at e)
      go false z a e = later-held t s.last (function_end q) before (visited-held X q ss c cs s.tables z) a (rw z at e)

  convert-stands : (rs : List (Deep FunctionRow)) (ctx : ℕ → List (Ref (Option ℕ))) (s : Reference) → Stands s → Stands (convert_r X rs ctx s)
  unfolding convert_r
  convert-stands [] ctx s h = h
  convert-stands (r ∷ rs) ctx s h =
      let o = row_r X r.item (kid_spans_m input r.depth rs) (ctx r.depth) s in
      convert-stands rs (set_at_m (suc r.depth) o.calls ctx) o.state (row-stands r.item (kid_spans_m input r.depth rs) (ctx r.depth) s h)

  symbol-stands : (y : SymbolRow) (s : Reference) → Stands s → Stands (symbol_r X y s)
  unfolding symbol_r convert_symbol_m
  symbol-stands y s h = go (symbol_skipped y) refl
    where
      t : Tables
      t = convert_symbol_m input (plain X) y s.tables

      go : (b : Bool) → symbol_skipped y ≡ b → (a : ℕ) → cond (symbol_skipped y) s.last (cleared s.last y.address) ≡ some a → IsStart t a
      go true z a e = rw (z, convert_symbol_m) (h a (rw z at e))
      go false z a e =
          rw (z, convert_symbol_m)
          (cleared-held (named_symbol_m input (plain X) y s.tables) s.last y.address (λ k i. symbol-kept X y s.tables k (h k i)) a (rw z at e))

  op-stands : (o : OpM FunctionRow SymbolRow) (s : Reference) → Stands s → Stands (op_r X o s)
  unfolding op_r
  op-stands (tree_m q rs) s h = convert-stands (record { depth = 0; item = q } ∷ rs) (start_m input (plain X)) s h
  op-stands (symbol_m y) s h = symbol-stands y s h

  run-stands : (os : List (OpM FunctionRow SymbolRow)) (s : Reference) → Stands s → Stands (run_r X os s)
  unfolding run_r
  run-stands [] s h = h
  run-stands (o ∷ os) s h = run-stands os (op_r X o s) (op-stands o s h)

  referred-stands : (gs : List Given) → Stands (referred X gs)
  referred-stands gs = run-stands (map op gs) reference_begun (λ a e. none-some e)

  -- A LAST END THAT IS SET IS A START, after every list
  pub last-end-starts : (gs : List Given) (a : ℕ) → last_end X gs ≡ some a → (l : Location) × (range_at (converted X gs).ranges a ≡ some l)
  last-end-starts gs a e = subst (λ (t : Tables). IsStart t a) (tables-same X gs) (referred-stands gs a e)

  -- SO THE BRANCH AT WRITING ADDS NOTHING
  sentinel_stands : (s : Reference) → Stands s → with_sentinel X s ≡ s.tables
  unfolding with_sentinel put_end
  sentinel_stands s h = go s.last refl
    where
      go : (o : Option ℕ) → s.last ≡ o → with_sentinel X s ≡ s.tables
      go none e = rw (e, with_sentinel)
      go (some a) e = let (l, k) = h a e in rw (e, with_sentinel) (rw (k, put_end))

  pub nothing-added : (gs : List Given) → reference_tables X gs ≡ converted X gs
  nothing-added gs = sentinel_stands (referred X gs) (referred-stands gs) ∙ tables-same X gs
