-- No step takes a start away (`Kept`). So, for every list, premises or not: the end of a root that is not skipped is a start (`root_ends`), and the end of a symbol, where it counts (`symbol-ends`).
use mathlib.Core.Path.{◌≡◌, refl, ◌∙◌, subst}
use mathlib.Core.Bool.{Bool, true, false, cond}
use mathlib.Core.Option.{Option, none, some}
use mathlib.Core.Logic.{◌⊎◌, inl, inr, ◌≢◌, ⊎_elim}
use mathlib.Core.List.{List, [], ◌∷◌, map}
use Prim.Native.Nat.{ℕ, suc}
use Rattle.slices.proofs.Cases.{eq-or-ne}
use Rattle.model.specs.Basics.{◌∈◌, Span, Deep}
use Rattle.model.specs.Rows.{LineRow, FunctionRow, SymbolRow, Given, tree_rows, symbol_row, skipped, function_end, symbol_skipped, symbol_end}
use Rattle.model.specs.Machine.{Ref, OpM, tree_m, symbol_m, set_at_m, kid_spans_m, unless_held, put_end, entry_m, closing_m, row_m, convert_m, start_m, named_symbol_m, convert_symbol_m, convert_op_m, run_m}
use Rattle.model.specs.Converter.{Setup, Location, nowhere, at, Tables, nothing, is_nowhere, range_at, put_at_lem, begin_row, locate_line, begin_symbol, locate_symbol, enter_call, input, deep, op, plain, converted}
use Rattle.model.specs.Gaps.{IsStart}
use Rattle.model.proofs.Spans.{∈-cases, ∈-map}
use Rattle.model.proofs.Chains.{put_same, put_other}
use Rattle.model.proofs.Couple.{Couple, Limits, Preserves, Allowed, Calls, no_calls, a_call, row-both, convert-both, run-both}
use Rattle.model.proofs.Always.{blank}

-- ── No step takes a start away ──

abbrev pub Kept : Tables → Tables → Type 0
Kept s t = (a : ℕ) → IsStart s a → IsStart t a

module _ (X : Setup) where
  put-kept : (k : ℕ) (l : Location) (s : Tables) → Kept s (put_at_lem k l s)
  put-kept k l s a h = go (eq-or-ne a k)
    where
      go : (a ≡ k) ⊎ (a ≢ k) → IsStart (put_at_lem k l s) a
      go (inl e) = (l, rw e (put_same k l s.ranges))
      go (inr n) = (h.0, put_other k l s.ranges a n ∙ h.1)

  begin-kept : (q : FunctionRow) (s : Tables) → Kept s (begin_row X q s).1
  unfolding begin_row
  begin-kept q s a h = h

  locate-kept : (q : FunctionRow) (r : ℕ) (n : LineRow) (c : Option ℕ) (s : Tables) → Kept s (locate_line q r n c s).1
  unfolding locate_line
  locate-kept q r n c s a h = h

  enter-kept : (l : Location) (s : Tables) → Kept s (enter_call l s).1
  unfolding enter_call
  enter-kept l s a h = h

  name-kept : (y : SymbolRow) (s : Tables) → Kept s (begin_symbol X y s).1
  unfolding begin_symbol
  name-kept y s a h = h

  location-kept : (y : SymbolRow) (p : Option ℕ) (s : Tables) → Kept s (locate_symbol y p s).1
  unfolding locate_symbol
  location-kept y p s a h = h

  unless_kept : (k : ℕ) (s t : Tables) → Kept s t → Kept s (unless_held input (plain X) k t s)
  unfolding unless_held
  unless_kept k s t n = go (range_at s.ranges k) refl
    where
      pick : (b : Bool) → Kept s (cond b t s)
      pick true = n
      pick false = λ a h. h

      go : (o : Option Location) → range_at s.ranges k ≡ o → Kept s (unless_held input (plain X) k t s)
      go none e = rw (e, unless_held) n
      go (some l) e = rw (e, unless_held) (pick (is_nowhere l))

  end_kept : (k : ℕ) (s : Tables) → Kept s (put_end input (plain X) k s)
  unfolding put_end
  end_kept k s = go (range_at s.ranges k) refl
    where
      go : (o : Option Location) → range_at s.ranges k ≡ o → Kept s (put_end input (plain X) k s)
      go none e = rw (e, put_end) (put-kept k nowhere s)
      go (some l) e = rw (e, put_end) (λ a h. h)

  -- an end that is put is a start
  pub end-held : (k : ℕ) (s : Tables) → IsStart (put_end input (plain X) k s) k
  unfolding put_end
  end-held k s = go (range_at s.ranges k) refl
    where
      go : (o : Option Location) → range_at s.ranges k ≡ o → IsStart (put_end input (plain X) k s) k
      go none e = rw (e, put_end) (nowhere, put_same k nowhere s.ranges)
      go (some l) e = rw (e, put_end) (l, e)

  close_kept : (q : FunctionRow) (r : ℕ) (s : Tables) → Kept s (closing_m input (plain X) q r s)
  unfolding closing_m entry_m
  close_kept q r s a h = end_kept (function_end q) (entry_m input (plain X) q r s) a (go q.inline refl)
    where
      go : (b : Bool) → q.inline ≡ b → IsStart (entry_m input (plain X) q r s) a
      go true e = rw (e, entry_m) h
      go false e = rw (e, entry_m) (unless_kept q.address s _ (put-kept q.address (at none 0 r none) s) a h)

  pub symbol-kept : (y : SymbolRow) (s : Tables) → Kept s (named_symbol_m input (plain X) y s)
  unfolding named_symbol_m
  symbol-kept y s a h = go (input.sym_end y) refl
    where
      b : Option ℕ × Tables
      b = begin_symbol X y s

      l : Location × Tables
      l = locate_symbol y b.0 b.1

      t : Tables
      t = unless_held input (plain X) y.address (put_at_lem y.address l.0 l.1) b.1

      held : IsStart t a
      held = unless_kept y.address b.1 (put_at_lem y.address l.0 l.1) (λ j g. put-kept y.address l.0 l.1 j (location-kept y b.0 b.1 j g)) a (name-kept y s a h)

      go : (o : Option ℕ) → input.sym_end y ≡ o → IsStart (named_symbol_m input (plain X) y s) a
      go none e = rw (e, named_symbol_m) held
      go (some k) e = rw (e, named_symbol_m) (end_kept k t a held)

  abbrev anything : Limits FunctionRow SymbolRow
  anything = record { Row = λ d q. Unit {0}; Symbol = λ y. Unit {0}; Key = λ k. Unit {0} }

  abbrev kept-couple : Couple FunctionRow ℕ (Unit {0}) Location (Unit {0}) (Option ℕ) (Unit {0}) Tables (Unit {0})
  kept-couple = record { State = λ s u. Unit {0}; Ext = λ s u t v. Kept s t; Loc = λ s u d l m. Unit {0}; Cal = λ s u d c e. Unit {0}; Fun = λ s u d q r e. Unit {0} }

  kept_laws : Preserves input (plain X) blank anything kept-couple
  kept_laws = record {
    ext_refl = λ s u a h. h;
    ext_trans = λ p q a h. q a (p a h);
    loc-ext = λ e h. h;
    cal_ext = λ e h. h;
    fun_ext = λ e h. h;
    keys = λ n. (tt, tt);
    put_law = λ d k l m s u b h w. record { ext = put-kept k l s; state = tt };
    begin_law = λ d q s u ok z h. (record { ext = begin-kept q s; state = tt }, tt);
    locate_law = λ d q r e n c f s u ok i h m k. (record { ext = locate-kept q r n c s; state = tt }, tt);
    enter_law = λ d l m s u h w. (record { ext = enter-kept l s; state = tt }, tt);
    base_law = λ s u h. tt;
    close_law = λ d q r e s u ok z h m. record { ext = close_kept q r s; state = tt };
    symbol_law = λ y s u ok z h. record { ext = symbol-kept y s; state = tt };
  }

  -- call locations, and as many that hold nothing
  blank-ref : Ref (Option ℕ) → Ref (Unit {0})
  blank-ref c = record { addr = c.addr; ref = tt }

  blank-calls : (d : ℕ) (s : Tables) (cs : List (Ref (Option ℕ))) → Calls input (plain X) blank anything kept-couple kept_laws s tt d cs (map blank-ref cs)
  unfolding blank-ref
  blank-calls d s [] = no_calls
  blank-calls d s (c ∷ cs) = a_call refl tt (blank-calls d s cs)

  pub row_kept : (q : FunctionRow) (ss : List Span) (cs : List (Ref (Option ℕ))) (s : Tables) → Kept s (row_m input (plain X) q ss cs s).state
  row_kept q ss cs s = (row-both input (plain X) blank anything kept-couple kept_laws 0 q tt ss s tt (λ p i. tt) (blank-calls 0 s cs) tt).next.ext

  convert-kept : (rs : List (Deep FunctionRow)) (ctx : ℕ → List (Ref (Option ℕ))) (s : Tables) → Kept s (convert_m input (plain X) rs ctx s)
  convert-kept rs ctx s = (convert-both input (plain X) blank anything kept-couple kept_laws rs ctx (λ d. map blank-ref (ctx d)) s tt (λ r i. tt) (λ d. blank-calls d s (ctx d)) tt).ext

  allowed : (o : OpM FunctionRow SymbolRow) → Allowed input (plain X) blank anything kept-couple o
  allowed (tree_m q rs) = (tt, λ r i. tt)
  allowed (symbol_m y) = tt

  run-kept : (os : List (OpM FunctionRow SymbolRow)) (s : Tables) → Kept s (run_m input (plain X) os s)
  run-kept os s = (run-both input (plain X) blank anything kept-couple kept_laws os s tt (λ o i. allowed o) tt).ext

  -- ── Ends that are put are starts, for every list ──

  -- the end of a row that is visited and not skipped is a start after it
  pub visited-held : (q : FunctionRow) (ss : List Span) (c : Ref (Option ℕ)) (cs : List (Ref (Option ℕ))) (s : Tables) → skipped q ≡ false → IsStart (row_m input (plain X) q ss (c ∷ cs) s).state (function_end q)
  unfolding row_m closing_m
  visited-held q ss c cs s z = rw (z, row_m) (end-held (function_end q) _)

  tree-held : (q : FunctionRow) (rs : List (Deep FunctionRow)) (s : Tables) → skipped q ≡ false → IsStart (convert_op_m input (plain X) (tree_m q rs) s) (function_end q)
  unfolding convert_op_m convert_m start_m
  tree-held q rs s z =
      let ss = kid_spans_m input 0 rs in
      let o = row_m input (plain X) q ss (start_m input (plain X) 0) s in
      convert-kept rs (set_at_m (suc 0) o.calls (start_m input (plain X))) o.state (function_end q) (visited-held q ss (record { addr = 0; ref = none }) [] s z)

  symbol-held : (y : SymbolRow) (e : ℕ) (s : Tables) → symbol_skipped y ≡ false → symbol_end y ≡ some e → IsStart (convert_op_m input (plain X) (symbol_m y) s) e
  unfolding convert_op_m convert_symbol_m named_symbol_m
  symbol-held y e s z h = rw (z, convert_symbol_m) (rw (h, named_symbol_m) (end-held e _))

  -- a start that one call puts, whatever came before it, is one at the end of the list
  stays : (os : List (OpM FunctionRow SymbolRow)) (s : Tables) (o : OpM FunctionRow SymbolRow) (a : ℕ) → ((t : Tables) → IsStart (convert_op_m input (plain X) o t) a) → o ∈ os → IsStart (run_m input (plain X) os s) a
  unfolding run_m
  stays [] s o a h i = elim i [ ]
  stays (p ∷ os) s o a h i =
      ⊎_elim
      (λ e. run-kept os (convert_op_m input (plain X) p s) a (subst (λ (q : OpM FunctionRow SymbolRow). IsStart (convert_op_m input (plain X) q s) a) e (h s)))
      (λ j. stays os (convert_op_m input (plain X) p s) o a h j)
      (∈-cases i)

  module _ (gs : List Given) where
    pub root_ends : (q : FunctionRow) (rs : List FunctionRow) → tree_rows q rs ∈ gs → skipped q ≡ false → IsStart (converted X gs) (function_end q)
    root_ends q rs i z = stays (map op gs) nothing (tree_m q (map deep rs)) (function_end q) (λ t. tree-held q (map deep rs) t z) (∈-map op i)

    pub symbol-ends : (y : SymbolRow) (e : ℕ) → symbol_row y ∈ gs → symbol_skipped y ≡ false → symbol_end y ≡ some e → IsStart (converted X gs) e
    symbol-ends y e i z h = stays (map op gs) nothing (symbol_m y) e (λ t. symbol-held y e t z h) (∈-map op i)
