-- What the plain tables need of lent tables (rows and text bytes), and that within any call and over any list it only grows: so a table that would overflow on the way
-- would overflow at the end, and 17 is a question about the tables after the call.
use mathlib.Core.Path.{◌≡◌, refl, sym, ◌∙◌}
use mathlib.Core.Bool.{Bool, true, false, cond, ◌&&◌}
use mathlib.Core.Option.{Option, none, some}
use mathlib.Core.List.{List, [], ◌∷◌, ◌++◌, map}
use Prim.Native.Nat.{ℕ, suc, ◌+◌, ◌≤◌}
use native.Mathlib.Omega.{arith}
use lib.ListN.{length}
use lib.Dec.{leb, eqb}
use borrow.Author.Tests.{leb-true, le-leb}
use Rattle.slices.proofs.Cases.{false-true, both_true, both_of}
use Rattle.model.specs.Basics.{Entry, intern}
use Rattle.model.specs.Rows.{Text, LineRow, FunctionRow, SymbolRow, Given}
use Rattle.model.specs.Machine.{OpM, tree_m, symbol_m, unless_held, put_end, entry_m, closing_m, named_symbol_m, convert_op_m, run_m}
use Rattle.model.specs.Converter.{input, op, Setup, Six, File, Function, Location, nowhere, at, Tables, nothing, text_eq, file_eq, function_eq, location_eq, is_nowhere, intern_text, intern_six, function_name, symbol_name, line_texts, range_at, range_put, put_at_lem, begin_row, locate_line, begin_symbol, locate_symbol, enter_call, plain, converted}
use Rattle.model.specs.Counts.{Capacities, plain_fits?, text_size, text_bytes}
use Rattle.model.proofs.Couple.{Couple, Limits, Preserves, Allowed, run-both}
use Rattle.model.proofs.Always.{blank}

-- t needs at least as much as s, in each table
pub record Grown (s t : Tables) : Type 0 where
  pub texts : length s.texts ≤ length t.texts
  pub bytes : text_bytes s.texts ≤ text_bytes t.texts
  pub files : length s.files ≤ length t.files
  pub functions : length s.functions ≤ length t.functions
  pub calls : length s.calls ≤ length t.calls
  pub ranges : length s.ranges ≤ length t.ranges

pub grown-refl : (s : Tables) → Grown s s
grown-refl s = record { texts = omega arith; bytes = omega arith; files = omega arith; functions = omega arith; calls = omega arith; ranges = omega arith }

pub grown_trans : {s t u : Tables} → Grown s t → Grown t u → Grown s u
grown_trans p q = record {
  texts = omega (arith, p.texts, q.texts);
  bytes = omega (arith, p.bytes, q.bytes);
  files = omega (arith, p.files, q.files);
  functions = omega (arith, p.functions, q.functions);
  calls = omega (arith, p.calls, q.calls);
  ranges = omega (arith, p.ranges, q.ranges);
}

intern-length : {A : Type 0} (eq : A → A → Bool) (xs : List A) (a : A) → length xs ≤ length (intern eq xs a).table
unfolding intern
intern-length eq [] a = omega arith
intern-length {A} eq (x ∷ xs) a = go (eq x a) refl (intern-length eq xs a)
  where
    go : (t : Bool) → eq x a ≡ t → length xs ≤ length (intern eq xs a).table → suc (length xs) ≤ length (intern eq (x ∷ xs) a).table
    go true e h = rw (e, intern) (omega arith)
    go false e h = rw (e, intern) (omega arith)

intern-bytes : (ts : List Text) (t : Text) → text_bytes ts ≤ text_bytes (intern text_eq ts t).table
unfolding intern
intern-bytes [] t = omega arith
intern-bytes (u ∷ ts) t = go (text_eq u t) refl (intern-bytes ts t)
  where
    go : (b : Bool) → text_eq u t ≡ b → text_bytes ts ≤ text_bytes (intern text_eq ts t).table → text_size u + text_bytes ts ≤ text_bytes (intern text_eq (u ∷ ts) t).table
    go true e h = rw (e, intern) (omega arith)
    go false e h = rw (e, intern) (omega arith)

record TextsGrown (ts us : List Text) : Type 0 where
  rows : length ts ≤ length us
  size : text_bytes ts ≤ text_bytes us

store-grown : (ts : List Text) (t : Text) → TextsGrown ts (intern_text ts t).table
unfolding intern_text
store-grown ts [] = record { rows = omega arith; size = omega arith }
store-grown ts (b ∷ t) = record { rows = intern-length text_eq ts (b ∷ t); size = intern-bytes ts (b ∷ t) }

then-texts : {ts us vs : List Text} → TextsGrown ts us → TextsGrown us vs → TextsGrown ts vs
then-texts p q = record { rows = omega (arith, p.rows, q.rows); size = omega (arith, p.size, q.size) }

six-grown : (ts : List Text) (x : Six Text) → TextsGrown ts (intern_six ts x).table
unfolding intern_six
six-grown ts x = then-texts (store-grown ts x.name) (then-texts (store-grown _ x.directory) (then-texts (store-grown _ x.comp_dir) (then-texts (store-grown _ x.srcsrv_name) (then-texts (store-grown _ x.srcsrv_dir) (store-grown _ x.revision)))))

put-length : (k : ℕ) (l : Location) (t : List (Entry Location)) → length t ≤ length (range_put k l t)
unfolding range_put
put-length k l [] = omega arith
put-length k l (e ∷ es) = go (eqb k e.key) (put-length k l es)
  where
    go : (b : Bool) → length es ≤ length (range_put k l es) → suc (length es) ≤ length (cond b (record { key = k; value = l } ∷ es) (e ∷ range_put k l es))
    go true h = omega arith
    go false h = omega arith

module _ (X : Setup) where
  pub put-grown : (k : ℕ) (l : Location) (s : Tables) → Grown s (put_at_lem k l s)
  put-grown k l s = record { texts = omega arith; bytes = omega arith; files = omega arith; functions = omega arith; calls = omega arith; ranges = put-length k l s.ranges }

  pub begin-grown : (q : FunctionRow) (s : Tables) → Grown s (begin_row X q s).1
  unfolding begin_row
  begin-grown q s =
      let t = store-grown s.texts (function_name X q) in
      record { texts = t.rows; bytes = t.size; files = omega arith; functions = intern-length function_eq s.functions _; calls = omega arith; ranges = omega arith }

  pub locate-grown : (q : FunctionRow) (r : ℕ) (n : LineRow) (c : Option ℕ) (s : Tables) → Grown s (locate_line q r n c s).1
  unfolding locate_line
  locate-grown q r n c s =
      let t = six-grown s.texts (line_texts q n) in
      record { texts = t.rows; bytes = t.size; files = intern-length file_eq s.files _; functions = omega arith; calls = omega arith; ranges = omega arith }

  pub enter-grown : (l : Location) (s : Tables) → Grown s (enter_call l s).1
  unfolding enter_call
  enter-grown l s = record { texts = omega arith; bytes = omega arith; files = omega arith; functions = omega arith; calls = intern-length location_eq s.calls l; ranges = omega arith }

  pub symbol_name-grown : (y : SymbolRow) (s : Tables) → Grown s (begin_symbol X y s).1
  unfolding begin_symbol
  symbol_name-grown y s = let t = store-grown s.texts (symbol_name X y) in record { texts = t.rows; bytes = t.size; files = omega arith; functions = omega arith; calls = omega arith; ranges = omega arith }

  pub symbol-location-grown : (y : SymbolRow) (p : Option ℕ) (s : Tables) → Grown s (locate_symbol y p s).1
  unfolding locate_symbol
  symbol-location-grown y p s = record { texts = omega arith; bytes = omega arith; files = omega arith; functions = intern-length function_eq s.functions _; calls = omega arith; ranges = omega arith }

  end-grown : (a : ℕ) (s : Tables) → Grown s (put_end input (plain X) a s)
  unfolding put_end
  end-grown a s = go (range_at s.ranges a) refl
    where
      go : (o : Option Location) → range_at s.ranges a ≡ o → Grown s (put_end input (plain X) a s)
      go none e = rw (e, put_end) (put-grown a nowhere s)
      go (some l) e = rw (e, put_end) (grown-refl s)

  unless_grown : (a : ℕ) (s t : Tables) → Grown s t → Grown s (unless_held input (plain X) a t s)
  unfolding unless_held
  unless_grown a s t h = go (range_at s.ranges a) refl
    where
      pick : (b : Bool) → Grown s (cond b t s)
      pick true = h
      pick false = grown-refl s

      go : (o : Option Location) → range_at s.ranges a ≡ o → Grown s (unless_held input (plain X) a t s)
      go none e = rw (e, unless_held) h
      go (some l) e = rw (e, unless_held) (pick (is_nowhere l))

  close_grown : (q : FunctionRow) (r : ℕ) (s : Tables) → Grown s (closing_m input (plain X) q r s)
  unfolding closing_m entry_m
  close_grown q r s = grown_trans (go q.inline refl) (end-grown (input.stop q) _)
    where
      go : (b : Bool) → q.inline ≡ b → Grown s (entry_m input (plain X) q r s)
      go true e = rw (e, entry_m) (grown-refl s)
      go false e = rw (e, entry_m) (unless_grown q.address s _ (put-grown q.address (at none 0 r none) s))

  symbol-grown : (y : SymbolRow) (s : Tables) → Grown s (named_symbol_m input (plain X) y s)
  unfolding named_symbol_m
  symbol-grown y s =
      let n = unless_grown y.address b.1 _ (grown_trans (symbol-location-grown y b.0 b.1) (put-grown y.address l.0 l.1)) in
      go (input.sym_end y) refl (grown_trans (symbol_name-grown y s) n)
    where
      b : Option ℕ × Tables
      b = begin_symbol X y s

      l : Location × Tables
      l = locate_symbol y b.0 b.1

      t : Tables
      t = unless_held input (plain X) y.address (put_at_lem y.address l.0 l.1) b.1

      go : (o : Option ℕ) → input.sym_end y ≡ o → Grown s t → Grown s (named_symbol_m input (plain X) y s)
      go none e h = rw (e, named_symbol_m) h
      go (some a) e h = rw (e, named_symbol_m) (grown_trans h (end-grown a t))

  abbrev any-limits : Limits FunctionRow SymbolRow
  any-limits = record { Row = λ d q. Unit {0}; Symbol = λ y. Unit {0}; Key = λ k. Unit {0} }

  abbrev grown-couple : Couple FunctionRow ℕ (Unit {0}) Location (Unit {0}) (Option ℕ) (Unit {0}) Tables (Unit {0})
  grown-couple = record { State = λ s u. Unit {0}; Ext = λ s u t v. Grown s t; Loc = λ s u d l m. Unit {0}; Cal = λ s u d c e. Unit {0}; Fun = λ s u d q r e. Unit {0} }

  grown_laws : Preserves input (plain X) blank any-limits grown-couple
  grown_laws = record {
    ext_refl = λ s u. grown-refl s;
    ext_trans = λ p q. grown_trans p q;
    loc-ext = λ e h. h;
    cal_ext = λ e h. h;
    fun_ext = λ e h. h;
    keys = λ n. (tt, tt);
    put_law = λ d k l m s u b h w. record { ext = put-grown k l s; state = tt };
    begin_law = λ d q s u ok z h. (record { ext = begin-grown q s; state = tt }, tt);
    locate_law = λ d q r e n c f s u ok i h m k. (record { ext = locate-grown q r n c s; state = tt }, tt);
    enter_law = λ d l m s u h w. (record { ext = enter-grown l s; state = tt }, tt);
    base_law = λ s u h. tt;
    close_law = λ d q r e s u ok z h m. record { ext = close_grown q r s; state = tt };
    symbol_law = λ y s u ok z h. record { ext = symbol-grown y s; state = tt };
  }

  any-op : (o : OpM FunctionRow SymbolRow) → Allowed input (plain X) blank any-limits grown-couple o
  any-op (tree_m q rs) = (tt, λ r i. tt)
  any-op (symbol_m y) = tt

  pub needs_grow : (os : List (OpM FunctionRow SymbolRow)) (s : Tables) → Grown s (run_m input (plain X) os s)
  needs_grow os s = (run-both input (plain X) blank any-limits grown-couple grown_laws os s tt (λ o i. any-op o) tt).ext

  -- the calls after one another
  run-append : (gs hs : List Given) (s : Tables) → run_m input (plain X) (map op (gs ++ hs)) s ≡ run_m input (plain X) (map op hs) (run_m input (plain X) (map op gs) s)
  unfolding run_m
  run-append [] hs s = refl
  run-append (g ∷ gs) hs s = run-append gs hs (convert_op_m input (plain X) (op g) s)

  pub converted_grow : (gs hs : List Given) → Grown (converted X gs) (converted X (gs ++ hs))
  converted_grow gs hs = rw (run-append gs hs nothing) (needs_grow (map op hs) (converted X gs))

-- ── 17's condition ──

module _ (K : Capacities) where
  -- the test, taken apart and put together
  pub record Fits (s : Tables) : Type 0 where
    pub texts : length s.texts ≤ K.texts
    pub bytes : text_bytes s.texts ≤ K.bytes
    pub files : length s.files ≤ K.files
    pub functions : length s.functions ≤ K.functions
    pub calls : length s.calls ≤ K.calls
    pub ranges : length s.ranges ≤ K.ranges

  pub needs : (s : Tables) → plain_fits? K s ≡ true → Fits s
  unfolding plain_fits?
  needs s h =
      let (h₁, f) = both_true _ (leb (length s.ranges) K.ranges) h in
      let (h₂, e) = both_true _ (leb (length s.calls) K.calls) h₁ in
      let (h₃, d) = both_true _ (leb (length s.functions) K.functions) h₂ in
      let (h₄, c) = both_true _ (leb (length s.files) K.files) h₃ in
      let (a, b) = both_true (leb (length s.texts) K.texts) (leb (text_bytes s.texts) K.bytes) h₄ in
      record { texts = leb-true _ _ a; bytes = leb-true _ _ b; files = leb-true _ _ c; functions = leb-true _ _ d; calls = leb-true _ _ e; ranges = leb-true _ _ f }

  pub room : (s : Tables) → Fits s → plain_fits? K s ≡ true
  unfolding plain_fits?
  room s n =
      both_of _ _ (both_of _ _ (both_of _ _ (both_of _ _ (both_of _ _ (le-leb _ _ n.texts) (le-leb _ _ n.bytes)) (le-leb _ _ n.files)) (le-leb _ _ n.functions)) (le-leb _ _ n.calls))
      (le-leb _ _ n.ranges)

  pub fits_down : {s t : Tables} → Grown s t → plain_fits? K t ≡ true → plain_fits? K s ≡ true
  fits_down {s} {t} g h =
      let n = needs t h in
      room s
      (record {
        texts = omega (arith, g.texts, n.texts);
        bytes = omega (arith, g.bytes, n.bytes);
        files = omega (arith, g.files, n.files);
        functions = omega (arith, g.functions, n.functions);
        calls = omega (arith, g.calls, n.calls);
        ranges = omega (arith, g.ranges, n.ranges);
      })

  pub exceeds_up : {s t : Tables} → Grown s t → plain_fits? K s ≡ false → plain_fits? K t ≡ false
  exceeds_up {s} {t} g h = go (plain_fits? K t) refl
    where
      go : (b : Bool) → plain_fits? K t ≡ b → plain_fits? K t ≡ false
      go true e = false-true (sym h ∙ fits_down g e)
      go false e = e

  pub fits-nothing : plain_fits? K nothing ≡ true
  fits-nothing = room nothing (record { texts = omega arith; bytes = omega arith; files = omega arith; functions = omega arith; calls = omega arith; ranges = omega arith })

  -- where one table changes and the others fit, only that one matters
  only : (t : Tables) (p : Bool) → (p ≡ true → Fits t) → (Fits t → p ≡ true) → plain_fits? K t ≡ p
  only t p f g = go p (plain_fits? K t) refl refl
    where
      go : (a b : Bool) → p ≡ a → plain_fits? K t ≡ b → plain_fits? K t ≡ p
      go true b e z = room t (f e) ∙ sym e
      go false true e z = false-true (sym e ∙ g (needs t z))
      go false false e z = z ∙ sym e

  module _ (s : Tables) (fit : plain_fits? K s ≡ true) where
    abbrev n : Fits s
    n = needs s fit

    pub fits-texts : (ts : List Text) → plain_fits? K (record { texts = ts; files = s.files; functions = s.functions; calls = s.calls; ranges = s.ranges }) ≡ (leb (length ts) K.texts && leb (text_bytes ts) K.bytes)
    fits-texts ts =
        only _ _
        (λ e. let (a, b) = both_true (leb (length ts) K.texts) _ e in
        record { texts = leb-true _ _ a; bytes = leb-true _ _ b; files = n.files; functions = n.functions; calls = n.calls; ranges = n.ranges })
        (λ h. both_of _ _ (le-leb _ _ h.texts) (le-leb _ _ h.bytes))

    pub fits-files : (fs : List File) → plain_fits? K (record { texts = s.texts; files = fs; functions = s.functions; calls = s.calls; ranges = s.ranges }) ≡ leb (length fs) K.files
    fits-files fs = only _ _ (λ e. record { texts = n.texts; bytes = n.bytes; files = leb-true _ _ e; functions = n.functions; calls = n.calls; ranges = n.ranges }) (λ h. le-leb _ _ h.files)

    pub fits-functions : (fs : List Function) → plain_fits? K (record { texts = s.texts; files = s.files; functions = fs; calls = s.calls; ranges = s.ranges }) ≡ leb (length fs) K.functions
    fits-functions fs = only _ _ (λ e. record { texts = n.texts; bytes = n.bytes; files = n.files; functions = leb-true _ _ e; calls = n.calls; ranges = n.ranges }) (λ h. le-leb _ _ h.functions)

    pub fits-calls : (cs : List Location) → plain_fits? K (record { texts = s.texts; files = s.files; functions = s.functions; calls = cs; ranges = s.ranges }) ≡ leb (length cs) K.calls
    fits-calls cs = only _ _ (λ e. record { texts = n.texts; bytes = n.bytes; files = n.files; functions = n.functions; calls = leb-true _ _ e; ranges = n.ranges }) (λ h. le-leb _ _ h.calls)

    pub fits-ranges : (rs : List (Entry Location)) → plain_fits? K (record { texts = s.texts; files = s.files; functions = s.functions; calls = s.calls; ranges = rs }) ≡ leb (length rs) K.ranges
    fits-ranges rs = only _ _ (λ e. record { texts = n.texts; bytes = n.bytes; files = n.files; functions = n.functions; calls = n.calls; ranges = leb-true _ _ e }) (λ h. le-leb _ _ h.ranges)
