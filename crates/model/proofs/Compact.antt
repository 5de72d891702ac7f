-- What writing and reading need of EVERY list's tables, beside `Always`: texts are stored once, none empty, all UTF-8; rows stand once; numbers fit 32 bits.
-- Its premises are what 14 and the width of a language leave.
use mathlib.Core.Path.{◌≡◌, refl, sym, ap, ◌∙◌, subst}
use mathlib.Core.Bool.{Bool, true, false, cond}
use mathlib.Core.Option.{Option, none, some}
use mathlib.Core.Logic.{◌⊎◌, inl, inr, ◌≢◌, ⊎_elim}
use mathlib.Core.List.{List, [], ◌∷◌, map}
use Prim.Native.Nat.{ℕ, zero, suc, ◌+◌, ◌≤◌}
use native.Mathlib.Omega.{arith}
use lib.ListN.{length}
use lib.Dec.{ltb, leb, eqb}
use Rattle.slices.proofs.Cases.{eq-or-ne, false-true, both_of}
use Rattle.text.specs.Utf8.{utf8}
use Rattle.names.specs.Names.{undecorated}
use Rattle.names.proofs.Kept.{utf8-kept}
use borrow.Author.Tests.{eq-eqb, ltb-false, leb-true}
use Rattle.model.specs.Basics.{◌∈◌, Deep, intern}
use Rattle.model.specs.Rows.{MAX, Text, LineRow, FunctionRow, SymbolRow, Given, tree_rows, symbol_row, skipped, function_end, symbol_skipped, symbol_end}
use Rattle.model.specs.Machine.{unless_held, put_end, entry_m, closing_m, named_symbol_m}
use Rattle.model.specs.Converter.{input, deep, op, Setup, Six, File, Function, Location, nowhere, at, Tables, nothing, opt_eq, text_eq, file_eq, function_eq, location_eq, is_nowhere, intern_text, intern_six, or_empty, function_name, symbol_name, directory_of, line_texts, entry_of, range_at, range_put, put_at_lem, begin_row, locate_line, begin_symbol, locate_symbol, enter_call, plain, converted}
use Rattle.model.proofs.Spans.{map-∈}
use Rattle.model.proofs.Intern.{At, intern-new, at_length}
use Rattle.model.proofs.Chains.{some-eq, put_same, put_other}
use Rattle.model.proofs.Couple.{Couple, Limits, Preserves, Allowed, run-both}
use Rattle.model.proofs.Always.{blank}

-- ── A table in which each value stands once ──

module _ {A : Type 0} where
  abbrev pub Once : List A → Type 0
  Once xs = (i j : ℕ) (a : A) → At xs i a → At xs j a → i ≡ j

  module _ (eq : A → A → Bool) (whole : (a : A) → eq a a ≡ true) where
    intern-known : (xs : List A) (a : A) (i : ℕ) → At xs i a → (intern eq xs a).table ≡ xs
    unfolding intern
    intern-known [] a i h = absurd h
    intern-known (x ∷ xs) a i h = go (eq x a) refl i h (λ j k. intern-known xs a j k)
      where
        go : (t : Bool) → eq x a ≡ t → (j : ℕ) → At (x ∷ xs) j a → ((k : ℕ) → At xs k a → (intern eq xs a).table ≡ xs) → (intern eq (x ∷ xs) a).table ≡ x ∷ xs
        go true e j k ih = rw (e, intern)
        go false e zero k ih = false-true (sym e ∙ ap (eq x) (sym k) ∙ whole x)
        go false e (suc j) k ih = rw (e, intern) (ap (λ (t : List A). x ∷ t) (ih j k))

    pub intern-once : (xs : List A) (a : A) → Once xs → Once (intern eq xs a).table
    intern-once xs a o i j b h k = go (intern-new eq xs a i b h) (intern-new eq xs a j b k)
      where
        clash : (m n : ℕ) → At xs m b → n ≡ length xs → b ≡ a → At (intern eq xs a).table n b → ⊥
        clash m n p e z q =
            let known = intern-known xs a m (subst (At xs m) z p) in
            let r = at_length xs n b (subst (λ (t : List A). At t n b) known q) in
            omega arith

        go : At xs i b ⊎ ((i ≡ length xs) × (b ≡ a)) → At xs j b ⊎ ((j ≡ length xs) × (b ≡ a)) → i ≡ j
        go (inl p) (inl q) = o i j b p q
        go (inl p) (inr q) = absurd (clash i j p q.0 q.1 k)
        go (inr p) (inl q) = absurd (clash j i q p.0 p.1 h)
        go (inr p) (inr q) = p.0 ∙ sym q.0

opt_whole : (o : Option ℕ) → opt_eq o o ≡ true
opt_whole none = refl
opt_whole (some i) = eq-eqb i i refl

pub text-whole : (t : Text) → text_eq t t ≡ true
text-whole [] = refl
text-whole (a ∷ t) = both_of (eqb a a) (text_eq t t) (eq-eqb a a refl) (text-whole t)

pub file-whole : (x : File) → file_eq x x ≡ true
file-whole x =
    both_of _ _ (both_of _ _ (both_of _ _ (both_of _ _ (both_of _ _ (opt_whole x.name) (opt_whole x.directory)) (opt_whole x.comp_dir)) (opt_whole x.srcsrv_name)) (opt_whole x.srcsrv_dir))
    (opt_whole x.revision)

pub function-whole : (x : Function) → function_eq x x ≡ true
function-whole x = both_of _ _ (both_of _ _ (opt_whole x.name) (eq-eqb x.entry x.entry refl)) (eq-eqb x.language x.language refl)

pub location-whole : (l : Location) → location_eq l l ≡ true
location-whole nowhere = refl
location-whole (at f n i c) = both_of _ _ (both_of _ _ (both_of _ _ (opt_whole f) (eq-eqb n n refl)) (eq-eqb i i refl)) (opt_whole c)

-- ── The invariant ──

abbrev pub Low : Location → Type 0
Low nowhere = Unit {0}
Low (at f n i c) = n ≤ MAX

pub record Texts (ts : List Text) : Type 0 where
  pub good : (i : ℕ) (t : Text) → At ts i t → (t ≢ []) × (utf8 t ≡ true)
  pub once : Once ts

pub record Compact (s : Tables) : Type 0 where
  pub texts : Texts s.texts
  pub files-once : Once s.files
  pub functions-once : Once s.functions
  pub calls-once : Once s.calls
  pub functions-low : (i : ℕ) (f : Function) → At s.functions i f → (f.entry ≤ MAX) × (f.language ≤ MAX)
  pub calls-low : (i : ℕ) (l : Location) → At s.calls i l → Low l
  pub ranges-low : (k : ℕ) (l : Location) → range_at s.ranges k ≡ some l → (k ≤ MAX) × Low l

-- "any text but a compilation directory not UTF-8" is 14; a language has 32 bits
pub record LineFits (n : LineRow) : Type 0 where
  pub name : utf8 n.name ≡ true
  pub directory : utf8 n.directory ≡ true
  pub srcsrv_name : (t : Text) → n.srcsrv_name ≡ some t → utf8 t ≡ true
  pub srcsrv_dir : (t : Text) → n.srcsrv_dir ≡ some t → utf8 t ≡ true
  pub revision : (t : Text) → n.revision ≡ some t → utf8 t ≡ true

pub record RowFits (q : FunctionRow) : Type 0 where
  pub name : utf8 q.name ≡ true
  pub language : q.language ≤ MAX
  pub lines : (n : LineRow) → n ∈ q.lines → LineFits n

abbrev pub SymbolFits : SymbolRow → Type 0
SymbolFits y = (t : Text) → y.name ≡ some t → utf8 t ≡ true

-- what 14 leaves of a call
abbrev pub GivenFits : Given → Type 0
GivenFits (tree_rows q rs) = RowFits q × ((r : FunctionRow) → r ∈ rs → RowFits r)
GivenFits (symbol_row y) = SymbolFits y

-- empty, or UTF-8
abbrev Storable : Text → Type 0
Storable t = (t ≡ []) ⊎ (utf8 t ≡ true)

storable_opt : (o : Option Text) → ((t : Text) → o ≡ some t → utf8 t ≡ true) → Storable (or_empty o)
storable_opt none h = inl refl
storable_opt (some t) h = inr (h t refl)

store-texts : (ts : List Text) (t : Text) → Storable t → Texts ts → Texts (intern_text ts t).table
unfolding intern_text
store-texts ts [] u h = h
store-texts ts (b ∷ t) u h = record {
  good = λ i a k. ⊎_elim (λ z. h.good i a z) (λ (p, e). (λ z. clash (sym e ∙ z), subst (λ (w : Text). utf8 w ≡ true) (sym e) (ok u))) (intern-new text_eq ts (b ∷ t) i a k);
  once = intern-once text_eq text-whole ts (b ∷ t) h.once;
}
  where
    clash : ◌≡◌ {A = Text} (b ∷ t) [] → ⊥
    clash e = let bad : ◌≡◌ {A = ℕ} 0 1 = cc in omega arith

    ok : Storable (b ∷ t) → utf8 (b ∷ t) ≡ true
    ok (inl e) = absurd (clash e)
    ok (inr e) = e

six-texts : (ts : List Text) (x : Six Text) → Storable x.name → Storable x.directory → Storable x.comp_dir → Storable x.srcsrv_name → Storable x.srcsrv_dir → Storable x.revision → Texts ts → Texts (intern_six ts x).table
unfolding intern_six
six-texts ts x a b c d e f h = store-texts _ x.revision f (store-texts _ x.srcsrv_dir e (store-texts _ x.srcsrv_name d (store-texts _ x.comp_dir c (store-texts _ x.directory b (store-texts ts x.name a h)))))

pub compact_nothing : Compact nothing
unfolding range_at
compact_nothing = record {
  texts = record { good = λ i t h. absurd h; once = λ i j a h k. absurd h };
  files-once = λ i j a h k. absurd h;
  functions-once = λ i j a h k. absurd h;
  calls-once = λ i j a h k. absurd h;
  functions-low = λ i f h. absurd h;
  calls-low = λ i l h. absurd h;
  ranges-low = λ k l e. let bad : ◌≡◌ {A = ℕ} 0 1 = cc in absurd (omega arith);
}

module _ (X : Setup) where
  named_ok : (b : Bool) (t : Text) → utf8 t ≡ true → utf8 (cond b (undecorated t) t) ≡ true
  named_ok true t h = utf8-kept t h
  named_ok false t h = h

  directory-ok : (q : FunctionRow) → Storable (directory_of q)
  directory-ok q = go (utf8 q.comp_dir) refl
    where
      go : (b : Bool) → utf8 q.comp_dir ≡ b → Storable (cond b q.comp_dir [])
      go true e = inr e
      go false e = inl refl

  entry-low : (q : FunctionRow) → skipped q ≡ false → entry_of q ≤ MAX
  entry-low q z = go q.inline (eqb q.size 0) z
    where
      go : (b c : Bool) → cond c true (ltb MAX q.address) ≡ false → cond b MAX q.address ≤ MAX
      go true c e = omega arith
      go false true e = false-true (sym e)
      go false false e = ltb-false MAX q.address e

  address-low : (q : FunctionRow) → skipped q ≡ false → q.address ≤ MAX
  address-low q z = go (eqb q.size 0) z
    where
      go : (c : Bool) → cond c true (ltb MAX q.address) ≡ false → q.address ≤ MAX
      go true e = false-true (sym e)
      go false e = ltb-false _ _ e

  symbol_low : (y : SymbolRow) → symbol_skipped y ≡ false → (t : Text) × (y.name ≡ some t) × (y.address ≤ MAX)
  symbol_low y z = go y.name refl z
    where
      go : (o : Option Text) → y.name ≡ o → elim o [ none ↦ true | some t ↦ ltb MAX y.address ] ≡ false → (t : Text) × (y.name ≡ some t) × (y.address ≤ MAX)
      go none e h = false-true (sym h)
      go (some t) e h = (t, e, ltb-false _ _ h)

  end_low : (y : SymbolRow) (e : ℕ) → symbol_end y ≡ some e → e ≤ MAX
  end_low y e h = go (eqb y.size 0) (leb (y.address + y.size) MAX) refl h
    where
      go : (a b : Bool) → leb (y.address + y.size) MAX ≡ b → cond a none (cond b (some (y.address + y.size)) none) ≡ some e → e ≤ MAX
      go true b p r = let bad : ◌≡◌ {A = ℕ} 0 1 = cc in absurd (omega arith)
      go false true p r = let z : y.address + y.size ≡ e = cc in omega (arith, leb-true (y.address + y.size) MAX p)
      go false false p r = let bad : ◌≡◌ {A = ℕ} 0 1 = cc in absurd (omega arith)

  -- ── The operations keep it ──

  put_compact : (k : ℕ) (l : Location) (s : Tables) → k ≤ MAX → Low l → Compact s → Compact (put_at_lem k l s)
  put_compact k l s b w h = record {
    texts = h.texts;
    files-once = h.files-once;
    functions-once = h.functions-once;
    calls-once = h.calls-once;
    functions-low = h.functions-low;
    calls-low = h.calls-low;
    ranges-low = λ j c e. go j c e (eq-or-ne j k);
  }
    where
      go : (j : ℕ) (c : Location) → range_at (range_put k l s.ranges) j ≡ some c → (j ≡ k) ⊎ (j ≢ k) → (j ≤ MAX) × Low c
      go j c e (inl z) = (omega arith, subst Low (some-eq (sym (put_same k l s.ranges) ∙ subst (λ (i : ℕ). range_at (range_put k l s.ranges) i ≡ some c) z e)) w)
      go j c e (inr n) = h.ranges-low j c (sym (put_other k l s.ranges j n) ∙ e)

  add_compact : (s : Tables) (ts : List Text) (f : Function) → Texts ts → f.entry ≤ MAX → f.language ≤ MAX → Compact s
      → Compact (record { texts = ts; files = s.files; functions = (intern function_eq s.functions f).table; calls = s.calls; ranges = s.ranges })
  add_compact s ts f t a b h = record {
    texts = t;
    files-once = h.files-once;
    functions-once = intern-once function_eq function-whole s.functions f h.functions-once;
    calls-once = h.calls-once;
    functions-low = λ i g k. ⊎_elim (λ z. h.functions-low i g z) (λ (p, e). subst (λ (x : Function). (x.entry ≤ MAX) × (x.language ≤ MAX)) (sym e) (a, b)) (intern-new function_eq s.functions f i g k);
    calls-low = h.calls-low;
    ranges-low = h.ranges-low;
  }

  begin_compact : (q : FunctionRow) (s : Tables) → RowFits q → skipped q ≡ false → Compact s → Compact (begin_row X q s).1
  unfolding begin_row
  begin_compact q s r z h = add_compact s _ _ (store-texts s.texts (function_name X q) (inr (named_ok X.functions_on q.name r.name)) h.texts) (entry-low q z) r.language h

  locate_compact : (q : FunctionRow) (r : ℕ) (n : LineRow) (c : Option ℕ) (s : Tables) → LineFits n → Compact s → Compact (locate_line q r n c s).1
  unfolding locate_line
  locate_compact q r n c s f h = record {
    texts = six-texts s.texts (line_texts q n) (inr f.name) (inr f.directory) (directory-ok q) (storable_opt n.srcsrv_name f.srcsrv_name) (storable_opt n.srcsrv_dir f.srcsrv_dir) (storable_opt n.revision f.revision) h.texts;
    files-once = intern-once file_eq file-whole s.files _ h.files-once;
    functions-once = h.functions-once;
    calls-once = h.calls-once;
    functions-low = h.functions-low;
    calls-low = h.calls-low;
    ranges-low = h.ranges-low;
  }

  locate-low : (q : FunctionRow) (r : ℕ) (n : LineRow) (c : Option ℕ) (s : Tables) → Low (locate_line q r n c s).0
  unfolding locate_line
  locate-low q r n c s = omega arith

  enter_compact : (l : Location) (s : Tables) → Low l → Compact s → Compact (enter_call l s).1
  unfolding enter_call
  enter_compact l s w h = record {
    texts = h.texts;
    files-once = h.files-once;
    functions-once = h.functions-once;
    calls-once = intern-once location_eq location-whole s.calls l h.calls-once;
    functions-low = h.functions-low;
    calls-low = λ i k a. ⊎_elim (λ z. h.calls-low i k z) (λ (p, e). subst Low (sym e) w) (intern-new location_eq s.calls l i k a);
    ranges-low = h.ranges-low;
  }

  end_compact : (a : ℕ) (s : Tables) → a ≤ MAX → Compact s → Compact (put_end input (plain X) a s)
  unfolding put_end
  end_compact a s b h = go (range_at s.ranges a) refl
    where
      go : (o : Option Location) → range_at s.ranges a ≡ o → Compact (put_end input (plain X) a s)
      go none e = rw (e, put_end) (put_compact a nowhere s b tt h)
      go (some l) e = rw (e, put_end) h

  unless_compact : (a : ℕ) (s t : Tables) → Compact s → Compact t → Compact (unless_held input (plain X) a t s)
  unfolding unless_held
  unless_compact a s t h k = go (range_at s.ranges a) refl
    where
      pick : (b : Bool) → Compact (cond b t s)
      pick true = k
      pick false = h

      go : (o : Option Location) → range_at s.ranges a ≡ o → Compact (unless_held input (plain X) a t s)
      go none e = rw (e, unless_held) k
      go (some l) e = rw (e, unless_held) (pick (is_nowhere l))

  close_compact : (q : FunctionRow) (r : ℕ) (s : Tables) → skipped q ≡ false → Compact s → Compact (closing_m input (plain X) q r s)
  unfolding closing_m entry_m
  close_compact q r s z h = end_compact (function_end q) _ (omega arith) (go q.inline refl)
    where
      go : (b : Bool) → q.inline ≡ b → Compact (entry_m input (plain X) q r s)
      go true e = rw (e, entry_m) h
      go false e = rw (e, entry_m) (unless_compact q.address s _ h (put_compact q.address (at none 0 r none) s (address-low q z) (omega arith) h))

  symbol_compact : (y : SymbolRow) (s : Tables) → SymbolFits y → symbol_skipped y ≡ false → Compact s → Compact (named_symbol_m input (plain X) y s)
  unfolding named_symbol_m begin_symbol locate_symbol
  symbol_compact y s f z h = go (symbol_end y) refl located
    where
      b : Option ℕ × Tables
      b = begin_symbol X y s

      l : Location × Tables
      l = locate_symbol y b.0 b.1

      low : y.address ≤ MAX
      low = (symbol_low y z).2

      name-ok : Storable (symbol_name X y)
      name-ok = let (t, e, k) = symbol_low y z in inr (named_ok X.symbols_on (or_empty y.name) (rw e (f t e)))

      h₁ : Compact b.1
      h₁ = record { texts = store-texts s.texts (symbol_name X y) name-ok h.texts; files-once = h.files-once; functions-once = h.functions-once; calls-once = h.calls-once; functions-low = h.functions-low; calls-low = h.calls-low; ranges-low = h.ranges-low }

      h₂ : Compact l.1
      h₂ = add_compact b.1 _ _ h₁.texts low (omega arith) h₁

      t : Tables
      t = unless_held input (plain X) y.address (put_at_lem y.address l.0 l.1) b.1

      located : Compact t
      located = unless_compact y.address b.1 _ h₁ (put_compact y.address l.0 l.1 low (omega arith) h₂)

      go : (o : Option ℕ) → symbol_end y ≡ o → Compact t → Compact (named_symbol_m input (plain X) y s)
      go none e k = rw (e, named_symbol_m) k
      go (some a) e k = rw (e, named_symbol_m) (end_compact a t (end_low y a e) k)

  -- ── Every list ──

  abbrev fit_limits : Limits FunctionRow SymbolRow
  fit_limits = record { Row = λ d q. RowFits q; Symbol = SymbolFits; Key = λ k. k ≤ MAX }

  abbrev compact_couple : Couple FunctionRow ℕ (Unit {0}) Location (Unit {0}) (Option ℕ) (Unit {0}) Tables (Unit {0})
  compact_couple = record { State = λ s u. Compact s; Ext = λ s u t v. Unit {0}; Loc = λ s u d l m. Low l; Cal = λ s u d c e. Unit {0}; Fun = λ s u d q r e. Unit {0} }

  compact_laws : Preserves input (plain X) blank fit_limits compact_couple
  compact_laws = record {
    ext_refl = λ s u. tt;
    ext_trans = λ p q. tt;
    loc-ext = λ e h. h;
    cal_ext = λ e h. h;
    fun_ext = λ e h. h;
    keys = λ n. (omega arith, omega arith);
    put_law = λ d k l m s u b h w. record { ext = tt; state = put_compact k l s b w h };
    begin_law = λ d q s u ok z h. (record { ext = tt; state = begin_compact q s ok z h }, tt);
    locate_law = λ d q r e n c f s u ok i h m k. (record { ext = tt; state = locate_compact q r n c s (ok.lines n i) h }, locate-low q r n c s);
    enter_law = λ d l m s u h w. (record { ext = tt; state = enter_compact l s w h }, tt);
    base_law = λ s u h. tt;
    close_law = λ d q r e s u ok z h m. record { ext = tt; state = close_compact q r s z h };
    symbol_law = λ y s u ok z h. record { ext = tt; state = symbol_compact y s ok z h };
  }

  fits-op : (g : Given) → GivenFits g → Allowed input (plain X) blank fit_limits compact_couple (op g)
  fits-op (tree_rows q rs) h = (h.0, λ r i. let (p, j, e) = map-∈ deep rs i in subst (λ (t : Deep FunctionRow). RowFits t.item) (sym e) (h.1 p j))
  fits-op (symbol_row y) h = h

  pub always_compact : (gs : List Given) → ((g : Given) → g ∈ gs → GivenFits g) → Compact (converted X gs)
  always_compact gs h =
      (run-both input (plain X) blank fit_limits compact_couple compact_laws (map op gs) nothing tt
      (λ o i. let (g, j, e) = map-∈ op gs i in subst (Allowed input (plain X) blank fit_limits compact_couple) (sym e) (fits-op g (h g j)))
      compact_nothing).state
