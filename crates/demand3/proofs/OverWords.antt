-- THE CONVERTER OVER WORDS ENCODES THE PLAIN ONE, whatever is given: every operation of the machine `over_words X` goes as that of `plain X` (`words-encode`). So, of each call and of every
-- list of calls, the crate model's `encoded-call` and `encoded-list` hold.
use mathlib.Core.Path.{◌≡◌, refl, sym, ap, subst}
use mathlib.Core.Bool.{Bool, true, false, cond, ◌&&◌}
use mathlib.Core.Option.{Option, none, some}
use mathlib.Core.List.{List, [], ◌∷◌}
use Prim.Native.Nat.{ℕ, suc, ◌<◌}
use native.Mathlib.Omega.{arith}
use lib.Dec.{eqb}
use lib.ListN.{length}
use borrow.Author.Tests.{ne_eqb}
use Rattle.slices.proofs.Cases.{none-some}
use Rattle.model.specs.Basics.{Entry, intern}
use Rattle.model.specs.Rows.{MAX, LineRow, FunctionRow, SymbolRow}
use Rattle.model.specs.Converter.{Setup, File, Function, Location, nowhere, at, Tables, is_nowhere, file_eq, function_eq, location_eq, intern_text, intern_six, function_name, symbol_name, line_texts, entry_of, range_at, begin_row, locate_line, begin_symbol, locate_symbol, enter_call}
use Rattle.model.specs.FileWords.{index_word}
use Rattle.model.proofs.Intern.{At, Grows, intern_grows}
use Rattle.model.proofs.Chains.{file_eq-ok, function_eq-ok, location_eq-ok}
use Rattle.model.proofs.Always.{Within, InTables}
use Rattle.model.proofs.Grown.{Grown}
use Rattle.model.proofs.Couple.{Alike, vacant, held}
use Rattle.model.proofs.Encoded.{Holds, Goes, goes_then, Encodes}
use Rattle.raw.specs.Rows.{max32, is_no_source_location}
use Rattle.raw.specs.declared.SourceLocation.{SourceLocation}
use Rattle.memory.specs.Memory.{Words}
use Rattle.steps.specs.Steps.{add_call, file_row_lem, locate_six, begin_named, get_range, over_words}
use Rattle.steps.specs.Steps.{store, store_six, add_function}
use Rattle.steps.proofs.Lengths.{Lens}
use Rattle.demand3.proofs.WordRows.{source, grows_length, within-later, in_later, Few}
use Rattle.demand3.proofs.Interned.{intern-below, shown, got}
use Rattle.demand3.proofs.Encoding.{capacities, full, Enc, TextIs, text-is-later, encoding, any, few, went}
use Rattle.demand3.proofs.StepLaws.{with-texts, with_files, with_functions, store-full, store-went, file-full, file-went, function-full, function-went, call-full, call-went, range_full, range_went, answer, six-full, six-goes}

-- ── What is read ──

-- the words of a location tell whether it is the empty mapping
is-none-same : (s : Tables) → Few s → (l : Location) → InTables s l → is_nowhere l ≡ is_no_source_location (source l)
unfolding is_no_source_location
is-none-same s w nowhere h = refl
is-none-same s w (at f n i c) h = go (eqb (index_word f) max32) (eqb n max32)
  where
    e : eqb i max32 ≡ false
    e = ne_eqb i max32 (λ z. omega (arith, h.0, w.functions))

    go : (a b : Bool) → false ≡ (a && (b && (eqb i max32 && eqb (index_word c) max32)))
    go false b = refl
    go true false = refl
    go true true = rw e

-- what a start holds stands in the ranges
range_stands : (rs : List (Entry Location)) (k : ℕ) (l : Location) → range_at rs k ≡ some l → (i : ℕ) × (e : Entry Location) × At rs i e × (e.value ≡ l)
unfolding range_at
range_stands [] k l h = none-some h
range_stands (e ∷ es) k l h = go (eqb k e.key) h (λ z. range_stands es k l z)
  where
    go : (b : Bool) → cond b (some e.value) (range_at es k) ≡ some l → (range_at es k ≡ some l → (i : ℕ) × (d : Entry Location) × At es i d × (d.value ≡ l)) → (i : ℕ) × (d : Entry Location) × At (e ∷ es) i d × (d.value ≡ l)
    go true z ih = let p : e.value ≡ l = cc in (0, e, refl, p)
    go false z ih = let (i, d, a, p) = ih z in (suc i, d, a, p)

module _ (n : Lens) (X : Setup) where
  abbrev HoldsIn : Tables → Words → Type 0
  HoldsIn = Holds (capacities n) (encoding n)

  abbrev GoesTo : Tables → Words → Type 0 → Type 0
  GoesTo = Goes (capacities n) (encoding n)

  get-same : (k : ℕ) (s : Tables) (w : Words) → HoldsIn s w → Alike is_nowhere is_no_source_location (range_at s.ranges k) (get_range w k)
  get-same k s w h = subst (Alike is_nowhere is_no_source_location (range_at s.ranges k)) (sym (got w.mm.ranges w.st.ranges s.ranges k h.enc.ranges)) (go (range_at s.ranges k) refl)
    where
      go : (o : Option Location) → range_at s.ranges k ≡ o → Alike is_nowhere is_no_source_location o (shown o)
      go none e = vacant
      go (some l) e =
          let (i, d, a, p) = range_stands s.ranges k l e in
          held (is-none-same s (few n s w h.enc) l (subst (InTables s) p (h.enc.inside.ranges i d a)))

  -- ── A row's name and its function ──

  function-goes : (p : Option ℕ) (v entry language : ℕ) (s : Tables) (w : Words) → Enc n s w → TextIs s.texts p v → let i = intern function_eq s.functions (record { name = p; entry = entry; language = language }) in
      let u = add_function v entry language w in GoesTo (with_functions s i.table) u.1 ((i.index < length i.table) × (u.0 ≡ i.index))
  function-goes p v entry language s w h t =
      let f : Function = record { name = p; entry = entry; language = language } in
      let b = intern-below function_eq function_eq-ok s.functions f in
      answer n (λ e. (b, e)) (went n _ _ (function-went f s w n v t h))

  functions-grown : (s : Tables) (f : Function) → Grown s (with_functions s (intern function_eq s.functions f).table)
  functions-grown s f = record { texts = omega arith; bytes = omega arith; files = omega arith; functions = grows_length s.functions (intern function_eq s.functions f).table (intern_grows function_eq s.functions f); calls = omega arith; ranges = omega arith }

  begin-goes : (q : FunctionRow) (s : Tables) (w : Words) → HoldsIn s w → let t = begin_row X q s in let u = (over_words X).begin q w in GoesTo t.1 u.1 ((t.0 < length t.1.functions) × (u.0 ≡ t.0))
  unfolding begin_row begin_named
  begin-goes q s w h =
      let name = function_name X q in
      let p = intern_text s.texts name in
      let u = store name w in
      let s₁ = with-texts s p.table in
      goes_then (capacities n) (encoding n) (went n _ _ (store-went name s w n h.enc))
      (functions-grown s₁ (record { name = p.ref; entry = entry_of q; language = q.language })) (function-full u.0 (entry_of q) q.language u.1)
      (λ k i. function-goes p.ref u.0 (entry_of q) q.language s₁ u.1 k.enc i)

  begin-stays : (q : FunctionRow) (w : Words) → full w ≡ true → full ((over_words X).begin q w).1 ≡ true
  unfolding begin_named
  begin-stays q w h = function-full (store (function_name X q) w).0 (entry_of q) q.language (store (function_name X q) w).1 (store-full (function_name X q) w h)

  -- ── A line's texts, its file and its location ──

  files-grown : (s : Tables) (fs : List File) → Grows s.files fs → Grown s (with_files s fs)
  files-grown s fs g = record { texts = omega arith; bytes = omega arith; files = grows_length s.files fs g; functions = omega arith; calls = omega arith; ranges = omega arith }

  locate-goes : (q : FunctionRow) (r r' : ℕ) (l : LineRow) (c : Option ℕ) (c' : ℕ) (s : Tables) (w : Words) → HoldsIn s w → (r < length s.functions) × (r' ≡ r) → Within c (length s.calls) × (c' ≡ index_word c)
      → let t = locate_line q r l c s in let u = (over_words X).locate q r' l c' w in GoesTo t.1 u.1 (InTables t.1 t.0 × (u.0 ≡ source t.0))
  unfolding locate_line locate_six
  locate-goes q r r' l c c' s w h e f =
      let x = line_texts q l in
      let t = intern_six s.texts x in
      let u = store_six x w in
      let s₁ = with-texts s t.table in
      let i = intern file_eq s.files t.ref in
      let b = intern-below file_eq file_eq-ok s.files t.ref in
      goes_then (capacities n) (encoding n) (six-goes n x s w h.enc)
      (files-grown s₁ i.table (intern_grows file_eq s.files t.ref)) (file-full (file_row_lem u.0) u.1)
      (λ k z. answer n
      (λ j. ((e.0, b, f.0), located j e.1 f.1))
      (went n _ _ (file-went t.ref s₁ u.1 n (file_row_lem u.0) z.1 z.0 k.enc)))
    where
      located : {v g m : ℕ} → v ≡ g → r' ≡ r → c' ≡ index_word c → (◌≡◌ {A = SourceLocation} (record { file_idx = v; line = m; function_idx = r'; inlined_into_idx = c' }) (record { file_idx = g; line = m; function_idx = r; inlined_into_idx = index_word c }))
      located a b d = cc

  locate-stays : (q : FunctionRow) (r : ℕ) (l : LineRow) (c : ℕ) (w : Words) → full w ≡ true → full ((over_words X).locate q r l c w).1 ≡ true
  unfolding locate_six
  locate-stays q r l c w h = file-full (file_row_lem (store_six (line_texts q l) w).0) (store_six (line_texts q l) w).1 (six-full n (line_texts q l) w h)

  -- ── A call location, a symbol ──

  enter-goes : (l : Location) (l' : SourceLocation) (s : Tables) (w : Words) → HoldsIn s w → InTables s l × (l' ≡ source l)
      → let t = enter_call l s in let u = add_call l' w in GoesTo t.1 u.1 (Within t.0 (length t.1.calls) × (u.0 ≡ index_word t.0))
  unfolding enter_call
  enter-goes l l' s w h e =
      let b = intern-below location_eq location_eq-ok s.calls l in
      answer n (λ i. (b, i)) (went n _ _ (call-went l s w n l' e.0 e.1 h.enc))

  symbol-goes : (y : SymbolRow) (s : Tables) (w : Words) → HoldsIn s w → let t = begin_symbol X y s in let u = (over_words X).sym_begin y w in GoesTo t.1 u.1 (TextIs t.1.texts t.0 u.0)
  unfolding begin_symbol
  symbol-goes y s w h = went n _ _ (store-went (symbol_name X y) s w n h.enc)

  symbol-located : (y : SymbolRow) (p : Option ℕ) (p' : ℕ) (s : Tables) (w : Words) → HoldsIn s w → TextIs s.texts p p'
      → let t = locate_symbol y p s in let u = (over_words X).sym_locate y p' w in GoesTo t.1 u.1 (InTables t.1 t.0 × (u.0 ≡ source t.0))
  unfolding locate_symbol
  symbol-located y p p' s w h i =
      answer n (λ (b, e). ((b, tt, tt), ap (λ (j : ℕ). record { file_idx = MAX; line = 0; function_idx = j; inlined_into_idx = MAX }) e))
      (function-goes p p' y.address MAX s w h.enc i)

  -- ── All of it ──

  pub words-encode : Encodes (capacities n) (encoding n) X (over_words X) any
  words-encode = record {
    loc-later = λ l l' b h. (in_later b l h.0, h.1);
    cal_later = λ {s} {t} c c' b h. (within-later c _ _ (grows_length s.calls t.calls b.calls) h.0, h.1);
    fun_later = λ {s} {t} r r' b h. (omega (arith, h.0, grows_length s.functions t.functions b.functions), h.1);
    txt_later = λ {s} {t} p p' b h. text-is-later s.texts t.texts b.texts p p' h;
    keys = λ l. (tt, tt);
    row-keys = λ d q ok z. (tt, tt);
    symbol-keys = λ y ok z. (tt, λ e h. tt);
    get_law = λ k s w b h. get-same k s w h;
    none_law = λ s. (tt, refl);
    base_law = λ s. (tt, refl);
    bare_law = λ s q r r' h. ((h.0, tt, tt), ap (λ (i : ℕ). record { file_idx = MAX; line = 0; function_idx = i; inlined_into_idx = MAX }) h.1);
    put_law = λ k l l' s w b h e. went n _ _ (range_went k l s w n l' e.0 e.1 h.enc);
    begin_law = λ d q s w ok z h. begin-goes q s w h;
    locate_law = λ d q r r' l c c' s w ok i h e f. locate-goes q r r' l c c' s w h e f;
    enter_law = λ l l' s w h e. enter-goes l l' s w h e;
    sym_begin_law = λ y s w ok z h. symbol-goes y s w h;
    sym_locate_law = λ y p p' s w ok z h i. symbol-located y p p' s w h i;
    put_full = λ k l w e. range_full k l w e;
    begin-full = λ q w e. begin-stays q w e;
    locate-full = λ q r l c w e. locate-stays q r l c w e;
    enter-full = λ l w e. call-full l w e;
    sym_begin-full = λ y w e. store-full (symbol_name X y) w e;
    sym_locate-full = λ y p w e. function-full p y.address MAX w e;
  }
