-- What holds of the plain tables always (`Ordered`), that every operation keeps it, and the laws of `Simulate`.
use mathlib.Core.Path.{◌≡◌, refl, sym, ◌∙◌, subst}
use mathlib.Core.Option.{Option, none, some}
use mathlib.Core.Logic.{◌⊎◌, inl, inr, ◌≢◌, ⊎_elim}
use mathlib.Core.List.{List, [], ◌∷◌}
use Prim.Native.Nat.{ℕ}
use native.Mathlib.Omega.{arith}
use lib.ListN.{length}
use Rattle.slices.proofs.Cases.{eq-or-ne}
use Rattle.model.specs.Basics.{intern}
use Rattle.model.specs.Rows.{MAX, cut32, Text, LineRow, FunctionRow, SymbolRow}
use Rattle.model.specs.Converter.{Setup, Six, File, Function, Location, at, Tables, nothing, file_eq, function_eq, location_eq, intern_text, intern_six, range_at, range_put, function_name, symbol_name, line_texts, entry_of, put_at_lem, begin_row, locate_line, begin_symbol, locate_symbol, enter_call, plain}
use Rattle.model.specs.Frames.{Frame, known, known_six}
use Rattle.model.specs.Gaps.{wanted_symbol}
use Rattle.model.proofs.Means.{Means}
use Rattle.model.proofs.Simulate.{Relates, Laws}
use Rattle.model.proofs.Intern.{At, Grows, intern-at, intern_grows, intern-new}
use Rattle.model.proofs.Chains.{some-eq, file_eq-ok, function_eq-ok, location_eq-ok, Reads, reads_grows, SixReads, six_grows, store_grows, store_reads, six-store_grows, six-store_reads, Larger, no_file, a_file, Chain, off, Caller, root, into, chain-larger, caller-larger, push, Down, CallsDown, chain_down, yes-nowhere, no_nowhere, put_same, put_other, Unique, put-unique}

pub larger-refl : (s : Tables) → Larger s s
larger-refl s = record { texts = λ i a h. h; files = λ i a h. h; functions = λ i a h. h; calls = λ i a h. h }

pub larger_trans : {s t u : Tables} → Larger s t → Larger t u → Larger s u
larger_trans p q = record {
  texts = λ i a h. q.texts i a (p.texts i a h);
  files = λ i a h. q.files i a (p.files i a h);
  functions = λ i a h. q.functions i a (p.functions i a h);
  calls = λ i a h. q.calls i a (p.calls i a h);
}

module _ (Fine : List Frame → Type 0) where
  -- l stands for frames, which are fine: so all the indexes on its way lie in their tables
  abbrev pub Stands : Tables → Location → Type 0
  Stands s l = (v : List Frame) × Chain s l v × Fine v

  pub record Ordered (s : Tables) : Type 0 where
    pub unique : Unique s.ranges
    pub functions_in : (i : ℕ) (f : Function) → At s.functions i f → (v : Option Text) × Reads s.texts f.name v
    pub files_in : (i : ℕ) (x : File) → At s.files i x → (v : Six (Option Text)) × SixReads s.texts x v
    pub calls_down : CallsDown s.calls
    pub calls_in : (i : ℕ) (l : Location) → At s.calls i l → Stands s l
    pub ranges_in : (k : ℕ) (l : Location) → range_at s.ranges k ≡ some l → Stands s l

  stands-larger : {s t : Tables} → Larger s t → (l : Location) → Stands s l → Stands t l
  stands-larger b l h = (h.0, chain-larger b h.1, h.2)

  pub ordered-nothing : Ordered nothing
  unfolding range_at
  ordered-nothing = record {
    unique = tt;
    functions_in = λ i f h. absurd h;
    files_in = λ i f h. absurd h;
    calls_down = λ i l h. absurd h;
    calls_in = λ i l h. absurd h;
    ranges_in = λ k l e. let bad : ◌≡◌ {A = ℕ} 0 1 = cc in absurd (omega arith);
  }

  -- ── A range ──

  module _ (k : ℕ) (l : Location) (s : Tables) where
    pub put-larger : Larger s (put_at_lem k l s)
    put-larger = record { texts = λ i a h. h; files = λ i a h. h; functions = λ i a h. h; calls = λ i a h. h }

    pub put-ordered : Stands s l → Ordered s → Ordered (put_at_lem k l s)
    put-ordered st o = record {
      unique = put-unique k l s.ranges o.unique;
      functions_in = o.functions_in;
      files_in = o.files_in;
      calls_down = o.calls_down;
      calls_in = λ i c a. stands-larger put-larger c (o.calls_in i c a);
      ranges_in = λ j c e. stands-larger put-larger c (old j c e (eq-or-ne j k));
    }
      where
        old : (j : ℕ) (c : Location) → range_at (range_put k l s.ranges) j ≡ some c → (j ≡ k) ⊎ (j ≢ k) → Stands s c
        old j c e (inl z) = subst (Stands s) (some-eq (sym (put_same k l s.ranges) ∙ subst (λ (i : ℕ). range_at (range_put k l s.ranges) i ≡ some c) z e)) st
        old j c e (inr n) = o.ranges_in j c (sym (put_other k l s.ranges j n) ∙ e)

  -- ── Texts, files and functions ──

  module _ (s : Tables) (ts : List Text) (fs : List File) (gs : List Function) where
    abbrev grown : Tables
    grown = record { texts = ts; files = fs; functions = gs; calls = s.calls; ranges = s.ranges }

    grown-larger : Grows s.texts ts → Grows s.files fs → Grows s.functions gs → Larger s grown
    grown-larger a b c = record { texts = a; files = b; functions = c; calls = λ i l h. h }

    grown-ordered : Larger s grown
        → ((i : ℕ) (f : Function) → At gs i f → At s.functions i f ⊎ ((v : Option Text) × Reads ts f.name v))
        → ((i : ℕ) (x : File) → At fs i x → At s.files i x ⊎ ((v : Six (Option Text)) × SixReads ts x v))
        → Ordered s → Ordered grown
    grown-ordered b p q o = record {
      unique = o.unique;
      functions_in = λ i f h. ⊎_elim (λ k. let (v, r) = o.functions_in i f k in (v, reads_grows ts b.texts r)) (λ k. k) (p i f h);
      files_in = λ i x h. ⊎_elim (λ k. let (v, r) = o.files_in i x k in (v, six_grows b.texts x v r)) (λ k. k) (q i x h);
      calls_down = o.calls_down;
      calls_in = λ i c a. stands-larger b c (o.calls_in i c a);
      ranges_in = λ j c e. stands-larger b c (o.ranges_in j c e);
    }

  -- a function, with a name that is there
  add-ordered : (s : Tables) (ts : List Text) (f : Function) (v : Option Text) → Grows s.texts ts → Reads ts f.name v
      → Ordered s → Ordered (grown s ts s.files (intern function_eq s.functions f).table)
  add-ordered s ts f v g r o =
      grown-ordered s ts s.files _ (grown-larger s ts s.files _ g (λ i a h. h) (intern_grows function_eq s.functions f))
      (λ i h a. ⊎_elim (λ k. inl k) (λ (p, q). inr (v, subst (λ (t : Function). Reads ts t.name v) (sym q) r)) (intern-new function_eq s.functions f i h a))
      (λ i x a. inl a) o

  -- ── A call location ──

  abbrev entered : Tables → List Location → Tables
  entered s cs = record { texts = s.texts; files = s.files; functions = s.functions; calls = cs; ranges = s.ranges }

  module _ (l : Location) (s : Tables) where
    entered-larger : Larger s (entered s (intern location_eq s.calls l).table)
    entered-larger = record { texts = λ i a h. h; files = λ i a h. h; functions = λ i a h. h; calls = intern_grows location_eq s.calls l }

    entered-ordered : Stands s l → Down (length s.calls) l → Ordered s → Ordered (entered s (intern location_eq s.calls l).table)
    entered-ordered st d o = record {
      unique = o.unique;
      functions_in = o.functions_in;
      files_in = o.files_in;
      calls_down = λ i k a. ⊎_elim (λ z. o.calls_down i k z) (λ (p, q). subst (λ (n : ℕ). Down n k) (sym p) (subst (Down (length s.calls)) (sym q) d)) (intern-new location_eq s.calls l i k a);
      calls_in = λ i k a. stands-larger entered-larger k (⊎_elim (λ z. o.calls_in i k z) (λ (p, q). subst (Stands s) (sym q) st) (intern-new location_eq s.calls l i k a));
      ranges_in = λ j c e. stands-larger entered-larger c (o.ranges_in j c e);
    }

  -- ── The operations ──

  module _ (X : Setup) where
    -- r is the function made of the row q
    pub record Made (s : Tables) (q : FunctionRow) (r : ℕ) : Type 0 where
      pub row : Function
      pub stands : At s.functions r row
      pub named : Reads s.texts row.name (known (function_name X q))
      pub entry-is : row.entry ≡ entry_of q
      pub language-is : row.language ≡ q.language

    pub made-larger : {s t : Tables} {q : FunctionRow} {r : ℕ} → Larger s t → Made s q r → Made t q r
    made-larger {s} {t} {q} {r} b h =
        record { row = h.row; stands = b.functions r h.row h.stands; named = reads_grows t.texts b.texts h.named; entry-is = h.entry-is; language-is = h.language-is }

    pub begin-larger : (q : FunctionRow) (s : Tables) → Larger s (begin_row X q s).1
    unfolding begin_row
    begin-larger q s = grown-larger s _ s.files _ (store_grows s.texts (function_name X q)) (λ i a h. h) (intern_grows function_eq s.functions _)

    pub begin-ordered : (q : FunctionRow) (s : Tables) → Ordered s → Ordered (begin_row X q s).1
    unfolding begin_row
    begin-ordered q s o =
        let t = intern_text s.texts (function_name X q) in
        add-ordered s t.table (record { name = t.ref; entry = entry_of q; language = q.language }) _ (store_grows s.texts (function_name X q)) (store_reads s.texts (function_name X q)) o

    pub begin-made : (q : FunctionRow) (s : Tables) → Made (begin_row X q s).1 q (begin_row X q s).0
    unfolding begin_row
    begin-made q s =
        let t = intern_text s.texts (function_name X q) in
        let f : Function = record { name = t.ref; entry = entry_of q; language = q.language } in
        record { row = f; stands = intern-at function_eq function_eq-ok s.functions f; named = store_reads s.texts (function_name X q); entry-is = refl; language-is = refl }

    -- the frames
    abbrev pub line_frame : FunctionRow → LineRow → Frame
    line_frame q n = record { name = known (function_name X q); entry = entry_of q; language = q.language; number = cut32 n.number; file = some (known_six (line_texts q n)) }

    abbrev pub bare-frame : FunctionRow → Frame
    bare-frame q = record { name = known (function_name X q); entry = entry_of q; language = q.language; number = 0; file = none }

    abbrev pub symbol-frame : SymbolRow → Frame
    symbol-frame = wanted_symbol X

    module _ (q : FunctionRow) (r : ℕ) (n : LineRow) (c : Option ℕ) (s : Tables) where
      pub locate-larger : Larger s (locate_line q r n c s).1
      unfolding locate_line
      locate-larger = grown-larger s _ _ s.functions (six-store_grows s.texts (line_texts q n)) (intern_grows file_eq s.files _) (λ i a h. h)

      pub locate-ordered : Ordered s → Ordered (locate_line q r n c s).1
      unfolding locate_line
      locate-ordered o =
          let t = intern_six s.texts (line_texts q n) in
          grown-ordered s t.table (intern file_eq s.files t.ref).table s.functions
          (grown-larger s _ _ s.functions (six-store_grows s.texts (line_texts q n)) (intern_grows file_eq s.files _) (λ i a h. h))
          (λ i h a. inl a)
          (λ i x a. ⊎_elim (λ k. inl k) (λ (p, e). inr (known_six (line_texts q n), subst (λ (f : File). SixReads t.table f (known_six (line_texts q n))) (sym e) (six-store_reads s.texts (line_texts q n)))) (intern-new file_eq s.files t.ref i x a))
          o

      located : (w : List Frame) → Made (locate_line q r n c s).1 q r → Caller (locate_line q r n c s).1 c w → Chain (locate_line q r n c s).1 (locate_line q r n c s).0 (line_frame q n ∷ w)
      unfolding locate_line
      located w m k =
          push
          (record {
            row = m.row;
            stands = m.stands;
            named = m.named;
            entry-is = m.entry-is;
            language-is = m.language-is;
            number_is = refl;
            file-is = a_file (intern-at file_eq file_eq-ok s.files (intern_six s.texts (line_texts q n)).ref) (six-store_reads s.texts (line_texts q n));
          })
          k

      pub locate-chain : (w : List Frame) → Made s q r → Caller s c w → Chain (locate_line q r n c s).1 (locate_line q r n c s).0 (line_frame q n ∷ w)
      locate-chain w m k = located w (made-larger locate-larger m) (caller-larger locate-larger k)

    pub bare-chain : (q : FunctionRow) (r : ℕ) (s : Tables) → Made s q r → Chain s (at none 0 r none) (bare-frame q ∷ [])
    bare-chain q r s m = push (record { row = m.row; stands = m.stands; named = m.named; entry-is = m.entry-is; language-is = m.language-is; number_is = refl; file-is = no_file }) root

    module _ (l : Location) (s : Tables) where
      pub enter-larger : Larger s (enter_call l s).1
      unfolding enter_call
      enter-larger = entered-larger l s

      pub enter-ordered : (g : Frame) (w : List Frame) → Chain s l (g ∷ w) → Fine (g ∷ w) → Ordered s → Ordered (enter_call l s).1
      unfolding enter_call
      enter-ordered g w c f o = entered-ordered l s (g ∷ w, c, f) (chain_down s l (g ∷ w) g w refl c) o

      pub enter-caller : (v : List Frame) → Chain s l v → Caller (enter_call l s).1 (enter_call l s).0 v
      unfolding enter_call
      enter-caller v c = into (intern-at location_eq location_eq-ok s.calls l) (chain-larger (entered-larger l s) c)

    module _ (y : SymbolRow) (s : Tables) where
      pub begin_symbol-larger : Larger s (begin_symbol X y s).1
      unfolding begin_symbol
      begin_symbol-larger = grown-larger s _ s.files s.functions (store_grows s.texts (symbol_name X y)) (λ i a h. h) (λ i a h. h)

      pub begin_symbol-ordered : Ordered s → Ordered (begin_symbol X y s).1
      unfolding begin_symbol
      begin_symbol-ordered o =
          grown-ordered s _ s.files s.functions (grown-larger s _ s.files s.functions (store_grows s.texts (symbol_name X y)) (λ i a h. h) (λ i a h. h)) (λ i h a. inl a) (λ i x a. inl a) o

      pub begin_symbol_reads : Reads (begin_symbol X y s).1.texts (begin_symbol X y s).0 (known (symbol_name X y))
      unfolding begin_symbol
      begin_symbol_reads = store_reads s.texts (symbol_name X y)

    module _ (y : SymbolRow) (p : Option ℕ) (s : Tables) where
      pub locate_symbol-larger : Larger s (locate_symbol y p s).1
      unfolding locate_symbol
      locate_symbol-larger = grown-larger s s.texts s.files _ (λ i a h. h) (λ i a h. h) (intern_grows function_eq s.functions _)

      pub locate_symbol-ordered : (v : Option Text) → Reads s.texts p v → Ordered s → Ordered (locate_symbol y p s).1
      unfolding locate_symbol
      locate_symbol-ordered v r o = add-ordered s s.texts (record { name = p; entry = y.address; language = MAX }) v (λ i a h. h) r o

      pub locate_symbol-chain : Reads s.texts p (known (symbol_name X y)) → Chain (locate_symbol y p s).1 (locate_symbol y p s).0 (wanted_symbol X y ∷ [])
      unfolding locate_symbol
      locate_symbol-chain r =
          push (record { row = record { name = p; entry = y.address; language = MAX }; stands = intern-at function_eq function_eq-ok s.functions _; named = r; entry-is = refl; language-is = refl; number_is = refl; file-is = no_file }) root

-- ── The laws ──

abbrev pub Any : List Frame → Type 0
Any v = Unit {0}

module _ (X : Setup) where
  abbrev pub means : Means FunctionRow LineRow SymbolRow Frame
  means = record { frame = line_frame Any X; bare-frame = bare-frame Any X; sym-frame = wanted_symbol X }

  abbrev pub relates : Relates FunctionRow SymbolRow ℕ (Option ℕ) Location (Option ℕ) Tables Frame
  relates = record {
    Good = Ordered Any;
    Ext = λ s t. Larger s t × (Ordered Any s → Ordered Any t);
    Loc = Chain;
    Cal = Caller;
    Fun = Made Any X;
    Txt = λ s y p. Reads s.texts p (known (symbol_name X y));
  }

  same-begin : (q : FunctionRow) (s : Tables) (k : ℕ) → range_at (begin_row X q s).1.ranges k ≡ range_at s.ranges k
  unfolding begin_row
  same-begin q s k = refl

  same-locate : (q : FunctionRow) (r : ℕ) (n : LineRow) (c : Option ℕ) (s : Tables) (k : ℕ) → range_at (locate_line q r n c s).1.ranges k ≡ range_at s.ranges k
  unfolding locate_line
  same-locate q r n c s k = refl

  same-enter : (l : Location) (s : Tables) (k : ℕ) → range_at (enter_call l s).1.ranges k ≡ range_at s.ranges k
  unfolding enter_call
  same-enter l s k = refl

  same-symbol : (y : SymbolRow) (s : Tables) (k : ℕ) → range_at (begin_symbol X y s).1.ranges k ≡ range_at s.ranges k
  unfolding begin_symbol
  same-symbol y s k = refl

  same-symbol-location : (y : SymbolRow) (p : Option ℕ) (s : Tables) (k : ℕ) → range_at (locate_symbol y p s).1.ranges k ≡ range_at s.ranges k
  unfolding locate_symbol
  same-symbol-location y p s k = refl

  -- THE PLAIN CONVERTER KEEPS THE LAWS
  pub plain_laws : Laws (plain X) means relates
  plain_laws = record {
    ext_refl = λ s. (larger-refl s, λ o. o);
    ext_trans = λ p q. (larger_trans p.0 q.0, λ o. q.1 (p.1 o));
    good-ext = λ e o. e.1 o;
    loc-ext = λ e h. chain-larger e.0 h;
    cal_ext = λ e h. caller-larger e.0 h;
    fun_ext = λ e h. made-larger Any X e.0 h;
    put_law = λ k l s v g h. ((put-larger Any k l s, put-ordered Any k l s (v, h, tt)), put_same k l s.ranges, put_other k l s.ranges);
    begin_law = λ q s g. ((begin-larger Any X q s, begin-ordered Any X q s), same-begin q s, begin-made Any X q s);
    locate_law = λ q r n c s w g m h. ((locate-larger Any X q r n c s, locate-ordered Any X q r n c s), same-locate q r n c s, locate-chain Any X q r n c s w m h);
    enter_law = λ l s f w g h. ((enter-larger Any X l s, enter-ordered Any X l s f w h tt), same-enter l s, enter-caller Any X l s (f ∷ w) h);
    bare_law = λ q r s g m. bare-chain Any X q r s m;
    none_law = λ s g. off;
    is-none-yes = λ s l g h. yes-nowhere s l [] h refl;
    is-none_no = λ s l f w g h. no_nowhere s l (f ∷ w) f w h refl;
    base_law = λ s g. root;
    sym_begin_law = λ y s g. ((begin_symbol-larger Any X y s, begin_symbol-ordered Any X y s), same-symbol y s, begin_symbol_reads Any X y s);
    sym_locate_law = λ y p s g r. ((locate_symbol-larger Any X y p s, locate_symbol-ordered Any X y p s _ r), same-symbol-location y p s, locate_symbol-chain Any X y p s r);
  }
