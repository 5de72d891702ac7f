-- ANOTHER MACHINE HOLDS THE PLAIN TABLES, for every list: it is full exactly where the plain tables need more than a capacity, and encodes them otherwise. This is how the
-- converter over words is joined to the plain one: its author says what encodes what (`Encoding`), and proves of each single operation that it goes as the plain one does (`Encodes`).
use mathlib.Core.Path.{◌≡◌, refl, sym, ◌∙◌, subst}
use mathlib.Core.Bool.{Bool, true, false}
use mathlib.Core.Option.{Option, none, some}
use mathlib.Core.Logic.{◌⊎◌, inl, inr, ⊎_elim}
use mathlib.Core.List.{List, map}
use Prim.Native.Nat.{ℕ}
use Rattle.slices.proofs.Cases.{false-true}
use Rattle.model.specs.Basics.{◌∈◌, Deep}
use Rattle.model.specs.Rows.{LineRow, FunctionRow, SymbolRow, Given, tree_rows, symbol_row, boundaries, skipped, function_end, symbol_skipped, symbol_end}
use Rattle.model.specs.Machine.{Machine, convert_op_m, run_m}
use Rattle.model.specs.Converter.{input, deep, op, Setup, Location, nowhere, at, Tables, nothing, is_nowhere, range_at, put_at_lem, begin_row, locate_line, begin_symbol, locate_symbol, enter_call, plain, converted}
use Rattle.model.specs.Counts.{Capacities, plain_fits?}
use Rattle.model.proofs.Spans.{map-∈}
use Rattle.model.proofs.Chains.{Larger}
use Rattle.model.proofs.Keeps.{Any, larger-refl, larger_trans, put-larger, begin-larger, locate-larger, enter-larger, begin_symbol-larger, locate_symbol-larger}
use Rattle.model.proofs.Couple.{Couple, Limits, Next, Allowed, op-both, run-both, Alike, Single, single_preserves}
use Rattle.model.proofs.Grown.{exceeds_up, fits-nothing, Grown, grown-refl, grown_trans, put-grown, begin-grown, locate-grown, enter-grown, symbol_name-grown, symbol-location-grown}

-- what encodes what, in the tables s: `Enc s w`: the state w holds s. `Loc s l l'`, `Cal s c c'`, `Fun s r r'`, `Txt s p p'`: a location, a reference to a call location, to a function,
-- to a symbol's text. `full w`: a table would have needed more rows or bytes than its capacity
pub record Encoding (R' P' L' C' W : Type 0) : Type 1 where
  pub Enc : Tables → W → Type 0
  pub full : W → Bool
  pub Loc : Tables → Location → L' → Type 0
  pub Cal : Tables → Option ℕ → C' → Type 0
  pub Fun : Tables → ℕ → R' → Type 0
  pub Txt : Tables → Option ℕ → P' → Type 0

module _ {R' P' L' C' W : Type 0} (K : Capacities) (E : Encoding R' P' L' C' W) where
  -- w is not full, and holds s, which fits
  pub record Holds (s : Tables) (w : W) : Type 0 where
    pub room : E.full w ≡ false
    pub fits : plain_fits? K s ≡ true
    pub enc : E.Enc s w

  -- full, and rightly so
  abbrev pub Full : Tables → W → Type 0
  Full s w = (E.full w ≡ true) × (plain_fits? K s ≡ false)

  -- u is where an operation leaves the other machine, and t where it leaves the plain one, with `r` to be shown of their answers: u holds t if that fits, and is full if it doesn't
  pub record Goes (t : Tables) (u : W) (r : Type 0) : Type 0 where
    pub fitting : plain_fits? K t ≡ true → (E.full u ≡ false) × E.Enc t u × r
    pub exceeding : plain_fits? K t ≡ false → E.full u ≡ true

  -- an operation after another: where the first leaves no room, the second leaves none
  pub goes_then : {t v : Tables} {u x : W} {r r' : Type 0} → Goes t u r → Grown t v → (E.full u ≡ true → E.full x ≡ true) → (Holds t u → r → Goes v x r') → Goes v x r'
  goes_then {t} {v} {u} {x} {r} {r'} g up sticky next = go (plain_fits? K t) refl
    where
      go : (b : Bool) → plain_fits? K t ≡ b → Goes v x r'
      go true e = let (o, h, k) = g.fitting e in next (record { room = o; fits = e; enc = h }) k
      go false e = let f = exceeds_up K up e in record { fitting = λ z. false-true (sym f ∙ z); exceeding = λ z. sticky (g.exceeding e) }

  module _ (X : Setup) (M : Machine FunctionRow LineRow SymbolRow R' P' L' C' W) (G : Limits FunctionRow SymbolRow) where
    -- WHAT HAS TO BE SHOWN
    pub record Encodes : Type 0 where
      -- what is encoded stays so as the tables grow
      pub loc-later : {s t : Tables} (l : Location) (l' : L') → Larger s t → E.Loc s l l' → E.Loc t l l'
      pub cal_later : {s t : Tables} (c : Option ℕ) (c' : C') → Larger s t → E.Cal s c c' → E.Cal t c c'
      pub fun_later : {s t : Tables} (r : ℕ) (r' : R') → Larger s t → E.Fun s r r' → E.Fun t r r'
      pub txt_later : {s t : Tables} (p : Option ℕ) (p' : P') → Larger s t → E.Txt s p p' → E.Txt t p p'
      -- the keys
      pub keys : (n : LineRow) → G.Key (boundaries n).from × G.Key (boundaries n).to
      pub row-keys : (d : ℕ) (q : FunctionRow) → G.Row d q → skipped q ≡ false → G.Key q.address × G.Key (function_end q)
      pub symbol-keys : (y : SymbolRow) → G.Symbol y → symbol_skipped y ≡ false → G.Key y.address × ((e : ℕ) → symbol_end y ≡ some e → G.Key e)
      -- what is read
      pub get_law : (k : ℕ) (s : Tables) (w : W) → G.Key k → Holds s w → Alike is_nowhere M.is_none (range_at s.ranges k) (M.get w k)
      -- values
      pub none_law : (s : Tables) → E.Loc s nowhere M.none_loc
      pub base_law : (s : Tables) → E.Cal s none M.base
      pub bare_law : (s : Tables) (q : FunctionRow) (r : ℕ) (r' : R') → E.Fun s r r' → E.Loc s (at none 0 r none) (M.bare q r')
      -- operations
      pub put_law : (k : ℕ) (l : Location) (l' : L') (s : Tables) (w : W) → G.Key k → Holds s w → E.Loc s l l' → Goes (put_at_lem k l s) (M.put k l' w) (Unit {0})
      pub begin_law : (d : ℕ) (q : FunctionRow) (s : Tables) (w : W) → G.Row d q → skipped q ≡ false → Holds s w
          → let t = begin_row X q s in let u = M.begin q w in Goes t.1 u.1 (E.Fun t.1 t.0 u.0)
      pub locate_law : (d : ℕ) (q : FunctionRow) (r : ℕ) (r' : R') (n : LineRow) (c : Option ℕ) (c' : C') (s : Tables) (w : W) → G.Row d q → n ∈ q.lines → Holds s w → E.Fun s r r' → E.Cal s c c'
          → let t = locate_line q r n c s in let u = M.locate q r' n c' w in Goes t.1 u.1 (E.Loc t.1 t.0 u.0)
      pub enter_law : (l : Location) (l' : L') (s : Tables) (w : W) → Holds s w → E.Loc s l l' → let t = enter_call l s in let u = M.enter l' w in Goes t.1 u.1 (E.Cal t.1 t.0 u.0)
      pub sym_begin_law : (y : SymbolRow) (s : Tables) (w : W) → G.Symbol y → symbol_skipped y ≡ false → Holds s w
          → let t = begin_symbol X y s in let u = M.sym_begin y w in Goes t.1 u.1 (E.Txt t.1 t.0 u.0)
      pub sym_locate_law : (y : SymbolRow) (p : Option ℕ) (p' : P') (s : Tables) (w : W) → G.Symbol y → symbol_skipped y ≡ false → Holds s w → E.Txt s p p'
          → let t = locate_symbol y p s in let u = M.sym_locate y p' w in Goes t.1 u.1 (E.Loc t.1 t.0 u.0)
      -- once full, always
      pub put_full : (k : ℕ) (l' : L') (w : W) → E.full w ≡ true → E.full (M.put k l' w) ≡ true
      pub begin-full : (q : FunctionRow) (w : W) → E.full w ≡ true → E.full (M.begin q w).1 ≡ true
      pub locate-full : (q : FunctionRow) (r' : R') (n : LineRow) (c' : C') (w : W) → E.full w ≡ true → E.full (M.locate q r' n c' w).1 ≡ true
      pub enter-full : (l' : L') (w : W) → E.full w ≡ true → E.full (M.enter l' w).1 ≡ true
      pub sym_begin-full : (y : SymbolRow) (w : W) → E.full w ≡ true → E.full (M.sym_begin y w).1 ≡ true
      pub sym_locate-full : (y : SymbolRow) (p' : P') (w : W) → E.full w ≡ true → E.full (M.sym_locate y p' w).1 ≡ true

    -- ── The laws of `Single` follow ──

    abbrev pub State : Tables → W → Type 0
    State s w = Full s w ⊎ Holds s w

    -- as it should be, unless w is full
    abbrev Or : W → Type 0 → Type 0
    Or w r = (E.full w ≡ true) ⊎ r

    abbrev pub couple : Couple FunctionRow ℕ R' Location L' (Option ℕ) C' Tables W
    couple = record {
      State = State;
      Ext = λ s w t u. Larger s t × Grown s t × (E.full w ≡ true → E.full u ≡ true);
      Loc = λ s w d l l'. Or w (E.Loc s l l');
      Cal = λ s w d c c'. Or w (E.Cal s c c');
      Fun = λ s w d q r r'. Or w (E.Fun s r r');
    }

    abbrev After : Tables → W → Tables → W → Type 0
    After = Next input (plain X) M G couple

    or_later : {w u : W} {r r' : Type 0} → (E.full w ≡ true → E.full u ≡ true) → (r → r') → Or w r → Or u r'
    or_later e f (inl h) = inl (e h)
    or_later e f (inr h) = inr (f h)

    sure : {s : Tables} {w : W} {r : Type 0} → Holds s w → Or w r → r
    sure h (inl z) = false-true (sym h.room ∙ z)
    sure h (inr r) = r

    full-after : {s t : Tables} {w u : W} → Full s w → Larger s t → Grown s t → E.full u ≡ true → After s w t u
    full-after h a b e = record { ext = (a, b, λ z. e); state = inl (e, exceeds_up K b h.1) }

    -- an operation: it was full and stays so, or goes as it should
    step : {s t : Tables} {w u : W} {r : Type 0} → Larger s t → Grown s t → (E.full w ≡ true → E.full u ≡ true) → (Holds s w → Goes t u r) → State s w → After s w t u × Or u r
    step a b sticky g (inl h) = (full-after h a b (sticky h.0), inl (sticky h.0))
    step {s} {t} {w} {u} {r} a b sticky g (inr h) = go (plain_fits? K t) refl (g h)
      where
        go : (f : Bool) → plain_fits? K t ≡ f → Goes t u r → After s w t u × Or u r
        go true e k = let (o, c, v) = k.fitting e in (record { ext = (a, b, sticky); state = inr (record { room = o; fits = e; enc = c }) }, inr v)
        go false e k = let f = k.exceeding e in (record { ext = (a, b, sticky); state = inl (f, e) }, inl f)

    module _ (H : Encodes) where
      put_step : (k : ℕ) (l : Location) (l' : L') (s : Tables) (w : W) → G.Key k → State s w → Or w (E.Loc s l l') → After s w (put_at_lem k l s) (M.put k l' w)
      put_step k l l' s w b st v = (step (put-larger Any k l s) (put-grown X k l s) (H.put_full k l' w) (λ h. H.put_law k l l' s w b h (sure h v)) st).0

      encoded_laws : Single input (plain X) M G couple (λ s w y p p'. Or w (E.Txt s p p')) Full
      encoded_laws = record {
        ext_refl = λ s w. (larger-refl s, grown-refl s, λ e. e);
        ext_trans = λ p q. (larger_trans p.0 q.0, grown_trans p.1 q.1, λ e. q.2 (p.2 e));
        loc-ext = λ e h. or_later e.2 (H.loc-later _ _ e.0) h;
        cal_ext = λ e h. or_later e.2 (H.cal_later _ _ e.0) h;
        fun_ext = λ e h. or_later e.2 (H.fun_later _ _ e.0) h;
        keys = H.keys;
        row-keys = H.row-keys;
        symbol-keys = H.symbol-keys;
        get_law = λ k s w b st. ⊎_elim (λ h. inr h) (λ h. inl (H.get_law k s w b h)) st;
        mix_law = λ {s = s} h n. (full-after h n.ext.0 n.ext.1 h.0, full-after h (larger-refl s) (grown-refl s) (n.ext.2 h.0));
        put_law = λ d k l l' s w b st v. put_step k l l' s w b st v;
        none_law = λ k s w b st. put_step k nowhere M.none_loc s w b st (inr (H.none_law s));
        begin_law = λ d q s w ok z st. step (begin-larger Any X q s) (begin-grown X q s) (H.begin-full q w) (λ h. H.begin_law d q s w ok z h) st;
        locate_law = λ d q r r' n c c' s w ok i st e f.
            step (locate-larger Any X q r n c s) (locate-grown X q r n c s) (H.locate-full q r' n c' w) (λ h. H.locate_law d q r r' n c c' s w ok i h (sure h e) (sure h f)) st;
        enter_law = λ d l l' s w st e. step (enter-larger Any X l s) (enter-grown X l s) (H.enter-full l' w) (λ h. H.enter_law l l' s w h (sure h e)) st;
        base_law = λ s w st. inr (H.base_law s);
        bare_law = λ d q r r' s w ok st e. or_later (λ z. z) (H.bare_law s q r r') e;
        sym_begin_law = λ y s w ok z st. step (begin_symbol-larger Any X y s) (symbol_name-grown X y s) (H.sym_begin-full y w) (λ h. H.sym_begin_law y s w ok z h) st;
        sym_locate_law = λ y p p' s w ok z st e.
            step (locate_symbol-larger Any X y p s) (symbol-location-grown X y p s) (H.sym_locate-full y p' w) (λ h. H.sym_locate_law y p p' s w ok z h (sure h e)) st;
      }

      -- ── Whole calls and lists ──

      abbrev pub AllowedGiven : Given → Type 0
      AllowedGiven (tree_rows q rs) = G.Row 0 q × ((r : FunctionRow) → r ∈ rs → G.Row r.depth r)
      AllowedGiven (symbol_row y) = G.Symbol y

      allowed : (g : Given) → AllowedGiven g → Allowed input (plain X) M G couple (op g)
      allowed (tree_rows q rs) h = (h.0, λ r i. let (p, j, e) = map-∈ deep rs i in subst (λ (t : Deep FunctionRow). G.Row t.depth t.item) (sym e) (h.1 p j))
      allowed (symbol_row y) h = h

      -- ONE CALL: from tables that it holds it comes to those of the plain converter, or is full and these don't fit
      pub encoded-call : (g : Given) (s : Tables) (w : W) → AllowedGiven g → State s w → State (convert_op_m input (plain X) (op g) s) (convert_op_m input M (op g) w)
      encoded-call g s w a st = (op-both input (plain X) M G couple (single_preserves input (plain X) M G couple (λ s w y p p'. Or w (E.Txt s p p')) Full encoded_laws) (op g) s w (allowed g a) st).state

      -- EVERY LIST
      pub encoded-list : (gs : List Given) (w : W) → ((g : Given) → g ∈ gs → AllowedGiven g) → E.full w ≡ false → E.Enc nothing w → State (converted X gs) (run_m input M (map op gs) w)
      encoded-list gs w a o h =
          (run-both input (plain X) M G couple (single_preserves input (plain X) M G couple (λ s w y p p'. Or w (E.Txt s p p')) Full encoded_laws) (map op gs) nothing w
          (λ p i. let (g, j, e) = map-∈ op gs i in subst (Allowed input (plain X) M G couple) (sym e) (allowed g (a g j)))
          (inr (record { room = o; fits = fits-nothing K; enc = h }))).state
