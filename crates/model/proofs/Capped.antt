-- The plain converter with capacities: a table that would need more marks it full, and from then on it goes its own way. For every list it is full exactly where the plain
-- tables need more than a capacity, and holds the plain tables otherwise: 17's condition, before words and indexes.
use mathlib.Core.Path.{◌≡◌, refl, sym, ap, ◌∙◌, subst}
use mathlib.Core.Bool.{Bool, true, false}
use mathlib.Core.Option.{Option, none, some}
use mathlib.Core.Logic.{◌⊎◌, inl, inr, ⊎_elim}
use mathlib.Core.List.{List, map}
use Prim.Native.Nat.{ℕ}
use native.Mathlib.Omega.{arith}
use Rattle.slices.proofs.Cases.{false-true}
use Rattle.model.specs.Rows.{LineRow, FunctionRow, SymbolRow, Given, tree_rows, symbol_row}
use Rattle.model.specs.Machine.{Machine, run_m}
use Rattle.model.specs.Converter.{input, op, Setup, Location, nowhere, at, Tables, nothing, is_nowhere, range_at, put_at_lem, begin_row, locate_line, begin_symbol, locate_symbol, enter_call, converted}
use Rattle.model.specs.Counts.{Capacities, plain_fits?}
use Rattle.model.proofs.Couple.{Limits, Alike, vacant, held}
use Rattle.model.proofs.Encoded.{Encoding, Holds, Goes, Encodes, AllowedGiven, encoded-list}

pub record Capped : Type 0 where
  pub tables : Tables
  pub full : Bool

module _ (K : Capacities) where
  -- t where there is room, and else s, marked full
  unfoldable pub settle : Bool → Tables → Tables → Capped
  settle f t s = elim (plain_fits? K t) [ true ↦ record { tables = t; full = f } | false ↦ record { tables = s; full = true } ]

  settle-full : (f : Bool) (t s : Tables) → f ≡ true → (settle f t s).full ≡ true
  unfolding settle
  settle-full f t s e = go (plain_fits? K t) refl
    where
      go : (b : Bool) → plain_fits? K t ≡ b → (settle f t s).full ≡ true
      go true z = rw (z, settle) e
      go false z = rw (z, settle)

  module _ (X : Setup) where
    abbrev capped : {A : Type 0} → (Tables → A × Tables) → Capped → A × Capped
    capped f s = ((f s.tables).0, settle s.full (f s.tables).1 s.tables)

    abbrev pub capped_machine : Machine FunctionRow LineRow SymbolRow ℕ (Option ℕ) Location (Option ℕ) Capped
    capped_machine = record {
      get = λ s. range_at s.tables.ranges;
      put = λ k l s. settle s.full (put_at_lem k l s.tables) s.tables;
      begin = λ q. capped (begin_row X q);
      locate = λ q r n c. capped (locate_line q r n c);
      enter = λ l. capped (enter_call l);
      bare = λ q r. at none 0 r none;
      none_loc = nowhere;
      is_none = is_nowhere;
      base = none;
      sym_begin = λ y. capped (begin_symbol X y);
      sym_locate = λ y p. capped (locate_symbol y p);
    }

    abbrev pub Full : Tables → Capped → Type 0
    Full s s' = (s'.full ≡ true) × (plain_fits? K s ≡ false)

    abbrev pub Open : Tables → Capped → Type 0
    Open s s' = (s'.full ≡ false) × (s'.tables ≡ s) × (plain_fits? K s ≡ true)

    -- ── It is an instance of `Encoded`: it holds the tables themselves ──

    abbrev itself : Encoding ℕ (Option ℕ) Location (Option ℕ) Capped
    itself = record { Enc = λ s w. w.tables ≡ s; full = λ w. w.full; Loc = λ s l l'. l ≡ l'; Cal = λ s c c'. c ≡ c'; Fun = λ s r r'. r ≡ r'; Txt = λ s p p'. p ≡ p' }

    abbrev any : Limits FunctionRow SymbolRow
    any = record { Row = λ d q. Unit {0}; Symbol = λ y. Unit {0}; Key = λ k. Unit {0} }

    settle_goes : (b : Bool) (t s : Tables) {r : Type 0} → b ≡ false → r → Goes K itself t (settle b t s) r
    unfolding settle
    settle_goes b t s {r} e v = go (plain_fits? K t) refl
      where
        go : (f : Bool) → plain_fits? K t ≡ f → Goes K itself t (settle b t s) r
        go true z = rw (z, settle) (record { fitting = λ k. (e, refl, v); exceeding = λ k. false-true (sym k ∙ z) })
        go false z = rw (z, settle) (record { fitting = λ k. false-true (sym z ∙ k); exceeding = λ k. refl })

    goes : {A : Type 0} (f : Tables → A × Tables) (s : Tables) (w : Capped) → Holds K itself s w → Goes K itself (f s).1 (capped f w).1 ((f s).0 ≡ (capped f w).0)
    goes f s w h = subst (λ (t : Tables). Goes K itself (f t).1 (capped f w).1 ((f t).0 ≡ (capped f w).0)) h.enc (settle_goes w.full (f w.tables).1 w.tables h.room refl)

    put-goes : (k : ℕ) (l : Location) (s : Tables) (w : Capped) → Holds K itself s w → Goes K itself (put_at_lem k l s) (capped_machine.put k l w) (Unit {0})
    put-goes k l s w h = subst (λ (t : Tables). Goes K itself (put_at_lem k l t) (capped_machine.put k l w) (Unit {0})) h.enc (settle_goes w.full (put_at_lem k l w.tables) w.tables h.room tt)

    alike : (o o' : Option Location) → o ≡ o' → Alike is_nowhere is_nowhere o o'
    alike none none e = vacant
    alike none (some l) e = let bad : ◌≡◌ {A = ℕ} 0 1 = cc in absurd (omega arith)
    alike (some l) none e = let bad : ◌≡◌ {A = ℕ} 0 1 = cc in absurd (omega arith)
    alike (some l) (some l') e = let z : l ≡ l' = cc in held (ap is_nowhere z)

    capped_encodes : Encodes K itself X capped_machine any
    capped_encodes = record {
      loc-later = λ l l' b e. e;
      cal_later = λ c c' b e. e;
      fun_later = λ r r' b e. e;
      txt_later = λ p p' b e. e;
      keys = λ n. (tt, tt);
      row-keys = λ d q ok z. (tt, tt);
      symbol-keys = λ y ok z. (tt, λ e h. tt);
      get_law = λ k s w b h. alike _ _ (ap (λ (t : Tables). range_at t.ranges k) (sym h.enc));
      none_law = λ s. refl;
      base_law = λ s. refl;
      bare_law = λ s q r r' e. ap (λ (i : ℕ). at none 0 i none) e;
      put_law = λ k l l' s w b h e. rw (← e) (put-goes k l s w h);
      begin_law = λ d q s w ok z h. goes (begin_row X q) s w h;
      locate_law = λ d q r r' n c c' s w ok i h e f. rw (← e, ← f) (goes (locate_line q r n c) s w h);
      enter_law = λ l l' s w h e. rw (← e) (goes (enter_call l) s w h);
      sym_begin_law = λ y s w ok z h. goes (begin_symbol X y) s w h;
      sym_locate_law = λ y p p' s w ok z h e. rw (← e) (goes (locate_symbol y p) s w h);
      put_full = λ k l w e. settle-full w.full _ w.tables e;
      begin-full = λ q w e. settle-full w.full _ w.tables e;
      locate-full = λ q r n c w e. settle-full w.full _ w.tables e;
      enter-full = λ l w e. settle-full w.full _ w.tables e;
      sym_begin-full = λ y w e. settle-full w.full _ w.tables e;
      sym_locate-full = λ y p w e. settle-full w.full _ w.tables e;
    }

    any-call : (g : Given) → AllowedGiven K itself X capped_machine any capped_encodes g
    any-call (tree_rows q rs) = (tt, λ r i. tt)
    any-call (symbol_row y) = tt

    -- EVERY LIST: full, and the plain tables need more than a capacity; or not full, they fit, and these are the tables
    pub capped_exactly : (gs : List Given) → let s' = run_m input capped_machine (map op gs) (record { tables = nothing; full = false }) in Full (converted X gs) s' ⊎ Open (converted X gs) s'
    capped_exactly gs =
        ⊎_elim (λ h. inl h) (λ h. inr (h.room, h.enc, h.fits))
        (encoded-list K itself X capped_machine any capped_encodes gs (record { tables = nothing; full = false }) (λ g i. any-call g) refl refl)
