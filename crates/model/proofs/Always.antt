-- What holds of the plain tables after EVERY list of calls, well nested or not, at any depths.
use mathlib.Core.Path.{◌≡◌, refl, sym, subst}
use mathlib.Core.Bool.{Bool, true, false, cond}
use mathlib.Core.Option.{Option, none, some}
use mathlib.Core.List.{List, [], ◌∷◌, map}
use Prim.Native.Nat.{ℕ, suc, ◌≤◌, ◌<◌}
use native.Mathlib.Omega.{arith}
use lib.ListN.{length}
use lib.Dec.{ltb}
use Rattle.model.specs.Basics.{◌∈◌, Deep, Entry}
use Rattle.model.specs.Rows.{MAX, Text, FunctionRow, SymbolRow, Given, tree_rows, symbol_row}
use Rattle.model.specs.Machine.{Machine, unless_held, put_end, entry_m, closing_m, named_symbol_m}
use Rattle.model.specs.Converter.{input, deep, op, Setup, Six, File, Function, Location, nowhere, at, Tables, nothing, is_nowhere, range_at, put_at_lem, begin_symbol, locate_symbol, plain, converted}
use Rattle.model.specs.Frames.{Frame, frames_of, best, frames_at}
use Rattle.model.specs.Gaps.{wanted_symbol}
use Rattle.model.proofs.Spans.{map-∈}
use Rattle.model.proofs.Intern.{At, at_length}
use Rattle.model.proofs.Chains.{Reads, absent, present, FileIs, no_file, a_file, Larger, Chain, off, top, deeper, Caller, root, chain-larger, caller-larger, Unique, CallsDown, frames-found, best-answers, Answers}
use Rattle.model.proofs.Keeps.{larger-refl, larger_trans, Stands, Ordered, ordered-nothing, put-larger, put-ordered, Made, made-larger, begin-larger, begin-ordered, begin-made, line_frame, bare-frame, locate-larger, locate-ordered, locate-chain, bare-chain, enter-larger, enter-ordered, enter-caller, begin_symbol-larger, begin_symbol-ordered, begin_symbol_reads, locate_symbol-larger, locate_symbol-ordered, locate_symbol-chain, Any}
use Rattle.model.proofs.Couple.{Couple, Limits, Next, Preserves, Allowed, run-both}

-- the machine that holds nothing
abbrev pub blank : {Q N Y : Type 0} → Machine Q N Y (Unit {0}) (Unit {0}) (Unit {0}) (Unit {0}) (Unit {0})
blank = record {
  get = λ s k. none;
  put = λ k l s. tt;
  begin = λ q s. (tt, tt);
  locate = λ q r n c s. (tt, tt);
  enter = λ l s. (tt, tt);
  bare = λ q r. tt;
  none_loc = tt;
  is_none = λ l. true;
  base = tt;
  sym_begin = λ y s. (tt, tt);
  sym_locate = λ y p s. (tt, tt);
}

-- rows at the depths in Deep-enough, and what is fine for the frames made there: as many as the depth and one more, at most
module _ (X : Setup) (Fine : List Frame → Type 0) (Depth : ℕ → Type 0) (small : (v : List Frame) → length v ≤ 1 → Fine v) (fits : (d : ℕ) → Depth d → (v : List Frame) → length v ≤ suc d → Fine v) where
  abbrev limits : Limits FunctionRow SymbolRow
  limits = record { Row = λ d q. Depth d; Symbol = λ y. Unit {0}; Key = λ k. Unit {0} }

  -- what a row at depth d makes
  record MadeAt (s : Tables) (d : ℕ) (l : Location) : Type 0 where
    first : Frame
    rest : List Frame
    chain : Chain s l (first ∷ rest)
    short : length rest ≤ d
    allowed : Depth d

  record CallAt (s : Tables) (d : ℕ) (c : Option ℕ) : Type 0 where
    frames : List Frame
    caller : Caller s c frames
    short : length frames ≤ d

  abbrev always-couple : Couple FunctionRow ℕ (Unit {0}) Location (Unit {0}) (Option ℕ) (Unit {0}) Tables (Unit {0})
  always-couple = record {
    State = λ s u. Ordered Fine s;
    Ext = λ s u t v. Larger s t;
    Loc = λ s u d l m. MadeAt s d l;
    Cal = λ s u d c e. CallAt s d c;
    Fun = λ s u d q r e. Made Fine X s q r × Depth d;
  }

  abbrev After : Tables → Tables → Type 0
  After s t = Next input (plain X) blank limits always-couple s tt t tt

  stands : {s : Tables} {d : ℕ} {l : Location} → MadeAt s d l → Stands Fine s l
  stands {d = d} h = (h.first ∷ h.rest, h.chain, fits d h.allowed (h.first ∷ h.rest) (omega (arith, h.short)))

  after-put : (k : ℕ) (l : Location) (s : Tables) → Ordered Fine s → Stands Fine s l → After s (put_at_lem k l s)
  after-put k l s o h = record { ext = put-larger Fine k l s; state = put-ordered Fine k l s h o }

  stay : (s : Tables) → Ordered Fine s → After s s
  stay s o = record { ext = larger-refl s; state = o }

  after_then : {s t u : Tables} → Larger s t → After t u → After s u
  after_then e n = record { ext = larger_trans e n.ext; state = n.state }

  after_unless : (a : ℕ) (s t : Tables) → Ordered Fine s → After s t → After s (unless_held input (plain X) a t s)
  unfolding unless_held
  after_unless a s t o n = go (range_at s.ranges a) refl
    where
      pick : (b : Bool) → After s (cond b t s)
      pick true = n
      pick false = stay s o

      go : (m : Option Location) → range_at s.ranges a ≡ m → After s (unless_held input (plain X) a t s)
      go none e = rw (e, unless_held) n
      go (some l) e = rw (e, unless_held) (pick (is_nowhere l))

  ended : (a : ℕ) (s : Tables) → Ordered Fine s → After s (put_end input (plain X) a s)
  unfolding put_end
  ended a s o = go (range_at s.ranges a) refl
    where
      go : (m : Option Location) → range_at s.ranges a ≡ m → After s (put_end input (plain X) a s)
      go none e = rw (e, put_end) (after-put a nowhere s o ([], off, small [] (omega arith)))
      go (some l) e = rw (e, put_end) (stay s o)

  after-entry : (d : ℕ) (q : FunctionRow) (r : ℕ) (s : Tables) → Ordered Fine s → Made Fine X s q r → After s (entry_m input (plain X) q r s)
  unfolding entry_m
  after-entry d q r s o m = go q.inline refl
    where
      go : (t : Bool) → q.inline ≡ t → After s (entry_m input (plain X) q r s)
      go true e = rw (e, entry_m) (stay s o)
      go false e = rw (e, entry_m) (after_unless q.address s _ o (after-put q.address (at none 0 r none) s o (bare-frame Fine X q ∷ [], bare-chain Fine X q r s m, small _ (omega arith))))

  after_close : (d : ℕ) (q : FunctionRow) (r : ℕ) (s : Tables) → Ordered Fine s → Made Fine X s q r → After s (closing_m input (plain X) q r s)
  unfolding closing_m
  after_close d q r s o m =
      let p = after-entry d q r s o m in
      let a = input.stop q in
      let s₁ = entry_m input (plain X) q r s in
      after_then p.ext (ended a s₁ p.state)

  after-symbol : (y : SymbolRow) (s : Tables) → Ordered Fine s → After s (named_symbol_m input (plain X) y s)
  unfolding named_symbol_m
  after-symbol y s o =
      let b = begin_symbol X y s in
      let o₁ = begin_symbol-ordered Fine X y s o in
      let r = begin_symbol_reads Fine X y s in
      let l = locate_symbol y b.0 b.1 in
      let o₂ = locate_symbol-ordered Fine X y b.0 b.1 _ r o₁ in
      let c = locate_symbol-chain Fine X y b.0 b.1 r in
      let n = after_unless y.address b.1 _ o₁ (after_then (locate_symbol-larger Fine X y b.0 b.1) (after-put y.address l.0 l.1 o₂ (wanted_symbol X y ∷ [], c, small _ (omega arith)))) in
      go (input.sym_end y) refl
      (after_then (begin_symbol-larger Fine X y s) n)
    where
      b : Option ℕ × Tables
      b = begin_symbol X y s

      t : Tables
      t = unless_held input (plain X) y.address (put_at_lem y.address (locate_symbol y b.0 b.1).0 (locate_symbol y b.0 b.1).1) b.1

      go : (e : Option ℕ) → input.sym_end y ≡ e → After s t → After s (named_symbol_m input (plain X) y s)
      go none e h = rw (e, named_symbol_m) h
      go (some a) e h = rw (e, named_symbol_m) (after_then h.ext (ended a t h.state))

  always_laws : Preserves input (plain X) blank limits always-couple
  unfolding stands
  always_laws = record {
    ext_refl = λ s u. larger-refl s;
    ext_trans = λ p q. larger_trans p q;
    loc-ext = λ e h. record { first = h.first; rest = h.rest; chain = chain-larger e h.chain; short = h.short; allowed = h.allowed };
    cal_ext = λ e h. record { frames = h.frames; caller = caller-larger e h.caller; short = h.short };
    fun_ext = λ e h. (made-larger Fine X e h.0, h.1);
    keys = λ n. (tt, tt);
    put_law = λ d k l m s u z o h. after-put k l s o (stands h);
    begin_law = λ d q s u ok z o. (record { ext = begin-larger Fine X q s; state = begin-ordered Fine X q s o }, (begin-made Fine X q s, ok));
    locate_law = λ d q r e n c f s u ok i o m k. (
      record { ext = locate-larger Fine X q r n c s; state = locate-ordered Fine X q r n c s o },
      record { first = line_frame Fine X q n; rest = k.frames; chain = locate-chain Fine X q r n c s k.frames m.0 k.caller; short = k.short; allowed = ok },
    );
    enter_law = λ d l m s u o h. (
      record { ext = enter-larger Fine X l s; state = enter-ordered Fine X l s h.first h.rest h.chain (stands h).2 o },
      record { frames = h.first ∷ h.rest; caller = enter-caller Fine X l s (h.first ∷ h.rest) h.chain; short = omega (arith, h.short) },
    );
    base_law = λ s u o. record { frames = []; caller = root; short = omega arith };
    close_law = λ d q r e s u ok z o m. after_close d q r s o m.0;
    symbol_law = λ y s u ok z o. after-symbol y s o;
  }

  abbrev pub DepthsIn : Given → Type 0
  DepthsIn (tree_rows q rs) = Depth 0 × ((r : FunctionRow) → r ∈ rs → Depth r.depth)
  DepthsIn (symbol_row y) = Unit {0}

  allowed-op : (g : Given) → DepthsIn g → Allowed input (plain X) blank limits always-couple (op g)
  allowed-op (tree_rows q rs) h = (h.0, λ r i. let (p, j, e) = map-∈ deep rs i in subst (λ (t : Deep FunctionRow). Depth t.depth) (sym e) (h.1 p j))
  allowed-op (symbol_row y) h = tt

  pub always-ordered : (gs : List Given) → ((g : Given) → g ∈ gs → DepthsIn g) → Ordered Fine (converted X gs)
  always-ordered gs h =
      (run-both input (plain X) blank limits always-couple always_laws (map op gs) nothing tt
      (λ o i. let (g, j, e) = map-∈ op gs i in subst (Allowed input (plain X) blank limits always-couple) (sym e) (allowed-op g (h g j)))
      (ordered-nothing Fine)).state

-- ── Indexes, said plainly ──

abbrev pub Within : Option ℕ → ℕ → Type 0
Within none n = Unit {0}
Within (some i) n = i < n

-- a location's function, file and caller lie in their tables
abbrev pub InTables : Tables → Location → Type 0
InTables s nowhere = Unit {0}
InTables s (at f n i c) = (i < length s.functions) × Within f (length s.files) × Within c (length s.calls)

file-within : (s : Tables) {f : Option ℕ} {v : Option (Six (Option Text))} → FileIs s f v → Within f (length s.files)
file-within s no_file = tt
file-within s (a_file {i = i} {x = x} h k) = at_length s.files i x h

chain-within : (s : Tables) {l : Location} {v : List Frame} → Chain s l v → InTables s l
chain-within s off = tt
chain-within s (top {i = i} h) = (at_length s.functions i h.row h.stands, file-within s h.file-is, tt)
chain-within s (deeper {i = i} {j = j} {l = k} h a c) = (at_length s.functions i h.row h.stands, file-within s h.file-is, at_length s.calls j k a)

pub reads_within : (ts : List Text) {r : Option ℕ} {v : Option Text} → Reads ts r v → Within r (length ts)
reads_within ts absent = tt
reads_within ts (present {i = i} {t = t} h) = at_length ts i t h

module _ (X : Setup) (gs : List Given) where
  abbrev tables : Tables
  tables = converted X gs

  depths-any : (g : Given) → DepthsIn X Any (λ d. Unit {0}) (λ v h. tt) (λ d z v h. tt) g
  depths-any (tree_rows q rs) = (tt, λ r i. tt)
  depths-any (symbol_row y) = tt

  -- starts unique; callers point down; all indexes in their tables
  pub always : Ordered Any tables
  always = always-ordered X Any (λ d. Unit {0}) (λ v h. tt) (λ d z v h. tt) gs (λ g i. depths-any g)

  pub starts-unique : Unique tables.ranges
  starts-unique = always.unique

  -- a call location is somewhere, and its caller an earlier one
  pub callers-earlier : CallsDown tables.calls
  callers-earlier = always.calls_down

  pub calls-within : (i : ℕ) (l : Location) → At tables.calls i l → InTables tables l
  calls-within i l h = chain-within tables (always.calls_in i l h).1

  pub ranges-within : (k : ℕ) (l : Location) → range_at tables.ranges k ≡ some l → InTables tables l
  ranges-within k l e = chain-within tables (always.ranges_in k l e).1

  pub names-within : (i : ℕ) (f : Function) → At tables.functions i f → Within f.name (length tables.texts)
  names-within i f h = reads_within tables.texts (always.functions_in i f h).1

  pub files-within : (i : ℕ) (x : File) → At tables.files i x → let n = length tables.texts in
      Within x.name n × Within x.directory n × Within x.comp_dir n × Within x.srcsrv_name n × Within x.srcsrv_dir n × Within x.revision n
  files-within i x h =
      let r = (always.files_in i x h).1 in
      let ts = tables.texts in
      (reads_within ts r.name, reads_within ts r.directory, reads_within ts r.comp_dir, reads_within ts r.srcsrv_name, reads_within ts r.srcsrv_dir, reads_within ts r.revision)

  -- K7: with no row deeper than D, no location stands for more than D + 1 frames
  module _ (D : ℕ) (shallow : (q : FunctionRow) (rs : List FunctionRow) → tree_rows q rs ∈ gs → (r : FunctionRow) → r ∈ rs → r.depth ≤ D) where
    depths_in : (g : Given) → g ∈ gs → DepthsIn X (λ v. length v ≤ suc D) (λ d. d ≤ D) (λ v h. omega arith) (λ d z v h. omega arith) g
    depths_in (tree_rows q rs) i = (omega arith, λ r j. shallow q rs i r j)
    depths_in (symbol_row y) i = tt

    bounded : Ordered (λ v. length v ≤ suc D) tables
    bounded = always-ordered X (λ v. length v ≤ suc D) (λ d. d ≤ D) (λ v h. omega arith) (λ d z v h. omega arith) gs depths_in

    pub range_short : (k : ℕ) (l : Location) → range_at tables.ranges k ≡ some l → length (frames_of tables l) ≤ suc D
    range_short k l e = let (v, c, h) = bounded.ranges_in k l e in rw (frames-found tables bounded.calls_down l v c) h

    pub call-short : (i : ℕ) (l : Location) → At tables.calls i l → length (frames_of tables l) ≤ suc D
    call-short i l e = let (v, c, h) = bounded.calls_in i l e in rw (frames-found tables bounded.calls_down l v c) h

    -- at any address
    pub frames-short : (x : ℕ) → length (frames_at tables x) ≤ suc D
    unfolding frames_at
    frames-short x = go (ltb MAX x) (best tables.ranges x) refl refl (best-answers tables.ranges x)
      where
        go : (b : Bool) (o : Option (Entry Location)) → ltb MAX x ≡ b → best tables.ranges x ≡ o → Answers tables.ranges x o → length (frames_at tables x) ≤ suc D
        go true o z e a = rw (z, frames_at) (omega arith)
        go false none z e a = rw (z, frames_at, e) (omega arith)
        go false (some d) z e a = rw (z, frames_at, e) (range_short d.key d.value a.holds)
