-- EACH STEP OF THE CONVERTER OVER WORDS GOES AS THE PLAIN ONE: a text, a file, a function, a call location, a range. From words that hold tables it comes to words that hold
-- the plain tables after the step; or to words with no room, and the plain tables don't fit. Words without room stay so.
use mathlib.Core.Path.{◌≡◌, refl, sym, ap, subst}
use mathlib.Core.Bool.{Bool, true, false, cond}
use mathlib.Core.Option.{Option}
use mathlib.Core.Logic.{◌⊎◌, inl, inr, ⊎_elim}
use mathlib.Core.List.{List, [], ◌∷◌, map}
use Prim.Native.Nat.{ℕ, zero, suc, ◌<◌}
use native.Mathlib.Omega.{arith}
use lib.Dec.{eqb}
use lib.ListN.{length}
use Rattle.model.specs.Basics.{Entry, intern}
use Rattle.model.specs.Rows.{Text}
use Rattle.model.specs.Converter.{Six, File, Function, Location, Tables, file_eq, function_eq, location_eq, intern_text, intern_six, range_put, put_at_lem}
use Rattle.model.specs.FileWords.{text_word}
use Rattle.model.proofs.Intern.{At, Grows, intern_grows, intern-new}
use Rattle.model.proofs.Chains.{file_eq-ok, function_eq-ok, location_eq-ok, store_grows, Larger}
use Rattle.model.proofs.Always.{Within, InTables}
use Rattle.model.proofs.Compact.{file-whole, function-whole, location-whole}
use Rattle.model.proofs.FileRows.{FileIn}
use Rattle.model.proofs.Grown.{Grown}
use Rattle.model.proofs.Keeps.{Any, put-larger}
use Rattle.model.proofs.Encoded.{Goes, goes_then}
use Rattle.raw.specs.declared.SourceLocation.{SourceLocation}
use Rattle.tables.specs.Table.{capacity_of, insert_of}
use Rattle.tables.specs.Ranges.{range_row_lem, put_of}
use Rattle.strings.specs.Strings.{text_capacity_of, insert_text_of}
use Rattle.table_laws.specs.Plain.{Holds}
use Rattle.tables.specs.declared.Row.{Row}
use Rattle.memory.specs.Memory.{Words}
use Rattle.steps.specs.Steps.{add_file_row, add_call, file_row_lem, function_row_lem, location_row_lem, store, store_six, add_function, put_range}
use Rattle.steps.proofs.Lengths.{Lens, lens, insert-long, put-long, text-long, text-long-index, store-lens, add_function-lens, add_file_row-lens, add_call-lens, put_range-lens}
use Rattle.demand3.proofs.WordRows.{file_row, function_row, call_row, range_row, source, call_row-is, range_row-is, grows_length, grows_bytes, within-later, in_later, file_in_later, file_row-later, function_row-later, file_row-one, function_row-one, call_row-one, row_path}
use Rattle.demand3.proofs.Interned.{Added, added, set_back, placed, put_back, stored, stored-within, texts-back}
use Rattle.demand3.proofs.Encoding.{capacities, full, stays-full, Inside, Enc, TextIs, text-is-later, encoding, few, Went, went}

map_same : {A B : Type 0} (f g : A → B) (xs : List A) → ((i : ℕ) (x : A) → At xs i x → f x ≡ g x) → map f xs ≡ map g xs
map_same f g [] h = refl
map_same {A} {B} f g (x ∷ xs) h = let a : f x ≡ g x = h 0 x refl in let b : map f xs ≡ map g xs = map_same f g xs (λ i y k. h (suc i) y k) in cc

-- the lengths at hand are those that were lent
by_own : {n : Lens} {s t : Tables} {w u : Words} {r : Type 0} → Enc n s w → Went (lens w) t u r → Went n t u r
by_own {n} {s} {t} {w} {u} {r} h g = subst (λ (m : Lens). Went m t u r) h.lent g

-- ── A text ──

abbrev pub with-texts : Tables → List Text → Tables
with-texts s ts = record { texts = ts; files = s.files; functions = s.functions; calls = s.calls; ranges = s.ranges }

texts-larger : (s : Tables) (ts : List Text) → Grows s.texts ts → Larger s (with-texts s ts)
texts-larger s ts g = record { texts = g; files = λ i a h. h; functions = λ i a h. h; calls = λ i a h. h }

texts-grown : (s : Tables) (ts us : List Text) → Grows ts us → Grown (with-texts s ts) (with-texts s us)
texts-grown s ts us g = record { texts = grows_length ts us g; bytes = grows_bytes ts us g; files = omega arith; functions = omega arith; calls = omega arith; ranges = omega arith }

pub store-full : (t : Text) (w : Words) → full w ≡ true → full (store t w).1 ≡ true
unfolding store
store-full t w h =
    stays-full w (store t w).1
    (λ r. let (a, b) = texts-back w.mm.text w.mm.strings w.st.string_bytes w.st.strings t r.bytes r.texts in
    record { bytes = a; texts = b; files = r.files; functions = r.functions; calls = r.calls; ranges = r.ranges })
    h

module _ (t : Text) (s : Tables) (w : Words) where
  abbrev stored-texts : List Text
  stored-texts = (intern_text s.texts t).table

  -- what else is there keeps its words
  texts-kept : (n : Lens) → Enc n s w → Inside (with-texts s stored-texts)
  texts-kept n h =
      let g : Grows s.texts stored-texts = store_grows s.texts t in
      let b : Larger s (with-texts s stored-texts) = texts-larger s stored-texts g in
      record {
        files = λ i x k. file_in_later s.texts stored-texts g x (h.inside.files i x k);
        functions = λ i f k. within-later f.name _ _ (grows_length s.texts stored-texts g) (h.inside.functions i f k);
        calls = λ i l k. in_later b l (h.inside.calls i l k);
        ranges = λ i e k. in_later b e.value (h.inside.ranges i e k);
      }

  pub store-went : (n : Lens) → Enc n s w → Went n (with-texts s stored-texts) (store t w).1 (TextIs stored-texts (intern_text s.texts t).ref (store t w).0)
  unfolding store
  store-went n h =
      let m = w.mm in
      let x = insert_text_of m.text m.strings w.st.string_bytes w.st.strings t in
      let d = stored m.text m.strings w.st.string_bytes w.st.strings s.texts t h.texts in
      let g : Grows s.texts stored-texts = store_grows s.texts t in
      let a : text_capacity_of (length x.text) ≡ text_capacity_of (length m.text) = ap text_capacity_of (text-long m.text m.strings w.st.string_bytes w.st.strings t) in
      let b : capacity_of (length x.strings) ≡ capacity_of (length m.strings) = ap capacity_of (text-long-index m.text m.strings w.st.string_bytes w.st.strings t) in
      by_own h
      (⊎_elim
      (λ k. inl (
        record {
          lent = store-lens w t;
          texts = k;
          files = subst (Holds 6 m.files w.st.files) (map_same (file_row s.texts) (file_row stored-texts) s.files (λ i y z. sym (file_row-later s.texts stored-texts g y (h.inside.files i y z)))) h.files;
          functions = subst (Holds 6 m.functions w.st.functions) (map_same (function_row s.texts) (function_row stored-texts) s.functions (λ i f z. sym (function_row-later s.texts stored-texts g f (h.inside.functions i f z)))) h.functions;
          calls = h.calls;
          ranges = h.ranges;
          inside = texts-kept n h;
        },
        (stored-within s.texts t, d.offset),
      ))
      (λ (p, q). inr (
        λ r. ⊎_elim (λ z. omega (arith, r.bytes)) (λ z. omega (arith, r.texts)) p,
        λ f. ⊎_elim (λ z. omega (arith, f.bytes)) (λ z. omega (arith, f.texts)) q,
      ))
      d.after)

-- ── A file ──

abbrev pub with_files : Tables → List File → Tables
with_files s fs = record { texts = s.texts; files = fs; functions = s.functions; calls = s.calls; ranges = s.ranges }

pub file-full : (row : Row) (w : Words) → full w ≡ true → full (add_file_row row w).1 ≡ true
unfolding add_file_row
file-full row w h =
    stays-full w (add_file_row row w).1
    (λ r. record { bytes = r.bytes; texts = r.texts; files = set_back w.mm.files w.st.files row r.files; functions = r.functions; calls = r.calls; ranges = r.ranges })
    h

module _ (x : File) (s : Tables) (w : Words) where
  abbrev added-files : List File
  added-files = (intern file_eq s.files x).table

  pub file-larger : Larger s (with_files s added-files)
  file-larger = record { texts = λ i a h. h; files = intern_grows file_eq s.files x; functions = λ i a h. h; calls = λ i a h. h }

  file_row-went : (n : Lens) → FileIn (length s.texts) x → Enc n s w
      → Went n (with_files s added-files) (add_file_row (file_row s.texts x) w).1 ((add_file_row (file_row s.texts x) w).0 ≡ (intern file_eq s.files x).index)
  unfolding add_file_row
  file_row-went n i h =
      let t = w.mm.files in
      let q = file_row s.texts x in
      let d =
      added (file_row s.texts) file_eq file_eq-ok file-whole t w.st.files s.files x h.files (λ j y k e. file_row-one s.texts (few n s w h).bytes y x (h.inside.files j y k) i e) in
      let c : capacity_of (length (insert_of 6 t w.st.files q).table) ≡ capacity_of (length t) = ap capacity_of (insert-long 6 t w.st.files q) in
      by_own h
      (⊎_elim
      (λ k. inl (
        record {
          lent = add_file_row-lens w q;
          texts = h.texts;
          files = k;
          functions = h.functions;
          calls = h.calls;
          ranges = h.ranges;
          inside = record {
            files = λ j y z. ⊎_elim (λ p. h.inside.files j y p) (λ (p, e). subst (FileIn (length s.texts)) (sym e) i) (intern-new file_eq s.files x j y z);
            functions = h.inside.functions;
            calls = λ j l z. in_later file-larger l (h.inside.calls j l z);
            ranges = λ j e z. in_later file-larger e.value (h.inside.ranges j e z);
          };
        },
        d.index,
      ))
      (λ (p, q). inr (λ r. omega (arith, r.files), λ f. omega (arith, f.files)))
      d.after)

  pub file-went : (n : Lens) (row : Row) → row ≡ file_row s.texts x → FileIn (length s.texts) x → Enc n s w
      → Went n (with_files s added-files) (add_file_row row w).1 ((add_file_row row w).0 ≡ (intern file_eq s.files x).index)
  file-went n row e i h =
      subst (λ (q : Row). Went n (with_files s added-files) (add_file_row q w).1 ((add_file_row q w).0 ≡ (intern file_eq s.files x).index)) (sym e) (file_row-went n i h)

-- ── A function ──

abbrev pub with_functions : Tables → List Function → Tables
with_functions s fs = record { texts = s.texts; files = s.files; functions = fs; calls = s.calls; ranges = s.ranges }

pub function-full : (name entry lang : ℕ) (w : Words) → full w ≡ true → full (add_function name entry lang w).1 ≡ true
unfolding add_function
function-full name entry lang w h =
    stays-full w (add_function name entry lang w).1
    (λ r. record { bytes = r.bytes; texts = r.texts; files = r.files; functions = set_back w.mm.functions w.st.functions (function_row_lem name entry lang) r.functions; calls = r.calls; ranges = r.ranges })
    h

module _ (x : Function) (s : Tables) (w : Words) where
  abbrev added-functions : List Function
  added-functions = (intern function_eq s.functions x).table

  pub function-larger : Larger s (with_functions s added-functions)
  function-larger = record { texts = λ i a h. h; files = λ i a h. h; functions = intern_grows function_eq s.functions x; calls = λ i a h. h }

  abbrev FunctionWent : Lens → ℕ → Type 0
  FunctionWent n v = let u = add_function v x.entry x.language w in Went n (with_functions s added-functions) u.1 (u.0 ≡ (intern function_eq s.functions x).index)

  function_row-went : (n : Lens) → Within x.name (length s.texts) → Enc n s w → FunctionWent n (text_word s.texts x.name)
  unfolding add_function
  function_row-went n i h =
      let t = w.mm.functions in
      let q = function_row s.texts x in
      let d =
      added (function_row s.texts) function_eq function_eq-ok function-whole t w.st.functions s.functions x h.functions (λ j y k e. function_row-one s.texts (few n s w h).bytes y x (h.inside.functions j y k) i e) in
      let c : capacity_of (length (insert_of 6 t w.st.functions q).table) ≡ capacity_of (length t) = ap capacity_of (insert-long 6 t w.st.functions q) in
      by_own h
      (⊎_elim
      (λ k. inl (
        record {
          lent = add_function-lens w (text_word s.texts x.name) x.entry x.language;
          texts = h.texts;
          files = h.files;
          functions = k;
          calls = h.calls;
          ranges = h.ranges;
          inside = record {
            files = h.inside.files;
            functions = λ j y z. ⊎_elim (λ p. h.inside.functions j y p) (λ (p, e). subst (λ (f : Function). Within f.name (length s.texts)) (sym e) i) (intern-new function_eq s.functions x j y z);
            calls = λ j l z. in_later function-larger l (h.inside.calls j l z);
            ranges = λ j e z. in_later function-larger e.value (h.inside.ranges j e z);
          };
        },
        d.index,
      ))
      (λ (p, q). inr (λ r. omega (arith, r.functions), λ f. omega (arith, f.functions)))
      d.after)

  pub function-went : (n : Lens) (v : ℕ) → TextIs s.texts x.name v → Enc n s w → FunctionWent n v
  function-went n v i h = subst (FunctionWent n) (sym i.1) (function_row-went n i.0 h)

-- ── A call location ──

abbrev pub with_calls : Tables → List Location → Tables
with_calls s cs = record { texts = s.texts; files = s.files; functions = s.functions; calls = cs; ranges = s.ranges }

pub call-full : (l : SourceLocation) (w : Words) → full w ≡ true → full (add_call l w).1 ≡ true
unfolding add_call
call-full l w h =
    stays-full w (add_call l w).1
    (λ r. record { bytes = r.bytes; texts = r.texts; files = r.files; functions = r.functions; calls = set_back w.mm.calls w.st.call_locations (location_row_lem l) r.calls; ranges = r.ranges })
    h

module _ (l : Location) (s : Tables) (w : Words) where
  abbrev added-calls : List Location
  added-calls = (intern location_eq s.calls l).table

  call-larger : Larger s (with_calls s added-calls)
  call-larger = record { texts = λ i a h. h; files = λ i a h. h; functions = λ i a h. h; calls = intern_grows location_eq s.calls l }

  abbrev CallWent : Lens → SourceLocation → Type 0
  CallWent n v = let u = add_call v w in Went n (with_calls s added-calls) u.1 (u.0 ≡ (intern location_eq s.calls l).index)

  call_row-went : (n : Lens) → InTables s l → Enc n s w → CallWent n (source l)
  unfolding add_call
  call_row-went n i h =
      let t = w.mm.calls in
      let m = w.st.call_locations in
      let e : location_row_lem (source l) ≡ call_row l = call_row-is l in
      let d₀ = added call_row location_eq location_eq-ok location-whole t m s.calls l h.calls (λ j y k z. call_row-one s (few n s w h) y l (h.inside.calls j y k) i z) in
      let d = subst (λ (q : Row). Added call_row location_eq location_eq-ok location-whole t (intern location_eq s.calls l) (insert_of 6 t m q)) (sym e) d₀ in
      let c : capacity_of (length (insert_of 6 t m (location_row_lem (source l))).table) ≡ capacity_of (length t) = ap capacity_of (insert-long 6 t m (location_row_lem (source l))) in
      by_own h
      (⊎_elim
      (λ k. inl (
        record {
          lent = add_call-lens w (source l);
          texts = h.texts;
          files = h.files;
          functions = h.functions;
          calls = k;
          ranges = h.ranges;
          inside = record {
            files = h.inside.files;
            functions = h.inside.functions;
            calls = λ j y z. in_later call-larger y (⊎_elim (λ p. h.inside.calls j y p) (λ (p, e). subst (InTables s) (sym e) i) (intern-new location_eq s.calls l j y z));
            ranges = λ j e z. in_later call-larger e.value (h.inside.ranges j e z);
          };
        },
        d.index,
      ))
      (λ (p, q). inr (λ r. omega (arith, r.calls), λ f. omega (arith, f.calls)))
      d.after)

  pub call-went : (n : Lens) (v : SourceLocation) → InTables s l → v ≡ source l → Enc n s w → CallWent n v
  call-went n v i e h = subst (CallWent n) (sym e) (call_row-went n i h)

-- ── A range ──

pub range_full : (k : ℕ) (l : SourceLocation) (w : Words) → full w ≡ true → full (put_range k l w) ≡ true
unfolding put_range
range_full k l w h =
    stays-full w (put_range k l w)
    (λ r. record { bytes = r.bytes; texts = r.texts; files = r.files; functions = r.functions; calls = r.calls; ranges = put_back w.mm.ranges w.st.ranges (range_row_lem k l) r.ranges })
    h

put-new : (k : ℕ) (l : Location) (rs : List (Entry Location)) (i : ℕ) (e : Entry Location) → At (range_put k l rs) i e → At rs i e ⊎ (e.value ≡ l)
unfolding range_put
put-new k l [] zero e h = inr (ap (λ (x : Entry Location). x.value) (sym h))
put-new k l [] (suc i) e h = absurd h
put-new k l (x ∷ xs) i e h = go (eqb k x.key) i h (λ j z. put-new k l xs j e z)
  where
    go : (b : Bool) (j : ℕ) → At (cond b (record { key = k; value = l } ∷ xs) (x ∷ range_put k l xs)) j e → ((m : ℕ) → At (range_put k l xs) m e → At xs m e ⊎ (e.value ≡ l)) → At (x ∷ xs) j e ⊎ (e.value ≡ l)
    go true zero z ih = inr (ap (λ (y : Entry Location). y.value) (sym z))
    go true (suc j) z ih = inl z
    go false zero z ih = inl z
    go false (suc j) z ih = ih j z

module _ (k : ℕ) (l : Location) (s : Tables) (w : Words) where
  range_row-went : (n : Lens) → InTables s l → Enc n s w → Went n (put_at_lem k l s) (put_range k (source l) w) (Unit {0})
  unfolding put_range
  range_row-went n i h =
      let t = w.mm.ranges in
      let m = w.st.ranges in
      let b : Larger s (put_at_lem k l s) = put-larger Any k l s in
      let e : range_row_lem k (source l) ≡ range_row (record { key = k; value = l }) = range_row-is k l in
      let d =
      subst
      (λ (q : Row). let x = put_of t m q in Holds 1 x.table x.got.count (map range_row (range_put k l s.ranges)) ⊎ ((capacity_of (length t) < x.got.count) × (capacity_of (length t) < length (range_put k l s.ranges))))
      (sym e) (placed t m s.ranges k l h.ranges) in
      let c : capacity_of (length (put_of t m (range_row_lem k (source l))).table) ≡ capacity_of (length t) = ap capacity_of (put-long t m (range_row_lem k (source l))) in
      by_own h
      (⊎_elim
      (λ z. inl (
        record {
          lent = put_range-lens w k (source l);
          texts = h.texts;
          files = h.files;
          functions = h.functions;
          calls = h.calls;
          ranges = z;
          inside = record {
            files = h.inside.files;
            functions = h.inside.functions;
            calls = λ j y p. in_later b y (h.inside.calls j y p);
            ranges = λ j y p. in_later b y.value (⊎_elim (λ a. h.inside.ranges j y a) (λ a. subst (InTables s) (sym a) i) (put-new k l s.ranges j y p));
          };
        },
        tt,
      ))
      (λ (p, q). inr (λ r. omega (arith, r.ranges), λ f. omega (arith, f.ranges)))
      d)

  pub range_went : (n : Lens) (v : SourceLocation) → InTables s l → v ≡ source l → Enc n s w → Went n (put_at_lem k l s) (put_range k v w) (Unit {0})
  range_went n v i e h = subst (λ (x : SourceLocation). Went n (put_at_lem k l s) (put_range k x w) (Unit {0})) (sym e) (range_row-went n i h)

-- ── Six texts ──

-- references to texts, each with its word
unfoldable Known : List Text → List (Option ℕ × ℕ) → Type 0
Known ts [] = Unit {0}
Known ts (p ∷ ps) = TextIs ts p.0 p.1 × Known ts ps

known-none : (ts : List Text) → Known ts []
unfolding Known
known-none ts = tt

known_more : (ts : List Text) (r : Option ℕ) (v : ℕ) (ps : List (Option ℕ × ℕ)) → TextIs ts r v → Known ts ps → Known ts ((r, v) ∷ ps)
unfolding Known
known_more ts r v ps h k = (h, k)

known-later : (ts us : List Text) → Grows ts us → (ps : List (Option ℕ × ℕ)) → Known ts ps → Known us ps
unfolding Known
known-later ts us g [] h = tt
known-later ts us g (p ∷ ps) h = (text-is-later ts us g p.0 p.1 h.0, known-later ts us g ps h.1)

-- those of a file
six-known : (ts : List Text) (x : File) (y : Six ℕ)
    → Known ts ((x.revision, y.revision) ∷ (x.srcsrv_dir, y.srcsrv_dir) ∷ (x.srcsrv_name, y.srcsrv_name) ∷ (x.comp_dir, y.comp_dir) ∷ (x.directory, y.directory) ∷ (x.name, y.name) ∷ [])
    → FileIn (length ts) x × (file_row_lem y ≡ file_row ts x)
unfolding Known
six-known ts x y (f, (e, (d, (c, (b, (a, z)))))) = (
  record { name = a.0; directory = b.0; comp_dir = c.0; srcsrv_name = d.0; srcsrv_dir = e.0; revision = f.0 },
  row_path (file_row_lem y) (file_row ts x) c.1 b.1 a.1 d.1 e.1 f.1,
)

module _ (n : Lens) where
  abbrev GoesIn : Tables → Words → Type 0 → Type 0
  GoesIn = Goes (capacities n) (encoding n)

  pub answer : {t : Tables} {u : Words} {r r' : Type 0} → (r → r') → GoesIn t u r → GoesIn t u r'
  answer f g = record { fitting = λ e. let (a, b, c) = g.fitting e in (a, b, f c); exceeding = g.exceeding }

  -- one more text
  then-store : (t : Text) (s : Tables) (ts : List Text) (u : Words) (ps : List (Option ℕ × ℕ)) → GoesIn (with-texts s ts) u (Known ts ps)
      → let p = intern_text ts t in let v = store t u in GoesIn (with-texts s p.table) v.1 (Known p.table ((p.ref, v.0) ∷ ps))
  then-store t s ts u ps g =
      goes_then (capacities n) (encoding n) g (texts-grown s ts (intern_text ts t).table (store_grows ts t)) (store-full t u)
      (λ h k. answer (λ z. known_more (intern_text ts t).table (intern_text ts t).ref (store t u).0 ps z (known-later ts (intern_text ts t).table (store_grows ts t) ps k)) (went n _ _ (store-went t (with-texts s ts) u n h.enc)))

  pub six-full : (x : Six Text) (w : Words) → full w ≡ true → full (store_six x w).1 ≡ true
  unfolding store_six
  six-full x w h = store-full x.revision _ (store-full x.srcsrv_dir _ (store-full x.srcsrv_name _ (store-full x.comp_dir _ (store-full x.directory _ (store-full x.name w h)))))

  pub six-goes : (x : Six Text) (s : Tables) (w : Words) → Enc n s w
      → let t = intern_six s.texts x in let u = store_six x w in GoesIn (with-texts s t.table) u.1 (FileIn (length t.table) t.ref × (file_row_lem u.0 ≡ file_row t.table t.ref))
  unfolding intern_six store_six
  six-goes x s w h =
      let t = intern_six s.texts x in
      let u = store_six x w in
      let p = intern_text s.texts x.name in
      let v = store x.name w in
      let g₁ : GoesIn (with-texts s p.table) v.1 (Known p.table ((p.ref, v.0) ∷ [])) = answer (λ z. known_more p.table p.ref v.0 [] z (known-none p.table)) (went n _ _ (store-went x.name s w n h)) in
      let g₂ = then-store x.directory s _ _ _ g₁ in
      let g₃ = then-store x.comp_dir s _ _ _ g₂ in
      let g₄ = then-store x.srcsrv_name s _ _ _ g₃ in
      let g₅ = then-store x.srcsrv_dir s _ _ _ g₄ in
      let g₆ = then-store x.revision s _ _ _ g₅ in
      answer (six-known _ t.ref u.0) g₆
