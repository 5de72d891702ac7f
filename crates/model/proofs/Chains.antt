-- In the plain tables, what a reference, a file, a function and a location stand for; that it stays as the tables grow; and that the walk finds it.
use mathlib.Core.Path.{◌≡◌, refl, sym, ap, ◌∙◌, subst}
use mathlib.Core.Bool.{true, false}
use mathlib.Core.Option.{Option, none, some}
use mathlib.Core.Logic.{◌⊎◌, inl, inr, ◌≢◌, ⊎_elim}
use mathlib.Core.List.{List, [], ◌∷◌}
use Prim.Native.Nat.{ℕ, zero, suc, ◌≤◌, ◌<◌}
use native.Mathlib.Omega.{arith}
use lib.ListN.{length, get_elem?}
use lib.Dec.{eqb}
use borrow.Author.Tests.{eqb-true, eq-eqb, ne_eqb, le-leb, lt-leb}
use Rattle.slices.proofs.Cases.{lt-or_ge, eq-or-ne, both_true, false-true, none-some}
use Rattle.model.specs.Basics.{Entry}
use Rattle.model.specs.Rows.{Text}
use Rattle.model.specs.Converter.{Six, File, Function, Location, nowhere, at, Tables, opt_eq, text_eq, file_eq, function_eq, location_eq, is_nowhere, intern_text, intern_six, range_at, range_put}
use Rattle.model.specs.Frames.{Frame, read, read_six, file_at, function_at, frame_of, caller_of, callers, frames_of, better, best, known, known_six}
use Rattle.model.proofs.Intern.{At, Grows, intern-at, intern_grows, at_length, at_get_d}

-- ── Tests and options ──

pub some-eq : {A : Type 0} {p q : A} → ◌≡◌ {A = Option A} (some p) (some q) → p ≡ q
some-eq r = cc

-- ── The equality tests ──

pub opt_eq-ok : (i j : Option ℕ) → opt_eq i j ≡ true → i ≡ j
opt_eq-ok none none e = refl
opt_eq-ok none (some j) e = false-true e
opt_eq-ok (some i) none e = false-true e
opt_eq-ok (some i) (some j) e = ap some (eqb-true i j e)

pub text_eq-ok : (s t : Text) → text_eq s t ≡ true → s ≡ t
text_eq-ok [] [] e = refl
text_eq-ok [] (b ∷ t) e = false-true e
text_eq-ok (a ∷ s) [] e = false-true e
text_eq-ok (a ∷ s) (b ∷ t) e = let (p, q) = both_true (eqb a b) (text_eq s t) e in cc (eqb-true a b p, text_eq-ok s t q)

pub six_path : {A : Type 0} (x y : Six A) → x.name ≡ y.name → x.directory ≡ y.directory → x.comp_dir ≡ y.comp_dir → x.srcsrv_name ≡ y.srcsrv_name
    → x.srcsrv_dir ≡ y.srcsrv_dir → x.revision ≡ y.revision → x ≡ y
six_path x y a b c d e f = λ i. record { name = a i; directory = b i; comp_dir = c i; srcsrv_name = d i; srcsrv_dir = e i; revision = f i }

pub file_eq-ok : (x y : File) → file_eq x y ≡ true → x ≡ y
file_eq-ok x y h =
    let (h₁, f) = both_true _ (opt_eq x.revision y.revision) h in
    let (h₂, e) = both_true _ (opt_eq x.srcsrv_dir y.srcsrv_dir) h₁ in
    let (h₃, d) = both_true _ (opt_eq x.srcsrv_name y.srcsrv_name) h₂ in
    let (h₄, c) = both_true _ (opt_eq x.comp_dir y.comp_dir) h₃ in
    let (a, b) = both_true (opt_eq x.name y.name) (opt_eq x.directory y.directory) h₄ in
    six_path x y (opt_eq-ok _ _ a) (opt_eq-ok _ _ b) (opt_eq-ok _ _ c) (opt_eq-ok _ _ d) (opt_eq-ok _ _ e) (opt_eq-ok _ _ f)

pub function_eq-ok : (x y : Function) → function_eq x y ≡ true → x ≡ y
function_eq-ok x y h =
    let (h₁, c) = both_true _ (eqb x.language y.language) h in
    let (a, b) = both_true (opt_eq x.name y.name) (eqb x.entry y.entry) h₁ in
    let p = opt_eq-ok _ _ a in
    let q = eqb-true _ _ b in
    let r = eqb-true _ _ c in
    λ i. record { name = p i; entry = q i; language = r i }

pub location_eq-ok : (x y : Location) → location_eq x y ≡ true → x ≡ y
location_eq-ok nowhere nowhere e = refl
location_eq-ok nowhere (at g o j b) e = false-true e
location_eq-ok (at f n i a) nowhere e = false-true e
location_eq-ok (at f n i a) (at g o j b) h =
    let (h₁, t) = both_true _ (opt_eq a b) h in
    let (h₂, r) = both_true _ (eqb i j) h₁ in
    let (p, q) = both_true (opt_eq f g) (eqb n o) h₂ in
    cc (opt_eq-ok f g p, eqb-true n o q, eqb-true i j r, opt_eq-ok a b t)

-- ── Texts ──

pub data Reads (ts : List Text) : Option ℕ → Option Text → Type 0 where
  absent : Reads ts none none
  present : {i : ℕ} {t : Text} → At ts i t → Reads ts (some i) (some t)

pub reads_grows : {ts : List Text} (us : List Text) → Grows ts us → {r : Option ℕ} {v : Option Text} → Reads ts r v → Reads us r v
reads_grows us g absent = absent
reads_grows us g (present {i = i} {t = t} h) = present (g i t h)

pub at-get : {A : Type 0} (xs : List A) (i : ℕ) (a : A) → At xs i a → get_elem? xs i ≡ some a
at-get [] i a h = absurd h
at-get (x ∷ xs) zero a h = ap some h
at-get (x ∷ xs) (suc i) a h = at-get xs i a h

reads_read : {ts : List Text} {r : Option ℕ} {v : Option Text} → Reads ts r v → read ts r ≡ v
reads_read absent = refl
reads_read {ts} (present {i = i} {t = t} h) = at-get ts i t h

pub record SixReads (ts : List Text) (x : File) (v : Six (Option Text)) : Type 0 where
  pub name : Reads ts x.name v.name
  pub directory : Reads ts x.directory v.directory
  pub comp_dir : Reads ts x.comp_dir v.comp_dir
  pub srcsrv_name : Reads ts x.srcsrv_name v.srcsrv_name
  pub srcsrv_dir : Reads ts x.srcsrv_dir v.srcsrv_dir
  pub revision : Reads ts x.revision v.revision

pub six_grows : {ts us : List Text} → Grows ts us → (x : File) (v : Six (Option Text)) → SixReads ts x v → SixReads us x v
six_grows {ts} {us} g x v h = record {
  name = reads_grows us g h.name;
  directory = reads_grows us g h.directory;
  comp_dir = reads_grows us g h.comp_dir;
  srcsrv_name = reads_grows us g h.srcsrv_name;
  srcsrv_dir = reads_grows us g h.srcsrv_dir;
  revision = reads_grows us g h.revision;
}

pub store_grows : (ts : List Text) (t : Text) → Grows ts (intern_text ts t).table
unfolding intern_text
store_grows ts [] = λ i a h. h
store_grows ts (b ∷ t) = intern_grows text_eq ts (b ∷ t)

pub store_reads : (ts : List Text) (t : Text) → Reads (intern_text ts t).table (intern_text ts t).ref (known t)
unfolding intern_text
store_reads ts [] = absent
store_reads ts (b ∷ t) = present (intern-at text_eq text_eq-ok ts (b ∷ t))

module _ (ts : List Text) (x : Six Text) where
  abbrev t₁ : List Text
  t₁ = (intern_text ts x.name).table

  abbrev t₂ : List Text
  t₂ = (intern_text t₁ x.directory).table

  abbrev t₃ : List Text
  t₃ = (intern_text t₂ x.comp_dir).table

  abbrev t₄ : List Text
  t₄ = (intern_text t₃ x.srcsrv_name).table

  abbrev t₅ : List Text
  t₅ = (intern_text t₄ x.srcsrv_dir).table

  g₅ : Grows t₅ (intern_six ts x).table
  unfolding intern_six
  g₅ = store_grows t₅ x.revision

  g₄ : Grows t₄ (intern_six ts x).table
  g₄ i a h = g₅ i a (store_grows t₄ x.srcsrv_dir i a h)

  g₃ : Grows t₃ (intern_six ts x).table
  g₃ i a h = g₄ i a (store_grows t₃ x.srcsrv_name i a h)

  g₂ : Grows t₂ (intern_six ts x).table
  g₂ i a h = g₃ i a (store_grows t₂ x.comp_dir i a h)

  g₁ : Grows t₁ (intern_six ts x).table
  g₁ i a h = g₂ i a (store_grows t₁ x.directory i a h)

  pub six-store_grows : Grows ts (intern_six ts x).table
  six-store_grows i a h = g₁ i a (store_grows ts x.name i a h)

  pub six-store_reads : SixReads (intern_six ts x).table (intern_six ts x).ref (known_six x)
  unfolding intern_six
  six-store_reads = record {
    name = reads_grows (intern_six ts x).table g₁ (store_reads ts x.name);
    directory = reads_grows (intern_six ts x).table g₂ (store_reads t₁ x.directory);
    comp_dir = reads_grows (intern_six ts x).table g₃ (store_reads t₂ x.comp_dir);
    srcsrv_name = reads_grows (intern_six ts x).table g₄ (store_reads t₃ x.srcsrv_name);
    srcsrv_dir = reads_grows (intern_six ts x).table g₅ (store_reads t₄ x.srcsrv_dir);
    revision = store_reads t₅ x.revision;
  }

-- ── Files, functions, locations ──

-- t has all that s has, where it was
pub record Larger (s t : Tables) : Type 0 where
  pub texts : Grows s.texts t.texts
  pub files : Grows s.files t.files
  pub functions : Grows s.functions t.functions
  pub calls : Grows s.calls t.calls

pub data FileIs (s : Tables) : Option ℕ → Option (Six (Option Text)) → Type 0 where
  no_file : FileIs s none none
  a_file : {i : ℕ} {x : File} {v : Six (Option Text)} → At s.files i x → SixReads s.texts x v → FileIs s (some i) (some v)

-- the frame g of a location with file f, line number n and function i
pub record Shows (s : Tables) (f : Option ℕ) (n i : ℕ) (g : Frame) : Type 0 where
  pub row : Function
  pub stands : At s.functions i row
  pub named : Reads s.texts row.name g.name
  pub entry-is : row.entry ≡ g.entry
  pub language-is : row.language ≡ g.language
  pub number_is : n ≡ g.number
  pub file-is : FileIs s f g.file

pub data Chain (s : Tables) : Location → List Frame → Type 0 where
  off : Chain s nowhere []
  top : {f : Option ℕ} {n i : ℕ} {g : Frame} → Shows s f n i g → Chain s (at f n i none) (g ∷ [])
  deeper : {f : Option ℕ} {n i : ℕ} {g : Frame} {j : ℕ} {l : Location} {v : List Frame} → Shows s f n i g → At s.calls j l → Chain s l v → Chain s (at f n i (some j)) (g ∷ v)

pub data Caller (s : Tables) : Option ℕ → List Frame → Type 0 where
  root : Caller s none []
  into : {j : ℕ} {l : Location} {v : List Frame} → At s.calls j l → Chain s l v → Caller s (some j) v

module _ {s t : Tables} (b : Larger s t) where
  file-larger : {f : Option ℕ} {v : Option (Six (Option Text))} → FileIs s f v → FileIs t f v
  file-larger no_file = no_file
  file-larger (a_file {i = i} {x = x} {v = v} h k) = a_file (b.files i x h) (six_grows b.texts x v k)

  pub shows-larger : {f : Option ℕ} {n i : ℕ} {g : Frame} → Shows s f n i g → Shows t f n i g
  shows-larger {f} {n} {i} {g} h = record {
    row = h.row;
    stands = b.functions i h.row h.stands;
    named = reads_grows t.texts b.texts h.named;
    entry-is = h.entry-is;
    language-is = h.language-is;
    number_is = h.number_is;
    file-is = file-larger h.file-is;
  }

  pub chain-larger : {l : Location} {v : List Frame} → Chain s l v → Chain t l v
  chain-larger off = off
  chain-larger (top h) = top (shows-larger h)
  chain-larger (deeper {j = j} {l = l} h k c) = deeper (shows-larger h) (b.calls j l k) (chain-larger c)

  pub caller-larger : {c : Option ℕ} {v : List Frame} → Caller s c v → Caller t c v
  caller-larger root = root
  caller-larger (into {j = j} {l = l} k c) = into (b.calls j l k) (chain-larger c)

pub push : {s : Tables} {f : Option ℕ} {n i : ℕ} {g : Frame} {c : Option ℕ} {v : List Frame} → Shows s f n i g → Caller s c v → Chain s (at f n i c) (g ∷ v)
push h root = top h
push h (into k c) = deeper h k c

-- a call location is somewhere, and inlined into an earlier one
abbrev pub Down : ℕ → Location → Type 0
Down i nowhere = ⊥
Down i (at f n g none) = Unit {0}
Down i (at f n g (some j)) = j < i

abbrev pub CallsDown : List Location → Type 0
CallsDown cs = (i : ℕ) (l : Location) → At cs i l → Down i l

pub chain_down : (s : Tables) (l : Location) (v : List Frame) (g : Frame) (w : List Frame) → v ≡ g ∷ w → Chain s l v → Down (length s.calls) l
chain_down s l v g w e off = let bad : ◌≡◌ {A = ℕ} 0 1 = cc in absurd (omega arith)
chain_down s l v g w e (top h) = tt
chain_down s l v g w e (deeper {j = j} {l = k} h i c) = at_length s.calls j k i

pub yes-nowhere : (s : Tables) (l : Location) (v : List Frame) → Chain s l v → v ≡ [] → is_nowhere l ≡ true
yes-nowhere s l v off e = refl
yes-nowhere s l v (top h) e = cc
yes-nowhere s l v (deeper h k c) e = cc

pub no_nowhere : (s : Tables) (l : Location) (v : List Frame) (g : Frame) (w : List Frame) → Chain s l v → v ≡ g ∷ w → is_nowhere l ≡ false
no_nowhere s l v g w off e = cc
no_nowhere s l v g w (top h) e = refl
no_nowhere s l v g w (deeper h k c) e = refl

-- ── The walk finds them ──

file-found : (s : Tables) {f : Option ℕ} {v : Option (Six (Option Text))} → FileIs s f v → file_at s f ≡ v
file-found s no_file = refl
file-found s (a_file {i = i} {x = x} {v = v} k r) =
    let e : read_six s.texts x ≡ v =
    six_path (read_six s.texts x) v (reads_read r.name) (reads_read r.directory) (reads_read r.comp_dir) (reads_read r.srcsrv_name) (reads_read r.srcsrv_dir) (reads_read r.revision) in
    rw (at-get s.files i x k, file_at) (ap some e)

pub frame_path : (a b : Frame) → a.name ≡ b.name → a.entry ≡ b.entry → a.language ≡ b.language → a.number ≡ b.number → a.file ≡ b.file → a ≡ b
frame_path a b p q r t u = λ i. record { name = p i; entry = q i; language = r i; number = t i; file = u i }

pub frame_found : (s : Tables) (f : Option ℕ) (n i : ℕ) (g : Frame) (c : Option ℕ) → Shows s f n i g → frame_of s (at f n i c) ≡ g
frame_found s f n i g c h =
    let e : function_at s i ≡ h.row = at_get_d s.functions i h.row _ h.stands in
    frame_path (frame_of s (at f n i c)) g
    (ap (λ (r : Function). read s.texts r.name) e ∙ reads_read h.named)
    (ap (λ (r : Function). r.entry) e ∙ h.entry-is)
    (ap (λ (r : Function). r.language) e ∙ h.language-is)
    h.number_is
    (file-found s h.file-is)

no_callers : (k : ℕ) (s : Tables) → callers k s none ≡ []
unfolding callers
no_callers zero s = refl
no_callers (suc k) s = refl

module _ (s : Tables) (down : CallsDown s.calls) where
  callers-step : (k j : ℕ) (l : Location) → At s.calls j l → callers (suc k) s (some j) ≡ frame_of s l ∷ callers k s (caller_of l)
  unfolding callers
  callers-step k j l h = rw (at-get s.calls j l h, callers)

  callers-found : (k j : ℕ) (l : Location) (v : List Frame) → At s.calls j l → Down j l → j < k → Chain s l v → callers k s (some j) ≡ v
  callers-found zero j l v h d b c = absurd (omega arith)
  callers-found (suc k) j l v h d b off = absurd d
  callers-found (suc k) j l v h d b (top {f = f} {n = n} {i = i} {g = g} x) =
      callers-step k j (at f n i none) h ∙ rw (no_callers k s, frame_found s f n i g none x)
  callers-found (suc k) j l v h d b (deeper {f = f} {n = n} {i = i} {g = g} {j = j'} {l = l'} {v = w} x a c) =
      callers-step k j (at f n i (some j')) h ∙ rw (frame_found s f n i g (some j') x) (ap (λ (t : List Frame). g ∷ t) (callers-found k j' l' w a (down j' l' a) (omega arith) c))

  pub frames-found : (l : Location) (v : List Frame) → Chain s l v → frames_of s l ≡ v
  unfolding frames_of
  frames-found l v off = refl
  frames-found l v (top {f = f} {n = n} {i = i} {g = g} x) = rw (no_callers (length s.calls) s, frame_found s f n i g none x)
  frames-found l v (deeper {f = f} {n = n} {i = i} {g = g} {j = j} {l = l'} {v = w} x a c) =
      rw (frame_found s f n i g (some j) x) (ap (λ (t : List Frame). g ∷ t) (callers-found (length s.calls) j l' w a (down j l' a) (at_length s.calls j l' a) c))

-- ── Ranges ──

module _ {L : Type 0} where
  pub range_here : (e : Entry L) (es : List (Entry L)) (x : ℕ) → x ≡ e.key → range_at (e ∷ es) x ≡ some e.value
  unfolding range_at
  range_here e es x h = rw (eq-eqb x e.key h)

  pub range_there : (e : Entry L) (es : List (Entry L)) (x : ℕ) → x ≢ e.key → range_at (e ∷ es) x ≡ range_at es x
  unfolding range_at
  range_there e es x h = rw (ne_eqb x e.key h)

  module _ (k : ℕ) (v : L) (e : Entry L) (es : List (Entry L)) where
    put-here : k ≡ e.key → range_put k v (e ∷ es) ≡ record { key = k; value = v } ∷ es
    unfolding range_put
    put-here h = rw (eq-eqb k e.key h)

    put-there : k ≢ e.key → range_put k v (e ∷ es) ≡ e ∷ range_put k v es
    unfolding range_put
    put-there h = rw (ne_eqb k e.key h)

  pub put_same : (k : ℕ) (v : L) (t : List (Entry L)) → range_at (range_put k v t) k ≡ some v
  unfolding range_put
  put_same k v [] = range_here _ [] k refl
  put_same k v (e ∷ es) = go (eq-or-ne k e.key) (put_same k v es)
    where
      go : (k ≡ e.key) ⊎ (k ≢ e.key) → range_at (range_put k v es) k ≡ some v → range_at (range_put k v (e ∷ es)) k ≡ some v
      go (inl z) ih = rw (put-here k v e es z) (range_here _ es k refl)
      go (inr z) ih = rw (put-there k v e es z) (range_there e (range_put k v es) k z ∙ ih)

  pub put_other : (k : ℕ) (v : L) (t : List (Entry L)) (x : ℕ) → x ≢ k → range_at (range_put k v t) x ≡ range_at t x
  unfolding range_put
  put_other k v [] x n = range_there _ [] x n
  put_other k v (e ∷ es) x n = go (eq-or-ne k e.key) (eq-or-ne x e.key) (put_other k v es x n)
    where
      go : (k ≡ e.key) ⊎ (k ≢ e.key) → (x ≡ e.key) ⊎ (x ≢ e.key) → range_at (range_put k v es) x ≡ range_at es x → range_at (range_put k v (e ∷ es)) x ≡ range_at (e ∷ es) x
      go (inl z) w ih = rw (put-here k v e es z) (range_there _ es x n ∙ sym (range_there e es x (omega arith)))
      go (inr z) (inl w) ih = rw (put-there k v e es z) (range_here e (range_put k v es) x w ∙ sym (range_here e es x w))
      go (inr z) (inr w) ih = rw (put-there k v e es z) (range_there e (range_put k v es) x w ∙ ih ∙ sym (range_there e es x w))

  -- each start stands once
  abbrev pub Unique : List (Entry L) → Type 0
  Unique [] = Unit {0}
  Unique (e ∷ es) = (range_at es e.key ≡ none) × Unique es

  pub put-unique : (k : ℕ) (v : L) (t : List (Entry L)) → Unique t → Unique (range_put k v t)
  unfolding range_put range_at
  put-unique k v [] u = (refl, tt)
  put-unique k v (e ∷ es) u = go (eq-or-ne k e.key) (put-unique k v es u.1)
    where
      go : (k ≡ e.key) ⊎ (k ≢ e.key) → Unique (range_put k v es) → Unique (range_put k v (e ∷ es))
      go (inl z) ih = rw (put-here k v e es z) (subst (λ (j : ℕ). range_at es j ≡ none) (sym z) u.0, u.1)
      go (inr z) ih = rw (put-there k v e es z) (put_other k v es e.key (λ q. z (sym q)) ∙ u.0, ih)

  -- what `best` answers for x: nothing starts at most at x, or e does, and nothing between e and x
  pub record Best (t : List (Entry L)) (x : ℕ) (e : Entry L) : Type 0 where
    pub low : e.key ≤ x
    pub holds : range_at t e.key ≡ some e.value
    pub bare : (j : ℕ) → e.key < j → j ≤ x → range_at t j ≡ none

  abbrev pub Answers : List (Entry L) → ℕ → Option (Entry L) → Type 0
  Answers t x none = (j : ℕ) → j ≤ x → range_at t j ≡ none
  Answers t x (some e) = Best t x e

  module _ (e : Entry L) (es : List (Entry L)) (x : ℕ) where
    step-none : Answers es x none → Answers (e ∷ es) x (better x e none)
    unfolding better
    step-none h = go (lt-or_ge x e.key)
      where
        go : (x < e.key) ⊎ (e.key ≤ x) → Answers (e ∷ es) x (better x e none)
        go (inl z) = rw (lt-leb e.key x z, better) (λ j k. range_there e es j (omega arith) ∙ h j k)
        go (inr z) = rw (le-leb e.key x z, better) (record { low = z; holds = range_here e es e.key refl; bare = λ j k y. range_there e es j (omega arith) ∙ h j y })

    step-some : (d : Entry L) → Best es x d → Answers (e ∷ es) x (better x e (some d))
    unfolding better
    step-some d h = go (lt-or_ge x e.key) (lt-or_ge e.key d.key)
      where
        go : (x < e.key) ⊎ (e.key ≤ x) → (e.key < d.key) ⊎ (d.key ≤ e.key) → Answers (e ∷ es) x (better x e (some d))
        go (inl z) w = rw (lt-leb e.key x z, better) (record { low = h.low; holds = range_there e es d.key (omega (arith, h.low)) ∙ h.holds; bare = λ j k y. range_there e es j (omega arith) ∙ h.bare j k y })
        go (inr z) (inl w) =
            rw (le-leb e.key x z, lt-leb d.key e.key w, better)
            (record { low = h.low; holds = range_there e es d.key (omega arith) ∙ h.holds; bare = λ j k y. range_there e es j (omega arith) ∙ h.bare j k y })
        go (inr z) (inr w) =
            rw (le-leb e.key x z, le-leb d.key e.key w, better)
            (record { low = z; holds = range_here e es e.key refl; bare = λ j k y. range_there e es j (omega arith) ∙ h.bare j (omega arith) y })

  pub best-answers : (t : List (Entry L)) (x : ℕ) → Answers t x (best t x)
  unfolding best range_at
  best-answers [] x = λ j k. refl
  best-answers (e ∷ es) x = go (best es x) (best-answers es x)
    where
      go : (o : Option (Entry L)) → Answers es x o → Answers (e ∷ es) x (better x e o)
      go none h = step-none e es x h
      go (some d) h = step-some e es x d h

  -- there is only one such
  pub best-is : (t : List (Entry L)) (x key : ℕ) (l : L) → key ≤ x → range_at t key ≡ some l → ((k : ℕ) → key < k → k ≤ x → range_at t k ≡ none)
      → (e : Entry L) × (best t x ≡ some e) × (e.key ≡ key) × (e.value ≡ l)
  best-is t x key l h g b = go (best t x) refl (best-answers t x)
    where
      go : (o : Option (Entry L)) → best t x ≡ o → Answers t x o → (e : Entry L) × (best t x ≡ some e) × (e.key ≡ key) × (e.value ≡ l)
      go none e a = none-some (sym (a key h) ∙ g)
      go (some e) z a = (e, z, same, value)
        where
          same : e.key ≡ key
          same =
              ⊎_elim
              (λ y. none-some (sym (a.bare key y h) ∙ g))
              (λ y. ⊎_elim (λ w. none-some (sym (b e.key w a.low) ∙ a.holds)) (λ w. omega arith) (lt-or_ge key e.key))
              (lt-or_ge e.key key)

          value : e.value ≡ l
          value = some-eq (sym a.holds ∙ subst (λ (k : ℕ). range_at t k ≡ some l) (sym same) g)
