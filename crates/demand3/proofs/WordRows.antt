-- THE ROWS OF THE PLAIN TABLES AS ROWS OF WORDS, and that nothing is lost: rows whose references lie within small tables have equal words only where they are equal.
-- Texts have different offsets, and all of these are below MAX, so MAX can stand for an absent reference; a location somewhere has a function below MAX.
use mathlib.Core.Path.{◌≡◌, refl, ap}
use mathlib.Core.Option.{Option, none, some}
use mathlib.Core.Logic.{◌⊎◌, inl, inr}
use mathlib.Core.List.{List, [], ◌∷◌}
use Prim.Native.Nat.{ℕ, zero, suc, ◌+◌, ◌≤◌, ◌<◌}
use native.Mathlib.Omega.{arith}
use lib.ListN.{length}
use Rattle.slices.proofs.Cases.{lt-or_ge}
use Rattle.model.specs.Basics.{Entry}
use Rattle.model.specs.Rows.{MAX, Text}
use Rattle.model.specs.Converter.{File, Function, Location, nowhere, at, Tables}
use Rattle.model.specs.Counts.{text_size, text_bytes, text_offset}
use Rattle.model.specs.FileWords.{index_word, text_word, file_words, function_words, location_words}
use Rattle.model.proofs.Intern.{Grows}
use Rattle.model.proofs.Chains.{six_path, Larger}
use Rattle.model.proofs.Always.{Within, InTables}
use Rattle.model.proofs.FileRows.{FileIn, offset-within}
use Rattle.raw.specs.Rows.{no_source_location}
use Rattle.raw.specs.declared.SourceLocation.{SourceLocation}
use Rattle.tables.specs.Table.{row_of}
use Rattle.tables.specs.Ranges.{range_row_lem, location_of_lem}
use Rattle.tables.specs.declared.Row.{Row}
use Rattle.steps.specs.Steps.{location_row_lem}

-- ── The rows: a file's words, with zeros up to six ──

abbrev pub file_row : List Text → File → Row
file_row ts x = row_of (file_words ts x)

abbrev pub function_row : List Text → Function → Row
function_row ts f = row_of (function_words ts f)

abbrev pub call_row : Location → Row
call_row l = row_of (location_words l)

-- a start, then its location
abbrev pub range_row : Entry Location → Row
range_row e = row_of (e.key ∷ location_words e.value)

-- a location by value
abbrev pub source : Location → SourceLocation
source nowhere = no_source_location
source (at f n i c) = record { file_idx = index_word f; line = n; function_idx = i; inlined_into_idx = index_word c }

pub call_row-is : (l : Location) → location_row_lem (source l) ≡ call_row l
call_row-is nowhere = refl
call_row-is (at f n i c) = refl

pub range_row-is : (k : ℕ) (l : Location) → range_row_lem k (source l) ≡ range_row (record { key = k; value = l })
range_row-is k nowhere = refl
range_row-is k (at f n i c) = refl

pub range_row-location : (e : Entry Location) → location_of_lem (range_row e) ≡ source e.value
range_row-location e = go e.value
  where
    go : (l : Location) → location_of_lem (range_row (record { key = e.key; value = l })) ≡ source l
    go nowhere = refl
    go (at f n i c) = refl

-- ── References keep their words as tables grow ──

pub grows_length : {A : Type 0} (xs ys : List A) → Grows xs ys → length xs ≤ length ys
grows_length [] ys g = omega arith
grows_length (x ∷ xs) [] g = absurd (g 0 x refl)
grows_length (x ∷ xs) (y ∷ ys) g = let h : length xs ≤ length ys = grows_length xs ys (λ i a h. g (suc i) a h) in omega arith

pub grows_bytes : (ts us : List Text) → Grows ts us → text_bytes ts ≤ text_bytes us
grows_bytes [] us g = omega arith
grows_bytes (t ∷ ts) [] g = absurd (g 0 t refl)
grows_bytes (t ∷ ts) (u ∷ us) g =
    let h : text_bytes ts ≤ text_bytes us = grows_bytes ts us (λ i a h. g (suc i) a h) in
    let e : text_size u ≡ text_size t = ap text_size (g 0 t refl) in
    omega arith

pub grows_offset : (ts us : List Text) → Grows ts us → (i : ℕ) → i ≤ length ts → text_offset us i ≡ text_offset ts i
grows_offset ts us g zero h = refl
grows_offset [] us g (suc i) h = absurd (omega arith)
grows_offset (t ∷ ts) [] g (suc i) h = absurd (g 0 t refl)
grows_offset (t ∷ ts) (u ∷ us) g (suc i) h =
    let e : text_size u ≡ text_size t = ap text_size (g 0 t refl) in
    let k : text_offset us i ≡ text_offset ts i = grows_offset ts us (λ j a h. g (suc j) a h) i (omega arith) in
    omega arith

pub within-later : (r : Option ℕ) (m n : ℕ) → m ≤ n → Within r m → Within r n
within-later none m n h k = tt
within-later (some i) m n h k = omega arith

pub text_word-later : (ts us : List Text) → Grows ts us → (r : Option ℕ) → Within r (length ts) → text_word us r ≡ text_word ts r
text_word-later ts us g none h = refl
text_word-later ts us g (some i) h = grows_offset ts us g i (omega arith)

pub in_later : {s t : Tables} → Larger s t → (l : Location) → InTables s l → InTables t l
in_later b nowhere h = tt
in_later {s} {t} b (at f n i c) h = (
  omega (arith, h.0, grows_length s.functions t.functions b.functions),
  within-later f _ _ (grows_length s.files t.files b.files) h.1,
  within-later c _ _ (grows_length s.calls t.calls b.calls) h.2,
)

-- a file's references, and its words
pub file_in_later : (ts us : List Text) → Grows ts us → (x : File) → FileIn (length ts) x → FileIn (length us) x
file_in_later ts us g x h =
    let n : length ts ≤ length us = grows_length ts us g in
    record {
      name = within-later x.name _ _ n h.name;
      directory = within-later x.directory _ _ n h.directory;
      comp_dir = within-later x.comp_dir _ _ n h.comp_dir;
      srcsrv_name = within-later x.srcsrv_name _ _ n h.srcsrv_name;
      srcsrv_dir = within-later x.srcsrv_dir _ _ n h.srcsrv_dir;
      revision = within-later x.revision _ _ n h.revision;
    }

pub row_path : (x y : Row) → x.a ≡ y.a → x.b ≡ y.b → x.c ≡ y.c → x.d ≡ y.d → x.e ≡ y.e → x.f ≡ y.f → x ≡ y
row_path x y a b c d e f = λ i. record { a = a i; b = b i; c = c i; d = d i; e = e i; f = f i }

pub file_row-later : (ts us : List Text) → Grows ts us → (x : File) → FileIn (length ts) x → file_row us x ≡ file_row ts x
file_row-later ts us g x h =
    row_path _ _ (text_word-later ts us g x.comp_dir h.comp_dir) (text_word-later ts us g x.directory h.directory) (text_word-later ts us g x.name h.name)
    (text_word-later ts us g x.srcsrv_name h.srcsrv_name) (text_word-later ts us g x.srcsrv_dir h.srcsrv_dir) (text_word-later ts us g x.revision h.revision)

pub function_row-later : (ts us : List Text) → Grows ts us → (f : Function) → Within f.name (length ts) → function_row us f ≡ function_row ts f
function_row-later ts us g f h = row_path _ _ (text_word-later ts us g f.name h) refl refl refl refl refl

-- ── Equal words, equal rows ──

offset-less : (ts : List Text) (i j : ℕ) → i < j → j ≤ length ts → text_offset ts i < text_offset ts j
offset-less [] i j h k = absurd (omega arith)
offset-less (t ∷ ts) i zero h k = absurd (omega arith)
offset-less (t ∷ ts) zero (suc j) h k = let p : 0 < text_size t + 0 = offset-within (t ∷ []) 0 (omega arith) in omega arith
offset-less (t ∷ ts) (suc i) (suc j) h k = let r : text_offset ts i < text_offset ts j = offset-less ts i j (omega arith) (omega arith) in omega arith

pub text_word-one : (ts : List Text) (r q : Option ℕ) → text_bytes ts ≤ 268435456 → Within r (length ts) → Within q (length ts) → text_word ts r ≡ text_word ts q → r ≡ q
text_word-one ts none none b h k e = refl
text_word-one ts none (some j) b h k e = let p : text_offset ts j < text_bytes ts = offset-within ts j k in absurd (omega arith)
text_word-one ts (some i) none b h k e = let p : text_offset ts i < text_bytes ts = offset-within ts i h in absurd (omega arith)
text_word-one ts (some i) (some j) b h k e = go (lt-or_ge i j) (lt-or_ge j i)
  where
    go : (i < j) ⊎ (j ≤ i) → (j < i) ⊎ (i ≤ j) → some i ≡ some j
    go (inl p) q = let z : text_offset ts i < text_offset ts j = offset-less ts i j p (omega arith) in absurd (omega arith)
    go (inr p) (inl q) = let z : text_offset ts j < text_offset ts i = offset-less ts j i q (omega arith) in absurd (omega arith)
    go (inr p) (inr q) = let z : i ≡ j = omega arith in ap some z

index-word-one : (n : ℕ) (r q : Option ℕ) → n ≤ 16777216 → Within r n → Within q n → index_word r ≡ index_word q → r ≡ q
index-word-one n none none b h k e = refl
index-word-one n none (some j) b h k e = absurd (omega arith)
index-word-one n (some i) none b h k e = absurd (omega arith)
index-word-one n (some i) (some j) b h k e = ap some e

pub file_row-one : (ts : List Text) → text_bytes ts ≤ 268435456 → (x y : File) → FileIn (length ts) x → FileIn (length ts) y → file_row ts x ≡ file_row ts y → x ≡ y
file_row-one ts b x y h k e =
    six_path x y (text_word-one ts x.name y.name b h.name k.name (ap (λ (r : Row). r.c) e))
    (text_word-one ts x.directory y.directory b h.directory k.directory (ap (λ (r : Row). r.b) e))
    (text_word-one ts x.comp_dir y.comp_dir b h.comp_dir k.comp_dir (ap (λ (r : Row). r.a) e))
    (text_word-one ts x.srcsrv_name y.srcsrv_name b h.srcsrv_name k.srcsrv_name (ap (λ (r : Row). r.d) e))
    (text_word-one ts x.srcsrv_dir y.srcsrv_dir b h.srcsrv_dir k.srcsrv_dir (ap (λ (r : Row). r.e) e))
    (text_word-one ts x.revision y.revision b h.revision k.revision (ap (λ (r : Row). r.f) e))

pub function_row-one : (ts : List Text) → text_bytes ts ≤ 268435456 → (x y : Function) → Within x.name (length ts) → Within y.name (length ts) → function_row ts x ≡ function_row ts y → x ≡ y
function_row-one ts b x y h k e =
    let p : x.name ≡ y.name = text_word-one ts x.name y.name b h k (ap (λ (r : Row). r.a) e) in
    let q : x.entry ≡ y.entry = ap (λ (r : Row). r.c) e in
    let l : x.language ≡ y.language = ap (λ (r : Row). r.d) e in
    λ i. record { name = p i; entry = q i; language = l i }

-- the tables that locations refer to are small
pub record Few (s : Tables) : Type 0 where
  pub bytes : text_bytes s.texts ≤ 268435456
  pub files : length s.files ≤ 16777216
  pub functions : length s.functions ≤ 16777216
  pub calls : length s.calls ≤ 16777216

pub call_row-one : (s : Tables) → Few s → (x y : Location) → InTables s x → InTables s y → call_row x ≡ call_row y → x ≡ y
call_row-one s w nowhere nowhere h k e = refl
call_row-one s w nowhere (at g o j d) h k e = let z : MAX ≡ j = ap (λ (r : Row). r.c) e in absurd (omega (arith, w.functions, k.0))
call_row-one s w (at f n i c) nowhere h k e = let z : i ≡ MAX = ap (λ (r : Row). r.c) e in absurd (omega (arith, w.functions, h.0))
call_row-one s w (at f n i c) (at g o j d) h k e =
    let p : f ≡ g = index-word-one (length s.files) f g w.files h.1 k.1 (ap (λ (r : Row). r.a) e) in
    let q : n ≡ o = ap (λ (r : Row). r.b) e in
    let z : i ≡ j = ap (λ (r : Row). r.c) e in
    let t : c ≡ d = index-word-one (length s.calls) c d w.calls h.2 k.2 (ap (λ (r : Row). r.d) e) in
    cc
