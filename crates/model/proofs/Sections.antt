-- THE LOOKUP OVER WORDS: a reader that has the rows of a file as words, the starts, and the string section, finds what the tables say: for EVERY list that 14 leaves and that fits
-- lent tables, and EVERY address. What is left to a reader of bytes is to find these words.
use mathlib.Core.Path.{◌≡◌, refl, ap, ◌∙◌}
use mathlib.Core.Bool.{Bool, true, false, cond, ◌&&◌}
use mathlib.Core.Option.{Option, none, some}
use mathlib.Core.List.{List, [], ◌∷◌, map}
use Prim.Native.Nat.{ℕ, zero, suc, ◌+◌, ◌-◌, ◌≤◌}
use native.Mathlib.Omega.{arith}
use lib.ListN.{length, get_or, get_elem?, length-map}
use lib.Dec.{ltb, leb, eqb}
use borrow.Author.Tests.{ne_eqb}
use Rattle.model.specs.Basics.{◌∈◌, Entry}
use Rattle.model.specs.Rows.{MAX, Text, Given}
use Rattle.model.specs.Converter.{Setup, Six, File, Function, Location, nowhere, at, Tables, is_nowhere, converted}
use Rattle.model.specs.Frames.{Frame, read, read_six, file_at, function_at, frame_of, caller_of, frames_at}
use Rattle.model.specs.Counts.{Capacities, Lent, plain_fits?}
use Rattle.model.specs.Written.{as_written, locations, count, met?, follow, frames_from, looked_up}
use Rattle.model.specs.FileWords.{index_word, text_word, file_words, function_words, location_words, string_section, Sections, sections}
use Rattle.model.proofs.Intern.{At}
use Rattle.model.proofs.Chains.{six_path, frame_path}
use Rattle.model.proofs.Always.{Within, InTables}
use Rattle.model.proofs.Compact.{GivenFits}
use Rattle.model.proofs.Written.{written-looked_up}
use Rattle.model.proofs.FileRows.{FileIn, InFile, written_in_file, somewhere, locations-count, starts-count, text_at, text-found, outside}

-- ── What is read ──

abbrev pub word : ℕ → List ℕ → ℕ
word k r = get_or r k 0

-- `get_file`
abbrev pub shown-file : List ℕ → Option (List ℕ) → Option (Six (Option Text))
shown-file t none = none
shown-file t (some r) = some (record {
  name = text_at t (word 2 r);
  directory = text_at t (word 1 r);
  comp_dir = text_at t (word 0 r);
  srcsrv_name = text_at t (word 3 r);
  srcsrv_dir = text_at t (word 4 r);
  revision = text_at t (word 5 r);
})

abbrev pub file-read : Sections → ℕ → Option (Six (Option Text))
file-read z f = shown-file z.strings (get_elem? z.files f)

-- "A function outside the table has the stand-in, entry MAX and language MAX"
abbrev pub function-read : Sections → ℕ → List ℕ
function-read z i = get_or z.functions i (MAX ∷ MAX ∷ MAX ∷ MAX ∷ [])

-- the frame of a location
abbrev pub frame-read : Sections → List ℕ → Frame
frame-read z r = record {
  name = text_at z.strings (word 0 (function-read z (word 2 r)));
  entry = word 2 (function-read z (word 2 r));
  language = word 3 (function-read z (word 2 r));
  number = word 1 r;
  file = file-read z (word 0 r);
}

-- "The walk ends at MAX, outside the table, or at an index already met": MAX is outside
unfoldable pub follow-words : ℕ → Sections → List ℕ → ℕ → List Frame
follow-words zero z met w = []
follow-words (suc k) z met w =
    elim (met? w met) [
      | true ↦ []
      | false ↦ elim (get_elem? z.locations w) [ none ↦ [] | some r ↦ frame-read z r ∷ follow-words k z (w ∷ met) (word 3 r) ]
    ]

abbrev pub empty-row : List ℕ → Bool
empty-row r = eqb (word 0 r) MAX && eqb (word 1 r) MAX && eqb (word 2 r) MAX && eqb (word 3 r) MAX

-- "Only the first location is tested for the empty mapping"
unfoldable pub from-words : Sections → ℕ → List Frame
from-words z i = elim (get_elem? z.locations i) [ none ↦ [] | some r ↦ cond (empty-row r) [] (follow-words (suc (length z.locations)) z [] i) ]

-- how many of the ascending starts are at most x
unfoldable pub count-words : List ℕ → ℕ → ℕ
count-words [] x = 0
count-words (k ∷ ks) x = elim (leb k x) [ true ↦ suc (count-words ks x) | false ↦ 0 ]

unfoldable pub lookup_words : Sections → ℕ → List Frame
lookup_words z x = elim (ltb MAX x) [ true ↦ [] | false ↦ elim (count-words z.starts x) [ zero ↦ [] | suc i ↦ from-words z (length z.locations - length z.starts + i) ] ]

-- ── It is what the tables say ──

abbrev mapped : {A B : Type 0} → (A → B) → Option A → Option B
mapped f none = none
mapped f (some a) = some (f a)

elem_map : {A B : Type 0} (f : A → B) (xs : List A) (i : ℕ) → get_elem? (map f xs) i ≡ mapped f (get_elem? xs i)
elem_map f [] i = refl
elem_map f (x ∷ xs) zero = refl
elem_map f (x ∷ xs) (suc i) = elem_map f xs i

get_d_map : {A B : Type 0} (f : A → B) (xs : List A) (i : ℕ) (d : A) → get_or (map f xs) i (f d) ≡ f (get_or xs i d)
get_d_map f [] i d = refl
get_d_map f (x ∷ xs) zero d = refl
get_d_map f (x ∷ xs) (suc i) d = get_d_map f xs i d

elem_at : {A : Type 0} (xs : List A) (i : ℕ) (a : A) → get_elem? xs i ≡ some a → At xs i a
elem_at [] i a h = let bad : ◌≡◌ {A = ℕ} 0 1 = cc in absurd (omega arith)
elem_at (x ∷ xs) zero a h = cc
elem_at (x ∷ xs) (suc i) a h = elem_at xs i a h

-- a function that isn't there has no name
name-within : (s : Tables) → InFile s → (i : ℕ) → Within (function_at s i).name (length s.texts)
name-within s w i = go s.functions (λ j f h. (w.function_in j f h).name) i
  where
    go : (fs : List Function) → ((j : ℕ) (f : Function) → At fs j f → Within f.name (length s.texts)) → (j : ℕ) → Within (get_or fs j (record { name = none; entry = MAX; language = MAX })).name (length s.texts)
    go [] h j = tt
    go (f ∷ fs) h zero = h 0 f refl
    go (f ∷ fs) h (suc j) = go fs (λ k g a. h (suc k) g a) j

module _ (s : Tables) (w : InFile s) where
  abbrev z : Sections
  z = sections s

  found : (r : Option ℕ) → Within r (length s.texts) → text_at (string_section s.texts) (text_word s.texts r) ≡ read s.texts r
  found r h = text-found s.texts r w.texts_are w.few_bytes h

  function-is : (i : ℕ) → function-read z i ≡ function_words s.texts (function_at s i)
  function-is i = get_d_map (function_words s.texts) s.functions i (record { name = none; entry = MAX; language = MAX })

  file-is : (f : Option ℕ) → file-read z (index_word f) ≡ file_at s f
  file-is none = ap (shown-file z.strings) (elem_map (file_words s.texts) s.files MAX ∙ ap (mapped (file_words s.texts)) (outside s.files MAX (omega (arith, w.few-files))))
  file-is (some i) = ap (shown-file z.strings) (elem_map (file_words s.texts) s.files i) ∙ go (get_elem? s.files i) refl
    where
      go : (o : Option File) → get_elem? s.files i ≡ o → shown-file z.strings (mapped (file_words s.texts) o) ≡ elim o [ none ↦ none | some x ↦ some (read_six s.texts x) ]
      go none e = refl
      go (some x) e =
          let h : FileIn (length s.texts) x = w.file_in i x (elem_at s.files i x e) in
          ap some
          (six_path _ (read_six s.texts x) (found x.name h.name) (found x.directory h.directory) (found x.comp_dir h.comp_dir) (found x.srcsrv_name h.srcsrv_name) (found x.srcsrv_dir h.srcsrv_dir)
          (found x.revision h.revision))

  -- the frame that a location's words show, with file f, line number n and function i
  shown : (f : Option ℕ) (n i : ℕ) (c : ℕ) → frame-read z (index_word f ∷ n ∷ i ∷ c ∷ []) ≡ record { name = read s.texts (function_at s i).name; entry = (function_at s i).entry; language = (function_at s i).language; number = n; file = file_at s f }
  shown f n i c =
      frame_path _ _
      (ap (λ (r : List ℕ). text_at z.strings (word 0 r)) (function-is i) ∙ found (function_at s i).name (name-within s w i))
      (ap (word 2) (function-is i))
      (ap (word 3) (function-is i))
      refl
      (file-is f)

  absent-function : function_at s MAX ≡ record { name = none; entry = MAX; language = MAX }
  absent-function = go s.functions MAX (omega (arith, w.few-functions))
    where
      go : (fs : List Function) (i : ℕ) → length fs ≤ i → get_or fs i (record { name = none; entry = MAX; language = MAX }) ≡ record { name = none; entry = MAX; language = MAX }
      go [] i h = refl
      go (f ∷ fs) zero h = absurd (omega arith)
      go (f ∷ fs) (suc i) h = go fs i (omega arith)

  -- THE FRAME OF A LOCATION
  pub frame_is : (l : Location) → frame-read z (location_words l) ≡ frame_of s l
  frame_is nowhere = shown none MAX MAX MAX ∙ ap (λ (f : Function). record { name = read s.texts f.name; entry = f.entry; language = f.language; number = MAX; file = none }) absent-function
  frame_is (at f n i c) = shown f n i (index_word c)

  caller-is : (l : Location) → word 3 (location_words l) ≡ index_word (caller_of l)
  caller-is nowhere = refl
  caller-is (at f n i c) = refl

  -- the four words are four times MAX for the empty mapping alone
  pub empty-is : (l : Location) → InTables s l → empty-row (location_words l) ≡ is_nowhere l
  empty-is nowhere h = refl
  empty-is (at f n i c) h = rw (ne_eqb i MAX (omega (arith, somewhere s w f n i c h))) (go (eqb (index_word f) MAX && eqb n MAX) (eqb (index_word c) MAX))
    where
      go : (a b : Bool) → (a && false && b) ≡ false
      go true b = refl
      go false b = refl

  follow-is : (k : ℕ) (met : List ℕ) (c : Option ℕ) → follow-words k z met (index_word c) ≡ follow k s met c
  unfolding follow-words follow
  follow-is zero met c = refl
  follow-is (suc k) met none = go (met? MAX met) (get_elem? z.locations MAX) (elem_map location_words (locations s) MAX ∙ ap (mapped location_words) (outside (locations s) MAX (omega (arith, locations-count s w, w.few-calls, w.few-ranges))))
    where
      go : (b : Bool) (o : Option (List ℕ)) → o ≡ none → ◌≡◌ {A = List Frame} (elim b [ true ↦ [] | false ↦ elim o [ none ↦ [] | some r ↦ frame-read z r ∷ follow-words k z (MAX ∷ met) (word 3 r) ] ]) []
      go true o e = refl
      go false none e = refl
      go false (some r) e = let bad : ◌≡◌ {A = ℕ} 0 1 = cc in absurd (omega arith)
  follow-is (suc k) met (some i) =
      ap (λ (o : Option (List ℕ)). elim (met? i met) [ true ↦ [] | false ↦ elim o [ none ↦ [] | some r ↦ frame-read z r ∷ follow-words k z (i ∷ met) (word 3 r) ] ]) (elem_map location_words (locations s) i)
      ∙ go (met? i met) (get_elem? (locations s) i) (λ c. follow-is k (i ∷ met) c)
    where
      go : (b : Bool) (o : Option Location) → ((c : Option ℕ) → follow-words k z (i ∷ met) (index_word c) ≡ follow k s (i ∷ met) c)
          → ◌≡◌ {A = List Frame} (elim b [ true ↦ [] | false ↦ elim (mapped location_words o) [ none ↦ [] | some r ↦ frame-read z r ∷ follow-words k z (i ∷ met) (word 3 r) ] ])
          (elim b [ true ↦ [] | false ↦ elim o [ none ↦ [] | some l ↦ frame_of s l ∷ follow k s (i ∷ met) (caller_of l) ] ])
      go true o ih = refl
      go false none ih = refl
      go false (some l) ih =
          ap (λ (f : Frame). f ∷ follow-words k z (i ∷ met) (word 3 (location_words l))) (frame_is l)
          ∙ ap (λ (v : List Frame). frame_of s l ∷ v) (ap (follow-words k z (i ∷ met)) (caller-is l) ∙ ih (caller_of l))

  from_is : (i : ℕ) → from-words z i ≡ frames_from s i
  unfolding from-words frames_from
  from_is i =
      ap (λ (o : Option (List ℕ)). elim o [ none ↦ [] | some r ↦ cond (empty-row r) [] (follow-words (suc (length z.locations)) z [] i) ]) (elem_map location_words (locations s) i) ∙ go (get_elem? (locations s) i) refl
    where
      go : (o : Option Location) → get_elem? (locations s) i ≡ o
          → ◌≡◌ {A = List Frame} (elim (mapped location_words o) [ none ↦ [] | some r ↦ cond (empty-row r) [] (follow-words (suc (length z.locations)) z [] i) ])
          (elim o [ none ↦ [] | some l ↦ cond (is_nowhere l) [] (follow (suc (length (locations s))) s [] (some i)) ])
      go none e = refl
      go (some l) e =
          ap (λ (b : Bool). cond b [] (follow-words (suc (length z.locations)) z [] i)) (empty-is l (w.location_in i l (elem_at (locations s) i l e)).0)
          ∙ ap (λ (v : List Frame). cond (is_nowhere l) [] v) (ap (λ (n : ℕ). follow-words (suc n) z [] i) (length-map (locations s) location_words) ∙ follow-is (suc (length (locations s))) [] (some i))

  -- THE LOOKUP
  pub lookup_is : (x : ℕ) → lookup_words z x ≡ looked_up s x
  unfolding lookup_words looked_up count-words count
  lookup_is x =
      ap (λ (n : ℕ). elim (ltb MAX x) [ true ↦ [] | false ↦ elim n [ zero ↦ [] | suc i ↦ from-words z (length z.locations - length z.starts + i) ] ]) (count-is s.ranges) ∙ go (ltb MAX x) (count s.ranges x)
    where
      count-is : (t : List (Entry Location)) → count-words (map (λ (e : Entry Location). e.key) t) x ≡ count t x
      count-is [] = refl
      count-is (e ∷ t) = ap (λ (n : ℕ). elim (leb e.key x) [ true ↦ suc n | false ↦ 0 ]) (count-is t)

      first : (i : ℕ) → length z.locations - length z.starts + i ≡ length s.calls + i
      first i = let a : length z.locations ≡ length (locations s) = length-map (locations s) location_words in omega (arith, locations-count s w, starts-count s w)

      go : (b : Bool) (n : ℕ) → ◌≡◌ {A = List Frame} (elim b [ true ↦ [] | false ↦ elim n [ zero ↦ [] | suc i ↦ from-words z (length z.locations - length z.starts + i) ] ])
          (elim b [ true ↦ [] | false ↦ elim n [ zero ↦ [] | suc i ↦ frames_from s (length s.calls + i) ] ])
      go true n = refl
      go false zero = refl
      go false (suc i) = ap (from-words z) (first i) ∙ from_is (length s.calls + i)

-- EVERY LIST that 14 leaves and that fits, EVERY ADDRESS: the words of the file give the plain tables' frames
pub words-looked_up : (X : Setup) (gs : List Given) → ((g : Given) → g ∈ gs → GivenFits g) → (K : Capacities) → Lent K → plain_fits? K (converted X gs) ≡ true → (x : ℕ) → lookup_words (sections (as_written (converted X gs))) x ≡ frames_at (converted X gs) x
words-looked_up X gs fitting K lent room x = lookup_is (as_written (converted X gs)) (written_in_file X gs fitting K lent room) x ∙ written-looked_up X gs x
