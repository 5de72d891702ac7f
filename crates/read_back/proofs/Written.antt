-- EVERY WRITTEN FILE, EVERY ADDRESS: what the reader shows is what the plain tables say. So demand 3 holds of the bytes.
use Prim.Native.Nat.{ℕ, suc, ◌^◌, ◌≤◌, ◌<◌}
use mathlib.Core.Path.{◌≡◌, refl, sym, ap, ◌∙◌, subst}
use mathlib.Core.Bool.{true}
use mathlib.Core.List.{List, [], ◌∷◌, ◌++◌, map, reverse}
use native.Mathlib.Omega.{arith}
use lib.ListN.{length, length-map}
use Rattle.slices.specs.Bytes.{Words32}
use Rattle.model.specs.Basics.{◌∈◌, Entry, Covers, items, depths, upto}
use Rattle.model.specs.Rows.{MAX, LineRow, FunctionRow, Given, tree_rows}
use Rattle.model.specs.Converter.{Setup, Location, nowhere, at, Tables, converted}
use Rattle.model.specs.Frames as plain
use Rattle.model.specs.Frames.{frames_at}
use Rattle.model.specs.Counts.{Capacities, Lent, plain_fits?}
use Rattle.model.specs.Premises.{reach, WellNested, AllSeparate, nested_at}
use Rattle.model.specs.Written.{as_written, locations}
use Rattle.model.specs.FileWords.{file_words, function_words, location_words, sections}
use Rattle.model.proofs.Intern.{At}
use Rattle.model.proofs.Compact.{GivenFits}
use Rattle.model.proofs.Demand.{demand-root}
use Rattle.model.proofs.Always.{frames-short}
use Rattle.model.proofs.FileRows as file-rows
use Rattle.model.proofs.FileRows.{InFile, written_in_file, file-low, function-low, location-low, locations-count, starts-count, starts_ascend, section-length}
use Rattle.model.proofs.Sections.{lookup_words, words-looked_up}
use Rattle.symcache.specs.Answers.{gives}
use Rattle.symcache.specs.Reader.{layout_of, opened}
use Rattle.read_back.specs.Bytes.{sections_header, file_bytes, Rows, Readable}
use Rattle.read_back.specs.Shown.{shown, with_stand_in, Found}
use Rattle.read_back.proofs.FileRead.{opened-file}
use Rattle.read_back.proofs.Walks.{found-words}

-- ── The words of tables have a file ──

rows_of : {A : Type 0} (n : ℕ) (f : A → List ℕ) (xs : List A) → ((i : ℕ) (x : A) → At xs i x → (length (f x) ≡ n) × Words32 (f x)) → Rows n (map f xs)
rows_of n f [] h = tt
rows_of n f (x ∷ xs) h = (h 0 x refl, rows_of n f xs (λ i y g. h (suc i) y g))

four : (l : Location) → file-rows.Words (location_words l) → (length (location_words l) ≡ 4) × Words32 (location_words l)
four nowhere h = (refl, h)
four (at f n i c) h = (refl, h)

keys-low : (t : List (Entry Location)) → ((i : ℕ) (e : Entry Location) → At t i e → e.key ≤ MAX) → Words32 (map (λ (e : Entry Location). e.key) t)
keys-low [] h = tt
keys-low (e ∷ t) h = (omega (arith, h 0 e refl), keys-low t (λ i d g. h (suc i) d g))

pub sections-readable : (id : List ℕ) (a : ℕ) (s : Tables) → InFile s → length id ≡ 32 → a < 2 ^ 32 → Readable id a (sections s)
sections-readable id a s w size small =
    let f : length (sections s).files ≡ length s.files = length-map s.files (file_words s.texts) in
    let g : length (sections s).functions ≡ length s.functions = length-map s.functions (function_words s.texts) in
    let l : length (sections s).locations ≡ length (locations s) = length-map (locations s) location_words in
    let m = locations-count s w in
    let n = starts-count s w in
    let t = section-length s.texts in
    record {
      id_size = size;
      numbers = (small, (omega (arith, w.few-files), (omega (arith, w.few-functions), (omega (arith, w.few-calls, w.few-ranges), (omega (arith, w.few-ranges), (omega (arith, w.few_bytes), tt))))));
      files = rows_of 6 (file_words s.texts) s.files (λ i x h. (refl, file-low s w i x h));
      functions = rows_of 4 (function_words s.texts) s.functions (λ i x h. (refl, function-low s w i x h));
      locations = rows_of 4 location_words (locations s) (λ i x h. four x (location-low s w i x h));
      starts = keys-low s.ranges w.start-low;
      ascending = starts_ascend 0 s.ranges w.ascending;
      fewer = omega arith;
    }

-- ── The files ──

-- tables that a file can have, at any address: with any stand-in, whatever follows the file
pub tables-shown : (id : List ℕ) (a : ℕ) (s : Tables) → InFile s → length id ≡ 32 → a < 2 ^ 32 → (rest d : List ℕ) (x : ℕ)
    → Found (file_bytes id a (sections s) ++ rest) d x (map (with_stand_in d) (lookup_words (sections s) x))
tables-shown id a s w size small rest d x = found-words id a (sections s) (sections-readable id a s w size small) rest d x

-- EVERY LIST of accepted calls that 14 leaves and that fits the lent tables; a debug id of 32 bytes, any architecture
module _ (X : Setup) (gs : List Given) (fitting : (g : Given) → g ∈ gs → GivenFits g) (K : Capacities) (lent : Lent K) (room : plain_fits? K (converted X gs) ≡ true)
    (id : List ℕ) (a : ℕ) (size : length id ≡ 32) (small : a < 2 ^ 32) (rest d : List ℕ) (x : ℕ) where
  -- its file's bytes, with anything after them
  abbrev pub file : List ℕ
  file = file_bytes id a (sections (as_written (converted X gs))) ++ rest

  -- EVERY ADDRESS shows the frames of the plain tables
  pub file-shows : Found file d x (map (with_stand_in d) (frames_at (converted X gs) x))
  file-shows =
      subst (λ (v : List plain.Frame). Found file d x (map (with_stand_in d) v)) (words-looked_up X gs fitting K lent room x)
      (tables-shown id a (as_written (converted X gs)) (written_in_file X gs fitting K lent room) size small rest d x)

  -- no call refuses it
  pub file-opened : opened file ≡ gives (layout_of (sections_header id a (sections (as_written (converted X gs)))))
  file-opened = opened-file id a _ (sections-readable id a (as_written (converted X gs)) (written_in_file X gs fitting K lent room) size small) rest

  -- K7: with no row deeper than D, `next` gives at most D + 1 frames, whether or not the trees are well nested
  pub file-short : (D : ℕ) → ((q : FunctionRow) (rs : List FunctionRow) → tree_rows q rs ∈ gs → (r : FunctionRow) → r ∈ rs → r.depth ≤ D) → length file-shows.frames ≤ suc D
  file-short D shallow =
      let f = file-shows in
      let e : length f.frames ≡ length (frames_at (converted X gs) x) = sym (length-map f.frames (shown file d)) ∙ (ap length f.shows ∙ length-map (frames_at (converted X gs) x) (with_stand_in d)) in
      rw e (frames-short X gs D shallow x)

  -- DEMAND 3 ON THE BYTES: where trees are well nested and calls are separate, an address covered by a line of an accepted tree's root shows exactly one frame for each row of that tree
  -- with a line covering it, the deepest first, and then the end
  pub file-demand : ((g : Given) → g ∈ gs → WellNested g) → AllSeparate gs → (q : FunctionRow) (rs : List FunctionRow) → tree_rows q rs ∈ gs
      → (n : LineRow) → n ∈ q.lines → Covers (reach n) x
      → let found = nested_at X x (q ∷ rs) in Found file d x (map (with_stand_in d) (reverse (items found))) × (depths found ≡ upto 0 (length found))
  file-demand well separate q rs i n j h =
      let e = demand-root X gs well separate q rs i x n j h in
      (subst (λ (v : List plain.Frame). Found file d x (map (with_stand_in d) v)) e.0 file-shows, e.1)
