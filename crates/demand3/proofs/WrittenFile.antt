-- WHAT IS WRITTEN IS THE PLAIN FILE: where words hold the plain tables of a list, the bytes that `serialize` writes are the sections of these tables, with the ranges ascending by start.
-- Section by section: a row of words is the file's row. The ranges: sorting entries (start, row number) is putting what they stand for in order of start, since no start stands twice.
use mathlib.Core.Path.{◌≡◌, refl, sym, ap, ap₂, ◌∙◌, subst}
use mathlib.Core.Bool.{Bool, true, false, ◌&&◌}
use mathlib.Core.Option.{none}
use mathlib.Core.Logic.{⊎_elim}
use mathlib.Core.List.{List, [], ◌∷◌, ◌++◌, map, append_assoc, append-nil}
use Prim.Native.Nat.{ℕ, suc, ◌+◌, ◌*◌, ◌<◌}
use native.Mathlib.Nat.{zero-add, add-zero, add-suc, suc-add}
use native.Mathlib.Omega.{arith}
use lib.Dec.{ltb, eqb}
use lib.ListN.{length, get_or, take, length-map, length-append, get_or-map}
use borrow.Author.Tests.{eqb-true, eqb-false}
use Rattle.slices.proofs.Cases.{none-some, both_of}
use Rattle.text.specs.Leb128.{encoded}
use Rattle.model.specs.Basics.{◌∈◌, here, there, Span, Entry, before, place, sort}
use Rattle.model.specs.Rows.{Text, Given}
use Rattle.model.specs.Converter.{Setup, File, Function, Location, nowhere, at, Tables, range_at, converted}
use Rattle.model.specs.Written.{place_range, by_start, as_written, locations}
use Rattle.model.specs.FileWords.{file_words, function_words, location_words, starts, string_section, Sections, sections}
use Rattle.model.proofs.Chains.{range_here, range_there, Unique}
use Rattle.model.proofs.Always.{starts-unique}
use Rattle.model.proofs.Spans.{∈-cases, sort-∈}
use Rattle.model.proofs.Written.{by_start-same, by_start-length}
use Rattle.model.proofs.FileRows.{section-length}
use Rattle.slices.specs.Bytes.{le, word_bytes, table_bytes}
use Rattle.raw.specs.Rows.{version_info_bytes, header_bytes, file_bytes_lem, function_bytes, location_bytes, range_bytes}
use Rattle.raw.specs.Head.{version_info, header, padding}
use Rattle.tables.specs.Table.{row_at, rows_of}
use Rattle.tables.specs.Ranges.{location_of_lem}
use Rattle.strings.specs.Strings.{stored_text}
use Rattle.table_laws.specs.Plain.{Holds}
use Rattle.table_laws.specs.PlainTexts.{section}
use Rattle.tables.specs.declared.Row.{Row}
use Rattle.table_laws.proofs.Rows.{rows_get_d, rows-length}
use Rattle.memory.specs.Memory.{Memory}
use Rattle.memory.specs.Record.{fits?, usable_in}
use Rattle.memory.specs.declared.Converter.{Converter}
use Rattle.steps.proofs.Lengths.{Lens}
use Rattle.serialize.specs.Sections.{file_row, function_row, call_row, entries, in_order, location_row, start_row}
use Rattle.serialize.specs.File.{ranges_of, header_of, written_file, write_answer, serialize_of}
use Rattle.serialize.proofs.Rows.{table-append}
use Rattle.read_back.specs.Bytes.{file_bytes}
use Rattle.read_back.specs.Bytes as reads
use Rattle.memory.specs.Record.{words_of_lem}
use Rattle.demand3.proofs.WordRows.{range_row, source, range_row-location}
use Rattle.demand3.proofs.WordRows as rows
use Rattle.demand3.proofs.Encoding.{Enc, has_room, enc-room, count-bytes, count-files, count-functions, count-calls}

-- ── Tables of rows ──

table_of : {A B : Type 0} (bytes : B → List ℕ) (f : A → B) (xs : List A) → table_bytes bytes (map f xs) ≡ table_bytes (λ (x : A). bytes (f x)) xs
unfolding table_bytes
table_of bytes f [] = refl
table_of bytes f (x ∷ xs) = ap (λ (l : List ℕ). bytes (f x) ++ l) (table_of bytes f xs)

table_same : {A : Type 0} (p q : A → List ℕ) → ((x : A) → p x ≡ q x) → (xs : List A) → table_bytes p xs ≡ table_bytes q xs
unfolding table_bytes
table_same p q h [] = refl
table_same p q h (x ∷ xs) = ap₂ (λ (a b : List ℕ). a ++ b) (h x) (table_same p q h xs)

-- the same, where it holds of the rows that are there
table-same_in : {A : Type 0} (p q : A → List ℕ) (xs : List A) → ((x : A) → x ∈ xs → p x ≡ q x) → table_bytes p xs ≡ table_bytes q xs
unfolding table_bytes
table-same_in p q [] h = refl
table-same_in p q (x ∷ xs) h = ap₂ (λ (a b : List ℕ). a ++ b) (h x here) (table-same_in p q xs (λ y i. h y (there i)))

-- a table that holds rows f x, where the file's bytes of such a row are the words g x
section-is : {A : Type 0} (bytes : Row → List ℕ) (f : A → Row) (g : A → List ℕ) → ((x : A) → bytes (f x) ≡ word_bytes (g x)) → (w : ℕ) (t : List ℕ) (n : ℕ) (xs : List A) → Holds w t n (map f xs)
    → table_bytes bytes (rows_of t n) ≡ table_bytes word_bytes (map g xs)
section-is {A} bytes f g e w t n xs h =
    ap (table_bytes bytes) h.same ∙ table_of bytes f xs ∙ table_same (λ (x : A). bytes (f x)) (λ (x : A). word_bytes (g x)) e xs ∙ sym (table_of word_bytes g xs)

file-is : (ts : List Text) (x : File) → file_row (rows.file_row ts x) ≡ word_bytes (file_words ts x)
unfolding file_row file_bytes_lem
file-is ts x = refl

function-is : (ts : List Text) (f : Function) → function_row (rows.function_row ts f) ≡ word_bytes (function_words ts f)
unfolding function_row function_bytes
function-is ts f = refl

call-is : (l : Location) → call_row (rows.call_row l) ≡ word_bytes (location_words l)
unfolding call_row location_bytes
call-is nowhere = refl
call-is (at f n i c) = refl

source_is : (l : Location) → location_bytes (source l) ≡ word_bytes (location_words l)
unfolding location_bytes
source_is nowhere = refl
source_is (at f n i c) = refl

-- the texts
strings-is : (ts : List Text) → section ts ≡ string_section ts
unfolding stored_text string_section
strings-is [] = refl
strings-is (t ∷ ts) = append_assoc (encoded (length t)) t (section ts) ∙ ap (λ (l : List ℕ). encoded (length t) ++ (t ++ l)) (strings-is ts)

-- ── Sorting entries is putting what they stand for in order of start ──

module _ {L : Type 0} (value-at : ℕ → L) where
  -- what an entry stands for, where a row number has a value
  abbrev meant : Span → Entry L
  meant p = record { key = p.from; value = value-at p.to }

  place_is : (p : Span) (ps : List Span) → range_at (map meant ps) p.from ≡ none → map meant (place p ps) ≡ place_range p.from (value-at p.to) (map meant ps)
  unfolding place place_range before
  place_is p [] h = refl
  place_is p (q ∷ ps) h = go (ltb p.from q.from) refl (eqb p.from q.from) refl (λ k. place_is p ps k)
    where
      go : (b : Bool) → ltb p.from q.from ≡ b → (c : Bool) → eqb p.from q.from ≡ c
          → (range_at (map meant ps) p.from ≡ none → map meant (place p ps) ≡ place_range p.from (value-at p.to) (map meant ps))
          → map meant (place p (q ∷ ps)) ≡ place_range p.from (value-at p.to) (map meant (q ∷ ps))
      go true e c f ih = rw e
      go false e true f ih = none-some (sym h ∙ range_here (meant q) (map meant ps) p.from (eqb-true _ _ f))
      go false e false f ih = rw (e, f) (ap (λ (l : List (Entry L)). meant q ∷ l) (ih (sym (range_there (meant q) (map meant ps) p.from (eqb-false _ _ f)) ∙ h)))

  pub sort-is : (ps : List Span) → Unique (map meant ps) → map meant (sort ps) ≡ by_start (map meant ps)
  unfolding sort by_start
  sort-is [] u = refl
  sort-is (p ∷ ps) u =
      let ih : map meant (sort ps) ≡ by_start (map meant ps) = sort-is ps u.1 in
      place_is p (sort ps) (ap (λ (l : List (Entry L)). range_at l p.from) ih ∙ by_start-same (map meant ps) p.from ∙ u.0)
      ∙ ap (place_range p.from (value-at p.to)) ih

-- ── The entries of the ranges ──

abbrev no_entry : Entry Location
no_entry = record { key = 0; value = nowhere }

-- the location of a row number
abbrev pub location-at : List (Entry Location) → ℕ → Location
location-at rs i = (get_or rs i no_entry).value

entries_are : (at_row : ℕ → Location) (k : ℕ) (rs : List (Entry Location)) → ((i : ℕ) → at_row (k + i) ≡ location-at rs i) → map (meant at_row) (entries k (map range_row rs)) ≡ rs
unfolding entries
entries_are at_row k [] h = refl
entries_are at_row k (e ∷ rs) h =
    let first : at_row k ≡ e.value = ap at_row (sym (add-zero k)) ∙ h 0 in
    ap₂ (λ (l : Location) (r : List (Entry Location)). record { key = e.key; value = l } ∷ r) first
    (entries_are at_row (suc k) rs (λ i. ap at_row (suc-add k i ∙ sym (add-suc k i)) ∙ h (suc i)))

-- an entry's number is that of a row
entry-low : (k : ℕ) (rs : List Row) (p : Span) → p ∈ entries k rs → p.to < k + length rs
unfolding entries
entry-low k [] p i = elim i [ ]
entry-low k (r ∷ rs) p i =
    ⊎_elim (λ e. let z : p.to ≡ k = ap (λ (q : Span). q.to) e in omega arith) (λ j. let h : p.to < suc k + length rs = entry-low (suc k) rs p j in omega arith) (∈-cases i)

in_order_low : (t : List ℕ) (n : ℕ) (p : Span) → p ∈ in_order t n → p.to < n
unfolding in_order
in_order_low t n p i = let h : p.to < 0 + length (rows_of t n) = entry-low 0 (rows_of t n) p (sort-∈ (entries 0 (rows_of t n)) i) in omega (arith, rows-length t 0 n)

-- what an entry of the ranges rs stands for
abbrev pub stands_for : List (Entry Location) → Span → Entry Location
stands_for rs = meant (location-at rs)

-- the starts as bytes
starts_are : (rs : List (Entry Location)) → table_bytes (λ (e : Entry Location). word_bytes (e.key ∷ [])) rs ≡ word_bytes (map (λ (e : Entry Location). e.key) rs)
unfolding table_bytes word_bytes
starts_are [] = refl
starts_are (e ∷ rs) = ap₂ (λ (a b : List ℕ). a ++ b) (append-nil (le 4 e.key)) (starts_are rs)

start_is : (p : Span) → start_row p ≡ word_bytes (p.from ∷ [])
unfolding start_row range_bytes
start_is p = refl

module _ (t : List ℕ) (n : ℕ) (rs : List (Entry Location)) (h : Holds 1 t n (map range_row rs)) where
  -- row i of the table
  row_is : (i : ℕ) → i < n → row_at t i ≡ range_row (get_or rs i no_entry)
  row_is i k = ap (row_at t) (sym (zero-add i)) ∙ sym (rows_get_d t 0 n i (range_row no_entry) k) ∙ ap (λ (l : List Row). get_or l i (range_row no_entry)) h.same ∙ get_or-map range_row rs i no_entry

  location_row-is : (p : Span) → p.to < n → location_row t p ≡ word_bytes (location_words (location-at rs p.to))
  unfolding location_row
  location_row-is p k = ap location_bytes (ap location_of_lem (row_is p.to k) ∙ range_row-location (get_or rs p.to no_entry)) ∙ source_is (location-at rs p.to)

  -- the locations and the starts of entries, by what these stand for
  locations-bytes : (ps : List Span) → ((p : Span) → p ∈ ps → p.to < n) → table_bytes (location_row t) ps ≡ table_bytes word_bytes (map location_words (map (λ (e : Entry Location). e.value) (map (stands_for rs) ps)))
  locations-bytes ps low =
      table-same_in (location_row t) (λ (p : Span). word_bytes (location_words (location-at rs p.to))) ps (λ p i. location_row-is p (low p i))
      ∙ sym (table_of (λ (e : Entry Location). word_bytes (location_words e.value)) (stands_for rs) ps)
      ∙ sym (table_of (λ (l : Location). word_bytes (location_words l)) (λ (e : Entry Location). e.value) (map (stands_for rs) ps))
      ∙ sym (table_of word_bytes location_words (map (λ (e : Entry Location). e.value) (map (stands_for rs) ps)))

  starts-bytes : (ps : List Span) → table_bytes start_row ps ≡ word_bytes (map (λ (e : Entry Location). e.key) (map (stands_for rs) ps))
  starts-bytes ps =
      table_same start_row (λ (p : Span). word_bytes (p.from ∷ [])) start_is ps
      ∙ sym (table_of (λ (e : Entry Location). word_bytes (e.key ∷ [])) (stands_for rs) ps)
      ∙ starts_are (map (stands_for rs) ps)

  -- the entries in order stand for the ranges by start
  in_order_is : Unique rs → map (stands_for rs) (in_order t n) ≡ by_start rs
  unfolding in_order
  in_order_is u =
      let all : map (stands_for rs) (entries 0 (map range_row rs)) ≡ rs = entries_are (location-at rs) 0 rs (λ i. ap (location-at rs) (zero-add i)) in
      rw h.same (sort-is (location-at rs) (entries 0 (map range_row rs)) (subst Unique (sym all) u) ∙ ap by_start all)

-- ── The file ──

whole : (v h h' f f' g g' k l kl b b' p p' x x' : List ℕ) → h ≡ h' → f ≡ f' → g ≡ g' → k ++ l ≡ kl → b ≡ b' → p ≡ p' → x ≡ x'
    → v ++ (h ++ (f ++ (g ++ (k ++ (l ++ (b ++ (p ++ x))))))) ≡ v ++ (h' ++ (f' ++ (g' ++ (kl ++ (b' ++ (p' ++ x'))))))
whole v h h' f f' g g' k l kl b b' p p' x x' eh ef eg el eb ep ex = let a = append_assoc k l (b ++ (p ++ x)) in cc

header_path : (id : List ℕ) (a f f' g g' l l' r r' b b' : ℕ) → f ≡ f' → g ≡ g' → l ≡ l' → r ≡ r' → b ≡ b'
    → header id a f g l r b ≡ header id a f' g' l' r' b'
header_path id a f f' g g' l l' r r' b b' ef eg el er eb = λ i. header id a (ef i) (eg i) (el i) (er i) (eb i)

module _ (n : Lens) (s : Tables) (c : Converter) (m : Memory) (h : Enc n s (words_of_lem c m)) where
  pub files-written : table_bytes file_row (rows_of m.files c.state.files) ≡ table_bytes word_bytes (map (file_words s.texts) s.files)
  files-written = section-is file_row (rows.file_row s.texts) (file_words s.texts) (file-is s.texts) 6 m.files c.state.files s.files h.files

  pub functions-written : table_bytes function_row (rows_of m.functions c.state.functions) ≡ table_bytes word_bytes (map (function_words s.texts) s.functions)
  functions-written = section-is function_row (rows.function_row s.texts) (function_words s.texts) (function-is s.texts) 6 m.functions c.state.functions s.functions h.functions

  pub calls-written : table_bytes call_row (rows_of m.calls c.state.call_locations) ≡ table_bytes word_bytes (map location_words s.calls)
  calls-written = section-is call_row rows.call_row location_words call-is 6 m.calls c.state.call_locations s.calls h.calls

  pub strings-written : take c.state.string_bytes m.text ≡ string_section s.texts
  strings-written = h.texts.stands ∙ strings-is s.texts

  -- starts that stand once
  module _ (unique : Unique s.ranges) where
    pub ranges_are : map (stands_for s.ranges) (ranges_of c m) ≡ by_start s.ranges
    ranges_are = in_order_is m.ranges c.state.ranges s.ranges h.ranges unique

    pub ranges-count : length (ranges_of c m) ≡ length s.ranges
    ranges-count = sym (length-map (ranges_of c m) (stands_for s.ranges)) ∙ ap length ranges_are ∙ by_start-length s.ranges unique

    pub locations-written : table_bytes (location_row m.ranges) (ranges_of c m) ≡ table_bytes word_bytes (map location_words (map (λ (e : Entry Location). e.value) (by_start s.ranges)))
    locations-written =
        locations-bytes m.ranges c.state.ranges s.ranges h.ranges (ranges_of c m) (in_order_low m.ranges c.state.ranges)
        ∙ ap (λ (l : List (Entry Location)). table_bytes word_bytes (map location_words (map (λ (e : Entry Location). e.value) l))) ranges_are

    pub starts-written : table_bytes start_row (ranges_of c m) ≡ word_bytes (starts (as_written s))
    starts-written =
        starts-bytes m.ranges c.state.ranges s.ranges h.ranges (ranges_of c m)
        ∙ ap (λ (l : List (Entry Location)). word_bytes (map (λ (e : Entry Location). e.key) l)) ranges_are

    abbrev z : Sections
    z = sections (as_written s)

    -- as many starts as entries
    starts-count : length (ranges_of c m) ≡ length z.starts
    starts-count = sym (length-map (ranges_of c m) (stands_for s.ranges)) ∙ ap length ranges_are ∙ sym (length-map (by_start s.ranges) (λ (e : Entry Location). e.key))

    locations-count : c.state.call_locations + length (ranges_of c m) ≡ length z.locations
    locations-count =
        let a : length z.locations ≡ length (locations (as_written s)) = length-map (locations (as_written s)) location_words in
        let b : length (locations (as_written s)) ≡ length s.calls + length (map (λ (e : Entry Location). e.value) (by_start s.ranges)) = length-append s.calls (map (λ (e : Entry Location). e.value) (by_start s.ranges)) in
        let d : length (map (λ (e : Entry Location). e.value) (by_start s.ranges)) ≡ length (by_start s.ranges) = length-map (by_start s.ranges) (λ (e : Entry Location). e.value) in
        let f : length (by_start s.ranges) ≡ length s.ranges = by_start-length s.ranges unique in
        omega (arith, ranges-count, count-calls n s (words_of_lem c m) h)

    pub header_is : header_of c (length (ranges_of c m)) ≡ reads.sections_header c.debug_id c.arch z
    header_is =
        header_path c.debug_id c.arch _ _ _ _ _ _ _ _ _ _
        (sym (length-map s.files (file_words s.texts) ∙ count-files n s (words_of_lem c m) h))
        (sym (length-map s.functions (function_words s.texts) ∙ count-functions n s (words_of_lem c m) h))
        locations-count
        starts-count
        (sym (section-length s.texts ∙ count-bytes n s (words_of_lem c m) h))

    all-locations : table_bytes call_row (rows_of m.calls c.state.call_locations) ++ table_bytes (location_row m.ranges) (ranges_of c m) ≡ table_bytes word_bytes z.locations
    all-locations =
        let vs = map (λ (e : Entry Location). e.value) (by_start s.ranges) in
        ap₂ (λ (a b : List ℕ). a ++ b) (calls-written ∙ table_of word_bytes location_words s.calls) (locations-written ∙ table_of word_bytes location_words vs)
        ∙ sym (table-append (λ (l : Location). word_bytes (location_words l)) s.calls vs)
        ∙ sym (table_of word_bytes location_words (s.calls ++ vs))

    pub file_written : written_file c m ≡ file_bytes c.debug_id c.arch z
    unfolding written_file file_bytes
    file_written =
        whole (version_info_bytes version_info) _ _ _ _ _ _ (table_bytes call_row (rows_of m.calls c.state.call_locations)) (table_bytes (location_row m.ranges) (ranges_of c m)) _ _ _ _ _ _ _
        (ap header_bytes header_is)
        files-written
        functions-written
        all-locations
        starts-written
        (ap (λ (k : ℕ). padding (k * 4)) starts-count)
        strings-written

-- WHAT IS WRITTEN, after every list: the file of the plain tables
pub written_is : (X : Setup) (gs : List Given) (n : Lens) (c : Converter) (m : Memory) → Enc n (converted X gs) (words_of_lem c m) → written_file c m ≡ file_bytes c.debug_id c.arch (sections (as_written (converted X gs)))
written_is X gs n c m h = file_written n (converted X gs) c m h (starts-unique X gs)

-- and what writing answers: 0, the length, and the plain file before the rest of the output; or 18 where the output is shorter
pub write-answers : (X : Setup) (gs : List Given) (n : Lens) (c : Converter) (m : Memory) → c.«open» ≡ true → Enc n (converted X gs) (words_of_lem c m) → (out : List ℕ)
    → let f = file_bytes c.debug_id c.arch (sections (as_written (converted X gs))) in
    serialize_of c m out ≡ write_answer f out
unfolding serialize_of usable_in
write-answers X gs n c m o h out =
    let e : (c.«open» && fits? (words_of_lem c m)) ≡ true = both_of c.«open» (fits? (words_of_lem c m)) o (has_room (words_of_lem c m) (enc-room n (converted X gs) (words_of_lem c m) h)) in
    rw e (ap (λ (f : List ℕ). write_answer f out) (written_is X gs n c m h))
