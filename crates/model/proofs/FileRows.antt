-- WHAT A READER OF THE BYTES NEEDS of the tables that a file has, after every list of calls that 14 leaves and that fits the lent tables: few rows, every reference within its
-- table, starts strictly ascending, every word below 2^32; and then that words and string section say what the tables say.
use mathlib.Core.Path.{◌≡◌, refl, sym, ap, ◌∙◌, subst}
use mathlib.Core.Bool.{true}
use mathlib.Core.Option.{Option, none, some}
use mathlib.Core.Logic.{⊎_elim}
use mathlib.Core.List.{List, [], ◌∷◌, ◌++◌, map, append_assoc}
use Prim.Native.Nat.{ℕ, zero, suc, ◌+◌, ◌^◌, ◌≤◌, ◌<◌}
use native.Mathlib.Omega.{arith}
use lib.ListN.{length, take, drop, get_or, get_elem?, length-append, length-map}
use Rattle.slices.proofs.Cases.{lt-or_ge}
use Rattle.text.specs.Leb128.{encoded}
use Rattle.text.specs.Texts.{part, read_text, bytes_of, text_part}
use Rattle.text.specs.declared.strings.Text as text-type
use Rattle.std.specs.Prelude as std
use Rattle.text.proofs.Leb128Laws.{length_last, length_more, decoded-past}
use Rattle.text.proofs.TextLaws.{read-stored, part-stored, absent_prefix}
use Rattle.model.specs.Basics.{◌∈◌, Entry}
use Rattle.model.specs.Rows.{MAX, Text, Given}
use Rattle.model.specs.Converter.{Setup, File, Function, Location, nowhere, at, Tables, range_at, converted}
use Rattle.model.specs.Frames.{read}
use Rattle.model.specs.Counts.{text_size, text_bytes, text_offset, Capacities, Lent, plain_fits?}
use Rattle.model.specs.Written.{by_start, over, as_written, locations}
use Rattle.model.specs.FileWords.{index_word, text_word, file_words, function_words, location_words, starts, string_section, Ascending}
use Rattle.model.proofs.Intern.{At, at-append, at_map}
use Rattle.model.proofs.Chains.{at-get, CallsDown, range_here, range_there}
use Rattle.model.proofs.Always.{Within, InTables, starts-unique, callers-earlier, calls-within, ranges-within, names-within, files-within}
use Rattle.model.proofs.Compact.{Low, Texts, Compact, GivenFits, always_compact}
use Rattle.model.proofs.Grown.{Fits, needs}
use Rattle.model.proofs.Written.{Sorted, by_start-same, by_start-sorted, by_start-length}

-- ── The tables ──

-- the six references of a file
pub record FileIn (n : ℕ) (x : File) : Type 0 where
  pub name : Within x.name n
  pub directory : Within x.directory n
  pub comp_dir : Within x.comp_dir n
  pub srcsrv_name : Within x.srcsrv_name n
  pub srcsrv_dir : Within x.srcsrv_dir n
  pub revision : Within x.revision n

pub record FunctionIn (n : ℕ) (f : Function) : Type 0 where
  pub name : Within f.name n
  pub entry : f.entry ≤ MAX
  pub language : f.language ≤ MAX

pub record InFile (s : Tables) : Type 0 where
  pub few_bytes : text_bytes s.texts ≤ 268435456
  pub few-texts : length s.texts ≤ 16777216
  pub few-files : length s.files ≤ 16777216
  pub few-functions : length s.functions ≤ 16777216
  pub few-calls : length s.calls ≤ 16777216
  pub few-ranges : length s.ranges ≤ 16777216
  pub texts_are : Texts s.texts  -- each once, none empty, all UTF-8
  pub file_in : (i : ℕ) (x : File) → At s.files i x → FileIn (length s.texts) x
  pub function_in : (i : ℕ) (f : Function) → At s.functions i f → FunctionIn (length s.texts) f
  pub location_in : (i : ℕ) (l : Location) → At (locations s) i l → InTables s l × Low l  -- function, file and caller in their tables; the line number at most MAX
  pub callers_down : CallsDown s.calls  -- a call location's caller is an earlier one
  pub ascending : Sorted 0 s.ranges  -- the starts ascend strictly
  pub start-low : (i : ℕ) (e : Entry Location) → At s.ranges i e → e.key ≤ MAX

-- what stands in an ascending list is what its start holds
sorted-at : (b : ℕ) (t : List (Entry Location)) → Sorted b t → (i : ℕ) (e : Entry Location) → At t i e → (b ≤ e.key) × (range_at t e.key ≡ some e.value)
sorted-at b [] s i e h = absurd h
sorted-at b (d ∷ t) s zero e h = subst (λ (x : Entry Location). (b ≤ x.key) × (range_at (d ∷ t) x.key ≡ some x.value)) h (s.0, range_here d t d.key refl)
sorted-at b (d ∷ t) s (suc i) e h = let (p, q) = sorted-at (suc d.key) t s.1 i e h in (omega (arith, s.0), range_there d t e.key (omega arith) ∙ q)

in_tables : (s : Tables) (r : List (Entry Location)) (l : Location) → InTables s l → InTables (over s r) l
in_tables s r nowhere h = h
in_tables s r (at f n i c) h = h

module _ (X : Setup) (gs : List Given) (fitting : (g : Given) → g ∈ gs → GivenFits g) (K : Capacities) (lent : Lent K) (room : plain_fits? K (converted X gs) ≡ true) where
  abbrev s : Tables
  s = converted X gs

  abbrev rows : List (Entry Location)
  rows = by_start s.ranges

  range_held : (i : ℕ) (e : Entry Location) → At rows i e → range_at s.ranges e.key ≡ some e.value
  range_held i e h = sym (by_start-same s.ranges e.key) ∙ (sorted-at 0 rows (by_start-sorted s.ranges) i e h).1

  -- EVERY LIST that 14 leaves and that fits
  pub written_in_file : InFile (as_written s)
  written_in_file =
      let n : Fits K s = needs K s room in
      let c : Compact s = always_compact X gs fitting in
      record {
        few_bytes = omega (arith, n.bytes, lent.bytes);
        few-texts = omega (arith, n.texts, lent.texts);
        few-files = omega (arith, n.files, lent.files);
        few-functions = omega (arith, n.functions, lent.functions);
        few-calls = omega (arith, n.calls, lent.calls);
        few-ranges = rw (by_start-length s.ranges (starts-unique X gs)) (omega (arith, n.ranges, lent.ranges));
        texts_are = c.texts;
        file_in = λ i x h. let (a, b, d, e, f, g) = files-within X gs i x h in record { name = a; directory = b; comp_dir = d; srcsrv_name = e; srcsrv_dir = f; revision = g };
        function_in = λ i f h. record { name = names-within X gs i f h; entry = (c.functions-low i f h).0; language = (c.functions-low i f h).1 };
        location_in = λ i l h.
            ⊎_elim (λ k. (in_tables s rows l (calls-within X gs i l k), c.calls-low i l k))
            (λ (j, z, k). let (e, p, q) = at_map (λ (d : Entry Location). d.value) rows j l k in
            let held = range_held j e p in
            subst (λ (m : Location). InTables (as_written s) m × Low m) q (in_tables s rows e.value (ranges-within X gs e.key e.value held), (c.ranges-low e.key e.value held).1))
            (at-append s.calls (map (λ (d : Entry Location). d.value) rows) i l h);
        callers_down = callers-earlier X gs;
        ascending = by_start-sorted s.ranges;
        start-low = λ i e h. (c.ranges-low e.key e.value (range_held i e h)).0;
      }

-- ── The words ──

-- each of them has 32 bits
abbrev pub Words : List ℕ → Type 0
Words [] = Unit {0}
Words (v ∷ vs) = (v < 2 ^ 32) × Words vs

prefix_some : (v : ℕ) → 0 < length (encoded v)
prefix_some v = ⊎_elim (λ h. rw (length_last v h) (omega arith)) (λ h. rw (length_more v h) (omega arith)) (lt-or_ge v 128)

-- "its offset is where the prefix begins": before the section's end
pub offset-within : (ts : List Text) (i : ℕ) → i < length ts → text_offset ts i < text_bytes ts
unfolding text_size
offset-within [] i h = absurd (omega arith)
offset-within (t ∷ ts) zero h = omega (arith, prefix_some (length t))
offset-within (t ∷ ts) (suc i) h = let r = offset-within ts i (omega arith) in omega arith

pub text_word-low : (ts : List Text) (r : Option ℕ) → text_bytes ts ≤ 268435456 → Within r (length ts) → text_word ts r < 2 ^ 32
text_word-low ts none b h = omega arith
text_word-low ts (some i) b h = omega (arith, offset-within ts i h)

pub index-word-low : (n : ℕ) (r : Option ℕ) → n ≤ 16777216 → Within r n → index_word r < 2 ^ 32
index-word-low n none b h = omega arith
index-word-low n (some i) b h = omega arith

module _ (s : Tables) (w : InFile s) where
  pub file-low : (i : ℕ) (x : File) → At s.files i x → Words (file_words s.texts x)
  file-low i x h =
      let f = w.file_in i x h in
      let low : (r : Option ℕ) → Within r (length s.texts) → text_word s.texts r < 2 ^ 32 = λ r k. text_word-low s.texts r w.few_bytes k in
      (low x.comp_dir f.comp_dir, (low x.directory f.directory, (low x.name f.name, (low x.srcsrv_name f.srcsrv_name, (low x.srcsrv_dir f.srcsrv_dir, (low x.revision f.revision, tt))))))

  pub function-low : (i : ℕ) (f : Function) → At s.functions i f → Words (function_words s.texts f)
  function-low i f h = let k = w.function_in i f h in (text_word-low s.texts f.name w.few_bytes k.name, (omega arith, (omega (arith, k.entry), (omega (arith, k.language), tt))))

  location_words-low : (l : Location) → InTables s l → Low l → Words (location_words l)
  location_words-low nowhere h k = (omega arith, (omega arith, (omega arith, (omega arith, tt))))
  location_words-low (at f n i c) h k = (index-word-low (length s.files) f w.few-files h.1, (omega (arith, k), (omega (arith, h.0, w.few-functions), (index-word-low (length s.calls) c w.few-calls h.2, tt))))

  pub location-low : (i : ℕ) (l : Location) → At (locations s) i l → Words (location_words l)
  location-low i l h = let (a, b) = w.location_in i l h in location_words-low l a b

  -- a location that isn't the empty mapping has a function below MAX, so that its four words aren't four times MAX
  pub somewhere : (f : Option ℕ) (n i : ℕ) (c : Option ℕ) → InTables s (at f n i c) → i < MAX
  somewhere f n i c h = omega (arith, h.0, w.few-functions)

  -- the header's counts: 32 bits each
  pub locations-count : length (locations s) ≡ length s.calls + length s.ranges
  locations-count = length-append s.calls _ ∙ ap (λ (n : ℕ). length s.calls + n) (length-map s.ranges _)

  pub starts-count : length (starts s) ≡ length s.ranges
  starts-count = length-map s.ranges _

  pub counts-low : Words (length s.files ∷ length s.functions ∷ length (locations s) ∷ length s.ranges ∷ text_bytes s.texts ∷ [])
  counts-low = (omega (arith, w.few-files), (omega (arith, w.few-functions), (omega (arith, locations-count, w.few-calls, w.few-ranges), (omega (arith, w.few-ranges), (omega (arith, w.few_bytes), tt)))))

pub outside : {A : Type 0} (xs : List A) (i : ℕ) → length xs ≤ i → get_elem? xs i ≡ none
outside [] i h = refl
outside (x ∷ xs) zero h = absurd (omega arith)
outside (x ∷ xs) (suc i) h = outside xs i (omega arith)

-- what a table has at a reference's word is what it has at the reference: MAX is outside
pub word-found : {A : Type 0} (xs : List A) (r : Option ℕ) → length xs ≤ MAX → get_elem? xs (index_word r) ≡ elim r [ none ↦ none | some i ↦ get_elem? xs i ]
word-found xs none h = outside xs MAX h
word-found xs (some i) h = refl

-- ── The starts ──

pub starts_ascend : (b : ℕ) (t : List (Entry Location)) → Sorted b t → Ascending b (map (λ (e : Entry Location). e.key) t)
starts_ascend b [] h = tt
starts_ascend b (e ∷ t) h = (h.0, starts_ascend (suc e.key) t h.1)

-- each is below the next
pub ascending-next : (b : ℕ) (ks : List ℕ) → Ascending b ks → (i : ℕ) → suc i < length ks → get_or ks i 0 < get_or ks (suc i) 0
ascending-next b [] h i k = absurd (omega arith)
ascending-next b (x ∷ []) h i k = absurd (omega arith)
ascending-next b (x ∷ (y ∷ ks)) h zero k = h.1.0
ascending-next b (x ∷ (y ∷ ks)) h (suc i) k = ascending-next (suc x) (y ∷ ks) h.1 i (omega arith)

-- ── The string section ──

pub section-length : (ts : List Text) → length (string_section ts) ≡ text_bytes ts
unfolding string_section text_size
section-length [] = refl
section-length (t ∷ ts) = length-append (encoded (length t)) (t ++ string_section ts) ∙ ap (λ (n : ℕ). length (encoded (length t)) + n) (length-append t (string_section ts)) ∙ (let h = section-length ts in omega arith)

-- the text i, with its length before it, at its offset
pub record Placed (ts : List Text) (i : ℕ) (t : Text) : Type 0 where
  pub before : List ℕ
  pub after : List ℕ
  pub whole : string_section ts ≡ before ++ (encoded (length t) ++ (t ++ after))
  pub offset : length before ≡ text_offset ts i

pub placed : (ts : List Text) (i : ℕ) (t : Text) → At ts i t → Placed ts i t
unfolding string_section text_size
placed [] i t h = absurd h
placed (u ∷ ts) zero t h = record { before = []; after = string_section ts; whole = ap (λ (x : Text). encoded (length x) ++ (x ++ string_section ts)) h; offset = refl }
placed (u ∷ ts) (suc i) t h =
    let p = placed ts i t h in
    record {
      before = encoded (length u) ++ (u ++ p.before);
      after = p.after;
      whole =
          ap (λ (x : List ℕ). encoded (length u) ++ (u ++ x)) p.whole
          ∙ sym (append_assoc (encoded (length u)) (u ++ p.before) _ ∙ ap (λ (x : List ℕ). encoded (length u) ++ x) (append_assoc u p.before _));
      offset = length-append (encoded (length u)) (u ++ p.before) ∙ ap (λ (n : ℕ). length (encoded (length u)) + n) (length-append u p.before) ∙ (let h = p.offset in omega arith);
    }

-- what is read at an offset of a section, as text's `read_text` has it
abbrev pub shown : List ℕ → std.Option text-type.Text → Option Text
shown s std.None = none
shown s (std.Some p) = some (take p.len (drop p.start s))

abbrev pub text_at : List ℕ → ℕ → Option Text
text_at s w = shown s (read_text s w)

at-present : (s : List ℕ) (w start len : ℕ) → read_text s w ≡ part start len → text_at s w ≡ some (text_part s w)
unfolding text_part bytes_of
at-present s w start len e = ap (λ (t : std.Option text-type.Text). shown s t) e ∙ sym (ap (λ (t : std.Option text-type.Text). some (bytes_of s t)) e)

at_place : (xs : List Text) (i : ℕ) → i < length xs → (t : Text) × At xs i t
at_place [] i h = absurd (omega arith)
at_place (x ∷ xs) zero h = (x, refl)
at_place (x ∷ xs) (suc i) h = at_place xs i (omega arith)

text-short : (ts : List Text) (i : ℕ) (t : Text) → At ts i t → length t ≤ text_bytes ts
unfolding text_size
text-short [] i t h = absurd h
text-short (u ∷ ts) zero t h = let e : length u ≡ length t = ap length h in omega arith
text-short (u ∷ ts) (suc i) t h = let r = text-short ts i t h in omega arith

-- EVERY TEXT READS BACK: at the word of a reference the section has the text that the reference means, and none at MAX
pub text-found : (ts : List Text) (r : Option ℕ) → Texts ts → text_bytes ts ≤ 268435456 → Within r (length ts) → text_at (string_section ts) (text_word ts r) ≡ read ts r
text-found ts none g b h = ap (λ (t : std.Option text-type.Text). shown (string_section ts) t) (sym (absent_prefix (string_section ts) MAX (decoded-past (string_section ts) MAX (rw (section-length ts) (omega arith)))))
text-found ts (some i) g b h =
    let (t, a) = at_place ts i h in
    let p = placed ts i t a in
    let few : length t < 2 ^ 64 = omega (arith, text-short ts i t a) in
    let u = (g.good i t a).1 in
    ap (λ (x : List ℕ). text_at x (text_offset ts i)) p.whole
    ∙ ap (text_at (p.before ++ (encoded (length t) ++ (t ++ p.after)))) (sym p.offset)
    ∙ at-present _ (length p.before) _ _ (read-stored p.before t p.after few u)
    ∙ ap some (part-stored p.before t p.after few u)
    ∙ sym (at-get ts i t a)
