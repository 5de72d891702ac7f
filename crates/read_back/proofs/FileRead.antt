-- WHERE THE SECTIONS LIE in a file's bytes, and that the reader finds them there: it accepts the file, with these offsets and counts, and reads back each row, each start and the texts.
-- Whatever follows the file's bytes isn't looked at.
use Prim.Native.Nat.{ℕ, zero, suc, ◌+◌, ◌*◌, ◌≤◌, ◌<◌}
use mathlib.Core.Path.{◌≡◌, refl, sym, ap, ◌∙◌}
use mathlib.Core.Bool.{true}
use mathlib.Core.Option.{none, some}
use mathlib.Core.List.{List, [], ◌++◌, append_assoc}
use native.Mathlib.Omega.{arith}
use lib.ListN.{length, get_or, take, drop, length-append, length-replicate, length-drop}
use lib.Seq.{take_at, drop_at, drop-drop, take-append-le, drop-append-le}
use borrow.Author.Tests.{lt-ltb, le-ltb}
use Rattle.slices.specs.Bytes.{word_bytes, Stands, table_bytes}
use Rattle.raw.specs.Rows.{version_info_bytes, version_info_at, header_bytes, header_at, HeaderFits, range_at_lem}
use Rattle.raw.specs.Head.{version_info, padding}
use Rattle.raw.specs.declared.Header.{Header}
use Rattle.slices.proofs.Bytes.{length-words, stands-left, stands-right, stands-between, word_back}
use Rattle.raw.proofs.Rows.{length-version_info, length-header, version_info-back, header-back}
use Rattle.symcache.specs.declared.SymCache.{SymCache}
use Rattle.symcache.specs.Answers.{gives, refuse_if}
use Rattle.symcache.specs.Reader.{aligned, layout_of, tested, parsed, opened, start_at, ascending_from, ascending, Within}
use Rattle.symcache.specs.Reader.{location_in_lem, function_in_lem, file_in_lem}
use Rattle.file_texts.specs.Strings.{section_of}
use Rattle.symcache.proofs.ReaderLaws.{then-tables, opened-accepted}
use Rattle.model.specs.FileWords.{Sections}
use Rattle.model.proofs.FileRows.{ascending-next}
use Rattle.model.proofs.Sections.{function-read}
use Rattle.read_back.specs.Bytes.{sections_header, file_bytes, Readable}
use Rattle.read_back.proofs.RowsOfWords.{table-size, row-there, file_of, function_of, location_of, file_row, function_row, location_row}

-- ── Multiples of 8 ──

aligned-is : (n k : ℕ) → n ≡ 8 * k → aligned n ≡ 8 * k
unfolding aligned
aligned-is n k e = omega arith

aligned_padded : (n k m : ℕ) → n ≡ 8 * k → aligned (n + 4 * m) ≡ n + 4 * m + length (padding (m * 4))
unfolding aligned padding
aligned_padded n k m e = rw length-replicate (omega arith)

-- the offsets that the reader makes of a header's counts
pub record Places (h : Header) : Type 0 where
  pub files : (layout_of h).files ≡ 80
  pub functions : (layout_of h).functions ≡ 80 + 24 * h.num_files
  pub locations : (layout_of h).source_locations ≡ 80 + 24 * h.num_files + 16 * h.num_functions
  pub ranges : (layout_of h).ranges ≡ 80 + 24 * h.num_files + 16 * h.num_functions + 16 * h.num_source_locations
  pub strings : (layout_of h).strings ≡ 80 + 24 * h.num_files + 16 * h.num_functions + 16 * h.num_source_locations + 4 * h.num_ranges + length (padding (h.num_ranges * 4))

pub places : (h : Header) → Places h
unfolding layout_of
places h =
    let f = h.num_files in
    let g = h.num_functions in
    let l = h.num_source_locations in
    let a = aligned 80 in
    let a' : a ≡ 8 * 10 = aligned-is 80 10 (omega arith) in
    let b = aligned (a + 24 * f) in
    let b' : b ≡ 8 * (10 + 3 * f) = aligned-is (a + 24 * f) (10 + 3 * f) (omega arith) in
    let c = aligned (b + 16 * g) in
    let c' : c ≡ 8 * (10 + 3 * f + 2 * g) = aligned-is (b + 16 * g) (10 + 3 * f + 2 * g) (omega arith) in
    let d = aligned (c + 16 * l) in
    let d' : d ≡ 8 * (10 + 3 * f + 2 * g + 2 * l) = aligned-is (c + 16 * l) (10 + 3 * f + 2 * g + 2 * l) (omega arith) in
    let e = aligned_padded d (10 + 3 * f + 2 * g + 2 * l) h.num_ranges d' in
    record { files = omega arith; functions = omega arith; locations = omega arith; ranges = omega arith; strings = e ∙ omega arith }

-- ── The bytes, one after the other ──

regroup : (a b c d e f g h r : List ℕ) → (a ++ (b ++ (c ++ (d ++ (e ++ (f ++ (g ++ h))))))) ++ r ≡ (a ++ (b ++ (c ++ (d ++ (e ++ (f ++ g)))))) ++ (h ++ r)
regroup a b c d e f g h r = simp append_assoc

sizes : (a b c d e f g : List ℕ) → length (a ++ (b ++ (c ++ (d ++ (e ++ (f ++ g)))))) ≡ length a + (length b + (length c + (length d + (length e + (length f + length g)))))
sizes a b c d e f g = simp length-append

-- a file whose tables lie in its bytes passes the tests 6 to 11
pub tested-gives : (n : ℕ) (c : SymCache) → Within n c → tested n c 0 ≡ gives c
unfolding tested refuse_if
tested-gives n c w =
    rw (
      le-ltb n (c.files + 24 * c.num_files) w.files,
      le-ltb n (c.functions + 16 * c.num_functions) w.functions,
      le-ltb n (c.source_locations + 16 * c.num_source_locations) w.locations,
      le-ltb n (c.ranges + 4 * c.num_ranges) w.ranges,
      le-ltb c.num_source_locations c.num_ranges w.fewer,
      le-ltb n (c.strings + c.string_bytes) w.strings,
    )

-- each number below the next
climbs-from : (f : ℕ → ℕ) (m n i : ℕ) → suc i + n ≤ m → ((j : ℕ) → suc j < m → f j < f (suc j)) → ascending_from f (f i) (suc i) n ≡ true
unfolding ascending_from
climbs-from f m zero i h g = refl
climbs-from f m (suc n) i h g = rw (lt-ltb (f i) (f (suc i)) (g i (omega arith))) (climbs-from f m n (suc i) (omega arith) g)

climbs : (f : ℕ → ℕ) (m : ℕ) → ((j : ℕ) → suc j < m → f j < f (suc j)) → ascending f m ≡ true
unfolding ascending
climbs f zero g = refl
climbs f (suc m) g = climbs-from f (suc m) m 0 (omega arith) g

module _ (id : List ℕ) (a : ℕ) (z : Sections) (ok : Readable id a z) (rest : List ℕ) where
  abbrev F : List ℕ
  F = file_bytes id a z ++ rest

  abbrev h : Header
  h = sections_header id a z

  abbrev pub c : SymCache
  c = layout_of h

  -- the sections
  abbrev head : List ℕ
  head = version_info_bytes version_info

  abbrev files : List ℕ
  files = table_bytes word_bytes z.files

  abbrev functions : List ℕ
  functions = table_bytes word_bytes z.functions

  abbrev locations : List ℕ
  locations = table_bytes word_bytes z.locations

  abbrev starts : List ℕ
  starts = word_bytes z.starts

  abbrev pad : List ℕ
  pad = padding (length z.starts * 4)

  -- what comes before the texts
  abbrev before : List ℕ
  before = head ++ (header_bytes h ++ (files ++ (functions ++ (locations ++ (starts ++ pad)))))

  header-fits : HeaderFits h
  header-fits = record { id = ok.id_size; numbers = ok.numbers; variables = omega arith; zeros = refl }

  head_size : length head ≡ 8
  head_size = length-version_info version_info

  header-size : length (header_bytes h) ≡ 72
  header-size = length-header h ok.id_size (refl)

  files-size : length files ≡ 24 * length z.files
  files-size = table-size 6 24 refl z.files ok.files

  functions-size : length functions ≡ 16 * length z.functions
  functions-size = table-size 4 16 refl z.functions ok.functions

  locations-size : length locations ≡ 16 * length z.locations
  locations-size = table-size 4 16 refl z.locations ok.locations

  starts-size : length starts ≡ 4 * length z.starts
  starts-size = length-words z.starts

  split : F ≡ before ++ (z.strings ++ rest)
  unfolding file_bytes
  split = regroup head (header_bytes h) files functions locations starts pad z.strings rest

  before-size : length before ≡ c.strings
  before-size =
      sizes head (header_bytes h) files functions locations starts pad
      ∙ (let p = (places h).strings in omega (arith, head_size, header-size, files-size, functions-size, locations-size, starts-size))

  size : length F ≡ c.strings + (length z.strings + length rest)
  size = ap length split ∙ (rw (length-append, before-size, length-append))

  -- ── What stands where ──

  abbrev after-starts : List ℕ
  after-starts = pad ++ z.strings

  abbrev after-locations : List ℕ
  after-locations = starts ++ after-starts

  abbrev after-functions : List ℕ
  after-functions = locations ++ after-locations

  abbrev after-files : List ℕ
  after-files = functions ++ after-functions

  abbrev after-header : List ℕ
  after-header = files ++ after-files

  all-stands : Stands (head ++ (header_bytes h ++ after-header)) F 0
  unfolding file_bytes
  all-stands = stands-between [] (head ++ (header_bytes h ++ after-header)) rest 0 refl

  header-on : Stands (header_bytes h ++ after-header) F 8
  header-on = stands-right head (header_bytes h ++ after-header) F 0 8 (omega (arith, head_size)) all-stands

  files-on : Stands after-header F 80
  files-on = stands-right (header_bytes h) after-header F 8 80 (omega (arith, header-size)) header-on

  functions_on : Stands after-files F c.functions
  functions_on = stands-right files after-files F 80 c.functions (let p = (places h).functions in omega (arith, files-size)) files-on

  locations-on : Stands after-functions F c.source_locations
  locations-on = stands-right functions after-functions F c.functions c.source_locations (let p = (places h).functions in let q = (places h).locations in omega (arith, functions-size)) functions_on

  starts-on : Stands after-locations F c.ranges
  starts-on = stands-right locations after-locations F c.source_locations c.ranges (let p = (places h).locations in let q = (places h).ranges in omega (arith, locations-size)) locations-on

  -- ── What the reader makes of them ──

  version-read : version_info ≡ version_info_at F 0
  version-read = sym (version_info-back version_info F 0 (omega arith, (omega arith, tt)) (stands-left head (header_bytes h ++ after-header) F 0 all-stands))

  header_read : h ≡ header_at F 8
  header_read = sym (header-back h F 8 header-fits (stands-left (header_bytes h) after-header F 8 header-on))

  within : Within (length F) c
  unfolding layout_of
  within =
      let p = places h in
      let n = size in
      record {
        files = omega (arith, p.files, p.strings);
        functions = omega (arith, p.functions, p.strings);
        locations = omega (arith, p.locations, p.strings);
        ranges = omega (arith, p.ranges, p.strings);
        fewer = ok.fewer;
        strings = omega arith;
      }

  -- THE FILE IS ACCEPTED
  pub parsed-file : parsed F ≡ gives c
  parsed-file =
      let p = (places h).strings in
      let n = size in
      sym (then-tables F version_info version-read (omega arith) (λ e. omega (arith, e)) refl refl (omega arith) h c header_read refl) ∙ tested-gives (length F) c within

  -- each start
  pub start-there : (i : ℕ) → i < length z.starts → start_at F c.ranges i ≡ get_or z.starts i 0
  unfolding range_at_lem
  start-there i l = word_back z.starts F c.ranges i (c.ranges + 4 * i) ok.starts l refl (stands-left starts after-starts F c.ranges starts-on)

  starts_climb : ascending (start_at F c.ranges) (length z.starts) ≡ true
  starts_climb = climbs (start_at F c.ranges) (length z.starts) (λ j l. rw (start-there j (omega arith), start-there (suc j) l) (ascending-next 0 z.starts ok.ascending j l))

  -- ITS STARTS ASCEND
  pub opened-file : opened F ≡ gives c
  unfolding layout_of
  opened-file = sym (opened-accepted F c parsed-file starts_climb)

  -- each row
  pub location-there : (i : ℕ) → i < length z.locations → location_in_lem F c i ≡ location_of (get_or z.locations i [])
  unfolding location_in_lem
  location-there i l =
      let m = c.source_locations + 16 * i in
      location_row (get_or z.locations i []) F m
      (row-there 4 16 refl z.locations [] F c.source_locations i m ok.locations l refl (stands-left locations after-locations F c.source_locations locations-on))

  pub function-there : (i : ℕ) → i < length z.functions → function_in_lem F c i ≡ some (function_of (function-read z i))
  unfolding function_in_lem layout_of
  function-there i l =
      let m = c.functions + 16 * i in
      rw (lt-ltb i (length z.functions) l)
      (ap some (function_row (function-read z i) F m
      (row-there 4 16 refl z.functions _ F c.functions i m ok.functions l refl (stands-left functions after-functions F c.functions functions_on))))

  pub function-outside : (i : ℕ) → length z.functions ≤ i → function_in_lem F c i ≡ none
  unfolding function_in_lem layout_of
  function-outside i l = rw (le-ltb i (length z.functions) l)

  pub file-there : (i : ℕ) → i < length z.files → file_in_lem F c i ≡ some (file_of (get_or z.files i []))
  unfolding file_in_lem layout_of
  file-there i l =
      let m = c.files + 24 * i in
      let p = (places h).files in
      rw (lt-ltb i (length z.files) l)
      (ap some (file_row (get_or z.files i []) F m (row-there 6 24 refl z.files [] F 80 i m ok.files l (omega arith) (stands-left files after-files F 80 files-on))))

  pub file-outside : (i : ℕ) → length z.files ≤ i → file_in_lem F c i ≡ none
  unfolding file_in_lem layout_of
  file-outside i l = rw (le-ltb i (length z.files) l)

  -- the texts
  texts-on : drop c.strings F ≡ z.strings ++ rest
  texts-on = ap (λ (l : List ℕ). drop c.strings l) split ∙ drop_at before (z.strings ++ rest) c.strings before-size

  pub section-there : section_of F c ≡ z.strings
  unfolding section_of layout_of
  section-there = ap (λ (l : List ℕ). take (length z.strings) l) texts-on ∙ take_at z.strings rest (length z.strings) refl

  -- a part of the texts is that part of the file
  pub part-there : (start len : ℕ) → start + len ≤ length z.strings → take len (drop (c.strings + start) F) ≡ take len (drop start z.strings)
  part-there start len l =
      ap (λ (v : List ℕ). take len v)
      (sym (drop-drop start c.strings F) ∙ (ap (λ (v : List ℕ). drop start v) texts-on ∙ drop-append-le start z.strings rest (omega arith)))
      ∙ take-append-le len (drop start z.strings) rest (rw length-drop (omega arith))
