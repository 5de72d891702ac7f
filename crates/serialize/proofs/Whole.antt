-- The file as a whole: its sections joined are what the code stores one after the other, where they stand, and how long it is.
use Prim.Native.Nat.{ℕ, zero, suc, ◌+◌, ◌*◌, ◌/◌, ◌%◌, ◌<◌, ◌≤◌}
use mathlib.Core.Path.{◌≡◌, refl, ap, ◌∙◌}
use mathlib.Core.List.{List, [], ◌++◌, append_assoc}
use native.Mathlib.Nat.{mul-mod_right}
use native.Mathlib.Omega.{arith}
use lib.ListN.{length, take, length-append}
use lib.Seq.{sets, length-take-le}
use Rattle.slices.specs.Bytes.{Stands, table_bytes}
use Rattle.raw.specs.Rows.{version_info_bytes, header_bytes}
use Rattle.raw.specs.Head.{version_info, padding}
use Rattle.slices.proofs.Bytes.{sets_join, length-table, stands-left, stands-right, stands-between, length-le}
use Rattle.raw.proofs.Rows.{length-version_info, length-header}
use Rattle.tables.specs.Table.{rows_of}
use Rattle.tables.specs.declared.Row.{Row}
use Rattle.table_laws.proofs.Rows.{rows-length}
use Rattle.sorting.proofs.Order.{sort-length}
use Rattle.memory.specs.Memory.{Memory}
use Rattle.memory.specs.declared.State.{State}
use Rattle.memory.specs.declared.Converter.{Converter}
use Rattle.serialize.specs.Sections.{file_row, function_row, call_row, entries, in_order, location_row, start_row, range_sections}
use Rattle.serialize.specs.File.{ranges_of, header_of, written_file, layout_of}
use Rattle.serialize.specs.declared.Layout.{Layout}
use Rattle.serialize.proofs.Rows.{length-file_row, length-function_row, length-call_row, length-location_row, length-start_row, length-entries, padding_odd, padding_even}

-- ── Lengths ──

pub length-ranges : (c : Converter) (m : Memory) → length (ranges_of c m) ≡ c.state.ranges
unfolding in_order
length-ranges c m = sort-length (entries 0 (rows_of m.ranges c.state.ranges)) ∙ simp (length-entries, rows-length)

pub length-padding : (n : ℕ) → length (padding (n * 4)) ≡ n % 2 * 4
length-padding n = go (n % 2) refl (omega arith) where
  go : (r : ℕ) → n % 2 ≡ r → r < 2 → length (padding (n * 4)) ≡ r * 4
  go zero e h = rw (padding_even n e)
  go (suc zero) e h = rw (padding_odd n e) (length-le 4 0)
  go (suc (suc r)) e h = absurd (omega arith)

length-rows : (bytes : Row → List ℕ) (size : ℕ) → ((r : Row) → length (bytes r) ≡ size) → (t : List ℕ) (n : ℕ) → length (table_bytes bytes (rows_of t n)) ≡ size * n
length-rows bytes size long t n = rw (length-table bytes size long (rows_of t n), rows-length t 0 n)

length-head : (c : Converter) (n : ℕ) → length c.debug_id ≡ 32 → length (header_bytes (header_of c n)) ≡ 72
length-head c n id = length-header (header_of c n) id refl

-- ── The layout ──

pub record Laid (st : State) (n : ℕ) (at : Layout) : Type 0 where
  pub functions : at.functions ≡ 80 + st.files * 24
  pub calls : at.call_locations ≡ at.functions + st.functions * 16
  pub locations : at.locations ≡ at.call_locations + st.call_locations * 16
  pub padding : at.padding ≡ at.locations + n * 16 + n * 4
  pub texts : at.texts ≡ at.padding + n % 2 * 4
  pub len : at.len ≡ at.texts + st.string_bytes

pub laid : (st : State) (n : ℕ) (at : Layout) → at ≡ layout_of st n → Laid st n at
unfolding layout_of
laid st n at e = record { functions = rw e; calls = rw e; locations = rw e; padding = rw e; texts = rw e; len = rw e }

-- every section begins on a multiple of 8
pub record Eights (n : ℕ) (at : Layout) : Type 0 where
  pub functions : at.functions % 8 ≡ 0
  pub calls : at.call_locations % 8 ≡ 0
  pub locations : at.locations % 8 ≡ 0
  pub starts : (at.locations + n * 16) % 8 ≡ 0
  pub texts : at.texts % 8 ≡ 0

eight : (k : ℕ) {x : ℕ} → x ≡ 8 * k → x % 8 ≡ 0
eight k e = rw (e, mul-mod_right 8 k)

pub eights : (st : State) (n : ℕ) (at : Layout) → Laid st n at → Eights n at
eights st n at l =
    let f = 10 + 3 * st.files in
    let g = f + 2 * st.functions in
    let c = g + 2 * st.call_locations in
    record {
      functions = eight f (omega arith);
      calls = eight g (omega arith);
      locations = eight c (omega arith);
      starts = eight (c + 2 * n) (omega arith);
      texts = eight (c + 2 * n + n / 2 + n % 2) (omega arith);
    }

-- where the output is as long as the file, each section has room
module _ (st : State) (n : ℕ) (at : Layout) (e : at ≡ layout_of st n) {o l : ℕ} (same : o ≡ l) (room : (layout_of st n).len ≤ l) where
  whole : (Laid st n at) × (at.len ≤ o)
  whole = (laid st n at e, rw (e, same) room)

  pub files_fit : 80 + st.files * 24 ≤ o
  files_fit = let w = whole in omega arith

  pub functions_fit : at.functions + st.functions * 16 ≤ o
  functions_fit = let w = whole in omega arith

  pub calls_fit : at.call_locations + st.call_locations * 16 ≤ o
  calls_fit = let w = whole in omega arith

  pub ranges_fit : at.locations + n * 20 ≤ o
  ranges_fit = let w = whole in omega arith

  pub texts_fit : at.texts + st.string_bytes ≤ o
  texts_fit = let w = whole in omega arith

-- ── The sections joined ──

-- a run, and the rest behind it
then : (xs rest s s₁ r : List ℕ) (at n : ℕ) → s₁ ≡ sets s at xs → n ≡ at + length xs → r ≡ sets s₁ n rest → r ≡ sets s at (xs ++ rest)
then xs rest s s₁ r at n e h f = f ∙ rw e (sets_join xs rest s at n h)

-- magic and version, then the header
pub head-stored : (c : Converter) (n : ℕ) (s s₁ s₂ : List ℕ) → s₁ ≡ sets s 0 (version_info_bytes version_info) → s₂ ≡ sets s₁ 8 (header_bytes (header_of c n)) → s₂ ≡ sets s 0 (version_info_bytes version_info ++ header_bytes (header_of c n))
head-stored c n s s₁ s₂ e f = then (version_info_bytes version_info) (header_bytes (header_of c n)) s s₁ s₂ 0 8 e (rw (length-version_info version_info)) f

grouped : (v h f g c l s p t : List ℕ) → (v ++ h) ++ (f ++ (g ++ (c ++ ((l ++ s) ++ (p ++ t))))) ≡ v ++ (h ++ (f ++ (g ++ (c ++ (l ++ (s ++ (p ++ t)))))))
grouped v h f g c l s p t = simp append_assoc

module _ (c : Converter) (m : Memory) (id : length c.debug_id ≡ 32) (n : ℕ) (size : length (ranges_of c m) ≡ n) (at : Layout) (l : Laid c.state n at) where
  -- what the code stores, section by section, is the file
  pub joined : (s s₁ s₂ s₃ s₄ s₅ s₆ s₇ : List ℕ)
      → s₁ ≡ sets s 0 (version_info_bytes version_info ++ header_bytes (header_of c n))
      → s₂ ≡ sets s₁ 80 (table_bytes file_row (rows_of m.files c.state.files))
      → s₃ ≡ sets s₂ at.functions (table_bytes function_row (rows_of m.functions c.state.functions))
      → s₄ ≡ sets s₃ at.call_locations (table_bytes call_row (rows_of m.calls c.state.call_locations))
      → s₅ ≡ sets s₄ at.locations (range_sections m.ranges (ranges_of c m))
      → s₆ ≡ sets s₅ at.padding (padding (n * 4))
      → s₇ ≡ sets s₆ at.texts (take c.state.string_bytes m.text)
      → s₇ ≡ sets s 0 (written_file c m)
  unfolding written_file range_sections
  joined s s₁ s₂ s₃ s₄ s₅ s₆ s₇ e₁ e₂ e₃ e₄ e₅ e₆ e₇ =
      let st = c.state in
      let ps = ranges_of c m in
      let v = version_info_bytes version_info in
      let h = header_bytes (header_of c n) in
      let f = table_bytes file_row (rows_of m.files st.files) in
      let g = table_bytes function_row (rows_of m.functions st.functions) in
      let k = table_bytes call_row (rows_of m.calls st.call_locations) in
      let ls = table_bytes (location_row m.ranges) ps in
      let ss = table_bytes start_row ps in
      let p = padding (n * 4) in
      let t = take st.string_bytes m.text in
      let lv : length (v ++ h) ≡ 80 = rw (length-append v h, length-version_info version_info, length-head c n id) in
      let lf : length f ≡ 24 * st.files = length-rows file_row 24 length-file_row m.files st.files in
      let lg : length g ≡ 16 * st.functions = length-rows function_row 16 length-function_row m.functions st.functions in
      let lk : length k ≡ 16 * st.call_locations = length-rows call_row 16 length-call_row m.calls st.call_locations in
      let lr : length (ls ++ ss) ≡ 16 * n + 4 * n =
      rw (length-append ls ss, length-table (location_row m.ranges) 16 (length-location_row m.ranges) ps, length-table start_row 4 length-start_row ps, size) in
      let lp : length p ≡ n % 2 * 4 = length-padding n in
      rw size
      (then (v ++ h) (f ++ (g ++ (k ++ ((ls ++ ss) ++ (p ++ t))))) s s₁ s₇ 0 80 e₁ (omega arith)
      (then f (g ++ (k ++ ((ls ++ ss) ++ (p ++ t)))) s₁ s₂ s₇ 80 at.functions e₂ (omega arith)
      (then g (k ++ ((ls ++ ss) ++ (p ++ t))) s₂ s₃ s₇ at.functions at.call_locations e₃ (omega arith)
      (then k ((ls ++ ss) ++ (p ++ t)) s₃ s₄ s₇ at.call_locations at.locations e₄ (omega arith)
      (then (ls ++ ss) (p ++ t) s₄ s₅ s₇ at.locations at.padding e₅ (omega arith)
      (then p t s₅ s₆ s₇ at.padding at.texts e₆ (omega arith) e₇)))))
      ∙ ap (λ (x : List ℕ). sets s 0 x) (grouped v h f g k ls ss p t))

  -- its length
  pub written-length : c.state.string_bytes ≤ length m.text → length (written_file c m) ≡ at.len
  unfolding written_file
  written-length h =
      let st = c.state in
      let ps = ranges_of c m in
      let lf : length (table_bytes file_row (rows_of m.files st.files)) ≡ 24 * st.files = length-rows file_row 24 length-file_row m.files st.files in
      let lg : length (table_bytes function_row (rows_of m.functions st.functions)) ≡ 16 * st.functions = length-rows function_row 16 length-function_row m.functions st.functions in
      let lk : length (table_bytes call_row (rows_of m.calls st.call_locations)) ≡ 16 * st.call_locations = length-rows call_row 16 length-call_row m.calls st.call_locations in
      let ll : length (table_bytes (location_row m.ranges) ps) ≡ 16 * n = rw (length-table (location_row m.ranges) 16 (length-location_row m.ranges) ps, size) in
      let ls : length (table_bytes start_row ps) ≡ 4 * n = rw (length-table start_row 4 length-start_row ps, size) in
      rw size (simp (length-append, length-version_info, length-head c n id, lf, lg, lk, ll, ls, length-padding n, length-take-le st.string_bytes m.text h) (omega arith))

-- the same of the code's calls, one after the other
pub sections-written : (c : Converter) (m : Memory) → length c.debug_id ≡ 32 → (at : Layout) → at ≡ layout_of c.state c.state.ranges
    → (s s₁ s₂ s₃ s₄ s₅ s₆ s₇ : List ℕ)
    → s₁ ≡ sets s 0 (version_info_bytes version_info ++ header_bytes (header_of c c.state.ranges))
    → s₂ ≡ sets s₁ 80 (table_bytes file_row (rows_of m.files c.state.files))
    → s₃ ≡ sets s₂ at.functions (table_bytes function_row (rows_of m.functions c.state.functions))
    → s₄ ≡ sets s₃ at.call_locations (table_bytes call_row (rows_of m.calls c.state.call_locations))
    → s₅ ≡ sets s₄ at.locations (range_sections m.ranges (ranges_of c m))
    → s₆ ≡ sets s₅ at.padding (padding (c.state.ranges * 4))
    → s₇ ≡ sets s₆ at.texts (take c.state.string_bytes m.text)
    → s₇ ≡ sets s 0 (written_file c m)
sections-written c m id at e = joined c m id c.state.ranges (length-ranges c m) at (laid c.state c.state.ranges at e)

-- ── Where the sections stand ──

pub record Standing (c : Converter) (m : Memory) (at : Layout) (s : List ℕ) : Type 0 where
  pub version : Stands (version_info_bytes version_info) s 0
  pub header : Stands (header_bytes (header_of c (length (ranges_of c m)))) s 8
  pub files : Stands (table_bytes file_row (rows_of m.files c.state.files)) s 80
  pub functions : Stands (table_bytes function_row (rows_of m.functions c.state.functions)) s at.functions
  pub calls : Stands (table_bytes call_row (rows_of m.calls c.state.call_locations)) s at.call_locations
  pub locations : Stands (table_bytes (location_row m.ranges) (ranges_of c m)) s at.locations
  pub starts : Stands (table_bytes start_row (ranges_of c m)) s (at.locations + length (ranges_of c m) * 16)
  pub padding : Stands (padding (length (ranges_of c m) * 4)) s at.padding
  pub texts : Stands (take c.state.string_bytes m.text) s at.texts

pub record Parts (xs rest s : List ℕ) (at n : ℕ) : Type 0 where
  pub first : Stands xs s at
  pub behind : Stands rest s n

parts : (xs rest s : List ℕ) (at n : ℕ) → n ≡ at + length xs → Stands (xs ++ rest) s at → Parts xs rest s at n
parts xs rest s at n e h = record { first = stands-left xs rest s at h; behind = stands-right xs rest s at n e h }

pub standing : (c : Converter) (m : Memory) → length c.debug_id ≡ 32 → (s : List ℕ) → Stands (written_file c m) s 0 → Standing c m (layout_of c.state (length (ranges_of c m))) s
unfolding written_file
standing c m id s w =
    let st = c.state in
    let ps = ranges_of c m in
    let n = length ps in
    let at = layout_of st n in
    let l : Laid st n at = laid st n at refl in
    let v = version_info_bytes version_info in
    let h = header_bytes (header_of c n) in
    let f = table_bytes file_row (rows_of m.files st.files) in
    let g = table_bytes function_row (rows_of m.functions st.functions) in
    let k = table_bytes call_row (rows_of m.calls st.call_locations) in
    let ls = table_bytes (location_row m.ranges) ps in
    let ss = table_bytes start_row ps in
    let p = padding (n * 4) in
    let t = take st.string_bytes m.text in
    let lf : length f ≡ 24 * st.files = length-rows file_row 24 length-file_row m.files st.files in
    let lg : length g ≡ 16 * st.functions = length-rows function_row 16 length-function_row m.functions st.functions in
    let lk : length k ≡ 16 * st.call_locations = length-rows call_row 16 length-call_row m.calls st.call_locations in
    let ll : length ls ≡ 16 * n = length-table (location_row m.ranges) 16 (length-location_row m.ranges) ps in
    let lss : length ss ≡ 4 * n = length-table start_row 4 length-start_row ps in
    let lp : length p ≡ n % 2 * 4 = length-padding n in
    let a₁ = parts v (h ++ (f ++ (g ++ (k ++ (ls ++ (ss ++ (p ++ t))))))) s 0 8 (rw (length-version_info version_info)) w in
    let a₂ = parts h (f ++ (g ++ (k ++ (ls ++ (ss ++ (p ++ t)))))) s 8 80 (rw (length-head c n id)) a₁.behind in
    let a₃ = parts f (g ++ (k ++ (ls ++ (ss ++ (p ++ t))))) s 80 at.functions (omega arith) a₂.behind in
    let a₄ = parts g (k ++ (ls ++ (ss ++ (p ++ t)))) s at.functions at.call_locations (omega arith) a₃.behind in
    let a₅ = parts k (ls ++ (ss ++ (p ++ t))) s at.call_locations at.locations (omega arith) a₄.behind in
    let a₆ = parts ls (ss ++ (p ++ t)) s at.locations (at.locations + n * 16) (omega arith) a₅.behind in
    let a₇ = parts ss (p ++ t) s (at.locations + n * 16) at.padding (omega arith) a₆.behind in
    let a₈ = parts p t s at.padding at.texts (omega arith) a₇.behind in
    record { version = a₁.first; header = a₂.first; files = a₃.first; functions = a₄.first; calls = a₅.first; locations = a₆.first; starts = a₇.first; padding = a₈.first; texts = a₈.behind }

-- in the file with anything behind it
pub written_stands : (c : Converter) (m : Memory) → length c.debug_id ≡ 32 → (rest : List ℕ) → Standing c m (layout_of c.state (length (ranges_of c m))) (written_file c m ++ rest)
written_stands c m id rest = standing c m id (written_file c m ++ rest) (stands-between [] (written_file c m) rest 0 refl)
