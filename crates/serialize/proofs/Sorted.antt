-- The entries sorted where they stand, and read back: what the locations and the starts are written from.
use Prim.Native.Nat.{ℕ, zero, suc, ◌+◌, ◌*◌, ◌<◌, ◌≤◌, ◌^◌}
use mathlib.Core.Bool.{Bool, true, false, cond}
use mathlib.Core.Path.{◌≡◌, refl, sym, ◌∙◌}
use mathlib.Core.List.{List, [], ◌∷◌, ◌++◌, append_assoc, append-nil}
use native.Mathlib.Omega.{arith}
use lib.ListN.{length, get_or, take, drop, length-append}
use lib.Seq.{sets, sets-eq, take_at, drop_at, length-take-le, drop-drop}
use borrow.Rule.Slice.PartMut.{mid_of, put_mid}
use Rattle.model.specs.Basics.{Span, before, place, sort}
use Rattle.slices.specs.Bytes.{le, word_bytes, Words32, Stands, table_bytes}
use Rattle.slices.proofs.Bytes.{length-table, length-words, length-le, stands-left, stands-right, stands-stored, le-back}
use Rattle.tables.specs.Table.{row_at, rows_from, rows_of}
use Rattle.table_laws.proofs.Rows.{rows-length}
use Rattle.sorting.specs.Pairs.{pair_words, sorted_bytes_of}
use Rattle.sorting.proofs.Pairs.{length-pair_words, sorted_entries}
use Rattle.sorting.proofs.Order.{sort-length}
use Rattle.serialize.specs.Sections.{entries, in_order, entry_row, entries_at, location_row, start_row, range_sections}
use Rattle.serialize.proofs.Runs.{sets_cover, take-before, drop-after}
use Rattle.serialize.proofs.Rows.{length-location_row, length-start_row, length-entries}

-- ── Entries as pairs of 32-bit numbers ──

pub entry-words : (ps : List Span) → table_bytes entry_row ps ≡ word_bytes (pair_words ps)
unfolding table_bytes entry_row pair_words word_bytes
entry-words [] = refl
entry-words (p ∷ ps) = rw (entry-words ps, append-nil (le 4 p.to), append_assoc (le 4 p.from) (le 4 p.to) (word_bytes (pair_words ps)))

-- each number of each entry has 32 bits
abbrev pub Fit : List Span → Type 0
Fit ps = Words32 (pair_words ps)

pub fit_entries : (t : List ℕ) → ((j : ℕ) → get_or t j 0 < 2 ^ 32) → (k n : ℕ) → k + n < 2 ^ 32 → Fit (entries k (rows_from t k n))
unfolding pair_words entries rows_from row_at
fit_entries t h k zero l = tt
fit_entries t h k (suc n) l = (h (k * 7), (omega arith, fit_entries t h (suc k) n (omega arith)))

fit_place : (r : Span) (ss : List Span) → r.from < 2 ^ 32 → r.to < 2 ^ 32 → Fit ss → Fit (place r ss)
unfolding pair_words place
fit_place r [] a b f = (a, (b, tt))
fit_place r (s ∷ ss) a b f = go (before r s) (fit_place r ss a b f.1.1) where
  go : (x : Bool) → Fit (place r ss) → Fit (cond x (r ∷ s ∷ ss) (s ∷ place r ss))
  go true g = (a, (b, f))
  go false g = (f.0, (f.1.0, g))

pub fit_sort : (ps : List Span) → Fit ps → Fit (sort ps)
unfolding pair_words sort
fit_sort [] f = tt
fit_sort (p ∷ ps) f = fit_place p (sort ps) f.0 f.1.0 (fit_sort ps f.1.1)

-- entries that stand are read back
pub entries-back : (ps : List Span) (s : List ℕ) (at : ℕ) → Fit ps → Stands (word_bytes (pair_words ps)) s at → entries_at (length ps) s at ≡ ps
unfolding entries_at pair_words word_bytes
entries-back [] s at f h = refl
entries-back (p ∷ ps) s at f h =
    let rest = word_bytes (pair_words ps) in
    let h₁ : Stands (le 4 p.to ++ rest) s (at + 4) = stands-right (le 4 p.from) (le 4 p.to ++ rest) s at (at + 4) (rw length-le) h in
    let h₂ : Stands rest s (at + 8) = stands-right (le 4 p.to) rest s (at + 4) (at + 8) (rw length-le (omega arith)) h₁ in
    rw (
      le-back 4 p.from s at f.0 (stands-left (le 4 p.from) (le 4 p.to ++ rest) s at h),
      le-back 4 p.to s (at + 4) f.1.0 (stands-left (le 4 p.to) rest s (at + 4) h₁),
      entries-back ps s (at + 8) f.1.1 h₂,
    )

-- ── From the entries to the locations and the starts ──

-- what was stored is the part from there on
part-stored : (b s : List ℕ) (from : ℕ) → from + length b ≤ length s → take (length b) (drop from (sets s from b)) ≡ b
part-stored b s from h =
    rw (sets-eq b s from h, append_assoc, drop_at (take from s) (b ++ drop (from + length b) s) from (length-take-le from s (omega arith)))
    (take_at b (drop (from + length b) s) (length b) refl)

length-sections : (t : List ℕ) (ps : List Span) → length (range_sections t ps) ≡ 20 * length ps
unfolding range_sections
length-sections t ps = simp (length-append, length-table (location_row t) 16 (length-location_row t), length-table start_row 4 length-start_row) (omega arith)

module _ (t : List ℕ) (ps : List Span) (fit : Fit ps) (all : ℕ) (size : length ps ≡ all) (s : List ℕ) (at : ℕ) (room : at + all * 20 ≤ length s) where
  -- the part that is sorted is the entries, and nothing else changes
  sorted-there : (s₁ part : List ℕ) (k : ℕ) → s₁ ≡ sets s (at + all * 8) (table_bytes entry_row ps) → k ≡ all * 8 → part ≡ sorted_bytes_of (mid_of (at + all * 8) k s₁)
      → put_mid (at + all * 8) k s₁ part ≡ sets s (at + all * 8) (word_bytes (pair_words (sort ps)))
  sorted-there s₁ part k e f g =
      let from = at + all * 8 in
      let b = word_bytes (pair_words ps) in
      let c = word_bytes (pair_words (sort ps)) in
      let lb : length b ≡ 8 * all = simp (length-words, length-pair_words) (omega arith) in
      let lc : length c ≡ 8 * all = simp (length-words, length-pair_words, sort-length) (omega arith) in
      let e' : s₁ ≡ sets s from b = rw (← entry-words ps) e in
      let d : k ≡ length b = omega arith in
      let mid : mid_of from k s₁ ≡ b = rw (e', d) (part-stored b s from (omega arith)) in
      let sorted : part ≡ c = g ∙ rw mid (sorted_entries ps fit) in
      let h : from + k ≡ from + length c = omega arith in
      rw (sorted, drop-drop, e', take-before b s from from (omega arith), drop-after b s from (from + k) (omega arith), h)
      (sym (sets-eq c s from (omega arith) ∙ rw append_assoc))

  -- from there the locations and the starts are written, over the entries
  pub ranges-sorted : (s₁ part s₂ : List ℕ) (k : ℕ) → s₁ ≡ sets s (at + all * 8) (table_bytes entry_row ps) → k ≡ all * 8 → part ≡ sorted_bytes_of (mid_of (at + all * 8) k s₁)
      → s₂ ≡ sets (put_mid (at + all * 8) k s₁ part) at (range_sections t (entries_at all (put_mid (at + all * 8) k s₁ part) (at + all * 8)))
      → s₂ ≡ sets s at (range_sections t (sort ps))
  ranges-sorted s₁ part s₂ k e f g e₂ =
      let from = at + all * 8 in
      let c = word_bytes (pair_words (sort ps)) in
      let lc : length c ≡ 8 * all = simp (length-words, length-pair_words, sort-length) (omega arith) in
      let lr : length (range_sections t (sort ps)) ≡ 20 * all = rw (length-sections t (sort ps), sort-length ps) (omega arith) in
      let there : put_mid from k s₁ part ≡ sets s from c = sorted-there s₁ part k e f g in
      let back : entries_at (length (sort ps)) (sets s from c) from ≡ sort ps = entries-back (sort ps) (sets s from c) from (fit_sort ps fit) (stands-stored c s from (omega arith)) in
      let same : entries_at all (sets s from c) from ≡ sort ps = rw (sort-length ps, size) at back in
      e₂ ∙ rw (there, same) (sets_cover c (range_sections t (sort ps)) s from at (omega arith) (omega arith) (omega arith))

-- the same of the code's calls, one after the other
module _ (t : List ℕ) (words32 : (j : ℕ) → get_or t j 0 < 2 ^ 32) (n : ℕ) (few : n < 2 ^ 32) (s : List ℕ) (at : ℕ) (room : at + n * 20 ≤ length s) where
  pub written-sorted : (s₁ part s₂ : List ℕ) (k : ℕ) → s₁ ≡ sets s (at + n * 8) (table_bytes entry_row (entries 0 (rows_of t n))) → k ≡ n * 8 → part ≡ sorted_bytes_of (mid_of (at + n * 8) k s₁)
      → s₂ ≡ sets (put_mid (at + n * 8) k s₁ part) at (range_sections t (entries_at n (put_mid (at + n * 8) k s₁ part) (at + n * 8)))
      → s₂ ≡ sets s at (range_sections t (in_order t n))
  unfolding in_order
  written-sorted = ranges-sorted t (entries 0 (rows_of t n)) (fit_entries t words32 0 n (omega arith)) n (length-entries 0 (rows_of t n) ∙ rows-length t 0 n) s at room
