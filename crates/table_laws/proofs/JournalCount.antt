-- The journal takes one entry for each put that adds a start or changes its location, as the plain map counts them: `entry-count` is one call, `journal-count` any list
-- of calls that the ranges have room for. So the count passes the journal's capacity exactly where the plain count does.
use Prim.Native.Nat.{ℕ, ◌+◌, ◌<◌, ◌≤◌}
use mathlib.Core.Path.{◌≡◌, refl, sym, ◌∙◌, ap}
use mathlib.Core.List.{List, [], ◌∷◌}
use mathlib.Core.Bool.{Bool, true, false, cond}
use mathlib.Core.Logic.{◌⊎◌, inl, inr, ⊎_elim}
use native.Mathlib.Omega.{arith}
use lib.Dec.{leb, ltb}
use lib.ListN.{length}
use borrow.Author.Tests.{leb-true, leb-false, le-ltb, ltb-false}
use Rattle.tables.specs.Table.{row_at, capacity_of, lookup_of, over_of, left}
use Rattle.tables.specs.Ranges.{put_of}
use Rattle.table_laws.specs.Plain.{put_rows, was_in, put_all_rows, Pair, pair_row, Holds}
use Rattle.journal.specs.Undo.{set_entry, note_of, note_was, entry_after, put_noted_of}
use Rattle.table_laws.specs.Marked.{put_noted_all, Ranges, ranges_of_lem, changed, changes_in}
use Rattle.tables.specs.declared.Row.{Row}
use Rattle.tables.specs.declared.ranges.Was.{Was}
use Rattle.tables.specs.declared.ranges.Was.TheVariants.{Vacant, Same, Changed}
use Rattle.table_laws.proofs.Sets.{over-above, over-most}
use Rattle.table_laws.proofs.Maps.{step, all-length}
use Rattle.table_laws.proofs.UndoRanges.{long-entry}

module _ (j : List ℕ) (m : ℕ) where
  note_count : (i v : ℕ) (old : Row) → m ≤ capacity_of (length j) → (note_of j m i v old).got ≡ m + 1
  unfolding note_of
  note_count i v old h = go (ltb m (capacity_of (length j))) refl
    where
      go : (x : Bool) → ltb m (capacity_of (length j)) ≡ x → (cond x (left (m + 1) (set_entry j m i v old)) (left (over_of m (capacity_of (length j))) j)).got ≡ m + 1
      go true e = refl
      go false e = over-most m (capacity_of (length j)) h ∙ (let g : capacity_of (length j) ≤ m = ltb-false _ _ e in omega arith)

  note_stays : (i v : ℕ) (old : Row) → capacity_of (length j) < m → (note_of j m i v old).got ≡ m
  unfolding note_of
  note_stays i v old h = rw (le-ltb m (capacity_of (length j)) (omega arith)) (over-above m (capacity_of (length j)) h)

  note_long : (i v : ℕ) (old : Row) → length (note_of j m i v old).table ≡ length j
  unfolding note_of
  note_long i v old = go (ltb m (capacity_of (length j)))
    where
      go : (x : Bool) → length (cond x (left (m + 1) (set_entry j m i v old)) (left (over_of m (capacity_of (length j))) j)).table ≡ length j
      go true = long-entry j m i v old
      go false = refl

  module _ (n i : ℕ) (old : Row) where
    was-count : (w : Was) → m ≤ capacity_of (length j) → (note_was j m w n i old).got ≡ m + changed w
    unfolding note_was
    was-count Vacant h = note_count n 1 _ h
    was-count Same h = omega arith
    was-count Changed h = note_count i 2 old h

    was-stays : (w : Was) → capacity_of (length j) < m → (note_was j m w n i old).got ≡ m
    unfolding note_was
    was-stays Vacant h = note_stays n 1 _ h
    was-stays Same h = refl
    was-stays Changed h = note_stays i 2 old h

    was-long : (w : Was) → length (note_was j m w n i old).table ≡ length j
    unfolding note_was
    was-long Vacant = note_long n 1 _
    was-long Same = refl
    was-long Changed = note_long i 2 old

-- ---- one call
module _ (t : List ℕ) (n : ℕ) (j : List ℕ) (m : ℕ) (q : Row) where
  pub entry-count : (rows : List Row) → Holds 1 t n rows → m ≤ capacity_of (length j) → (put_noted_of t n j m q).got.noted ≡ m + changed (was_in rows q)
  unfolding put_noted_of entry_after
  entry-count rows H h = was-count j m n (lookup_of 1 t n q) (row_at t (lookup_of 1 t n q)) (put_of t n q).got.was h ∙ ap (λ (w : Was). m + changed w) (step t n rows q H).was

  pub entry-stays : capacity_of (length j) < m → (put_noted_of t n j m q).got.noted ≡ m
  unfolding put_noted_of entry_after
  entry-stays h = was-stays j m n (lookup_of 1 t n q) (row_at t (lookup_of 1 t n q)) (put_of t n q).got.was h

  pub entry-long : length (put_noted_of t n j m q).journal ≡ length j
  unfolding put_noted_of entry_after
  entry-long = was-long j m n (lookup_of 1 t n q) (row_at t (lookup_of 1 t n q)) (put_of t n q).got.was

  -- the ranges are those of the put without a journal
  pub noted-table : (put_noted_of t n j m q).table ≡ (put_of t n q).table
  unfolding put_noted_of
  noted-table = refl

-- ---- any list of calls
stays : (ps : List Pair) (x : Ranges) → x.entries ≡ capacity_of (length x.journal) + 1 → (put_noted_all x ps).entries ≡ capacity_of (length x.journal) + 1
unfolding put_noted_all
stays [] x e = e
stays (p ∷ ps) x e =
    let l : capacity_of (length (put_noted_of x.table x.count x.journal x.entries (pair_row p)).journal) + 1 ≡ capacity_of (length x.journal) + 1
    = ap (λ (k : ℕ). capacity_of k + 1) (entry-long x.table x.count x.journal x.entries (pair_row p)) in
    stays ps (ranges_of_lem (put_noted_of x.table x.count x.journal x.entries (pair_row p))) (entry-stays x.table x.count x.journal x.entries (pair_row p) (omega arith) ∙ e ∙ sym l) ∙ l

abbrev Counted : ℕ → ℕ → ℕ → Type 0
Counted cap due entries = ((due ≤ cap) × (entries ≡ due)) ⊎ ((cap < due) × (entries ≡ cap + 1))

most : (w : Was) → changed w ≤ 1
most Vacant = omega arith
most Same = omega arith
most Changed = omega arith

-- one put more: its entry counts, or it was one too many
more : (p : Pair) (ps : List Pair) (x : Ranges) (rows : List Row) → Holds 1 x.table x.count rows → x.entries ≤ capacity_of (length x.journal) → {y : Ranges} → y ≡ ranges_of_lem (put_noted_of x.table x.count x.journal x.entries (pair_row p))
    → (y.entries ≤ capacity_of (length y.journal) → Counted (capacity_of (length y.journal)) (y.entries + changes_in (put_rows rows (pair_row p)) ps) (put_noted_all y ps).entries)
    → Counted (capacity_of (length x.journal)) (x.entries + (changed (was_in rows (pair_row p)) + changes_in (put_rows rows (pair_row p)) ps)) (put_noted_all y ps).entries
more p ps x rows H h {y} e ih = go (leb (x.entries + changed (was_in rows (pair_row p))) (capacity_of (length x.journal))) refl
  where
    count : y.entries ≡ x.entries + changed (was_in rows (pair_row p))
    count = rw e (entry-count x.table x.count x.journal x.entries (pair_row p) rows H h)

    same : capacity_of (length y.journal) ≡ capacity_of (length x.journal)
    same = rw e (ap (λ (k : ℕ). capacity_of k) (entry-long x.table x.count x.journal x.entries (pair_row p)))

    go : (b : Bool) → leb (x.entries + changed (was_in rows (pair_row p))) (capacity_of (length x.journal)) ≡ b
        → Counted (capacity_of (length x.journal)) (x.entries + (changed (was_in rows (pair_row p)) + changes_in (put_rows rows (pair_row p)) ps)) (put_noted_all y ps).entries
    go true f =
        let k : x.entries + changed (was_in rows (pair_row p)) ≤ capacity_of (length x.journal) = leb-true _ _ f in
        let c = count in
        let s = same in
        ⊎_elim (λ u. let a = u.0 in let b = u.1 in inl (omega arith, omega arith)) (λ u. let a = u.0 in let b = u.1 in inr (omega arith, omega arith)) (ih (omega arith))
    go false f =
        let k : capacity_of (length x.journal) < x.entries + changed (was_in rows (pair_row p)) = leb-false _ _ f in
        let c = count in
        let s = same in
        let o = most (was_in rows (pair_row p)) in
        let z = stays ps y (omega arith) in
        inr (omega arith, omega arith)

pub journal-count : (ps : List Pair) (x : Ranges) (rows : List Row) → Holds 1 x.table x.count rows → length (put_all_rows rows ps) ≤ capacity_of (length x.table) → x.entries ≤ capacity_of (length x.journal)
    → Counted (capacity_of (length x.journal)) (x.entries + changes_in rows ps) (put_noted_all x ps).entries
unfolding put_noted_all changes_in put_all_rows put_noted_of
journal-count [] x rows H r h = inl (omega arith, omega arith)
journal-count (p ∷ ps) x rows H r h =
    let y : Ranges = ranges_of_lem (put_noted_of x.table x.count x.journal x.entries (pair_row p)) in
    let d = step x.table x.count rows (pair_row p) H in
    ⊎_elim
    (λ g.
    more p ps x rows H h {y = y} refl
    (λ k. journal-count ps y (put_rows rows (pair_row p)) g (rw d.long r) k))
    (λ o. absurd (let a = all-length ps (put_rows rows (pair_row p)) in let b = o.1 in omega arith))
    d.after
