-- Undoing takes back what putting with a journal did: `put-noted` is one call, `undo_puts` any list of calls that the journal has room for.
use Prim.Native.Nat.{ℕ, zero, suc, ◌+◌, ◌*◌, ◌<◌, ◌≤◌}
use mathlib.Core.Path.{◌≡◌, refl, sym, ◌∙◌, ap, ap₂}
use mathlib.Core.List.{List, [], ◌∷◌}
use mathlib.Core.Bool.{Bool, true, false, cond}
use native.Mathlib.Omega.{arith}
use native.Mathlib.Numerals.{add-one}
use lib.Dec.{eqb, leb, ltb}
use lib.ListN.{length, get_or, set, drop, replicate, length-set}
use lib.Seq.{sets, length-sets, get_or-set_same, ext_get_or}
use borrow.Author.Tests.{eqb-true, eqb-false, leb-true, leb-false, lt-ltb, le-ltb, ltb-true, ltb-false}
use Rattle.tables.specs.Table.{words_at, row_words, row_of, row_at, set_row, head_at, bucket_in, same_row, capacity_of, newest_of, lookup_of, append_of, over_of, insert_at, insert_of, left, inserted}
use Rattle.tables.specs.Ranges.{put_of, put_at, replace_of, change}
use Rattle.table_laws.specs.Plain.{Pair, pair_row}
use Rattle.table_laws.specs.Marked.{Clear, ClearJournal, put_noted_all, Ranges, ranges, ranges_of_lem}
use Rattle.journal.specs.Undo.{row_hash_of, off_of, zero_row, set_entry, note_of, note_was, entry_after, put_noted_of, undo_entry, undo_at, Undone, undone, undone_ranges}
use Rattle.tables.specs.declared.Row.{Row}
use Rattle.tables.specs.declared.ranges.Was.TheVariants.{Vacant, Same, Changed}
use Rattle.tables.proofs.Room.{room-is}
use Rattle.journal.proofs.Undone.{ranges-done, ranges_more}
use Rattle.slices.proofs.Runs.{sets-low, sets-high}
use Rattle.table_laws.proofs.Rows.{sets-at, length_set_row}
use Rattle.table_laws.proofs.Sets.{over-above, over-most}
use Rattle.table_laws.proofs.Steps.{zeros}
use Rattle.table_laws.proofs.UndoRows.{off-none, off-append, insert-added}

-- undoing to a mark, and from there to an earlier one, is undoing to the earlier one
module _ (to mid : ℕ) (h : to ≤ mid) where
  pub ranges_undo : (n : ℕ) (t j : List ℕ) → mid ≤ n → (x : Undone) → x ≡ undone_ranges mid t j n → undone_ranges to x.table x.journal mid ≡ undone_ranges to t j n
  ranges_undo zero t j r x e = let f : mid ≡ 0 = omega arith in from (rw f at e) f (ranges-done 0 t j 0 (omega arith))
    where
      from : {x : Undone} → x ≡ undone_ranges 0 t j 0 → mid ≡ 0 → undone_ranges 0 t j 0 ≡ undone t j → undone_ranges to x.table x.journal mid ≡ undone_ranges to t j 0
      from e f g = rw (e, g, f)
  ranges_undo (suc i) t j r x e = go (ltb i mid) refl (λ k. ranges_undo i (undo_at t j i) (set_entry j i 0 0 zero_row) k)
    where
      go : (b : Bool) → ltb i mid ≡ b
          → (mid ≤ i → (y : Undone) → y ≡ undone_ranges mid (undo_at t j i) (set_entry j i 0 0 zero_row) i → undone_ranges to y.table y.journal mid ≡ undone_ranges to (undo_at t j i) (set_entry j i 0 0 zero_row) i)
          → undone_ranges to x.table x.journal mid ≡ undone_ranges to t j (suc i)
      go true f ih =
          let g : suc i ≡ mid = (let k : i < mid = ltb-true i mid f in omega arith) in
          rw (e, ranges-done mid t j (suc i) (omega arith), g)
      go false f ih = let k : mid ≤ i = ltb-false i mid f in ih k x (e ∙ ranges_more mid t j i k) ∙ sym (ranges_more to t j i (omega arith))

-- ---- words stored over others, and the others stored back
words-length : (t : List ℕ) (k n : ℕ) → length (words_at t k n) ≡ n
words-length t k zero = refl
words-length t k (suc n) = ap suc (words-length t (k + 1) n)

words-over : (n : ℕ) (t u : List ℕ) (k p : ℕ) → k ≤ p → p < k + n → p < length u → get_or (sets u k (words_at t k n)) p 0 ≡ get_or t p 0
words-over zero t u k p a b r = absurd (omega arith)
words-over (suc n) t u k p a b r = rw (add-one k) (go (eqb p k) refl (λ c. words-over n t (set u k (get_or t k 0)) (suc k) p c (omega arith) (rw (length-set u k (get_or t k 0)) r)))
  where
    go : (x : Bool) → eqb p k ≡ x → (suc k ≤ p → get_or (sets (set u k (get_or t k 0)) (suc k) (words_at t (suc k) n)) p 0 ≡ get_or t p 0) → get_or (sets (set u k (get_or t k 0)) (suc k) (words_at t (suc k) n)) p 0 ≡ get_or t p 0
    go true e ih =
        let f : p ≡ k = eqb-true p k e in
        rw f (sets-low (words_at t (suc k) n) (set u k (get_or t k 0)) (suc k) k (omega arith) ∙ get_or-set_same u k (get_or t k 0) 0 (omega arith))
    go false e ih = let g = eqb-false p k e in ih (omega arith)

sets-back : (vs t : List ℕ) (k : ℕ) → sets (sets t k vs) k (words_at t k (length vs)) ≡ t
sets-back vs t k = ext_get_or 0 (sets (sets t k vs) k (words_at t k (length vs))) t long (λ p r. go p (rw long at r) (ltb p k) refl (leb (k + length vs) p) refl)
  where
    long : length (sets (sets t k vs) k (words_at t k (length vs))) ≡ length t
    long = length-sets (sets t k vs) k (words_at t k (length vs)) ∙ length-sets t k vs

    go : (p : ℕ) → p < length t → (x : Bool) → ltb p k ≡ x → (y : Bool) → leb (k + length vs) p ≡ y → get_or (sets (sets t k vs) k (words_at t k (length vs))) p 0 ≡ get_or t p 0
    go p r true e y f = sets-low (words_at t k (length vs)) (sets t k vs) k p (ltb-true _ _ e) ∙ sets-low vs t k p (ltb-true _ _ e)
    go p r false e true f = sets-high (words_at t k (length vs)) (sets t k vs) k p (rw (words-length t k (length vs)) (leb-true _ _ f)) ∙ sets-high vs t k p (leb-true _ _ f)
    go p r false e false f = words-over (length vs) t (sets t k vs) k p (ltb-false _ _ e) (leb-false _ _ f) (rw (length-sets t k vs) r)

clear-words : (n : ℕ) (t : List ℕ) (k : ℕ) → ((p : ℕ) → k ≤ p → p < k + n → get_or t p 0 ≡ 0) → words_at t k n ≡ replicate n 0
clear-words zero t k h = refl
clear-words (suc n) t k h = ap₂ (λ (x : ℕ) (l : List ℕ). x ∷ l) (h k (omega arith) (omega arith)) (clear-words n t (k + 1) (λ p a b. h p (omega arith) (omega arith)))

row_back : (t : List ℕ) (i : ℕ) (q : Row) → set_row (set_row t i q) i (row_at t i) ≡ t
unfolding set_row row_at
row_back t i q = sets-back (row_words q) t (i * 7)

-- ---- an entry made, read and zeroed
module _ (j : List ℕ) (m : ℕ) (i v : ℕ) (old : Row) where
  abbrev entry : List ℕ
  entry = i ∷ v ∷ row_words old

  pub long-entry : length (set_entry j m i v old) ≡ length j
  unfolding set_entry
  long-entry = length-sets j (m * 8) entry

  module _ (room : m < capacity_of (length j)) (C : ClearJournal j m) where
    fits : capacity_of (length j) * 8 ≤ length j
    fits = (room-is (length j)).fits

    entry-zeroed : set_entry (set_entry j m i v old) m 0 0 zero_row ≡ j
    unfolding set_entry
    entry-zeroed =
        ap (λ (l : List ℕ). sets (sets j (m * 8) entry) (m * 8) l) (sym (clear-words 8 j (m * 8) (λ p a b. C.zeros p a (omega arith))))
        ∙ sets-back entry j (m * 8)

    entry-undone : (t : List ℕ) → undo_at t (set_entry j m i v old) m ≡ undo_entry t i v old
    unfolding undo_at set_entry
    entry-undone t =
        let s : m * 8 + 2 ≡ m * 8 + 1 + 1 = omega arith in
        rw s
        (ap (λ (l : List ℕ). undo_entry t (get_or l 0 0) (get_or l 1 0) (row_of (drop 2 l))) (sets-at entry j (m * 8) (let f = fits in omega arith)))

    entry-clear : ClearJournal (set_entry j m i v old) (m + 1)
    entry-clear = record { zeros = λ p a b. let b' : p < capacity_of (length j) * 8 = rw long-entry at b in high p a ∙ C.zeros p (omega arith) b' }
      where
        high : (p : ℕ) → (m + 1) * 8 ≤ p → get_or (set_entry j m i v old) p 0 ≡ get_or j p 0
        high p a = unfold set_entry in sets-high entry j (m * 8) p (omega arith)

-- ---- what putting keeps
pub record Put (x y : Ranges) : Type 0 where
  pub clear : Clear y.table y.count
  pub blank : ClearJournal y.journal y.entries
  pub long : length y.journal ≡ length x.journal
  pub more : x.entries ≤ y.entries
  pub back : y.entries ≤ capacity_of (length y.journal) → (to : ℕ) → to ≤ x.entries → undone_ranges to y.table y.journal y.entries ≡ undone_ranges to x.table x.journal x.entries

over-more : (n cap : ℕ) → cap ≤ n → (n ≤ over_of n cap) × (cap < over_of n cap)
over-more n cap h = go (ltb cap n) refl
  where
    go : (x : Bool) → ltb cap n ≡ x → (n ≤ over_of n cap) × (cap < over_of n cap)
    go true e = let g : cap < n = ltb-true cap n e in rw (over-above n cap g) (omega arith, omega arith)
    go false e = let g : n ≤ cap = ltb-false cap n e in rw (over-most n cap g) (omega arith, omega arith)

module _ (t : List ℕ) (n : ℕ) (j : List ℕ) (m : ℕ) (J : ClearJournal j m) where
  -- nothing changed, and no entry
  pub put-none : Clear t n → Put (ranges t n j m) (ranges t n j m)
  put-none C = record { clear = C; blank = J; long = refl; more = omega arith; back = λ h to p. refl }

  -- a change, and the entry that takes it back
  pub put-entry : (t' : List ℕ) (n' i v : ℕ) (old : Row) → Clear t' n' → undo_entry t' i v old ≡ t → Put (ranges t n j m) (ranges t' n' (note_of j m i v old).table (note_of j m i v old).got)
  unfolding note_of
  put-entry t' n' i v old C e = go (ltb m (capacity_of (length j))) refl
    where
      go : (x : Bool) → ltb m (capacity_of (length j)) ≡ x
          → Put (ranges t n j m) (ranges t' n' (cond x (left (m + 1) (set_entry j m i v old)) (left (over_of m (capacity_of (length j))) j)).table (cond x (left (m + 1) (set_entry j m i v old)) (left (over_of m (capacity_of (length j))) j)).got)
      go true f =
          let r : m < capacity_of (length j) = ltb-true _ _ f in
          record {
            clear = C;
            blank = entry-clear j m i v old r J;
            long = long-entry j m i v old;
            more = omega arith;
            back = λ h to p. rw (add-one m, ranges_more to t' (set_entry j m i v old) m p, entry-undone j m i v old r J t', e, entry-zeroed j m i v old r J);
          }
      go false f =
          let o = over-more m (capacity_of (length j)) (ltb-false _ _ f) in
          record {
            clear = C;
            blank = record { zeros = λ p a b. J.zeros p (let g = o.0 in omega arith) b };
            long = refl;
            more = o.0;
            back = λ h to p. absurd (let g = o.1 in omega arith);
          }

pub put_then : {x y z : Ranges} → Put x y → Put y z → Put x z
put_then {x} {y} {z} a b = record {
  clear = b.clear;
  blank = b.blank;
  long = b.long ∙ a.long;
  more = let p = a.more in let q = b.more in omega arith;
  back = λ h to p.
      let k : capacity_of (length z.journal) ≡ capacity_of (length y.journal) = ap (λ (n : ℕ). capacity_of n) b.long in
      b.back h to (let q = a.more in omega arith) ∙ a.back (let q = b.more in omega arith) to p;
}

-- ---- what a put did
module _ (t : List ℕ) (n : ℕ) (q : Row) where
  abbrev at : ℕ
  at = lookup_of 1 t n q

  index_is : (insert_of 1 t n q).got.index ≡ at
  unfolding insert_of insert_at
  index_is = go (ltb at n) (ltb n (capacity_of (length t)))
    where
      go : (x y : Bool)
          → (cond x (left (inserted at n) t) (cond y (left (inserted at (n + 1)) (append_of (capacity_of (length t)) t n q (newest_of 1 t q) (bucket_in 1 t q))) (left (inserted at (over_of n (capacity_of (length t)))) t))).got.index ≡ at
      go true y = refl
      go false true = refl
      go false false = refl

  insert-found : at < n → insert_of 1 t n q ≡ left (inserted at n) t
  unfolding insert_of insert_at
  insert-found h = rw (lt-ltb at n h)

  put-over : capacity_of (length t) < n → put_of t n q ≡ left (change n n Vacant) t
  unfolding put_of
  put-over h = rw (lt-ltb (capacity_of (length t)) n h)

  put-new : n ≤ capacity_of (length t) → n ≤ at → put_of t n q ≡ left (change at (insert_of 1 t n q).got.count Vacant) (insert_of 1 t n q).table
  unfolding put_of put_at
  put-new r h = rw (le-ltb (capacity_of (length t)) n r, index_is, le-ltb at n h)

  put-found : n ≤ capacity_of (length t) → at < n → put_of t n q ≡ left (change at n (replace_of t at q).got) (replace_of t at q).table
  unfolding put_of put_at
  put-found r h = rw (le-ltb (capacity_of (length t)) n r, insert-found h, lt-ltb at n h)

  put_same : n ≤ capacity_of (length t) → at < n → same_row (row_at t at) q ≡ true → put_of t n q ≡ left (change at n Same) t
  put_same r h e = put-found r h ∙ unfold replace_of in rw e

  put-changed : n ≤ capacity_of (length t) → at < n → same_row (row_at t at) q ≡ false → put_of t n q ≡ left (change at n Changed) (set_row t at q)
  put-changed r h e = put-found r h ∙ unfold replace_of in rw e

  module _ (C : Clear t n) where
    -- a row that was added is taken off
    new-off : n ≤ at → off_of 1 (insert_of 1 t n q).table n ≡ t
    unfolding insert_of insert_at newest_of row_hash_of
    new-off h = rw (le-ltb at n h) (go (ltb n (capacity_of (length t))) refl)
      where
        go : (y : Bool) → ltb n (capacity_of (length t)) ≡ y
            → off_of 1 (cond y (left (inserted at (n + 1)) (append_of (capacity_of (length t)) t n q (head_at (capacity_of (length t)) t (bucket_in 1 t q)) (bucket_in 1 t q))) (left (inserted at (over_of n (capacity_of (length t)))) t)).table n ≡ t
        go true f = off-append 1 t n q refl (ltb-true _ _ f) C
        go false f = off-none 1 t n (ltb-false _ _ f)

    over-clear : (i : ℕ) → i < n → n ≤ capacity_of (length t) → Clear (set_row t i q) n
    over-clear i h r = record { zeros = λ p a b. let b' : p < capacity_of (length t) * 7 = rw (length_set_row t i q) at b in high p a ∙ C.zeros p a b' }
      where
        high : (p : ℕ) → n * 7 ≤ p → get_or (set_row t i q) p 0 ≡ get_or t p 0
        high p a = unfold set_row in sets-high (row_words q) t (i * 7) p (omega arith)

    -- one call
    pub put-noted : (j : List ℕ) (m : ℕ) → ClearJournal j m → Put (ranges t n j m) (ranges_of_lem (put_noted_of t n j m q))
    unfolding put_noted_of entry_after note_was
    put-noted j m J = go (ltb (capacity_of (length t)) n) refl (ltb at n) refl (same_row (row_at t at) q) refl
      where
        added : (t' : List ℕ) → off_of 1 t' n ≡ t → undo_entry t' n 1 zero_row ≡ t
        added t' e = unfold undo_entry in e

        changed : undo_entry (set_row t at q) at 2 (row_at t at) ≡ t
        changed = unfold undo_entry in row_back t at q

        go : (x : Bool) → ltb (capacity_of (length t)) n ≡ x → (y : Bool) → ltb at n ≡ y → (z : Bool) → same_row (row_at t at) q ≡ z → Put (ranges t n j m) (ranges_of_lem (put_noted_of t n j m q))
        go true e y f z g =
            let r : capacity_of (length t) < n = ltb-true _ _ e in
            rw (put-over r) (put-entry t n j m J t n n 1 zero_row C (added t (off-none 1 t n (omega arith))))
        go false e true f true g = rw (put_same (ltb-false _ _ e) (ltb-true _ _ f) g) (put-none t n j m J C)
        go false e true f false g =
            rw (put-changed (ltb-false _ _ e) (ltb-true _ _ f) g)
            (put-entry t n j m J (set_row t at q) n at 2 (row_at t at) (over-clear at (ltb-true _ _ f) (ltb-false _ _ e)) changed)
        go false e false f z g =
            rw (put-new (ltb-false _ _ e) (ltb-false _ _ f))
            (put-entry t n j m J (insert_of 1 t n q).table (insert_of 1 t n q).got.count n 1 zero_row (insert-added 1 refl t n q C).clear (added (insert_of 1 t n q).table (new-off (ltb-false _ _ f))))

-- without a mark too, everything above the count stays zero
pub put-clear : (t : List ℕ) (n : ℕ) (q : Row) → Clear t n → Clear (put_of t n q).table (put_of t n q).got.count
unfolding put_noted_of
put-clear t n q C = (put-noted t n q C [] 0 (record { zeros = λ p a b. refl })).clear

-- the step form: undoing to a mark is the same before and after a put, where the journal had room
pub undo_put : (t : List ℕ) (n : ℕ) (j : List ℕ) (m : ℕ) (q : Row) (to : ℕ) → Clear t n → ClearJournal j m → to ≤ m → (put_noted_of t n j m q).got.noted ≤ capacity_of (length j)
    → undone_ranges to (put_noted_of t n j m q).table (put_noted_of t n j m q).journal (put_noted_of t n j m q).got.noted ≡ undone_ranges to t j m
undo_put t n j m q to C J h r = let p = put-noted t n q C j m J in p.back (rw p.long r) to h

-- any list of calls
pub puts-noted : (ps : List Pair) (x : Ranges) → Clear x.table x.count → ClearJournal x.journal x.entries → Put x (put_noted_all x ps)
unfolding put_noted_all
puts-noted [] x C J = put-none x.table x.count x.journal x.entries J C
puts-noted (p ∷ ps) x C J =
    let a = put-noted x.table x.count (pair_row p) C x.journal x.entries J in
    put_then a (puts-noted ps (ranges_of_lem (put_noted_of x.table x.count x.journal x.entries (pair_row p))) a.clear a.blank)

pub undo_puts : (ps : List Pair) (x : Ranges) → Clear x.table x.count → ClearJournal x.journal x.entries → (put_noted_all x ps).entries ≤ capacity_of (length x.journal)
    → undone_ranges x.entries (put_noted_all x ps).table (put_noted_all x ps).journal (put_noted_all x ps).entries ≡ undone x.table x.journal
undo_puts ps x C J h = let p = puts-noted ps x C J in p.back (rw p.long h) x.entries (omega arith) ∙ ranges-done x.entries x.table x.journal x.entries (omega arith)

-- zeroed memory
pub blank-begun : (words : ℕ) → ClearJournal (replicate words 0) 0
blank-begun words = record { zeros = λ p a b. zeros words p }
