-- The table is an index set: `insert_of` does to it what `intern` does to the plain list of its rows. `step` is one call; `index-set` is any list of calls
-- on zeroed memory that stays within the capacity, and `index-set-exact` says that the count passes the capacity exactly where the plain list does.
use Prim.Native.Nat.{ℕ, ◌+◌, ◌*◌, ◌<◌, ◌≤◌}
use mathlib.Core.Path.{◌≡◌, refl, sym, ◌∙◌, ap, ap₂}
use mathlib.Core.List.{List, [], ◌∷◌, ◌++◌}
use mathlib.Core.Bool.{Bool, true, false, cond}
use mathlib.Core.Logic.{◌⊎◌, inl, inr, ⊎_elim}
use native.Mathlib.Omega.{arith}
use native.Mathlib.Nat.{zero-add}
use lib.Dec.{eqb, ltb}
use lib.ListN.{length, get_or, replicate, length-replicate}
use borrow.Author.Tests.{eqb-true, eqb-false, lt-ltb, le-ltb, ltb-true, ltb-false}
use Rattle.tables.specs.Table.{row_at, rows_from, rows_of, hit_at, key_of, hash_of, bucket_in, capacity_of, newest_of, lookup_of, append_of, over_of, insert_at, insert_of, left, inserted, Left}
use Rattle.table_laws.specs.Plain.{same_key, key_hash, row_intern, intern_all, indices_in, insert_all, indices_of, Holds}
use Rattle.tables.specs.declared.Row.{Row}
use Rattle.tables.specs.declared.Inserted.{Inserted}
use Rattle.tables.proofs.Room.{room-is}
use Rattle.table_laws.proofs.Items.{intern-none, intern-found, all-length, one_more, exact}
use Rattle.table_laws.proofs.Rows.{same-eq, rows-length, rows_get_d, length-append}
use Rattle.table_laws.proofs.Steps.{Look, found, none, look, row_low, row-top, chained_more, rows-stored, chained-begun}

-- a table begins as the empty list
pub begun : (w words : ℕ) → Holds w (replicate words 0) 0 []
unfolding rows_from
begun w words = record {
  same = refl;
  room = omega arith;
  apart = λ i j p r. absurd (omega arith);
  chained = chained-begun (key_hash w) (capacity_of (length (replicate {A = ℕ} words 0))) words;
}

-- ---- what is found
module _ (w : ℕ) (t : List ℕ) (n : ℕ) (rows : List Row) (q : Row) (H : Holds w t n rows) where
  abbrev pub hit : ℕ → Bool
  hit = hit_at t w (key_of w q)

  pub hit-is : (i : ℕ) → hit i ≡ same_key w (row_at t i) q
  unfolding hit_at
  hit-is i = refl

  pub looked : Look hit n (lookup_of w t n q)
  unfolding lookup_of newest_of
  looked =
      look (key_hash w) (capacity_of (length t)) n t H.chained hit (key_hash w q)
      (λ i e. ap (λ (k : Row). hash_of k) (same-eq (key_of w (row_at t i)) (key_of w q) (sym (hit-is i) ∙ e)))

  pub length-is : length rows ≡ n
  length-is = sym (ap (λ (x : List Row). length x) H.same) ∙ rows-length t 0 n

  pub row_is : (i : ℕ) → i < n → get_or rows i q ≡ row_at t i
  row_is i p = rw (← H.same, rows_get_d t 0 n i q p, zero-add i)

  -- no earlier row has the key of a row that is hit
  pub earlier : (i : ℕ) → i < n → hit i ≡ true → (j : ℕ) → j < i → same_key w (get_or rows j q) q ≡ false
  earlier i p e j r = rw (row_is j (omega arith), ← same-eq (key_of w (row_at t i)) (key_of w q) (sym (hit-is i) ∙ e)) (H.apart j i r p)

  pub at-found : (i : ℕ) → i < n → hit i ≡ true → row_intern (same_key w) rows q ≡ record { index = i; table = rows }
  at-found i p e = intern-found (same_key w) rows q q i (rw length-is p) (rw (row_is i p) (sym (hit-is i) ∙ e)) (earlier i p e)

  pub at_none : ((i : ℕ) → i < n → hit i ≡ false) → row_intern (same_key w) rows q ≡ record { index = length rows; table = rows ++ (q ∷ []) }
  at_none m =
      intern-none (same_key w) rows q q
      (λ i p. let r : i < n = rw length-is at p in rw (row_is i r) (sym (hit-is i) ∙ m i r))

  -- the table with one more row
  abbrev pub more : List ℕ
  more = append_of (capacity_of (length t)) t n q (newest_of w t q) (bucket_in w t q)

  pub long-more : length more ≡ length t
  long-more = length-append (capacity_of (length t)) t n q (newest_of w t q) (bucket_in w t q)

  pub holds_more : n < capacity_of (length t) → ((i : ℕ) → i < n → hit i ≡ false) → Holds w more (n + 1) (rows ++ (q ∷ []))
  unfolding newest_of
  holds_more r m = record {
    same = rows-stored (key_hash w) (capacity_of (length t)) n t q H.chained r fits ∙ ap (λ (x : List Row). x ++ (q ∷ [])) H.same;
    room = rw long-more (omega arith);
    apart = λ i j p s. go i j p s (eqb j n) refl;
    chained = rw long-more (chained_more (key_hash w) (capacity_of (length t)) n t q H.chained r fits);
  }
    where
      fits : capacity_of (length t) * 8 ≤ length t
      fits = (room-is (length t)).fits

      low : (i : ℕ) → i < n → row_at more i ≡ row_at t i
      low = row_low (key_hash w) (capacity_of (length t)) n t q H.chained r fits

      top : row_at more n ≡ q
      top = row-top (key_hash w) (capacity_of (length t)) n t q H.chained r fits

      go : (i j : ℕ) → i < j → j < n + 1 → (x : Bool) → eqb j n ≡ x → same_key w (row_at more i) (row_at more j) ≡ false
      go i j p s true e = let k : j ≡ n = eqb-true j n e in rw (k, top, low i (omega arith)) (sym (hit-is i) ∙ m i (omega arith))
      go i j p s false e = let k : j < n = let g = eqb-false j n e in omega arith in rw (low i (omega arith), low j k) (H.apart i j p k)

pub over-above : (n cap : ℕ) → cap < n → over_of n cap ≡ n
unfolding over_of
over-above n cap h = rw (lt-ltb cap n h)

pub over-most : (n cap : ℕ) → n ≤ cap → over_of n cap ≡ cap + 1
unfolding over_of
over-most n cap h = rw (le-ltb cap n h)

-- ---- one call
-- over capacity: the count says so, and the plain list is too long
abbrev pub Over : {A : Type 0} → ℕ → ℕ → List A → Type 0
Over cap n xs = (n ≡ cap + 1) × (cap < length xs)

pub record Did (w : ℕ) (t : List ℕ) (rows : List Row) (q : Row) (x : Left Inserted) : Type 0 where
  pub index : x.got.index ≡ (row_intern (same_key w) rows q).index
  pub long : length x.table ≡ length t
  pub after : Holds w x.table x.got.count (row_intern (same_key w) rows q).table ⊎ Over (capacity_of (length t)) x.got.count (row_intern (same_key w) rows q).table

pub step : (w : ℕ) (t : List ℕ) (n : ℕ) (rows : List Row) (q : Row) → Holds w t n rows → Did w t rows q (insert_of w t n q)
unfolding insert_of insert_at
step w t n rows q H = go (lookup_of w t n q) (looked w t n rows q H)
  where
    go : (i : ℕ) → Look (hit_at t w (key_of w q)) n i
        → Did w t rows q (cond (ltb i n) (left (inserted i n) t) (cond (ltb n (capacity_of (length t))) (left (inserted i (n + 1)) (more w t n rows q H)) (left (inserted i (over_of n (capacity_of (length t)))) t)))
    go i (found p e) =
        let f = at-found w t n rows q H i p e in
        rw (lt-ltb i n p) (record { index = rw f; long = refl; after = inl (rw f H) })
    go i (none e m) = rw (le-ltb i n (omega arith)) (full (ltb n (capacity_of (length t))) refl)
      where
        f : row_intern (same_key w) rows q ≡ record { index = length rows; table = rows ++ (q ∷ []) }
        f = at_none w t n rows q H m

        x : i ≡ (row_intern (same_key w) rows q).index
        x = rw f (e ∙ sym (length-is w t n rows q H))

        full : (b : Bool) → ltb n (capacity_of (length t)) ≡ b
            → Did w t rows q (cond b (left (inserted i (n + 1)) (more w t n rows q H)) (left (inserted i (over_of n (capacity_of (length t)))) t))
        full true g = record { index = x; long = long-more w t n rows q H; after = inl (rw f (holds_more w t n rows q H (ltb-true _ _ g) m)) }
        full false g =
            let r : capacity_of (length t) ≤ n = ltb-false n (capacity_of (length t)) g in
            let s : n ≤ capacity_of (length t) = H.room in
            let l = length-is w t n rows q H in
            record {
              index = x;
              long = refl;
              after = inr (over-most n (capacity_of (length t)) s, rw (f, one_more rows q) (omega arith));
            }

-- over capacity nothing comes back
pub record Stays (t : List ℕ) (n : ℕ) (x : Left Inserted) : Type 0 where
  pub count : x.got.count ≡ n
  pub table : x.table ≡ t

pub stays : (w : ℕ) (t : List ℕ) (n : ℕ) (q : Row) → capacity_of (length t) < n → Stays t n (insert_of w t n q)
unfolding insert_of insert_at
stays w t n q h = go (ltb (lookup_of w t n q) n)
  where
    go : (b : Bool) → Stays t n (cond b (left (inserted (lookup_of w t n q) n) t) (cond (ltb n (capacity_of (length t))) (left (inserted (lookup_of w t n q) (n + 1)) (append_of (capacity_of (length t)) t n q (newest_of w t q) (bucket_in w t q))) (left (inserted (lookup_of w t n q) (over_of n (capacity_of (length t)))) t)))
    go true = record { count = refl; table = refl }
    go false = rw (le-ltb n (capacity_of (length t)) (omega arith)) (record { count = over-above n (capacity_of (length t)) h; table = refl })

-- ---- any list of calls
-- within capacity: the rows, the count and the indices of the plain list
pub within : (w : ℕ) (qs : List Row) (t : List ℕ) (n : ℕ) (rows : List Row) → Holds w t n rows → length (intern_all (same_key w) rows qs) ≤ capacity_of (length t)
    → Holds w (insert_all w t n qs).table (insert_all w t n qs).got.count (intern_all (same_key w) rows qs) × (indices_of w t n qs ≡ indices_in (same_key w) rows qs)
unfolding insert_all indices_of intern_all indices_in
within w [] t n rows H r = (H, refl)
within w (q ∷ qs) t n rows H r =
    let d = step w t n rows q H in
    ⊎_elim
    (λ g.
    let s = within w qs (insert_of w t n q).table (insert_of w t n q).got.count (row_intern (same_key w) rows q).table g (rw d.long r) in
    (s.0, ap₂ (λ (i : ℕ) (l : List ℕ). i ∷ l) d.index s.1))
    (λ o. absurd (let a = all-length (same_key w) qs (row_intern (same_key w) rows q).table in let b = o.1 in omega arith))
    d.after

-- beyond it: the count is capacity + 1
over-stays : (w : ℕ) (qs : List Row) (t : List ℕ) (n : ℕ) → n ≡ capacity_of (length t) + 1 → (insert_all w t n qs).got.count ≡ capacity_of (length t) + 1
unfolding insert_all
over-stays w [] t n e = e
over-stays w (q ∷ qs) t n e =
    let s = stays w t n q (omega arith) in
    let k : capacity_of (length (insert_of w t n q).table) + 1 ≡ capacity_of (length t) + 1 = ap (λ (l : List ℕ). capacity_of (length l) + 1) s.table in
    over-stays w qs (insert_of w t n q).table (insert_of w t n q).got.count (s.count ∙ e ∙ sym k) ∙ k

pub beyond : (w : ℕ) (qs : List Row) (t : List ℕ) (n : ℕ) (rows : List Row) → Holds w t n rows → capacity_of (length t) < length (intern_all (same_key w) rows qs)
    → (insert_all w t n qs).got.count ≡ capacity_of (length t) + 1
unfolding insert_all intern_all
beyond w [] t n rows H r = absurd (let a = H.room in let b = length-is w t n rows (row_at t 0) H in omega arith)
beyond w (q ∷ qs) t n rows H r =
    let d = step w t n rows q H in
    let k : capacity_of (length (insert_of w t n q).table) + 1 ≡ capacity_of (length t) + 1 = ap (λ (x : ℕ). capacity_of x + 1) d.long in
    ⊎_elim
    (λ g. beyond w qs (insert_of w t n q).table (insert_of w t n q).got.count (row_intern (same_key w) rows q).table g (rw d.long r) ∙ k)
    (λ o. over-stays w qs (insert_of w t n q).table (insert_of w t n q).got.count (o.0 ∙ sym k) ∙ k)
    d.after

-- ---- from zeroed memory, for any list of calls
module _ (w : ℕ) (qs : List Row) (words : ℕ) where
  abbrev after : Left Inserted
  after = insert_all w (replicate words 0) 0 qs

  abbrev plain : List Row
  plain = intern_all (same_key w) [] qs

  pub index-set : length plain ≤ capacity_of words
      → (rows_of after.table after.got.count ≡ plain) × (after.got.count ≡ length plain) × (indices_of w (replicate words 0) 0 qs ≡ indices_in (same_key w) [] qs)
  index-set r =
      let s = within w qs (replicate words 0) 0 [] (begun w words) (rw (length-replicate {A = ℕ} words 0) r) in
      (s.0.same, sym (length-is w after.table after.got.count plain (row_at [] 0) s.0), s.1)

  pub index-set-full : capacity_of words < length plain → after.got.count ≡ capacity_of words + 1
  index-set-full r = rw (length-replicate {A = ℕ} words 0) at (beyond w qs (replicate words 0) 0 [] (begun w words) (rw (length-replicate {A = ℕ} words 0) r))

  -- the count exceeds the capacity exactly where the plain list does
  pub index-set-exact : ((capacity_of words < after.got.count) → capacity_of words < length plain) × ((capacity_of words < length plain) → capacity_of words < after.got.count)
  index-set-exact = exact (λ r. (index-set r).1) index-set-full
