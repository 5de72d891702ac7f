-- The table is a map from starts to locations: `put_of` does to it what `put_rows` does to the plain list of its rows. `step` is one call; `get-last` says, for any
-- list of puts on zeroed memory that stays within the capacity, that `get_of` gives the last location put at a start; `map-exact` is as `index-set-exact`.
use Prim.Native.Nat.{ℕ, ◌+◌, ◌<◌, ◌≤◌}
use mathlib.Core.Path.{◌≡◌, refl, sym, ◌∙◌, ap}
use mathlib.Core.List.{List, [], ◌∷◌, ◌++◌}
use mathlib.Core.Bool.{Bool, true, false, cond}
use mathlib.Core.Logic.{◌⊎◌, inl, inr, ⊎_elim}
use native.Mathlib.Omega.{arith}
use native.Mathlib.Nat.{zero-add}
use lib.Dec.{eqb, ltb}
use lib.ListN.{length, get_or, set, replicate, length-replicate}
use lib.Seq.{set-get_or}
use borrow.Author.Tests.{eqb-true, eqb-false, lt-ltb, le-ltb, ltb-true, ltb-false}
use Rattle.tables.specs.Table.{row_at, rows_of, hit_at, key_of, same_row, hash_of, capacity_of, lookup_of, over_of, insert_at, insert_of, set_row, left, inserted, Left}
use Rattle.tables.specs.Ranges.{get_of, put_of, put_at, replace_of, change, start_row_lem, location_of_lem}
use Rattle.table_laws.specs.Plain.{key_hash, put_rows, was_in, put_all, put_all_rows, last_put_lem, Pair, pair_row, Holds}
use Rattle.tables.specs.declared.Row.{Row}
use Rattle.std.specs.Prelude.{Option, Some, None}
use Rattle.raw.specs.declared.SourceLocation.{SourceLocation}
use Rattle.tables.specs.declared.ranges.Was.TheVariants.{Vacant, Same, Changed}
use Rattle.tables.specs.declared.ranges.Change.{Change}
use Rattle.tables.proofs.Room.{room-is}
use Rattle.table_laws.proofs.Items.{by_none, by_found, one_more, exact}
use Rattle.table_laws.proofs.Rows.{same-eq, same-one, rows-set, set-row-same, set-row-other, length_set_row}
use Rattle.table_laws.proofs.Steps.{Look, found, none, chained-over}
use Rattle.table_laws.proofs.Sets.{begun, hit-is, looked, length-is, row_is, earlier, more, long-more, holds_more, over-most, Over}

-- ---- the plain map
-- q's start is nowhere among the rows
module _ (rows : List Row) (q d : Row) (h : (i : ℕ) → i < length rows → eqb (get_or rows i d).a q.a ≡ false) where
  put-none : put_rows rows q ≡ rows ++ (q ∷ [])
  unfolding put_rows
  put-none = by_none (λ (x : Row). eqb x.a q.a) d (λ (l : List Row). put_rows l q ≡ l ++ (q ∷ [])) refl (λ x xs e ih. rw e (ap (λ (l : List Row). x ∷ l) ih)) rows h

  was-none : was_in rows q ≡ Vacant
  unfolding was_in
  was-none = by_none (λ (x : Row). eqb x.a q.a) d (λ (l : List Row). was_in l q ≡ Vacant) refl (λ x xs e ih. rw e ih) rows h

-- its first place is i
module _ (rows : List Row) (q d : Row) (i : ℕ) (p : i < length rows) (e : eqb (get_or rows i d).a q.a ≡ true) (h : (j : ℕ) → j < i → eqb (get_or rows j d).a q.a ≡ false) where
  put-found : put_rows rows q ≡ set rows i q
  unfolding put_rows
  put-found = by_found (λ (x : Row). eqb x.a q.a) d (λ (l : List Row) (k : ℕ). put_rows l q ≡ set l k q) (λ x xs f. rw f) (λ x xs k f ih. rw f (ap (λ (l : List Row). x ∷ l) ih)) rows i p e h

  was-found : was_in rows q ≡ cond (same_row (get_or rows i d) q) Same Changed
  unfolding was_in
  was-found = by_found (λ (x : Row). eqb x.a q.a) d (λ (l : List Row) (k : ℕ). was_in l q ≡ cond (same_row (get_or l k d) q) Same Changed) (λ x xs f. rw f) (λ x xs k f ih. rw f ih) rows i p e h

put-length : (rows : List Row) (q : Row) → length rows ≤ length (put_rows rows q)
unfolding put_rows
put-length [] q = omega arith
put-length (x ∷ xs) q = go (eqb x.a q.a) (put-length xs q)
  where
    go : (b : Bool) → length xs ≤ length (put_rows xs q) → length (x ∷ xs) ≤ length (cond b (q ∷ xs) (x ∷ put_rows xs q))
    go true h = omega arith
    go false h = omega arith

-- the first location at a start
unfoldable pub loc_in : List Row → ℕ → Option SourceLocation
loc_in [] s = None
loc_in (x ∷ xs) s = cond (eqb x.a s) (Some (location_of_lem x)) (loc_in xs s)

loc-none : (rows : List Row) (s : ℕ) (d : Row) → ((i : ℕ) → i < length rows → eqb (get_or rows i d).a s ≡ false) → loc_in rows s ≡ None
unfolding loc_in
loc-none rows s d = by_none (λ (x : Row). eqb x.a s) d (λ (l : List Row). loc_in l s ≡ None) refl (λ x xs e ih. rw e ih) rows

loc-found : (rows : List Row) (s : ℕ) (d : Row) (i : ℕ) → i < length rows → eqb (get_or rows i d).a s ≡ true → ((j : ℕ) → j < i → eqb (get_or rows j d).a s ≡ false)
    → loc_in rows s ≡ Some (location_of_lem (get_or rows i d))
unfolding loc_in
loc-found rows s d = by_found (λ (x : Row). eqb x.a s) d (λ (l : List Row) (k : ℕ). loc_in l s ≡ Some (location_of_lem (get_or l k d))) (λ x xs f. rw f) (λ x xs k f ih. rw f ih) rows

loc-put : (rows : List Row) (q : Row) (s : ℕ) → loc_in (put_rows rows q) s ≡ cond (eqb q.a s) (Some (location_of_lem q)) (loc_in rows s)
unfolding loc_in put_rows
loc-put [] q s = refl
loc-put (x ∷ xs) q s = go (eqb x.a q.a) refl (eqb q.a s) refl (eqb x.a s) refl (loc-put xs q s)
  where
    go : (b : Bool) → eqb x.a q.a ≡ b → (d : Bool) → eqb q.a s ≡ d → (e : Bool) → eqb x.a s ≡ e
        → loc_in (put_rows xs q) s ≡ cond (eqb q.a s) (Some (location_of_lem q)) (loc_in xs s)
        → loc_in (cond b (q ∷ xs) (x ∷ put_rows xs q)) s ≡ cond (eqb q.a s) (Some (location_of_lem q)) (cond (eqb x.a s) (Some (location_of_lem x)) (loc_in xs s))
    go true f true g e h ih = rw g
    go true f false g true h ih = absurd (eqb-false q.a s g (sym (eqb-true x.a q.a f) ∙ eqb-true x.a s h))
    go true f false g false h ih = rw (g, h)
    go false f true g true h ih = absurd (eqb-false x.a q.a f (eqb-true x.a s h ∙ sym (eqb-true q.a s g)))
    go false f d g false h ih = rw (h) ih
    go false f false g true h ih = rw (g, h)

-- ---- one call
-- in a table that is the list `rows`, the row found is the first with q's start
module _ (t : List ℕ) (n : ℕ) (rows : List Row) (q : Row) (H : Holds 1 t n rows) where
  start_is : (i : ℕ) → i < n → eqb (get_or rows i q).a q.a ≡ hit_at t 1 (key_of 1 q) i
  start_is i p = rw (hit-is 1 t n rows q H i, ← row_is 1 t n rows q H i p) (sym (same-one (get_or rows i q) q))

  no_start : ((i : ℕ) → i < n → hit_at t 1 (key_of 1 q) i ≡ false) → (i : ℕ) → i < length rows → eqb (get_or rows i q).a q.a ≡ false
  no_start m i p = let r : i < n = rw (length-is 1 t n rows q H) at p in start_is i r ∙ m i r

  no_earlier : (i : ℕ) → i < n → hit_at t 1 (key_of 1 q) i ≡ true → (j : ℕ) → j < i → eqb (get_or rows j q).a q.a ≡ false
  no_earlier i p e j r = sym (same-one (get_or rows j q) q) ∙ earlier 1 t n rows q H i p e j r

  -- the table with row i overwritten
  holds-over : (i : ℕ) → i < n → hit_at t 1 (key_of 1 q) i ≡ true → Holds 1 (set_row t i q) n (set rows i q)
  holds-over i p e = record {
    same = rows-set t (set_row t i q) q 0 n i p (rw zero-add top) (λ j r. other j (λ z. r (z ∙ sym (zero-add i)))) ∙ ap (λ (x : List Row). set x i q) H.same;
    room = rw long H.room;
    apart = λ j k a b. rw (key j, key k) (H.apart j k a b);
    chained = rw long (chained-over (key_hash 1) (capacity_of (length t)) n t q H.chained i p H.room (room-is (length t)).fits (ap (λ (k : Row). hash_of k) (sym same)));
  }
    where
      long : length (set_row t i q) ≡ length t
      long = length_set_row t i q

      same : key_of 1 (row_at t i) ≡ key_of 1 q
      same = same-eq (key_of 1 (row_at t i)) (key_of 1 q) (sym (hit-is 1 t n rows q H i) ∙ e)

      top : row_at (set_row t i q) i ≡ q
      top = set-row-same t i q (let f = (room-is (length t)).fits in let r = H.room in omega arith)

      other : (j : ℕ) → (j ≡ i → ⊥) → row_at (set_row t i q) j ≡ row_at t j
      other = set-row-other t i q

      key : (j : ℕ) → key_of 1 (row_at (set_row t i q) j) ≡ key_of 1 (row_at t j)
      key j = go (eqb j i) refl
        where
          go : (x : Bool) → eqb j i ≡ x → key_of 1 (row_at (set_row t i q) j) ≡ key_of 1 (row_at t j)
          go true z = rw (eqb-true j i z, top) (sym same)
          go false z = ap (key_of 1) (other j (eqb-false j i z))

pub record Did (t : List ℕ) (rows : List Row) (q : Row) (x : Left Change) : Type 0 where
  pub was : x.got.was ≡ was_in rows q
  pub long : length x.table ≡ length t
  pub after : Holds 1 x.table x.got.count (put_rows rows q) ⊎ Over (capacity_of (length t)) x.got.count (put_rows rows q)

pub step : (t : List ℕ) (n : ℕ) (rows : List Row) (q : Row) → Holds 1 t n rows → Did t rows q (put_of t n q)
unfolding put_of insert_of insert_at put_at replace_of
step t n rows q H = rw (le-ltb (capacity_of (length t)) n H.room) (go (lookup_of 1 t n q) (looked 1 t n rows q H))
  where
    len : length rows ≡ n
    len = length-is 1 t n rows q H

    go : (i : ℕ) → Look (hit_at t 1 (key_of 1 q)) n i
        → Did t rows q (put_at n q (cond (ltb i n) (left (inserted i n) t) (cond (ltb n (capacity_of (length t))) (left (inserted i (n + 1)) (more 1 t n rows q H)) (left (inserted i (over_of n (capacity_of (length t)))) t))))
    go i (found p e) = rw (lt-ltb i n p, lt-ltb i n p) (at (same_row (row_at t i) q) refl)
      where
        l : i < length rows
        l = omega (arith, len)

        first : eqb (get_or rows i q).a q.a ≡ true
        first = start_is t n rows q H i p ∙ e

        f : put_rows rows q ≡ set rows i q
        f = put-found rows q q i l first (no_earlier t n rows q H i p e)

        w : was_in rows q ≡ cond (same_row (row_at t i) q) Same Changed
        w = was-found rows q q i l first (no_earlier t n rows q H i p e) ∙ ap (λ (r : Row). cond (same_row r q) Same Changed) (row_is 1 t n rows q H i p)

        at : (b : Bool) → same_row (row_at t i) q ≡ b
            → Did t rows q (left (change i n (cond b (left Same t) (left Changed (set_row t i q))).got) (cond b (left Same t) (left Changed (set_row t i q))).table)
        at true g = record {
          was = sym (w ∙ rw g);
          long = refl;
          after = inl (rw (f, ← (row_is 1 t n rows q H i p ∙ same-eq (row_at t i) q g), set-get_or rows i q) H);
        }
        at false g = record { was = sym (w ∙ rw g); long = length_set_row t i q; after = inl (rw f (holds-over t n rows q H i p e)) }
    go i (none e m) = rw (le-ltb i n (omega arith)) (full (ltb n (capacity_of (length t))) refl)
      where
        f : put_rows rows q ≡ rows ++ (q ∷ [])
        f = put-none rows q q (no_start t n rows q H m)

        w : Vacant ≡ was_in rows q
        w = sym (was-none rows q q (no_start t n rows q H m))

        full : (b : Bool) → ltb n (capacity_of (length t)) ≡ b
            → Did t rows q (put_at n q (cond b (left (inserted i (n + 1)) (more 1 t n rows q H)) (left (inserted i (over_of n (capacity_of (length t)))) t)))
        full true g = rw (le-ltb i n (omega arith)) (record { was = w; long = long-more 1 t n rows q H; after = inl (rw f (holds_more 1 t n rows q H (ltb-true _ _ g) m)) })
        full false g =
            let r : capacity_of (length t) ≤ n = ltb-false n (capacity_of (length t)) g in
            rw (le-ltb i n (omega arith))
            (record { was = w; long = refl; after = inr (over-most n (capacity_of (length t)) H.room, rw (f, one_more rows q) (omega (arith, len))) })

-- over capacity the count stays
pub put-stays : (t : List ℕ) (n : ℕ) (q : Row) → capacity_of (length t) < n → put_of t n q ≡ left (change n n Vacant) t
unfolding put_of
put-stays t n q h = rw (lt-ltb (capacity_of (length t)) n h)

pub get-is : (t : List ℕ) (n : ℕ) (rows : List Row) (s : ℕ) → Holds 1 t n rows → get_of t n s ≡ loc_in rows s
unfolding get_of
get-is t n rows s H = go (lookup_of 1 t n (start_row_lem s)) (looked 1 t n rows (start_row_lem s) H)
  where
    go : (i : ℕ) → Look (hit_at t 1 (key_of 1 (start_row_lem s))) n i → cond (ltb i n) (Some (location_of_lem (row_at t i))) None ≡ loc_in rows s
    go i (found p e) =
        rw (lt-ltb i n p, ← row_is 1 t n rows (start_row_lem s) H i p)
        (sym (loc-found rows s (start_row_lem s) i (rw (length-is 1 t n rows (start_row_lem s) H) p) (start_is t n rows (start_row_lem s) H i p ∙ e) (no_earlier t n rows (start_row_lem s) H i p e)))
    go i (none e m) = rw (le-ltb i n (omega arith)) (sym (loc-none rows s (start_row_lem s) (no_start t n rows (start_row_lem s) H m)))

-- ---- any list of puts
pub all-length : (ps : List Pair) (rows : List Row) → length rows ≤ length (put_all_rows rows ps)
unfolding put_all_rows
all-length [] rows = omega arith
all-length (p ∷ ps) rows = let a = put-length rows (pair_row p) in let b = all-length ps (put_rows rows (pair_row p)) in omega arith

within : (ps : List Pair) (t : List ℕ) (n : ℕ) (rows : List Row) → Holds 1 t n rows → length (put_all_rows rows ps) ≤ capacity_of (length t)
    → Holds 1 (put_all t n ps).table (put_all t n ps).got.count (put_all_rows rows ps)
unfolding put_all put_all_rows
within [] t n rows H r = H
within (p ∷ ps) t n rows H r =
    let d = step t n rows (pair_row p) H in
    ⊎_elim
    (λ g. within ps (put_of t n (pair_row p)).table (put_of t n (pair_row p)).got.count (put_rows rows (pair_row p)) g (rw d.long r))
    (λ o. absurd (let a = all-length ps (put_rows rows (pair_row p)) in let b = o.1 in omega arith))
    d.after

over-stays : (ps : List Pair) (t : List ℕ) (n : ℕ) → n ≡ capacity_of (length t) + 1 → (put_all t n ps).got.count ≡ capacity_of (length t) + 1
unfolding put_all
over-stays [] t n e = e
over-stays (p ∷ ps) t n e =
    ap (λ (x : Left Change). (put_all x.table x.got.count ps).got.count) (put-stays t n (pair_row p) (omega arith)) ∙ over-stays ps t n e

beyond : (ps : List Pair) (t : List ℕ) (n : ℕ) (rows : List Row) → Holds 1 t n rows → capacity_of (length t) < length (put_all_rows rows ps)
    → (put_all t n ps).got.count ≡ capacity_of (length t) + 1
unfolding put_all put_all_rows
beyond [] t n rows H r = absurd (let a = H.room in let b = length-is 1 t n rows (row_at t 0) H in omega arith)
beyond (p ∷ ps) t n rows H r =
    let d = step t n rows (pair_row p) H in
    let k : capacity_of (length (put_of t n (pair_row p)).table) + 1 ≡ capacity_of (length t) + 1 = ap (λ (l : ℕ). capacity_of l + 1) d.long in
    ⊎_elim
    (λ g. beyond ps (put_of t n (pair_row p)).table (put_of t n (pair_row p)).got.count (put_rows rows (pair_row p)) g (rw d.long r) ∙ k)
    (λ o. over-stays ps (put_of t n (pair_row p)).table (put_of t n (pair_row p)).got.count (o.0 ∙ sym k) ∙ k)
    d.after

loc-last : (ps : List Pair) (rows : List Row) (s : ℕ) → loc_in (put_all_rows rows ps) s ≡ last_put_lem (loc_in rows s) ps s
unfolding put_all_rows last_put_lem
loc-last [] rows s = refl
loc-last (p ∷ ps) rows s = loc-last ps (put_rows rows (pair_row p)) s ∙ ap (λ (f : Option SourceLocation). last_put_lem f ps s) (loc-put rows (pair_row p) s)

-- ---- from zeroed memory, for any list of puts
module _ (ps : List Pair) (words : ℕ) where
  abbrev after : Left Change
  after = put_all (replicate words 0) 0 ps

  abbrev plain : List Row
  plain = put_all_rows [] ps

  map-holds : length plain ≤ capacity_of words → Holds 1 after.table after.got.count plain
  map-holds r = within ps (replicate words 0) 0 [] (begun 1 words) (rw (length-replicate {A = ℕ} words 0) r)

  pub get-last : length plain ≤ capacity_of words → (s : ℕ) → get_of after.table after.got.count s ≡ last_put_lem None ps s
  unfolding loc_in
  get-last r s = get-is after.table after.got.count plain s (map-holds r) ∙ loc-last ps [] s

  pub map_rows : length plain ≤ capacity_of words → (rows_of after.table after.got.count ≡ plain) × (after.got.count ≡ length plain)
  map_rows r = ((map-holds r).same, sym (length-is 1 after.table after.got.count plain (row_at [] 0) (map-holds r)))

  pub map-full : capacity_of words < length plain → after.got.count ≡ capacity_of words + 1
  map-full r = rw (length-replicate {A = ℕ} words 0) at (beyond ps (replicate words 0) 0 [] (begun 1 words) (rw (length-replicate {A = ℕ} words 0) r))

  -- the count exceeds the capacity exactly where the plain map does
  pub map-exact : ((capacity_of words < after.got.count) → capacity_of words < length plain) × ((capacity_of words < length plain) → capacity_of words < after.got.count)
  map-exact = exact (λ r. (map_rows r).1) map-full
