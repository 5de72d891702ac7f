-- INTERNING ROWS OF WORDS IS INTERNING ROWS OF REFERENCES: where words tell rows apart, table_laws' `row_intern` over words gives the index of the model's `intern`, and the words of
-- the table that it leaves. And what the functions of a table do, said of the plain rows: an index set (`added`), the ranges (`placed`, `got`), the texts (`stored`).
use mathlib.Core.Path.{◌≡◌, refl, sym, ap, ◌∙◌, subst}
use mathlib.Core.Bool.{Bool, true, false, cond, ◌&&◌}
use mathlib.Core.Option.{Option, none, some}
use mathlib.Core.Logic.{◌⊎◌, inl, inr, ⊎_elim}
use mathlib.Core.List.{List, [], ◌∷◌, map}
use Prim.Native.Nat.{ℕ, suc, ◌≤◌, ◌<◌}
use native.Mathlib.Omega.{arith}
use lib.Dec.{eqb, ltb}
use lib.ListN.{length, take, length-map}
use borrow.Author.Tests.{eqb-true, eqb-false, eq-eqb, ne_eqb, ltb-true, ltb-false}
use Rattle.slices.proofs.Cases.{false-true}
use Rattle.model.specs.Basics.{Entry, Interned, intern}
use Rattle.model.specs.Rows.{Text}
use Rattle.model.specs.Converter.{Location, text_eq, intern_text, range_at, range_put}
use Rattle.model.specs.Counts.{text_size, text_bytes}
use Rattle.model.specs.FileWords.{text_word}
use Rattle.model.proofs.Intern.{At, intern-at, at_length}
use Rattle.model.proofs.Chains.{store_grows, store_reads}
use Rattle.model.proofs.Always.{Within, reads_within}
use Rattle.tables.specs.Table.{Left, capacity_of, insert_of, same_row, same_words, row_words, key_of, row_at}
use Rattle.tables.specs.Ranges.{get_of, put_of, location_of_lem}
use Rattle.strings.specs.Strings.{text_capacity_of, text_size_lem, insert_text_of, StringsLeft}
use Rattle.table_laws.specs.Plain.{same_key, put_rows, Holds}
use Rattle.table_laws.specs.Plain.{row_intern}
use Rattle.table_laws.specs.PlainTexts.{text_bytes_lem, text_offset_lem, with_text, offset_in, Texts}
use Rattle.tables.specs.declared.Row.{Row}
use Rattle.tables.specs.declared.Inserted.{Inserted}
use Rattle.std.specs.Prelude.{Some as Held}
use Rattle.table_laws.proofs.Rows.{same-eq, words-refl}
use Rattle.table_laws.proofs.Sets.{Over}
use Rattle.table_laws.proofs.Sets as sets
use Rattle.table_laws.proofs.Maps as maps
use Rattle.table_laws.proofs.TextTables as texts
use Rattle.steps.specs.Steps.{held}
use Rattle.raw.specs.declared.SourceLocation.{SourceLocation}
use Rattle.demand3.proofs.WordRows.{range_row, source, range_row-location, grows_offset}

-- ── The two ways to intern ──

module _ {A B : Type 0} (f : A → B) (eq : A → A → Bool) (eq' : B → B → Bool) where
  intern-is : (xs : List A) (a : A) → ((i : ℕ) (x : A) → At xs i x → eq' (f x) (f a) ≡ eq x a)
      → ((row_intern eq' (map f xs) (f a)).index ≡ (intern eq xs a).index) × ((row_intern eq' (map f xs) (f a)).table ≡ map f (intern eq xs a).table)
  unfolding intern row_intern
  intern-is [] a h = (refl, refl)
  intern-is (x ∷ xs) a h = go (eq x a) refl (intern-is xs a (λ i y k. h (suc i) y k))
    where
      go : (b : Bool) → eq x a ≡ b → ((row_intern eq' (map f xs) (f a)).index ≡ (intern eq xs a).index) × ((row_intern eq' (map f xs) (f a)).table ≡ map f (intern eq xs a).table)
          → ((row_intern eq' (f x ∷ map f xs) (f a)).index ≡ (intern eq (x ∷ xs) a).index) × ((row_intern eq' (f x ∷ map f xs) (f a)).table ≡ map f (intern eq (x ∷ xs) a).table)
      go true e ih = rw (h 0 x refl, e, intern) (refl, refl)
      go false e ih = rw (h 0 x refl, e, intern) (ap suc ih.0, ap (λ (l : List B). f x ∷ l) ih.1)

-- the index of what was interned lies within the table
pub intern-below : {A : Type 0} (eq : A → A → Bool) → ((x a : A) → eq x a ≡ true → x ≡ a) → (xs : List A) (a : A) → (intern eq xs a).index < length (intern eq xs a).table
intern-below eq ok xs a = at_length (intern eq xs a).table (intern eq xs a).index a (intern-at eq ok xs a)

same_refl : (x : Row) → same_row x x ≡ true
unfolding same_row
same_refl x = words-refl (row_words x)

-- six words are the same where the rows are
row_same : (x y : Row) → same_key 6 x y ≡ same_row x y
unfolding key_of
row_same x y = refl

module _ {A : Type 0} (f : A → Row) (eq : A → A → Bool) (ok : (x a : A) → eq x a ≡ true → x ≡ a) (whole : (a : A) → eq a a ≡ true) where
  words_tell : (x a : A) → (f x ≡ f a → x ≡ a) → same_key 6 (f x) (f a) ≡ eq x a
  words_tell x a one = go (eq x a) refl (same_key 6 (f x) (f a)) refl
    where
      go : (b : Bool) → eq x a ≡ b → (c : Bool) → same_key 6 (f x) (f a) ≡ c → same_key 6 (f x) (f a) ≡ b
      go true e c z = let p : f x ≡ f a = ap f (ok x a e) in row_same (f x) (f a) ∙ (rw p (same_refl (f a)))
      go false e true z = let p : x ≡ a = one (same-eq (f x) (f a) (sym (row_same (f x) (f a)) ∙ z)) in false-true (sym e ∙ (rw p (whole a)))
      go false e false z = z

  -- ── An index set ──

  pub record Added (t : List ℕ) (r : Interned A) (x : Left Inserted) : Type 0 where
    pub index : x.got.index ≡ r.index
    pub after : Holds 6 x.table x.got.count (map f r.table) ⊎ ((capacity_of (length t) < x.got.count) × (capacity_of (length t) < length r.table))

  pub added : (t : List ℕ) (n : ℕ) (xs : List A) (a : A) → Holds 6 t n (map f xs) → ((i : ℕ) (x : A) → At xs i x → f x ≡ f a → x ≡ a) → Added t (intern eq xs a) (insert_of 6 t n (f a))
  added t n xs a h one =
      let d = sets.step 6 t n (map f xs) (f a) h in
      let (i, g) = intern-is f eq (same_key 6) xs a (λ j x k. words_tell x a (one j x k)) in
      record {
        index = d.index ∙ i;
        after =
            ⊎_elim (λ k. inl (subst (Holds 6 (insert_of 6 t n (f a)).table (insert_of 6 t n (f a)).got.count) g k))
            (λ (p, q). inr (omega (arith, p), rw (g, length-map) at q))
            d.after;
      }

-- its count
pub holds-count : {A : Type 0} (f : A → Row) (w : ℕ) (t : List ℕ) (n : ℕ) (xs : List A) → Holds w t n (map f xs) → length xs ≡ n
holds-count f w t n xs h = sym (length-map xs f) ∙ sets.length-is w t n (map f xs) (row_at t 0) h

-- one whose count is above its capacity stays so
pub set_back : (t : List ℕ) (n : ℕ) (q : Row) → (insert_of 6 t n q).got.count ≤ capacity_of (length (insert_of 6 t n q).table) → n ≤ capacity_of (length t)
set_back t n q h = go (ltb (capacity_of (length t)) n) refl
  where
    go : (b : Bool) → ltb (capacity_of (length t)) n ≡ b → n ≤ capacity_of (length t)
    go true e =
        let s = sets.stays 6 t n q (ltb-true _ _ e) in
        let k : capacity_of (length (insert_of 6 t n q).table) ≡ capacity_of (length t) = ap (λ (l : List ℕ). capacity_of (length l)) s.table in
        omega (arith, s.count)
    go false e = ltb-false _ _ e

-- ── The ranges ──

eqb-turned : (m n : ℕ) → eqb m n ≡ eqb n m
eqb-turned m n = go (eqb n m) refl
  where
    go : (b : Bool) → eqb n m ≡ b → eqb m n ≡ b
    go true e = eq-eqb m n (sym (eqb-true n m e))
    go false e = ne_eqb m n (λ z. eqb-false n m e (sym z))

abbrev entry : ℕ → Location → Entry Location
entry k l = record { key = k; value = l }

put_is : (rs : List (Entry Location)) (k : ℕ) (l : Location) → put_rows (map range_row rs) (range_row (entry k l)) ≡ map range_row (range_put k l rs)
unfolding put_rows range_put
put_is [] k l = refl
put_is (e ∷ es) k l = rw (eqb-turned e.key k) (go (eqb k e.key) (put_is es k l))
  where
    go : (b : Bool) → put_rows (map range_row es) (range_row (entry k l)) ≡ map range_row (range_put k l es)
        → cond b (range_row (entry k l) ∷ map range_row es) (range_row e ∷ put_rows (map range_row es) (range_row (entry k l))) ≡ map range_row (cond b (entry k l ∷ es) (e ∷ range_put k l es))
    go true h = refl
    go false h = ap (λ (x : List Row). range_row e ∷ x) h

pub placed : (t : List ℕ) (n : ℕ) (rs : List (Entry Location)) (k : ℕ) (l : Location) → Holds 1 t n (map range_row rs) → let x = put_of t n (range_row (entry k l)) in
    Holds 1 x.table x.got.count (map range_row (range_put k l rs)) ⊎ ((capacity_of (length t) < x.got.count) × (capacity_of (length t) < length (range_put k l rs)))
placed t n rs k l h =
    let x = put_of t n (range_row (entry k l)) in
    ⊎_elim (λ z. inl (subst (Holds 1 x.table x.got.count) (put_is rs k l) z)) (λ (p, q). inr (omega (arith, p), rw (put_is rs k l, length-map) at q))
    (maps.step t n (map range_row rs) (range_row (entry k l)) h).after

-- what a start holds, by value
abbrev pub shown : Option Location → Option SourceLocation
shown none = none
shown (some l) = some (source l)

find-is : (rs : List (Entry Location)) (k : ℕ) → held (maps.loc_in (map range_row rs) k) ≡ shown (range_at rs k)
unfolding maps.loc_in range_at
find-is [] k = refl
find-is (e ∷ es) k = rw (eqb-turned e.key k) (go (eqb k e.key) (find-is es k))
  where
    go : (b : Bool) → held (maps.loc_in (map range_row es) k) ≡ shown (range_at es k)
        → held (cond b (Held (location_of_lem (range_row e))) (maps.loc_in (map range_row es) k)) ≡ shown (cond b (some e.value) (range_at es k))
    go true h = ap some (range_row-location e)
    go false h = h

pub got : (t : List ℕ) (n : ℕ) (rs : List (Entry Location)) (k : ℕ) → Holds 1 t n (map range_row rs) → held (get_of t n k) ≡ shown (range_at rs k)
got t n rs k h = ap held (maps.get-is t n (map range_row rs) k h) ∙ find-is rs k

pub put_back : (t : List ℕ) (n : ℕ) (q : Row) → (put_of t n q).got.count ≤ capacity_of (length (put_of t n q).table) → n ≤ capacity_of (length t)
put_back t n q h = go (ltb (capacity_of (length t)) n) refl
  where
    go : (b : Bool) → ltb (capacity_of (length t)) n ≡ b → n ≤ capacity_of (length t)
    go true e = rw (maps.put-stays t n q (ltb-true _ _ e)) at h
    go false e = ltb-false _ _ e

-- ── The texts ──

same_text : (s t : Text) → same_words s t ≡ text_eq s t
same_text [] [] = refl
same_text [] (b ∷ t) = refl
same_text (a ∷ s) [] = refl
same_text (a ∷ s) (b ∷ t) = ap (λ (c : Bool). eqb a b && c) (same_text s t)

map-self : {A : Type 0} (xs : List A) → map (λ (x : A). x) xs ≡ xs
map-self [] = refl
map-self {A} (x ∷ xs) = ap (λ (l : List A). x ∷ l) (map-self xs)

text-intern : (ts : List Text) (t : Text) → ((row_intern same_words ts t).index ≡ (intern text_eq ts t).index) × ((row_intern same_words ts t).table ≡ (intern text_eq ts t).table)
text-intern ts t =
    let (i, g) = intern-is (λ (x : Text). x) text_eq same_words ts t (λ j x k. same_text x t) in
    (ap (λ (l : List Text). (row_intern same_words l t).index) (sym (map-self ts)) ∙ i, ap (λ (l : List Text). (row_intern same_words l t).table) (sym (map-self ts)) ∙ (g ∙ map-self _))

size_same : (t : Text) → text_size_lem t ≡ text_size t
unfolding text_size_lem text_size
size_same t = refl

pub bytes_same : (ts : List Text) → text_bytes_lem ts ≡ text_bytes ts
bytes_same [] = refl
bytes_same (t ∷ ts) = let a = size_same t in let b = bytes_same ts in omega arith

with-is : (ts : List Text) (t : Text) → with_text ts t ≡ (intern_text ts t).table
unfolding with_text intern_text
with-is ts [] = refl
with-is ts (b ∷ t) = (text-intern ts (b ∷ t)).1

intern-first : {A : Type 0} (eq : A → A → Bool) (xs : List A) (a : A) → (intern eq xs a).index ≤ length xs
unfolding intern
intern-first eq [] a = omega arith
intern-first {A} eq (x ∷ xs) a = go (eq x a) refl (intern-first eq xs a)
  where
    go : (b : Bool) → eq x a ≡ b → (intern eq xs a).index ≤ length xs → (intern eq (x ∷ xs) a).index ≤ suc (length xs)
    go true e h = rw (e, intern) (omega arith)
    go false e h = rw (e, intern) (omega arith)

offset-is : (ts : List Text) (t : Text) → offset_in ts t ≡ text_word (intern_text ts t).table (intern_text ts t).ref
unfolding offset_in intern_text
offset-is ts [] = refl
offset-is ts (b ∷ t) =
    ap (λ (i : ℕ). text_offset_lem ts i) (text-intern ts (b ∷ t)).0 ∙ bytes_same (take (intern text_eq ts (b ∷ t)).index ts)
    ∙ sym (grows_offset ts (intern_text ts (b ∷ t)).table (store_grows ts (b ∷ t)) (intern text_eq ts (b ∷ t)).index (intern-first text_eq ts (b ∷ t)))

-- more texts or bytes than there is room for
abbrev pub TextsOver : List ℕ → List ℕ → ℕ → ℕ → Type 0
TextsOver text strings bytes count = (text_capacity_of (length text) < bytes) ⊎ (capacity_of (length strings) < count)

pub record StoredIs (text strings : List ℕ) (ts : List Text) (t : Text) (x : StringsLeft) : Type 0 where
  pub offset : x.got.offset ≡ text_word (intern_text ts t).table (intern_text ts t).ref
  pub after : Texts x.text x.strings x.got.bytes x.got.count (intern_text ts t).table
      ⊎ (TextsOver text strings x.got.bytes x.got.count × TextsOver text strings (text_bytes (intern_text ts t).table) (length (intern_text ts t).table))

pub stored : (text strings : List ℕ) (bytes count : ℕ) (ts : List Text) (t : Text) → Texts text strings bytes count ts → StoredIs text strings ts t (insert_text_of text strings bytes count t)
stored text strings bytes count ts t h =
    let x = insert_text_of text strings bytes count t in
    let d = texts.step text strings bytes count ts t h in
    record {
      offset = d.offset ∙ offset-is ts t;
      after =
          ⊎_elim (λ k. inl (subst (Texts x.text x.strings x.got.bytes x.got.count) (with-is ts t) k))
          (λ (p, q). inr (p, subst (λ (us : List Text). TextsOver text strings (text_bytes us) (length us)) (with-is ts t) (subst (λ (n : ℕ). TextsOver text strings n (length (with_text ts t))) (bytes_same (with_text ts t)) q)))
          d.after;
    }

-- the reference that storing gives lies within the texts that it leaves
pub stored-within : (ts : List Text) (t : Text) → Within (intern_text ts t).ref (length (intern_text ts t).table)
stored-within ts t = reads_within (intern_text ts t).table (store_reads ts t)

pub texts-back : (text strings : List ℕ) (bytes count : ℕ) (t : Text) → let x = insert_text_of text strings bytes count t in
    x.got.bytes ≤ text_capacity_of (length x.text) → x.got.count ≤ capacity_of (length x.strings) → (bytes ≤ text_capacity_of (length text)) × (count ≤ capacity_of (length strings))
texts-back text strings bytes count t h k = go (ltb (text_capacity_of (length text)) bytes) refl (ltb (capacity_of (length strings)) count) refl
  where
    none_left : TextsOver text strings bytes count → ⊥
    none_left f =
        let x = insert_text_of text strings bytes count t in
        let s = texts.stays text strings bytes count t f in
        let a : text_capacity_of (length x.text) ≡ text_capacity_of (length text) = ap (λ (l : List ℕ). text_capacity_of (length l)) s.text-kept in
        let b : capacity_of (length x.strings) ≡ capacity_of (length strings) = ap (λ (l : List ℕ). capacity_of (length l)) s.index_kept in
        ⊎_elim (λ z. omega arith) (λ z. omega arith) s.full

    go : (b : Bool) → ltb (text_capacity_of (length text)) bytes ≡ b → (c : Bool) → ltb (capacity_of (length strings)) count ≡ c → (bytes ≤ text_capacity_of (length text)) × (count ≤ capacity_of (length strings))
    go true e c f = absurd (none_left (inl (ltb-true _ _ e)))
    go false e true f = absurd (none_left (inr (ltb-true _ _ f)))
    go false e false f = (ltb-false _ _ e, ltb-false _ _ f)
