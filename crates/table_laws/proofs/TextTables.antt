-- The lent memory is a string table: `insert_text_of` does to it what `with_text` does to the plain list of texts. `step` is one call. `string_table` is any list of
-- calls on a zeroed index that stays within the capacities; `string_table-exact` says that a count passes its capacity exactly where the plain list needs more;
-- `reads_back` says that what was stored reads back, at once and after more is stored.
use Prim.Native.Nat.{ℕ, suc, ◌+◌, ◌^◌, ◌<◌, ◌≤◌}
use mathlib.Core.Path.{◌≡◌, refl, sym, ◌∙◌, ap, ap₂}
use mathlib.Core.List.{List, [], ◌∷◌, ◌++◌, append-nil}
use mathlib.Core.Bool.{Bool, true, false, cond, ◌&&◌}
use mathlib.Core.Logic.{◌⊎◌, inl, inr, ⊎_elim}
use native.Mathlib.Omega.{arith}
use native.Mathlib.Nat.{zero-add}
use lib.Dec.{eqb, ltb, leb}
use lib.ListN.{length, get_or, take, drop, replicate, length-append, length-take, length-replicate, get_or-append}
use lib.Seq.{sets, sets-eq, length-sets, take_at, length-take-le, get_or-append_seam}
use borrow.Author.Tests.{eq-eqb, ne_eqb, eqb-true, eqb-false, lt-ltb, le-ltb, ltb-true, ltb-false, le-leb, lt-leb, leb-true, leb-false}
use Rattle.text.specs.Leb128.{encoded}
use Rattle.text.specs.Utf8.{utf8}
use Rattle.text.specs.Texts.{text_part}
use Rattle.text.proofs.Leb128Laws.{decoded-past}
use Rattle.text.proofs.TextLaws.{stored_bytes, part-stored, part-absent, absent_prefix}
use Rattle.slices.proofs.Cases.{and_left}
use Rattle.tables.specs.Table.{row_at, rows_from, rows_of, capacity_of, over_of, same_words}
use Rattle.strings.specs.Strings.{text_capacity_of, stored_text, text_size_lem, text_hash, text_row, is_text, text_at_lem, newest_text, find_text, index_of, full_of, store_of, insert_text_at, insert_text_of, StringsLeft, strings_left, text_stored}
use Rattle.table_laws.specs.Plain.{row_intern, Chained}
use Rattle.table_laws.specs.PlainTexts.{text_bytes_lem, text_offset_lem, section, with_text, offset_in, with_texts, offsets_in, insert_texts, offsets_of, text_rows, row_hash, Texts}
use Rattle.tables.specs.declared.Row.{Row}
use Rattle.tables.proofs.Room.{room-is}
use Rattle.strings.proofs.TextRoom.{text-room}
use Rattle.table_laws.proofs.Items.{intern-none, intern-found, one_more}
use Rattle.tables.proofs.Words.{words-eq}
use Rattle.table_laws.proofs.Rows.{words-refl, rows-length, rows_get_d, length-append as append-length}
use Rattle.table_laws.proofs.Steps.{Look, found, none, look, chained_more, rows-stored, chained-begun}
use Rattle.table_laws.proofs.Sets.{over-above, over-most}
use Rattle.table_laws.proofs.Sections.{size_is, stored-length, section-length, bytes-more, section-more, section-at, offset-within, offset-end, part-take, Grown, grown-then, grown-item, grown-offset, grown-bytes, grown-length, placed, rows-count, row_of_lem, rows_more}

abbrev Text : Type 0
Text = List ℕ

-- ---- a row of the index tells its text
-- the bytes of text u stand in the section; then the row of u is hit by t exactly where u is t
is-text_of : (text t u : Text) (o : ℕ) → take (length u) (drop (o + length (encoded (length u))) text) ≡ u → is_text text t (text_row o u) ≡ same_words u t
unfolding is_text text_row
is-text_of text t u o e = go (same_words u t) refl
  where
    other : (h l : Bool) → eqb (text_hash u) (text_hash t) ≡ h → eqb (length u) (length t) ≡ l → same_words u t ≡ false
        → (h && (l && same_words (take (length t) (drop (o + length (encoded (length u))) text)) t)) ≡ false
    other false l eh el s = refl
    other true false eh el s = refl
    other true true eh el s = rw (← eqb-true (length u) (length t) el, e) s

    go : (b : Bool) → same_words u t ≡ b → (eqb (text_hash u) (text_hash t) && (eqb (length u) (length t) && same_words (take (length t) (drop (o + length (encoded (length u))) text)) t)) ≡ b
    go true s =
        let k : u ≡ t = words-eq u t s in
        rw (← k, eq-eqb (text_hash u) (text_hash u) refl, eq-eqb (length u) (length u) refl, e) (words-refl u)
    go false s = other (eqb (text_hash u) (text_hash t)) (eqb (length u) (length t)) refl refl s

-- ---- what is found
module _ (text strings : List ℕ) (bytes count : ℕ) (ts : List Text) (T : Texts text strings bytes count ts) where
  pub count-is : length ts ≡ count
  count-is = sym (rows-count 0 ts) ∙ sym (ap (λ (x : List Row). length x) T.rows) ∙ rows-length strings 0 count

  row_is : (i : ℕ) → i < length ts → row_at strings i ≡ text_row (text_offset_lem ts i) (get_or ts i [])
  row_is i p =
      let q : i < count = rw count-is at p in
      sym (rows_get_d strings 0 count i (row_at strings 0) q ∙ ap (λ (n : ℕ). row_at strings n) (zero-add i))
      ∙ ap (λ (l : List Row). get_or l i (row_at strings 0)) T.rows
      ∙ (row_of_lem 0 ts i (row_at strings 0) p ∙ ap (λ (n : ℕ). text_row n (get_or ts i [])) (zero-add (text_offset_lem ts i)))

  -- the bytes of text i
  bytes_stand : (i : ℕ) → i < length ts → take (length (get_or ts i [])) (drop (text_offset_lem ts i + length (encoded (length (get_or ts i [])))) text) ≡ get_or ts i []
  bytes_stand i p =
      sym (part-take (text_offset_lem ts i + length (encoded (length (get_or ts i [])))) (length (get_or ts i [])) bytes text within)
      ∙ ap (λ (l : List ℕ). take (length (get_or ts i [])) (drop (text_offset_lem ts i + length (encoded (length (get_or ts i [])))) l)) (T.stands ∙ section-at ts i p)
      ∙ rw (← section-length (take i ts)) (stored_bytes (section (take i ts)) (get_or ts i []) (section (drop (suc i) ts)))
    where
      within : text_offset_lem ts i + length (encoded (length (get_or ts i []))) + length (get_or ts i []) ≤ bytes
      within = let k = offset-within ts i p in let s = T.size in let z = size_is (get_or ts i []) in omega arith

  hit-is : (t : Text) (i : ℕ) → i < length ts → text_at_lem text strings t i ≡ same_words (get_or ts i []) t
  unfolding text_at_lem
  hit-is t i p = rw (row_is i p) (is-text_of text t (get_or ts i []) (text_offset_lem ts i) (bytes_stand i p))

  hashed : (t : Text) (i : ℕ) → text_at_lem text strings t i ≡ true → row_hash (row_at strings i) ≡ text_hash t
  unfolding text_at_lem is_text
  hashed t i e = eqb-true _ _ (and_left _ _ e)

  looked : (t : Text) → Look (text_at_lem text strings t) count (find_text text strings count t)
  unfolding find_text newest_text
  looked t = look row_hash (capacity_of (length strings)) count strings T.chained (text_at_lem text strings t) (text_hash t) (hashed t)

  at-found : (t : Text) (i : ℕ) → i < count → text_at_lem text strings t i ≡ true → row_intern same_words ts t ≡ record { index = i; table = ts }
  at-found t i p e = intern-found same_words ts t [] i below same (λ j r. rw (← words-eq (get_or ts i []) t same) (T.apart j i r below))
    where
      below : i < length ts
      below = rw count-is p

      same : same_words (get_or ts i []) t ≡ true
      same = sym (hit-is t i below) ∙ e

  at_none : (t : Text) → ((i : ℕ) → i < count → text_at_lem text strings t i ≡ false) → (i : ℕ) → i < length ts → same_words (get_or ts i []) t ≡ false
  at_none t m i p = sym (hit-is t i p) ∙ m i (rw count-is at p)

  -- ---- one more text
  module _ (t : Text) (new : (i : ℕ) → i < length ts → same_words (get_or ts i []) t ≡ false) (room : bytes + text_size_lem t ≤ text_capacity_of (length text)) (row_room : count < capacity_of (length strings)) where
    abbrev text₁ : List ℕ
    text₁ = sets text bytes (stored_text t)

    abbrev strings₁ : List ℕ
    strings₁ = index_of (capacity_of (length strings)) strings count (text_row bytes t)

    long₁ : length strings₁ ≡ length strings
    unfolding index_of
    long₁ = append-length (capacity_of (length strings)) strings count (text_row bytes t) _ _

    stands₁ : take (bytes + text_size_lem t) text₁ ≡ section (ts ++ (t ∷ []))
    stands₁ =
        ap (λ (l : List ℕ). take (bytes + text_size_lem t) l) (sets-eq (stored_text t) text bytes (rw (stored-length t) (let r = (text-room (length text)).fits in omega arith)))
        ∙ take_at (take bytes text ++ stored_text t) (drop (bytes + length (stored_text t)) text) (bytes + text_size_lem t) long
        ∙ (ap (λ (l : List ℕ). l ++ stored_text t) T.stands ∙ sym (section-more ts t))
      where
        long : length (take bytes text ++ stored_text t) ≡ bytes + text_size_lem t
        long =
            length-append (take bytes text) (stored_text t)
            ∙ ap₂ (λ (m n : ℕ). m + n) (length-take-le bytes text (let r = (text-room (length text)).fits in let s = T.room in omega arith)) (stored-length t)

    rows₁ : rows_of strings₁ (count + 1) ≡ text_rows 0 (ts ++ (t ∷ []))
    unfolding index_of
    rows₁ =
        rows-stored row_hash (capacity_of (length strings)) count strings (text_row bytes t) T.chained row_room (room-is (length strings)).fits
        ∙ ap (λ (l : List Row). l ++ (text_row bytes t ∷ [])) T.rows
        ∙ sym (rows_more 0 ts t ∙ ap (λ (n : ℕ). text_rows 0 ts ++ (text_row n t ∷ [])) (zero-add (text_bytes_lem ts) ∙ sym T.size))

    chained₁ : Chained row_hash (capacity_of (length strings)) (count + 1) strings₁
    unfolding index_of
    chained₁ = chained_more row_hash (capacity_of (length strings)) count strings (text_row bytes t) T.chained row_room (room-is (length strings)).fits

    low : (i : ℕ) → i < length ts → get_or (ts ++ (t ∷ [])) i [] ≡ get_or ts i []
    low i p = get_or-append ts (t ∷ []) [] i p

    apart₁ : (i j : ℕ) → i < j → j < length (ts ++ (t ∷ [])) → same_words (get_or (ts ++ (t ∷ [])) i []) (get_or (ts ++ (t ∷ [])) j []) ≡ false
    apart₁ i j p q = go (eqb j (length ts)) refl
      where
        q' : j < suc (length ts)
        q' = rw (one_more ts t) at q

        go : (b : Bool) → eqb j (length ts) ≡ b → same_words (get_or (ts ++ (t ∷ [])) i []) (get_or (ts ++ (t ∷ [])) j []) ≡ false
        go true e =
            let k : j ≡ length ts = eqb-true j (length ts) e in
            rw (k, get_or-append_seam ts t [] [], low i (omega arith)) (new i (omega arith))
        go false e =
            let k : j < length ts = let g = eqb-false j (length ts) e in omega (arith, q') in
            rw (low i (omega arith), low j k) (T.apart i j p k)

    texts-more : Texts text₁ strings₁ (bytes + text_size_lem t) (count + 1) (ts ++ (t ∷ []))
    texts-more = record {
      stands = stands₁;
      size = ap (λ (n : ℕ). n + text_size_lem t) T.size ∙ sym (bytes-more ts t);
      rows = rows₁;
      room = rw (length-sets text bytes (stored_text t)) room;
      row_room = rw long₁ (omega arith);
      apart = apart₁;
      chained = rw long₁ chained₁;
    }

-- ---- one call
-- more bytes, or more texts, than there is room for
abbrev pub Full : ℕ → ℕ → ℕ → ℕ → Type 0
Full limit cap bytes count = (limit < bytes) ⊎ (cap < count)

-- what a call does whose text has the offset o in the plain list and leaves the plain list us
pub record Did (text strings : List ℕ) (o : ℕ) (us : List Text) (x : StringsLeft) : Type 0 where
  pub offset : x.got.offset ≡ o
  pub long : length x.text ≡ length text
  pub long-index : length x.strings ≡ length strings
  pub after : Texts x.text x.strings x.got.bytes x.got.count us
      ⊎ (Full (text_capacity_of (length text)) (capacity_of (length strings)) x.got.bytes x.got.count × Full (text_capacity_of (length text)) (capacity_of (length strings)) (text_bytes_lem us) (length us))

module _ (bytes count size limit cap : ℕ) where
  full-row : bytes + size ≤ limit → full_of bytes count size limit cap ≡ text_stored bytes bytes (over_of count cap)
  unfolding full_of
  full-row h = rw (le-leb (bytes + size) limit h)

  full-bytes : limit < bytes + size → full_of bytes count size limit cap ≡ text_stored bytes (over_of bytes limit) count
  unfolding full_of
  full-bytes h = rw (lt-leb (bytes + size) limit h)

row-offset : (o : ℕ) (t : Text) → (text_row o t).a ≡ o
unfolding text_row
row-offset o t = refl

module _ (text strings : List ℕ) (bytes count : ℕ) (t : Text) where
  pub insert-empty : length t ≡ 0 → insert_text_of text strings bytes count t ≡ strings_left (text_stored 4294967295 bytes count) text strings
  unfolding insert_text_of
  insert-empty e = rw (eq-eqb (length t) 0 e)

  pub insert-other : (length t ≡ 0 → ⊥) → insert_text_of text strings bytes count t ≡ insert_text_at text strings bytes count t (find_text text strings count t)
  unfolding insert_text_of
  insert-other n = rw (ne_eqb (length t) 0 n)

step_other : (text strings : List ℕ) (bytes count : ℕ) (ts : List Text) (t : Text) → (length t ≡ 0 → ⊥) → Texts text strings bytes count ts
    → Did text strings (text_offset_lem ts (row_intern same_words ts t).index) (row_intern same_words ts t).table (insert_text_of text strings bytes count t)
unfolding insert_text_at store_of
step_other text strings bytes count ts t n T = rw (insert-other text strings bytes count t n) (go (find_text text strings count t) (looked text strings bytes count ts T t))
  where
    go : (i : ℕ) → Look (text_at_lem text strings t) count i
        → Did text strings (text_offset_lem ts (row_intern same_words ts t).index) (row_intern same_words ts t).table
        (cond (ltb i count) (strings_left (text_stored (row_at strings i).a bytes count) text strings)
        (cond (leb (bytes + text_size_lem t) (text_capacity_of (length text)) && ltb count (capacity_of (length strings)))
        (strings_left (text_stored bytes (bytes + text_size_lem t) (count + 1)) (sets text bytes (stored_text t)) (index_of (capacity_of (length strings)) strings count (text_row bytes t)))
        (strings_left (full_of bytes count (text_size_lem t) (text_capacity_of (length text)) (capacity_of (length strings))) text strings)))
    go i (found p e) =
        rw (lt-ltb i count p, at-found text strings bytes count ts T t i p e)
        (record {
          offset = rw (row_is text strings bytes count ts T i (rw (count-is text strings bytes count ts T) p)) (row-offset (text_offset_lem ts i) (get_or ts i []));
          long = refl;
          long-index = refl;
          after = inl T;
        })
    go i (none e m) =
        rw (le-ltb i count (omega arith), intern-none same_words ts t [] new) (at (leb (bytes + text_size_lem t) (text_capacity_of (length text))) refl (ltb count (capacity_of (length strings))) refl)
      where
        new : (j : ℕ) → j < length ts → same_words (get_or ts j []) t ≡ false
        new = at_none text strings bytes count ts T t m

        o : bytes ≡ text_offset_lem ts (length ts)
        o = T.size ∙ sym (offset-end ts)

        at : (b : Bool) → leb (bytes + text_size_lem t) (text_capacity_of (length text)) ≡ b → (d : Bool) → ltb count (capacity_of (length strings)) ≡ d
            → Did text strings (text_offset_lem ts (length ts)) (ts ++ (t ∷ []))
            (cond (b && d)
            (strings_left (text_stored bytes (bytes + text_size_lem t) (count + 1)) (sets text bytes (stored_text t)) (index_of (capacity_of (length strings)) strings count (text_row bytes t)))
            (strings_left (full_of bytes count (text_size_lem t) (text_capacity_of (length text)) (capacity_of (length strings))) text strings))
        at true e' true f = record {
          offset = o;
          long = length-sets text bytes (stored_text t);
          long-index = long₁ text strings bytes count ts T t new (leb-true _ _ e') (ltb-true _ _ f);
          after = inl (texts-more text strings bytes count ts T t new (leb-true _ _ e') (ltb-true _ _ f));
        }
        at true e' false f =
            let c : capacity_of (length strings) ≤ count = ltb-false _ _ f in
            rw (full-row bytes count (text_size_lem t) (text_capacity_of (length text)) (capacity_of (length strings)) (leb-true _ _ e'), over-most count (capacity_of (length strings)) T.row_room)
            (record {
              offset = o;
              long = refl;
              long-index = refl;
              after = inr (inr (omega arith), inr (rw (one_more ts t) (let k = count-is text strings bytes count ts T in omega arith)));
            })
        at false e' d f =
            let c : text_capacity_of (length text) < bytes + text_size_lem t = leb-false _ _ e' in
            rw (full-bytes bytes count (text_size_lem t) (text_capacity_of (length text)) (capacity_of (length strings)) c, over-most bytes (text_capacity_of (length text)) T.room)
            (record {
              offset = o;
              long = refl;
              long-index = refl;
              after = inr (inl (omega arith), inl (rw (bytes-more ts t) (let k = T.size in omega arith)));
            })

pub step : (text strings : List ℕ) (bytes count : ℕ) (ts : List Text) (t : Text) → Texts text strings bytes count ts → Did text strings (offset_in ts t) (with_text ts t) (insert_text_of text strings bytes count t)
unfolding offset_in with_text
step text strings bytes count ts [] T = rw (insert-empty text strings bytes count [] refl) (record { offset = refl; long = refl; long-index = refl; after = inl T })
step text strings bytes count ts (b ∷ t) T = step_other text strings bytes count ts (b ∷ t) (λ e. omega arith) T

-- with no room left nothing changes, and there is none after it either
pub record Stays (text strings : List ℕ) (x : StringsLeft) : Type 0 where
  pub text-kept : x.text ≡ text
  pub index_kept : x.strings ≡ strings
  pub full : Full (text_capacity_of (length text)) (capacity_of (length strings)) x.got.bytes x.got.count

pub stays : (text strings : List ℕ) (bytes count : ℕ) (t : Text) → Full (text_capacity_of (length text)) (capacity_of (length strings)) bytes count → Stays text strings (insert_text_of text strings bytes count t)
unfolding insert_text_of insert_text_at store_of
stays text strings bytes count t full = go (eqb (length t) 0) (ltb (find_text text strings count t) count) (leb (bytes + text_size_lem t) (text_capacity_of (length text))) refl (ltb count (capacity_of (length strings))) refl full
  where
    refused : (b : Bool) → leb (bytes + text_size_lem t) (text_capacity_of (length text)) ≡ b → Full (text_capacity_of (length text)) (capacity_of (length strings)) bytes count
        → Stays text strings (strings_left (full_of bytes count (text_size_lem t) (text_capacity_of (length text)) (capacity_of (length strings))) text strings)
    refused true e (inl f) = absurd (let g : bytes + text_size_lem t ≤ text_capacity_of (length text) = leb-true _ _ e in omega arith)
    refused true e (inr f) =
        rw (full-row bytes count (text_size_lem t) (text_capacity_of (length text)) (capacity_of (length strings)) (leb-true _ _ e), over-above count (capacity_of (length strings)) f)
        (record { text-kept = refl; index_kept = refl; full = inr f })
    refused false e (inl f) =
        rw (full-bytes bytes count (text_size_lem t) (text_capacity_of (length text)) (capacity_of (length strings)) (leb-false _ _ e), over-above bytes (text_capacity_of (length text)) f)
        (record { text-kept = refl; index_kept = refl; full = inl f })
    refused false e (inr f) =
        rw (full-bytes bytes count (text_size_lem t) (text_capacity_of (length text)) (capacity_of (length strings)) (leb-false _ _ e))
        (record { text-kept = refl; index_kept = refl; full = inr f })

    go : (z y b : Bool) → leb (bytes + text_size_lem t) (text_capacity_of (length text)) ≡ b → (d : Bool) → ltb count (capacity_of (length strings)) ≡ d
        → Full (text_capacity_of (length text)) (capacity_of (length strings)) bytes count
        → Stays text strings
        (cond z (strings_left (text_stored 4294967295 bytes count) text strings)
        (cond y (strings_left (text_stored (row_at strings (find_text text strings count t)).a bytes count) text strings)
        (cond (b && d)
        (strings_left (text_stored bytes (bytes + text_size_lem t) (count + 1)) (sets text bytes (stored_text t)) (index_of (capacity_of (length strings)) strings count (text_row bytes t)))
        (strings_left (full_of bytes count (text_size_lem t) (text_capacity_of (length text)) (capacity_of (length strings))) text strings))))
    go true y b e d f g = record { text-kept = refl; index_kept = refl; full = g }
    go false true b e d f g = record { text-kept = refl; index_kept = refl; full = g }
    go false false false e d f g = refused false e g
    go false false true e false f g = refused true e g
    go false false true e true f (inl g) = absurd (let h : bytes + text_size_lem t ≤ text_capacity_of (length text) = leb-true _ _ e in omega arith)
    go false false true e true f (inr g) = absurd (let h : count < capacity_of (length strings) = ltb-true _ _ f in omega arith)

-- ---- any list of calls
with-grown : (ts : List Text) (t : Text) → Grown ts (with_text ts t)
unfolding with_text
with-grown ts [] = record { rest = []; is = sym (append-nil ts) }
with-grown ts (b ∷ t) = (placed ts (b ∷ t)).grown

all_grown : (qs ts : List Text) → Grown ts (with_texts ts qs)
unfolding with_texts
all_grown [] ts = record { rest = []; is = sym (append-nil ts) }
all_grown (q ∷ qs) ts = grown-then (with-grown ts q) (all_grown qs (with_text ts q))

after_more : (qs ts : List Text) (t : Text) → Grown (with_text ts t) (with_texts ts (t ∷ qs))
unfolding with_texts
after_more qs ts t = all_grown qs (with_text ts t)

-- within the capacities: the section, the index and the offsets of the plain list
pub within : (qs : List Text) (text strings : List ℕ) (bytes count : ℕ) (ts : List Text) → Texts text strings bytes count ts
    → text_bytes_lem (with_texts ts qs) ≤ text_capacity_of (length text) → length (with_texts ts qs) ≤ capacity_of (length strings)
    → Texts (insert_texts text strings bytes count qs).text (insert_texts text strings bytes count qs).strings (insert_texts text strings bytes count qs).got.bytes (insert_texts text strings bytes count qs).got.count (with_texts ts qs)
    × (offsets_of text strings bytes count qs ≡ offsets_in ts qs)
unfolding insert_texts with_texts offsets_of offsets_in
within [] text strings bytes count ts T r s = (T, refl)
within (q ∷ qs) text strings bytes count ts T r s =
    let x = insert_text_of text strings bytes count q in
    let d = step text strings bytes count ts q T in
    ⊎_elim
    (λ g.
    let w = within qs x.text x.strings x.got.bytes x.got.count (with_text ts q) g (rw d.long r) (rw d.long-index s) in
    (w.0, ap₂ (λ (o : ℕ) (l : List ℕ). o ∷ l) d.offset w.1))
    (λ o.
    let a = grown-bytes (all_grown qs (with_text ts q)) in
    let b = grown-length (all_grown qs (with_text ts q)) in
    absurd (⊎_elim (λ h. omega arith) (λ h. omega arith) o.1))
    d.after

over-stays : (qs : List Text) (text strings : List ℕ) (bytes count : ℕ) → Full (text_capacity_of (length text)) (capacity_of (length strings)) bytes count
    → Full (text_capacity_of (length text)) (capacity_of (length strings)) (insert_texts text strings bytes count qs).got.bytes (insert_texts text strings bytes count qs).got.count
unfolding insert_texts
over-stays [] text strings bytes count f = f
over-stays (q ∷ qs) text strings bytes count f =
    let x = insert_text_of text strings bytes count q in
    let s = stays text strings bytes count q f in
    let a : length x.text ≡ length text = ap (λ (l : List ℕ). length l) s.text-kept in
    let b : length x.strings ≡ length strings = ap (λ (l : List ℕ). length l) s.index_kept in
    rw (a, b) at (over-stays qs x.text x.strings x.got.bytes x.got.count (rw (a, b) s.full))

-- beyond them: a count is above its capacity
pub beyond : (qs : List Text) (text strings : List ℕ) (bytes count : ℕ) (ts : List Text) → Texts text strings bytes count ts
    → Full (text_capacity_of (length text)) (capacity_of (length strings)) (text_bytes_lem (with_texts ts qs)) (length (with_texts ts qs))
    → Full (text_capacity_of (length text)) (capacity_of (length strings)) (insert_texts text strings bytes count qs).got.bytes (insert_texts text strings bytes count qs).got.count
unfolding insert_texts with_texts
beyond [] text strings bytes count ts T f =
    absurd
    (⊎_elim (λ h. let a = T.room in let b = T.size in omega arith) (λ h. let a = T.row_room in let b = count-is text strings bytes count ts T in omega arith) f)
beyond (q ∷ qs) text strings bytes count ts T f =
    let x = insert_text_of text strings bytes count q in
    let d = step text strings bytes count ts q T in
    ⊎_elim
    (λ g. rw (d.long, d.long-index) at (beyond qs x.text x.strings x.got.bytes x.got.count (with_text ts q) g (rw (d.long, d.long-index) f)))
    (λ o. rw (d.long, d.long-index) at (over-stays qs x.text x.strings x.got.bytes x.got.count (rw (d.long, d.long-index) o.0)))
    d.after

-- ---- a beginning: a zeroed index; the section is empty, whatever its bytes
pub begun : (text : List ℕ) (words : ℕ) → Texts text (replicate words 0) 0 0 []
unfolding rows_from
begun text words = record {
  stands = refl;
  size = refl;
  rows = refl;
  room = omega arith;
  row_room = omega arith;
  apart = λ i j p q. absurd (omega arith);
  chained = chained-begun row_hash (capacity_of (length (replicate {A = ℕ} words 0))) words;
}

module _ (qs : List Text) (text : List ℕ) (words : ℕ) where
  abbrev after : StringsLeft
  after = insert_texts text (replicate words 0) 0 0 qs

  abbrev plain : List Text
  plain = with_texts [] qs

  string_texts : text_bytes_lem plain ≤ text_capacity_of (length text) → length plain ≤ capacity_of words
      → Texts after.text after.strings after.got.bytes after.got.count plain × (offsets_of text (replicate words 0) 0 0 qs ≡ offsets_in [] qs)
  string_texts r s = within qs text (replicate words 0) 0 0 [] (begun text words) r (rw (length-replicate {A = ℕ} words 0) s)

  -- the section is that of the plain list, with its counts, and each text got its offset there
  pub string_table : text_bytes_lem plain ≤ text_capacity_of (length text) → length plain ≤ capacity_of words
      → (take after.got.bytes after.text ≡ section plain) × (after.got.bytes ≡ text_bytes_lem plain) × (after.got.count ≡ length plain) × (offsets_of text (replicate words 0) 0 0 qs ≡ offsets_in [] qs)
  string_table r s =
      let w = string_texts r s in
      (w.0.stands, w.0.size, sym (count-is after.text after.strings after.got.bytes after.got.count plain w.0), w.1)

  pub string_table-full : Full (text_capacity_of (length text)) (capacity_of words) (text_bytes_lem plain) (length plain) → Full (text_capacity_of (length text)) (capacity_of words) after.got.bytes after.got.count
  string_table-full f = rw (length-replicate {A = ℕ} words 0) at (beyond qs text (replicate words 0) 0 0 [] (begun text words) (rw (length-replicate {A = ℕ} words 0) f))

  -- a count exceeds its capacity exactly where the plain list needs more than there is
  pub string_table-exact : (Full (text_capacity_of (length text)) (capacity_of words) after.got.bytes after.got.count → Full (text_capacity_of (length text)) (capacity_of words) (text_bytes_lem plain) (length plain))
      × (Full (text_capacity_of (length text)) (capacity_of words) (text_bytes_lem plain) (length plain) → Full (text_capacity_of (length text)) (capacity_of words) after.got.bytes after.got.count)
  string_table-exact = (λ h. go (leb (text_bytes_lem plain) (text_capacity_of (length text))) refl (leb (length plain) (capacity_of words)) refl h, string_table-full)
    where
      go : (b : Bool) → leb (text_bytes_lem plain) (text_capacity_of (length text)) ≡ b → (d : Bool) → leb (length plain) (capacity_of words) ≡ d
          → Full (text_capacity_of (length text)) (capacity_of words) after.got.bytes after.got.count → Full (text_capacity_of (length text)) (capacity_of words) (text_bytes_lem plain) (length plain)
      go false e d f h = inl (leb-false _ _ e)
      go true e false f h = inr (leb-false _ _ f)
      go true e true f h =
          let w = string_table (leb-true _ _ e) (leb-true _ _ f) in
          let a : text_bytes_lem plain ≤ text_capacity_of (length text) = leb-true _ _ e in
          let b : length plain ≤ capacity_of words = leb-true _ _ f in
          let c = w.1 in
          let d = w.2 in
          absurd (⊎_elim (λ g. omega arith) (λ g. omega arith) h)

-- ---- reading
module _ (text strings : List ℕ) (bytes count : ℕ) (ts : List Text) (T : Texts text strings bytes count ts) where
  short : length (take bytes text) ≤ 268435456
  short = let r = (text-room (length text)).most in let s = T.room in let f = length-take bytes text in rw f (omega arith)

  -- text i reads back, at its offset
  pub reads_at : (i : ℕ) → i < length ts → utf8 (get_or ts i []) ≡ true → text_part (take bytes text) (text_offset_lem ts i) ≡ get_or ts i []
  reads_at i p u =
      rw (T.stands, section-at ts i p, ← section-length (take i ts))
      (part-stored (section (take i ts)) (get_or ts i []) (section (drop (suc i) ts)) small u)
    where
      small : length (get_or ts i []) < 2 ^ 64
      small =
          let k = offset-within ts i p in
          let z = size_is (get_or ts i []) in
          let s = T.size in
          let r = (text-room (length text)).most in
          let m = T.room in omega arith

  -- "reads as absent"
  pub reads_empty : text_part (take bytes text) 4294967295 ≡ []
  reads_empty =
      sym (part-absent (take bytes text) 4294967295 (absent_prefix (take bytes text) 4294967295 (decoded-past (take bytes text) 4294967295 (let s = short in omega arith))))

-- a text of the plain list reads back at its offset, from the section as it is after more texts were stored
read_plain : (text strings : List ℕ) (bytes count : ℕ) (ts us : List Text) (t : Text) → Grown (with_text ts t) us → Texts text strings bytes count us → utf8 t ≡ true → text_part (take bytes text) (offset_in ts t) ≡ t
unfolding with_text offset_in
read_plain text strings bytes count ts us [] g T u = reads_empty text strings bytes count us T
read_plain text strings bytes count ts us (b ∷ t) g T u =
    let p = placed ts (b ∷ t) in
    let i = (row_intern same_words ts (b ∷ t)).index in
    let e : get_or us (row_intern same_words ts (b ∷ t)).index [] ≡ b ∷ t = grown-item g (row_intern same_words ts (b ∷ t)).index p.below ∙ p.item in
    let o : text_offset_lem us (row_intern same_words ts (b ∷ t)).index ≡ text_offset_lem ts (row_intern same_words ts (b ∷ t)).index = grown-offset (grown-then p.grown g) (row_intern same_words ts (b ∷ t)).index p.first in
    let l = grown-length g in
    let h = p.below in
    rw (← o) (reads_at text strings bytes count us T (row_intern same_words ts (b ∷ t)).index (omega arith) (rw e u) ∙ e)

-- what is stored reads back, at the offset that was answered, at once and after more texts qs
pub reads_back : (t : Text) (qs : List Text) (text strings : List ℕ) (bytes count : ℕ) (ts : List Text) → Texts text strings bytes count ts → utf8 t ≡ true
    → text_bytes_lem (with_texts ts (t ∷ qs)) ≤ text_capacity_of (length text) → length (with_texts ts (t ∷ qs)) ≤ capacity_of (length strings)
    → text_part (take (insert_texts text strings bytes count (t ∷ qs)).got.bytes (insert_texts text strings bytes count (t ∷ qs)).text) (insert_text_of text strings bytes count t).got.offset ≡ t
reads_back t qs text strings bytes count ts T u r s =
    let y = insert_texts text strings bytes count (t ∷ qs) in
    rw (step text strings bytes count ts t T).offset
    (read_plain y.text y.strings y.got.bytes y.got.count ts (with_texts ts (t ∷ qs)) t later (within (t ∷ qs) text strings bytes count ts T r s).0 u)
  where
    later : Grown (with_text ts t) (with_texts ts (t ∷ qs))
    later = after_more qs ts t
