-- Undoing takes back what storing texts added, in the bytes and in the index: `text-added` is one call, `undo_texts` any list of calls.
use Prim.Native.Nat.{ℕ, ◌+◌, ◌-◌, ◌<◌, ◌≤◌}
use mathlib.Core.Path.{◌≡◌, refl, sym, ◌∙◌}
use mathlib.Core.List.{List, [], ◌∷◌}
use mathlib.Core.Bool.{Bool, true, false, cond, ◌&&◌}
use native.Mathlib.Omega.{arith}
use lib.Dec.{eqb, leb, ltb}
use lib.ListN.{length, get_or, replicate, length-replicate, get_or-eq_default}
use lib.Seq.{sets, length-sets, ext_get_or}
use borrow.Author.Tests.{leb-true, leb-false, le-ltb, ltb-true, ltb-false}
use Rattle.tables.specs.Table.{row_at, capacity_of, over_of}
use Rattle.strings.specs.Strings.{text_capacity_of, stored_text, text_size_lem, text_row, find_text, index_of, full_of, store_of, insert_text_at, insert_text_of, StringsLeft, strings_left, text_stored}
use Rattle.table_laws.specs.PlainTexts.{insert_texts}
use Rattle.journal.specs.Undo.{row_hash_of, undone_to, cut_to}
use Rattle.table_laws.specs.Marked.{Clear, ClearText}
use Rattle.slices.proofs.Runs.{sets-low, sets-high}
use Rattle.table_laws.proofs.Sections.{stored-length}
use Rattle.table_laws.proofs.Sets.{over-above, over-most}
use Rattle.table_laws.proofs.Steps.{zeros}
use Rattle.table_laws.proofs.UndoRow.{sets-zero}
use Rattle.table_laws.proofs.UndoRows.{Added, added_none, added-over, added-row, added_then, added-undone}

-- ---- bytes that are zero again
cut_at : (to : ℕ) (text : List ℕ) (n p : ℕ) → ClearText text n → to ≤ n → p < length text → get_or (cut_to to text n) p 0 ≡ cond (ltb p to) (get_or text p 0) 0
unfolding cut_to
cut_at to text n p C h r = go (ltb p to) refl (leb n p) refl
  where
    go : (x : Bool) → ltb p to ≡ x → (y : Bool) → leb n p ≡ y → get_or (sets text to (replicate (n - to) 0)) p 0 ≡ cond x (get_or text p 0) 0
    go true e y f = sets-low (replicate (n - to) 0) text to p (ltb-true _ _ e)
    go false e true f = let g : n ≤ p = leb-true _ _ f in sets-high (replicate (n - to) 0) text to p (rw (length-replicate {A = ℕ} (n - to) 0) (omega arith)) ∙ C.zeros p g
    go false e false f = let g : p < n = leb-false _ _ f in sets-zero (n - to) text to p (ltb-false _ _ e) (omega arith) r

cut-same : (to : ℕ) (text text' : List ℕ) (n n' : ℕ) → ClearText text n → ClearText text' n' → to ≤ n → to ≤ n' → length text' ≡ length text → ((p : ℕ) → p < to → get_or text' p 0 ≡ get_or text p 0) → cut_to to text' n' ≡ cut_to to text n
cut-same to text text' n n' C C' h h' l same = ext_get_or 0 (cut_to to text' n') (cut_to to text n) (long text' n' ∙ l ∙ sym (long text n)) (λ p r. at p (rw (long text' n') at r))
  where
    long : (t : List ℕ) (k : ℕ) → length (cut_to to t k) ≡ length t
    long t k = unfold cut_to in length-sets t to (replicate (k - to) 0)

    at : (p : ℕ) → p < length text' → get_or (cut_to to text' n') p 0 ≡ get_or (cut_to to text n) p 0
    at p r = cut_at to text' n' p C' h' r ∙ go (ltb p to) refl ∙ sym (cut_at to text n p C h (rw l at r))
      where
        go : (x : Bool) → ltb p to ≡ x → cond (ltb p to) (get_or text' p 0) 0 ≡ cond (ltb p to) (get_or text p 0) 0
        go true e = rw e (same p (ltb-true _ _ e))
        go false e = rw e

-- cutting to a mark, and from there to an earlier one, is cutting to the earlier one
pub cut-cut : (to mid n : ℕ) (text : List ℕ) → ClearText text n → to ≤ mid → mid ≤ n → cut_to to (cut_to mid text n) mid ≡ cut_to to text n
cut-cut to mid n text C h r = cut-same to text (cut_to mid text n) n mid C left (omega arith) h long (λ p q. low p (omega arith))
  where
    long : length (cut_to mid text n) ≡ length text
    long = unfold cut_to in length-sets text mid (replicate (n - mid) 0)

    low : (p : ℕ) → p < mid → get_or (cut_to mid text n) p 0 ≡ get_or text p 0
    low p q = unfold cut_to in sets-low (replicate (n - mid) 0) text mid p q

    left : ClearText (cut_to mid text n) mid
    left = record { zeros = λ p q. go p q (ltb p (length text)) refl }
      where
        go : (p : ℕ) → mid ≤ p → (x : Bool) → ltb p (length text) ≡ x → get_or (cut_to mid text n) p 0 ≡ 0
        go p q true e = cut_at mid text n p C r (ltb-true _ _ e) ∙ rw (le-ltb p mid q)
        go p q false e = get_or-eq_default (cut_to mid text n) 0 (rw long (ltb-false _ _ e))

pub record Longer (text : List ℕ) (n : ℕ) (text' : List ℕ) (n' : ℕ) : Type 0 where
  pub clear : ClearText text' n'
  pub more : n ≤ n'
  pub back : (to : ℕ) → to ≤ n → cut_to to text' n' ≡ cut_to to text n

over_grows : (n cap : ℕ) → n ≤ over_of n cap
over_grows n cap = go (ltb cap n) refl
  where
    go : (x : Bool) → ltb cap n ≡ x → n ≤ over_of n cap
    go true e = rw (over-above n cap (ltb-true _ _ e)) (omega arith)
    go false e = let g : n ≤ cap = ltb-false cap n e in rw (over-most n cap g) (omega arith)

module _ (text : List ℕ) (n : ℕ) (C : ClearText text n) where
  pub longer-none : Longer text n text n
  longer-none = record { clear = C; more = omega arith; back = λ to h. refl }

  longer-over : (cap : ℕ) → Longer text n text (over_of n cap)
  longer-over cap = let g = over_grows n cap in record { clear = more; more = g; back = λ to h. cut-same to text text n (over_of n cap) C more h (omega arith) refl (λ p r. refl) }
    where
      more : ClearText text (over_of n cap)
      more = record { zeros = λ p r. C.zeros p (let g = over_grows n cap in omega arith) }

  longer-store : (vs : List ℕ) (k : ℕ) → length vs ≡ k → Longer text n (sets text n vs) (n + k)
  longer-store vs k e = record { clear = more; more = omega arith; back = λ to h. cut-same to text (sets text n vs) n (n + k) C more h (omega arith) (length-sets text n vs) (λ p r. sets-low vs text n p (omega arith)) }
    where
      more : ClearText (sets text n vs) (n + k)
      more = record { zeros = λ p r. sets-high vs text n p (omega arith) ∙ C.zeros p (omega arith) }

pub longer-then : {t : List ℕ} {n : ℕ} {t₁ : List ℕ} {n₁ : ℕ} {t₂ : List ℕ} {n₂ : ℕ} → Longer t n t₁ n₁ → Longer t₁ n₁ t₂ n₂ → Longer t n t₂ n₂
longer-then a b = let p = a.more in let q = b.more in record { clear = b.clear; more = omega arith; back = λ to h. b.back to (omega arith) ∙ a.back to h }

-- ---- one call
pub record TextAdded (text strings : List ℕ) (bytes count : ℕ) (x : StringsLeft) : Type 0 where
  pub longer : Longer text bytes x.text x.got.bytes
  pub rows : Added 4 strings count x.strings x.got.count

module _ (text strings : List ℕ) (bytes count : ℕ) (C : ClearText text bytes) (S : Clear strings count) where
  none-added : (offset : ℕ) → TextAdded text strings bytes count (strings_left (text_stored offset bytes count) text strings)
  none-added offset = record { longer = longer-none text bytes C; rows = added_none 4 strings count S }

  index-added : (t : List ℕ) → count < capacity_of (length strings) → Added 4 strings count (index_of (capacity_of (length strings)) strings count (text_row bytes t)) (count + 1)
  unfolding index_of row_hash_of
  index-added t h = added-row 4 strings count S (text_row bytes t) refl h

  store-added : (t : List ℕ) → TextAdded text strings bytes count (store_of text strings bytes count t)
  unfolding store_of full_of
  store-added t = go (leb (bytes + text_size_lem t) (text_capacity_of (length text))) (ltb count (capacity_of (length strings))) refl
    where
      go : (x y : Bool) → ltb count (capacity_of (length strings)) ≡ y
          → TextAdded text strings bytes count (cond (x && y)
          (strings_left (text_stored bytes (bytes + text_size_lem t) (count + 1)) (sets text bytes (stored_text t)) (index_of (capacity_of (length strings)) strings count (text_row bytes t)))
          (strings_left (cond x (text_stored bytes bytes (over_of count (capacity_of (length strings)))) (text_stored bytes (over_of bytes (text_capacity_of (length text))) count)) text strings))
      go true true e = record { longer = longer-store text bytes C (stored_text t) (text_size_lem t) (stored-length t); rows = index-added t (ltb-true _ _ e) }
      go true false e = record { longer = longer-none text bytes C; rows = added-over 4 strings count S (ltb-false _ _ e) }
      go false y e = record { longer = longer-over text bytes C (text_capacity_of (length text)); rows = added_none 4 strings count S }

  pub text-added : (t : List ℕ) → TextAdded text strings bytes count (insert_text_of text strings bytes count t)
  unfolding insert_text_of insert_text_at
  text-added t = go (eqb (length t) 0) (ltb (find_text text strings count t) count)
    where
      go : (x y : Bool) → TextAdded text strings bytes count (cond x (strings_left (text_stored 4294967295 bytes count) text strings)
          (cond y (strings_left (text_stored (row_at strings (find_text text strings count t)).a bytes count) text strings) (store_of text strings bytes count t)))
      go true y = none-added 4294967295
      go false true = none-added (row_at strings (find_text text strings count t)).a
      go false false = store-added t

-- ---- any list of calls
pub texts-added : (ts : List (List ℕ)) (text strings : List ℕ) (bytes count : ℕ) → ClearText text bytes → Clear strings count → TextAdded text strings bytes count (insert_texts text strings bytes count ts)
unfolding insert_texts
texts-added [] text strings bytes count C S = none-added text strings bytes count C S 4294967295
texts-added (t ∷ ts) text strings bytes count C S =
    let x = insert_text_of text strings bytes count t in
    let a = text-added text strings bytes count C S t in
    let b = texts-added ts x.text x.strings x.got.bytes x.got.count a.longer.clear a.rows.clear in
    record { longer = longer-then a.longer b.longer; rows = added_then a.rows b.rows }

pub longer-cut : (text : List ℕ) (n : ℕ) (text₁ : List ℕ) (n₁ : ℕ) → Longer text n text₁ n₁ → cut_to n text₁ n₁ ≡ text
longer-cut text n text₁ n₁ a = a.back n (omega arith) ∙ none
  where
    none : cut_to n text n ≡ text
    none = unfold cut_to in let e : n - n ≡ 0 = omega arith in rw e

pub undo_texts : (ts : List (List ℕ)) (text strings : List ℕ) (bytes count : ℕ) → ClearText text bytes → Clear strings count → {x : StringsLeft} → x ≡ insert_texts text strings bytes count ts
    → (cut_to bytes x.text x.got.bytes ≡ text) × (undone_to 4 count x.strings x.got.count ≡ strings)
undo_texts ts text strings bytes count C S {x} e =
    let a : TextAdded text strings bytes count x = rw e (texts-added ts text strings bytes count C S) in
    (longer-cut text bytes x.text x.got.bytes a.longer, added-undone strings count x.strings x.got.count a.rows)

-- zeroed memory
pub text-begun : (words : ℕ) → ClearText (replicate words 0) 0
text-begun words = record { zeros = λ p r. zeros words p }
