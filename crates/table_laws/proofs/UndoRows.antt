-- Undoing takes back what inserting added: `insert-added` is one call, `undo_inserts` any list of calls. Undoing to a mark after an insert is undoing to it before,
-- whatever the insert found or had room for; so undoing to the former count gives the former words.
use Prim.Native.Nat.{ℕ, zero, suc, ◌+◌, ◌*◌, ◌<◌, ◌≤◌}
use mathlib.Core.Path.{◌≡◌, refl, sym, ◌∙◌, ap}
use mathlib.Core.List.{List, [], ◌∷◌}
use mathlib.Core.Bool.{Bool, true, false, cond}
use mathlib.Core.Logic.{inr}
use native.Mathlib.Omega.{arith}
use native.Mathlib.Numerals.{add-one}
use lib.Dec.{eqb, ltb}
use lib.ListN.{length, get_or, replicate}
use borrow.Author.Tests.{lt-ltb, le-ltb, ltb-true, ltb-false}
use Rattle.tables.specs.Table.{head_at, bucket_of, bucket_in, capacity_of, newest_of, lookup_of, append_of, over_of, insert_at, insert_of, left, inserted, Left}
use Rattle.table_laws.specs.Plain.{insert_all}
use Rattle.journal.specs.Undo.{row_hash_of, off_of, undone_to}
use Rattle.table_laws.specs.Marked.{Clear}
use Rattle.tables.specs.declared.Row.{Row}
use Rattle.tables.specs.declared.Inserted.{Inserted}
use Rattle.tables.proofs.Room.{room-is}
use Rattle.journal.proofs.Undone.{undo_done, undo_more}
use Rattle.table_laws.proofs.Rows.{length-append, append-top}
use Rattle.table_laws.proofs.Steps.{bucket-lt, zeros}
use Rattle.table_laws.proofs.Sets.{over-above, over-most}
use Rattle.table_laws.proofs.UndoRow.{undone, after-other}

module _ (w to : ℕ) where
  -- undoing to a mark, and from there to an earlier one, is undoing to the earlier one
  pub undo_undo : (mid : ℕ) → to ≤ mid → (n : ℕ) (t : List ℕ) → mid ≤ n → undone_to w to (undone_to w mid t n) mid ≡ undone_to w to t n
  undo_undo mid h zero t r = let e : mid ≡ 0 = omega arith in rw e (ap (λ (u : List ℕ). undone_to w to u 0) (undo_done w 0 t 0 (omega arith)))
  undo_undo mid h (suc i) t r = go (ltb i mid) refl (λ k. undo_undo mid h i (off_of w t i) k)
    where
      go : (x : Bool) → ltb i mid ≡ x → (mid ≤ i → undone_to w to (undone_to w mid (off_of w t i) i) mid ≡ undone_to w to (off_of w t i) i) → undone_to w to (undone_to w mid t (suc i)) mid ≡ undone_to w to t (suc i)
      go true e ih =
          let f : i < mid = ltb-true i mid e in
          let g : suc i ≡ mid = omega arith in
          rw g (ap (λ (u : List ℕ). undone_to w to u mid) (undo_done w mid t mid (omega arith)))
      go false e ih =
          let f : mid ≤ i = ltb-false i mid e in
          ap (λ (u : List ℕ). undone_to w to u mid) (undo_more w mid t i f) ∙ ih f ∙ sym (undo_more w to t i (omega arith))

-- ---- a row taken off
module _ (w : ℕ) (t : List ℕ) (n : ℕ) where
  pub off-none : capacity_of (length t) ≤ n → off_of w t n ≡ t
  unfolding off_of
  off-none h = rw (le-ltb n (capacity_of (length t)) h)

  module _ (q : Row) {k : ℕ} (e : k ≡ row_hash_of w q) (room : n < capacity_of (length t)) (C : Clear t n) where
    abbrev cap : ℕ
    cap = capacity_of (length t)

    abbrev after : List ℕ
    after = append_of cap t n q (head_at cap t (bucket_of k cap)) (bucket_of k cap)

    fits : cap * 8 ≤ length t
    fits = (room-is (length t)).fits

    long : length after ≡ length t
    long = length-append cap t n q (head_at cap t (bucket_of k cap)) (bucket_of k cap)

    bucket : bucket_of k cap < cap
    bucket = bucket-lt k cap (omega arith)

    clear : (j : ℕ) → n * 7 ≤ j → j < n * 7 + 7 → get_or t j 0 ≡ 0
    clear j p r = C.zeros j p (omega arith)

    pub off-append : off_of w after n ≡ t
    unfolding off_of
    off-append =
        let f = fits in
        rw (long, lt-ltb n cap room, append-top cap t n q (head_at cap t (bucket_of k cap)) (bucket_of k cap) room (omega arith), ← e)
        (undone cap t n q (bucket_of k cap) room fits bucket clear)

    pub clear-append : Clear after (n + 1)
    clear-append = record { zeros = λ j p r. let s : j < cap * 7 = rw long at r in after-other cap t n q (bucket_of k cap) room fits bucket clear j (inr (omega arith)) (λ z. omega arith) ∙ C.zeros j (omega arith) s }

-- ---- what adding keeps
pub record Added (w : ℕ) (t : List ℕ) (n : ℕ) (t' : List ℕ) (n' : ℕ) : Type 0 where
  pub clear : Clear t' n'
  pub more : n ≤ n'
  pub back : (to : ℕ) → to ≤ n → undone_to w to t' n' ≡ undone_to w to t n

pub clear_up : {t : List ℕ} {n : ℕ} (n' : ℕ) → n ≤ n' → Clear t n → Clear t n'
clear_up n' h C = record { zeros = λ j p r. C.zeros j (omega arith) r }

module _ (w : ℕ) (t : List ℕ) (n : ℕ) (C : Clear t n) where
  pub added_none : Added w t n t n
  added_none = record { clear = C; more = omega arith; back = λ to h. refl }

  pub added-over : capacity_of (length t) ≤ n → Added w t n t (over_of n (capacity_of (length t)))
  added-over h = go (ltb (capacity_of (length t)) n) refl
    where
      go : (x : Bool) → ltb (capacity_of (length t)) n ≡ x → Added w t n t (over_of n (capacity_of (length t)))
      go true e = rw (over-above n (capacity_of (length t)) (ltb-true _ _ e)) added_none
      go false e =
          let s : capacity_of (length t) + 1 ≡ suc n = (let g = ltb-false (capacity_of (length t)) n e in omega arith) in
          rw (over-most n (capacity_of (length t)) (ltb-false _ _ e), s)
          (record { clear = clear_up (suc n) (omega arith) C; more = omega arith; back = λ to p. rw (undo_more w to t n p, off-none w t n h) })

  pub added-row : (q : Row) {k : ℕ} → k ≡ row_hash_of w q → n < capacity_of (length t)
      → Added w t n (append_of (capacity_of (length t)) t n q (head_at (capacity_of (length t)) t (bucket_of k (capacity_of (length t)))) (bucket_of k (capacity_of (length t)))) (n + 1)
  added-row q {k} e r = record {
    clear = clear-append w t n q e r C;
    more = omega arith;
    back = λ to p. rw (add-one n, undo_more w to (after w t n q e r C) n p, off-append w t n q e r C);
  }

pub added_then : {w : ℕ} {t : List ℕ} {n : ℕ} {t₁ : List ℕ} {n₁ : ℕ} {t₂ : List ℕ} {n₂ : ℕ} → Added w t n t₁ n₁ → Added w t₁ n₁ t₂ n₂ → Added w t n t₂ n₂
added_then a b = let p = a.more in let q = b.more in record { clear = b.clear; more = omega arith; back = λ to h. b.back to (omega arith) ∙ a.back to h }

-- undoing to the former count gives the former words
pub added-undone : {w : ℕ} (t : List ℕ) (n : ℕ) (t₁ : List ℕ) (n₁ : ℕ) → Added w t n t₁ n₁ → undone_to w n t₁ n₁ ≡ t
added-undone {w} t n t₁ n₁ a = a.back n (omega arith) ∙ undo_done w n t n (omega arith)

-- ---- index sets and ranges: one call
-- what an insert may leave
abbrev Row-added : ℕ → List ℕ → ℕ → Left Inserted → Type 0
Row-added w t n x = Added w t n x.table x.got.count

pub insert-added : (w : ℕ) → eqb w 4 ≡ false → (t : List ℕ) (n : ℕ) (q : Row) → Clear t n → Added w t n (insert_of w t n q).table (insert_of w t n q).got.count
unfolding insert_of insert_at newest_of row_hash_of
insert-added w e t n q C = go (lookup_of w t n q) (ltb (lookup_of w t n q) n) (ltb n (capacity_of (length t))) refl
  where
    go : (i : ℕ) (x y : Bool) → ltb n (capacity_of (length t)) ≡ y
        → Row-added w t n (cond x (left (inserted i n) t) (cond y (left (inserted i (n + 1)) (append_of (capacity_of (length t)) t n q (head_at (capacity_of (length t)) t (bucket_in w t q)) (bucket_in w t q))) (left (inserted i (over_of n (capacity_of (length t)))) t)))
    go i true y f = added_none w t n C
    go i false true f = added-row w t n C q (rw e) (ltb-true _ _ f)
    go i false false f = added-over w t n C (ltb-false _ _ f)

-- the step form: undoing to a mark is the same before and after an insert
pub undo_insert : (w : ℕ) → eqb w 4 ≡ false → (t : List ℕ) (n : ℕ) (q : Row) (to : ℕ) → Clear t n → to ≤ n → undone_to w to (insert_of w t n q).table (insert_of w t n q).got.count ≡ undone_to w to t n
undo_insert w e t n q to C h = (insert-added w e t n q C).back to h

-- any list of calls
pub inserts_added : (w : ℕ) → eqb w 4 ≡ false → (qs : List Row) (t : List ℕ) (n : ℕ) → Clear t n → Added w t n (insert_all w t n qs).table (insert_all w t n qs).got.count
unfolding insert_all
inserts_added w e [] t n C = added_none w t n C
inserts_added w e (q ∷ qs) t n C = let a = insert-added w e t n q C in added_then a (inserts_added w e qs (insert_of w t n q).table (insert_of w t n q).got.count a.clear)

pub undo_inserts : (w : ℕ) → eqb w 4 ≡ false → (qs : List Row) (t : List ℕ) (n : ℕ) → Clear t n → undone_to w n (insert_all w t n qs).table (insert_all w t n qs).got.count ≡ t
undo_inserts w e qs t n C = added-undone t n (insert_all w t n qs).table (insert_all w t n qs).got.count (inserts_added w e qs t n C)

-- zeroed memory
pub clear-begun : (words : ℕ) → Clear (replicate words 0) 0
clear-begun words = record { zeros = λ j p r. zeros words j }
