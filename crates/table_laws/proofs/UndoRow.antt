-- A new row goes to the head of its chain, and nothing else moves: so the newest row can be taken back, which restores the table to the word. Rows above the
-- count are zero, as at a beginning, and stay so. By repetition any number of the newest rows are taken back, in reverse order.
use Prim.Native.Nat.{ℕ, zero, suc, ◌+◌, ◌*◌, ◌<◌, ◌≤◌}
use mathlib.Core.Path.{◌≡◌, refl, sym, ◌∙◌}
use mathlib.Core.List.{List}
use mathlib.Core.Bool.{Bool, true, false}
use mathlib.Core.Logic.{◌⊎◌, inl, inr, ⊎_elim}
use native.Mathlib.Omega.{arith}
use lib.Dec.{eqb, leb, ltb}
use lib.ListN.{length, get_or, set, replicate, length-set}
use lib.Seq.{sets, length-sets, get_or-set_same, get_or-set_other, ext_get_or}
use borrow.Author.Tests.{eqb-true, eqb-false, leb-true, leb-false, ltb-true, ltb-false}
use Rattle.tables.specs.Table.{row_words, link_at, head_at, set_row, append_of}
use Rattle.journal.specs.Undo.{undo_of}
use Rattle.tables.specs.declared.Row.{Row}
use Rattle.slices.proofs.Runs.{sets-low, sets-high}
use Rattle.table_laws.proofs.Rows.{length-append, append_link_top}

pub sets-zero : (m : ℕ) (t : List ℕ) (k j : ℕ) → k ≤ j → j < k + m → j < length t → get_or (sets t k (replicate m 0)) j 0 ≡ 0
sets-zero zero t k j a b r = absurd (omega arith)
sets-zero (suc m) t k j a b r = go (eqb j k) refl (λ c. sets-zero m (set t k 0) (suc k) j c (omega arith) (rw (length-set t k 0) r))
  where
    go : (x : Bool) → eqb j k ≡ x → (suc k ≤ j → get_or (sets (set t k 0) (suc k) (replicate m 0)) j 0 ≡ 0) → get_or (sets (set t k 0) (suc k) (replicate m 0)) j 0 ≡ 0
    go true e ih = let f : j ≡ k = eqb-true j k e in rw f (sets-low (replicate m 0) (set t k 0) (suc k) k (omega arith) ∙ get_or-set_same t k 0 0 (omega arith))
    go false e ih = let g = eqb-false j k e in ih (omega arith)

module _ (cap : ℕ) (t : List ℕ) (n : ℕ) (q : Row) (h : ℕ) (room : n < cap) (fits : cap * 8 ≤ length t) (bucket : h < cap) (clear : (j : ℕ) → n * 7 ≤ j → j < n * 7 + 7 → get_or t j 0 ≡ 0) where
  abbrev after : List ℕ
  after = append_of cap t n q (head_at cap t h) h

  long : length (undo_of cap after n h) ≡ length t
  unfolding undo_of
  long = length-sets (set after (cap * 7 + h) (link_at after n)) (n * 7) (replicate 7 0) ∙ length-set after (cap * 7 + h) (link_at after n) ∙ length-append cap t n q (head_at cap t h) h

  -- outside the row, and outside the head, appending changed nothing
  pub after-other : (j : ℕ) → (j < n * 7) ⊎ (n * 7 + 7 ≤ j) → (j ≡ cap * 7 + h → ⊥) → get_or after j 0 ≡ get_or t j 0
  unfolding append_of set_row
  after-other j side d =
      get_or-set_other (set (sets t (n * 7) (row_words q)) (n * 7 + 6) (head_at cap t h)) (cap * 7 + h) j (n + 1) 0 d
      ∙ get_or-set_other (sets t (n * 7) (row_words q)) (n * 7 + 6) j (head_at cap t h) 0 (⊎_elim (λ a e. omega arith) (λ a e. omega arith) side)
      ∙ ⊎_elim (λ a. sets-low (row_words q) t (n * 7) j a) (λ a. sets-high (row_words q) t (n * 7) j (omega arith)) side

  outside : (j : ℕ) → (j < n * 7) ⊎ (n * 7 + 7 ≤ j) → get_or (set after (cap * 7 + h) (link_at after n)) j 0 ≡ get_or t j 0
  unfolding head_at
  outside j side = go (eqb j (cap * 7 + h)) refl
    where
      go : (x : Bool) → eqb j (cap * 7 + h) ≡ x → get_or (set after (cap * 7 + h) (link_at after n)) j 0 ≡ get_or t j 0
      go true e =
          rw (eqb-true j (cap * 7 + h) e)
          (get_or-set_same after (cap * 7 + h) (link_at after n) 0 (rw (length-append cap t n q (head_at cap t h) h) (omega arith)) ∙ append_link_top cap t n q (head_at cap t h) h room (omega arith))
      go false e = get_or-set_other after (cap * 7 + h) j (link_at after n) 0 (eqb-false j (cap * 7 + h) e) ∙ after-other j side (eqb-false j (cap * 7 + h) e)

  pub undone : undo_of cap after n h ≡ t
  unfolding undo_of
  undone = ext_get_or 0 (undo_of cap after n h) t long (λ j p. go j (ltb j (n * 7)) refl (leb (n * 7 + 7) j) refl)
    where
      go : (j : ℕ) (x : Bool) → ltb j (n * 7) ≡ x → (y : Bool) → leb (n * 7 + 7) j ≡ y → get_or (sets (set after (cap * 7 + h) (link_at after n)) (n * 7) (replicate 7 0)) j 0 ≡ get_or t j 0
      go j true e y f = sets-low (replicate 7 0) (set after (cap * 7 + h) (link_at after n)) (n * 7) j (ltb-true _ _ e) ∙ outside j (inl (ltb-true _ _ e))
      go j false e true f = sets-high (replicate 7 0) (set after (cap * 7 + h) (link_at after n)) (n * 7) j (leb-true _ _ f) ∙ outside j (inr (leb-true _ _ f))
      go j false e false f =
          let b : j < n * 7 + 7 = leb-false _ _ f in
          sets-zero 7 (set after (cap * 7 + h) (link_at after n)) (n * 7) j (ltb-false _ _ e) (leb-false _ _ f)
          (rw (length-set after (cap * 7 + h) (link_at after n), length-append cap t n q (head_at cap t h) h) (omega arith))
          ∙ sym (clear j (ltb-false _ _ e) (leb-false _ _ f))
