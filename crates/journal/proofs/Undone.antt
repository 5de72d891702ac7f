-- One turn of the loops that take rows and entries back.
use Prim.Native.Nat.{ℕ, zero, suc, ◌-◌, ◌<◌, ◌≤◌}
use mathlib.Core.Path.{◌≡◌, refl, sym, ap, ◌∙◌}
use mathlib.Core.List.{List}
use mathlib.Core.Bool.{cond}
use native.Mathlib.Omega.{arith}
use lib.Dec.{ltb}
use lib.ListN.{length}
use borrow.Author.Tests.{lt-ltb, le-ltb}
use Rattle.tables.specs.Table.{capacity_of, bucket_of, row_at}
use Rattle.tables.specs.declared.Row.{Row}
use Rattle.journal.specs.Undo.{row_hash_of, undo_of, off_of, undone_to, zero_row, set_entry, undo_at, Undone, undone, undone_ranges}
use Rattle.tables.proofs.Walk.{back}

-- ---- rows
module _ (w to : ℕ) where
  pub undo_done : (t : List ℕ) (n : ℕ) → n ≤ to → undone_to w to t n ≡ t
  unfolding undone_to
  undo_done t zero h = refl
  undo_done t (suc i) h = rw (lt-ltb i to (omega arith))

  pub undo_more : (t : List ℕ) (i : ℕ) → to ≤ i → undone_to w to t (suc i) ≡ undone_to w to (off_of w t i) i
  unfolding undone_to
  undo_more t i h = rw (le-ltb i to h)

  pub undo_turn : (t : List ℕ) (n : ℕ) → to < n → {t₁ x : List ℕ} → t₁ ≡ off_of w t (n - 1) → undone_to w to t n ≡ x → undone_to w to t₁ (n - 1) ≡ x
  undo_turn t zero h e f = absurd (omega arith)
  undo_turn t (suc i) h e f = rw (e, back i) (sym (undo_more t i (omega arith)) ∙ f)

-- rows are taken off by the hash of their bucket, and by nothing else of a width
abbrev taken : (Row → ℕ) → List ℕ → ℕ → List ℕ
taken f t n = cond (ltb n (capacity_of (length t))) (undo_of (capacity_of (length t)) t n (bucket_of (f (row_at t n)) (capacity_of (length t)))) t

taken-is : (w : ℕ) (t : List ℕ) (n : ℕ) → off_of w t n ≡ taken (row_hash_of w) t n
unfolding off_of
taken-is w t n = refl

module _ (w v : ℕ) (e : row_hash_of w ≡ row_hash_of v) where
  pub off_same : (t : List ℕ) (n : ℕ) → off_of w t n ≡ off_of v t n
  off_same t n = taken-is w t n ∙ ap (λ (f : Row → ℕ). taken f t n) e ∙ sym (taken-is v t n)

  pub undone_same : (to : ℕ) (t : List ℕ) (n : ℕ) → undone_to w to t n ≡ undone_to v to t n
  unfolding undone_to
  undone_same to t zero = refl
  undone_same to t (suc n) =
      ap (λ (u : List ℕ). cond (ltb n to) t u) (undone_same to (off_of w t n) n ∙ ap (λ (u : List ℕ). undone_to v to u n) (off_same t n))

-- ---- entries of the journal
module _ (to : ℕ) where
  pub ranges-done : (t j : List ℕ) (m : ℕ) → m ≤ to → undone_ranges to t j m ≡ undone t j
  unfolding undone_ranges
  ranges-done t j zero h = refl
  ranges-done t j (suc i) h = rw (lt-ltb i to (omega arith))

  pub ranges_more : (t j : List ℕ) (i : ℕ) → to ≤ i → undone_ranges to t j (suc i) ≡ undone_ranges to (undo_at t j i) (set_entry j i 0 0 zero_row) i
  unfolding undone_ranges
  ranges_more t j i h = rw (le-ltb i to h)

  pub ranges-turn : (t j : List ℕ) (m : ℕ) → to < m → {t₁ j₁ : List ℕ} {x : Undone} → t₁ ≡ undo_at t j (m - 1) → j₁ ≡ set_entry j (m - 1) 0 0 zero_row → undone_ranges to t j m ≡ x → undone_ranges to t₁ j₁ (m - 1) ≡ x
  ranges-turn t j zero h e f g = absurd (omega arith)
  ranges-turn t j (suc i) h e f g = rw (e, f, back i) (sym (ranges_more t j i (omega arith)) ∙ g)
