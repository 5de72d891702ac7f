-- What a tree call does after its tests, in the words of its definition.
use mathlib.Core.Path.{◌≡◌, refl, sym, ◌∙◌, ap, ap₂}
use mathlib.Core.Bool.{Bool, true, false}
use mathlib.Core.List.{List, [], ◌∷◌}
use Prim.Native.Nat.{ℕ, ◌+◌}
use lib.ListN.{length, replicate}
use borrow.Author.Tests.{eq-eqb, ne_eqb}
use Rattle.model.specs.Rows.{FunctionRow}
use Rattle.rows.specs.Columns.{Columns, tree_rows_lem}
use Rattle.rows.specs.Clamped.{clamped_lines_in, clamped_rows, clamped_columns_lem}
use Rattle.rows.proofs.ClampedLaws.{clamped_append, clamped_columns}
use Rattle.refusals.specs.Refusals.{tree_refusal}
use Rattle.refusals.proofs.Accepted.{accepted, lines_of}
use Rattle.memory.specs.declared.Converter.{Converter}
use Rattle.memory.specs.declared.Lengths.{Lengths}
use Rattle.memory.specs.Memory.{Memory, Words, lent}
use Rattle.memory.specs.Record.{usable_in, usable?, with_clamped}
use Rattle.slices.specs.Slices.{zeros}
use Rattle.symbol_call.specs.Calls.{called, finished}
use Rattle.writer.specs.Calls.{rows_converted, tree_of}

-- ── Clamped line rows ──

clamped_under : (qs : List FunctionRow) → clamped_lines_in (lines_of qs) ≡ clamped_rows qs
unfolding clamped_lines_in clamped_rows
clamped_under [] = refl
clamped_under (q ∷ qs) = clamped_append q.lines (lines_of qs) ∙ ap (λ (n : ℕ). clamped_lines_in q.lines + n) (clamped_under qs)

-- the line rows of an accepted tree's columns are those of its function rows, each once (13)
clamped_tree : (k : Columns) (s : ℕ) → tree_refusal k s ≡ 0 → clamped_columns_lem k.lines64 k.lines32 ≡ clamped_rows (tree_rows_lem k)
clamped_tree k s e = clamped_columns k ∙ (ap clamped_lines_in (sym (accepted k s e).all_lines) ∙ clamped_under (tree_rows_lem k))

-- ── A tree call ──

module _ (c : Converter) (m : Memory) (s : List ℕ) (k : Columns) {n : Lengths} (el : n ≡ lent m) {b : Bool} (eu : b ≡ usable_in c n) where
  usable-t : b ≡ usable? c m
  usable-t = rw el at eu

  -- scratch, whatever the rows left in it, is zeroed; the clamped rows of the columns are those of the tree
  pub tree-taken : b ≡ true → {r : ℕ} → r ≡ tree_refusal k (length s) → r ≡ 0 → {w : Words} → w ≡ rows_converted c m k → (s₁ : List ℕ) → length s₁ ≡ length s → {s₂ : List ℕ} → s₂ ≡ zeros s₁
      → {lines : ℕ} → lines ≡ clamped_columns_lem k.lines64 k.lines32 → {c₁ : Converter} → c₁ ≡ with_clamped c lines
      → {n : ℕ} {c₂ : Converter} {m₂ : Memory} → called n c₂ m₂ (zeros s) ≡ finished c₁ s w → called n c₂ m₂ s₂ ≡ tree_of c m s k
  unfolding tree_of
  tree-taken h f g d s₁ l z e ec {n} {c₂} {m₂} j =
      let counted = ec ∙ ap (with_clamped c) (e ∙ clamped_tree k (length s) (sym f ∙ g)) in
      rw (← usable-t, h, eq-eqb (tree_refusal k (length s)) 0 (sym f ∙ g))
      (ap (λ (x : List ℕ). called n c₂ m₂ x) (z ∙ ap (λ (i : ℕ). replicate i 0) l) ∙ j ∙ ap₂ (λ (x : Converter) (v : Words). finished x s v) counted d)

  pub tree-refused : b ≡ true → {r : ℕ} → r ≡ tree_refusal k (length s) → (r ≡ 0 → ⊥) → called r c m s ≡ tree_of c m s k
  unfolding tree_of
  tree-refused h f g = rw (← usable-t, h, ne_eqb (tree_refusal k (length s)) 0 (λ i. g (f ∙ i)), f)

  pub tree-closed : b ≡ false → called 19 c m s ≡ tree_of c m s k
  unfolding tree_of
  tree-closed h = rw (← usable-t, h)
