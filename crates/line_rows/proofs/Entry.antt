-- The number that is decided before a word is unpacked, of the columns that the line rows stand for.
use Prim.Native.Nat.{ℕ, ◌*◌, ◌/◌, ◌≤◌, ◌<◌}
use mathlib.Core.Path.{◌≡◌, refl, sym, ◌∙◌}
use mathlib.Core.Bool.{Bool, true, false, cond, ◌&&◌}
use mathlib.Core.List.{List}
use native.Mathlib.Omega.{arith}
use lib.Dec.{eqb, leb}
use lib.ListN.{length}
use borrow.Author.Tests.{le-leb, lt-leb, leb-true, leb-false, eqb-false}
use Rattle.rows.specs.Columns.{Columns}
use Rattle.refusals.specs.Refusals.{tree_refusal}
use Rattle.rows.specs.declared.LineRow.{LineRow}
use Rattle.memory.specs.Memory.{Memory}
use Rattle.memory.specs.declared.Converter.{Converter}
use Rattle.memory.specs.Record.{usable?}
use Rattle.line_rows.specs.Lines.{words64, words32, packed, line_columns, lines_texts?}
use Rattle.line_rows.specs.Numbers.{unpack_room?}
use Rattle.line_rows.specs.Numbers.{usable_by, number_of}
use Rattle.line_rows.proofs.Packed.{length64, length32, refusal-lines}

module _ (c : Converter) (m : Memory) (s u v f64 f32 : List ℕ) (ls : List LineRow) (t : List ℕ) where
  abbrev k : Columns
  k = line_columns f64 f32 ls t

  abbrev usable : Bool
  usable = usable_by c (length m.text) (length m.strings) (length m.files) (length m.functions) (length m.calls) (length m.ranges)

  abbrev pub number : ℕ
  number = number_of usable (length s) (length u) (length v) f64 f32 (length ls) (lines_texts? t ls) t

  usable-is : usable ≡ usable? c m
  usable-is = refl

  pub room-is : leb (length ls) (length u / 3) && leb (length ls) (length v / 14) ≡ unpack_room? k u v
  unfolding unpack_room?
  room-is =
      let a = length64 ls in
      let b = length32 ls in
      λ i. by_leb (length ls) (length u / 3) (length (packed words64 ls)) (length u) (λ h. omega (arith, a, h)) (λ h. omega (arith, a, h)) i && by_leb (length ls) (length v / 14) (length (packed words32 ls)) (length v) (λ h. omega (arith, b, h)) (λ h. omega (arith, b, h)) i
    where
      by_leb : (x y x₁ y₁ : ℕ) → (x ≤ y → x₁ ≤ y₁) → (y < x → y₁ < x₁) → leb x y ≡ leb x₁ y₁
      by_leb x y x₁ y₁ f g = go (leb x y) refl
        where
          go : (b : Bool) → leb x y ≡ b → leb x y ≡ leb x₁ y₁
          go true e = e ∙ sym (le-leb x₁ y₁ (f (leb-true x y e)))
          go false e = e ∙ sym (lt-leb x₁ y₁ (g (leb-false x y e)))

  pub number_is : number ≡ cond (usable? c m) (cond (eqb (tree_refusal k (length s)) 0) (cond (unpack_room? k u v) 0 16) (tree_refusal k (length s))) 19
  unfolding number_of
  number_is = λ i. cond (usable-is i) (cond (eqb (refusal-lines f64 f32 ls t (length s) i) 0) (cond (room-is i) 0 16) (refusal-lines f64 f32 ls t (length s) i)) 19

  -- where it is 0 there is room for all rows
  pub room-there : number ≡ 0 → (length ls * 3 ≤ length u) × (length ls * 14 ≤ length v)
  unfolding unpack_room?
  room-there e = go (usable? c m) (eqb (tree_refusal k (length s)) 0) (leb (length (packed words64 ls)) (length u)) (leb (length (packed words32 ls)) (length v)) refl refl refl refl
    where
      bad : (n : ℕ) → n ≡ 0 → 1 ≤ n → ⊥
      bad n a b = omega arith

      go : (a b x y : Bool) → usable? c m ≡ a → eqb (tree_refusal k (length s)) 0 ≡ b → leb (length (packed words64 ls)) (length u) ≡ x → leb (length (packed words32 ls)) (length v) ≡ y
          → (length ls * 3 ≤ length u) × (length ls * 14 ≤ length v)
      go true true true true p q f g =
          let a = length64 ls in
          let b = length32 ls in
          let h = leb-true (length (packed words64 ls)) (length u) f in
          let i = leb-true (length (packed words32 ls)) (length v) g in
          (omega (arith, a, h), omega (arith, b, i))
      go true true true false p q f g = absurd (bad 16 (sym (number_is ∙ rw (p, q, f, g)) ∙ e) (omega arith))
      go true true false y p q f g = absurd (bad 16 (sym (number_is ∙ rw (p, q, f)) ∙ e) (omega arith))
      go true false x y p q f g = absurd (eqb-false (tree_refusal k (length s)) 0 q (sym (number_is ∙ rw (p, q)) ∙ e))
      go false b x y p q f g = absurd (bad 19 (sym (number_is ∙ rw p) ∙ e) (omega arith))
