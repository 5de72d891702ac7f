-- The turns of the two loops over line rows, over plain lists.
use Prim.Native.Nat.{ℕ, zero, suc, ◌+◌, ◌≤◌, ◌<◌}
use mathlib.Core.Path.{◌≡◌, refl, sym, ap, ◌∙◌}
use mathlib.Core.Bool.{Bool, ◌&&◌, and-true}
use mathlib.Core.List.{List, [], ◌∷◌}
use Rattle.std.specs.List.{list_all}
use native.Mathlib.Numerals.{add-one}
use lib.ListN.{length, get_or, drop, drop_of_length-le}
use lib.Seq.{drop-cons}
use Rattle.refusals.specs.Refusals.{each, line_texts?}
use Rattle.rows.specs.declared.LineRow.{LineRow}
use borrow.Author.Tests.{eq-eqb, ne_eqb}
use Rattle.refusals.proofs.Laws.{and-and}
use Rattle.line_rows.specs.Lines.{no_line, lines_texts?, put_row, put_lines, unpacked_to}

-- ── The texts of a list, as `all` goes through it ──

module _ (p : ℕ → Bool) where
  -- the first apart
  each-first : (n : ℕ) → each p (suc n) ≡ p 0 && each (λ (i : ℕ). p (suc i)) n
  unfolding each
  each-first zero = sym (and-true (p 0))
  each-first (suc n) = ap (λ (b : Bool). b && p (suc n)) (each-first n) ∙ and-and (p 0) (each (λ (i : ℕ). p (suc i)) n) (p (suc n))

pub lines_tested : (t : List ℕ) (ls : List LineRow) → list_all (line_texts? t) ls ≡ lines_texts? t ls
unfolding each
lines_tested t [] = refl
lines_tested t (l ∷ ls) =
    ap (λ (b : Bool). line_texts? t l && b) (lines_tested t ls) ∙ sym (each-first (λ (j : ℕ). line_texts? t (get_or (l ∷ ls) j no_line)) (length ls))

-- ── Unpacking: j rows are unpacked, and the rest makes the columns ──

-- one row more, in a column of w words a row
pub put-more : (w : ℕ) (f : LineRow → List ℕ) (ys : List LineRow) (j : ℕ) (t : List ℕ) {u z : List ℕ} → j < length ys → put_lines w f (drop j ys) j t ≡ z → u ≡ put_row w t j (f (get_or ys j no_line))
    → put_lines w f (drop (j + 1) ys) (j + 1) u ≡ z
unfolding put_lines
put-more w f ys j t h e d = rw (d, add-one) (rw (drop-cons ys j no_line h) at e)

put_all : (w : ℕ) (f : LineRow → List ℕ) (ys : List LineRow) (j : ℕ) {t z : List ℕ} → length ys ≤ j → put_lines w f (drop j ys) j t ≡ z → t ≡ z
unfolding put_lines
put_all w f ys j h e = rw (drop_of_length-le ys h) at e

-- all of them, in a call that isn't refused
pub unpacked_all : (refused w : ℕ) (f : LineRow → List ℕ) (ys : List LineRow) (j : ℕ) (t₀ : List ℕ) {t : List ℕ} → refused ≡ 0 → length ys ≤ j → put_lines w f (drop j ys) j t ≡ put_lines w f ys 0 t₀ → t ≡ unpacked_to refused w f ys t₀
unfolding unpacked_to
unpacked_all refused w f ys j t₀ z h e = rw (eq-eqb refused 0 z) (put_all w f ys j h e)

pub unpacked_none : (refused w : ℕ) (f : LineRow → List ℕ) (ys : List LineRow) (t : List ℕ) → (refused ≡ 0 → ⊥) → t ≡ unpacked_to refused w f ys t
unfolding unpacked_to
unpacked_none refused w f ys t h = rw (ne_eqb refused 0 h)
