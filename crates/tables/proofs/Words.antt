-- `same_words` is equality of lists.
use Prim.Native.Nat.{ℕ, ◌<◌}
use mathlib.Core.Path.{◌≡◌, refl, ap₂}
use mathlib.Core.List.{List, [], ◌∷◌}
use mathlib.Core.Bool.{Bool, true, false, ◌&&◌, false≢true}
use native.Mathlib.Omega.{arith}
use lib.Dec.{eqb}
use lib.ListN.{length}
use borrow.Author.Tests.{eqb-true}
use Rattle.tables.specs.Table.{same_words}

pub words-eq : (xs ys : List ℕ) → same_words xs ys ≡ true → xs ≡ ys
words-eq [] [] e = refl
words-eq [] (y ∷ ys) e = absurd (false≢true e)
words-eq (x ∷ xs) [] e = absurd (false≢true e)
words-eq (x ∷ xs) (y ∷ ys) e = go (eqb x y) refl e (λ f. words-eq xs ys f)
  where
    go : (b : Bool) → eqb x y ≡ b → b && same_words xs ys ≡ true → (same_words xs ys ≡ true → xs ≡ ys) → x ∷ xs ≡ y ∷ ys
    go true f e ih = ap₂ (λ (z : ℕ) (l : List ℕ). z ∷ l) (eqb-true x y f) (ih e)
    go false f e ih = absurd (false≢true e)

pub words-short : (xs ys : List ℕ) → length xs < length ys → same_words xs ys ≡ false
words-short [] [] h = absurd (omega arith)
words-short [] (y ∷ ys) h = refl
words-short (x ∷ xs) [] h = refl
words-short (x ∷ xs) (y ∷ ys) h = go (eqb x y) (words-short xs ys (omega arith))
  where
    go : (b : Bool) → same_words xs ys ≡ false → (b && same_words xs ys) ≡ false
    go true e = e
    go false e = refl
