-- Numbers below n, none of them twice: there are at most n.
use Prim.Native.Nat.{ℕ, zero, suc, ◌≤◌, ◌<◌}
use mathlib.Core.Path.{◌≡◌, refl}
use mathlib.Core.Bool.{Bool, true, false, cond}
use mathlib.Core.Logic.{◌≢◌, ⊎_elim}
use mathlib.Core.List.{List, [], ◌∷◌}
use native.Mathlib.Omega.{arith}
use lib.Dec.{eqb}
use lib.ListN.{length}
use borrow.Author.Tests.{eq-eqb, ne_eqb, eqb-false}
use Rattle.slices.proofs.Cases.{eq-or-ne}
use Rattle.model.specs.Written.{met?}

abbrev pub NotIn : ℕ → List ℕ → Type 0
NotIn x [] = Unit {0}
NotIn x (y ∷ ys) = (x ≢ y) × NotIn x ys

abbrev pub Once : List ℕ → Type 0
Once [] = Unit {0}
Once (x ∷ xs) = NotIn x xs × Once xs

abbrev pub Below : ℕ → List ℕ → Type 0
Below n [] = Unit {0}
Below n (x ∷ xs) = (x < n) × Below n xs

-- what isn't met
pub not-met : (x : ℕ) (xs : List ℕ) → met? x xs ≡ false → NotIn x xs
unfolding met?
not-met x [] e = tt
not-met x (y ∷ ys) e = go (eqb x y) refl e (λ k. not-met x ys k)
  where
    go : (b : Bool) → eqb x y ≡ b → cond b true (met? x ys) ≡ false → (met? x ys ≡ false → NotIn x ys) → NotIn x (y ∷ ys)
    go true g k r = let bad : ◌≡◌ {A = ℕ} 0 1 = cc in absurd (omega arith)
    go false g k r = (eqb-false x y g, r k)

-- the others than n
unfoldable without : ℕ → List ℕ → List ℕ
without n [] = []
without n (x ∷ xs) = cond (eqb x n) (without n xs) (x ∷ without n xs)

without-same : (n : ℕ) (xs : List ℕ) → NotIn n xs → length (without n xs) ≡ length xs
unfolding without
without-same n [] h = refl
without-same n (x ∷ xs) h = rw (ne_eqb x n (λ e. h.0 (omega arith))) (omega (arith, without-same n xs h.1))

without_not : (n x : ℕ) (xs : List ℕ) → NotIn x xs → NotIn x (without n xs)
unfolding without
without_not n x [] h = tt
without_not n x (y ∷ ys) h = ⊎_elim (λ e. rw (eq-eqb y n e) (without_not n x ys h.1)) (λ e. rw (ne_eqb y n e) (h.0, without_not n x ys h.1)) (eq-or-ne y n)

without-once : (n : ℕ) (xs : List ℕ) → Once xs → Once (without n xs)
unfolding without
without-once n [] h = tt
without-once n (y ∷ ys) h = ⊎_elim (λ e. rw (eq-eqb y n e) (without-once n ys h.1)) (λ e. rw (ne_eqb y n e) (without_not n y ys h.0, without-once n ys h.1)) (eq-or-ne y n)

without-below : (n : ℕ) (xs : List ℕ) → Below (suc n) xs → Below n (without n xs)
unfolding without
without-below n [] h = tt
without-below n (y ∷ ys) h = ⊎_elim (λ e. rw (eq-eqb y n e) (without-below n ys h.1)) (λ e. rw (ne_eqb y n e) (let l = h.0 in omega arith, without-below n ys h.1)) (eq-or-ne y n)

-- at most one is n
without-size : (n : ℕ) (xs : List ℕ) → Once xs → length xs ≤ suc (length (without n xs))
unfolding without
without-size n [] h = omega arith
without-size n (y ∷ ys) h =
    ⊎_elim (λ e. rw (eq-eqb y n e) (let k : NotIn n ys = rw e at h.0 in omega (arith, without-same n ys k)))
    (λ e. rw (ne_eqb y n e) (omega (arith, without-size n ys h.1)))
    (eq-or-ne y n)

pub few : (n : ℕ) (xs : List ℕ) → Once xs → Below n xs → length xs ≤ n
few zero [] o b = omega arith
few zero (x ∷ xs) o b = let l = b.0 in absurd (omega arith)
few (suc n) xs o b = let r = few n (without n xs) (without-once n xs o) (without-below n xs b) in omega (arith, without-size n xs o)
