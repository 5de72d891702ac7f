-- Words stored one after the other.
use Prim.Native.Nat.{ℕ, suc, ◌+◌, ◌<◌}
use mathlib.Core.Path.{◌≡◌, refl, ap₂, ◌∙◌}
use mathlib.Core.List.{List, [], ◌∷◌}
use lib.ListN.{length, get_or, drop, set}
use native.Mathlib.Omega.{arith}
use native.Mathlib.Numerals.{add-one}
use lib.Seq.{sets, drop-cons}

pub data Puts : List ℕ → ℕ → List ℕ → List ℕ → Type 0 where
  done : {t : List ℕ} {k : ℕ} → Puts t k [] t
  put : {t t₁ r : List ℕ} {k v : ℕ} {vs : List ℕ} (n : ℕ) → n ≡ suc k → t₁ ≡ set t k v → Puts t₁ n vs r → Puts t k (v ∷ vs) r

pub puts : (t : List ℕ) (k : ℕ) (vs : List ℕ) {r : List ℕ} → Puts t k vs r → r ≡ sets t k vs
puts t k [] done = refl
puts t k (v ∷ vs) (put {t₁ = t₁} n e h p) = puts t₁ n vs p ∙ ap₂ (λ (l : List ℕ) (j : ℕ). sets l j vs) h e

-- one word of a run, and the rest
pub sets-turn : (s b : List ℕ) (at i : ℕ) → i < length b → sets (set s (at + i) (get_or b i 0)) (at + (i + 1)) (drop (i + 1) b) ≡ sets s (at + i) (drop i b)
sets-turn s b at i h =
    let e : at + suc i ≡ suc (at + i) = omega arith in
    rw (add-one i, e, drop-cons b i 0 h)
