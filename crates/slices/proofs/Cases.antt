-- Cases of two numbers; tests joined by `&&`, taken apart and put together; what clashes.
use Prim.Native.Nat.{ℕ, ◌<◌, ◌≤◌}
use mathlib.Core.Path.{◌≡◌, refl}
use mathlib.Core.Bool.{Bool, true, false, ◌&&◌}
use mathlib.Core.Option.{Option, none, some}
use mathlib.Core.Logic.{◌⊎◌, inl, inr, ◌≢◌}
use native.Mathlib.Omega.{arith}
use lib.Dec.{ltb, eqb}
use borrow.Author.Tests.{ltb-true, ltb-false, eqb-true, eqb-false}

-- Two numbers

pub lt-or_ge : (a b : ℕ) → (a < b) ⊎ (b ≤ a)
lt-or_ge a b = go (ltb a b) refl
  where
    go : (t : Bool) → ltb a b ≡ t → (a < b) ⊎ (b ≤ a)
    go true e = inl (ltb-true a b e)
    go false e = inr (ltb-false a b e)

pub eq-or-ne : (a b : ℕ) → (a ≡ b) ⊎ (a ≢ b)
eq-or-ne a b = go (eqb a b) refl
  where
    go : (t : Bool) → eqb a b ≡ t → (a ≡ b) ⊎ (a ≢ b)
    go true e = inl (eqb-true a b e)
    go false e = inr (eqb-false a b e)

-- What clashes

pub false-true : {A : Type 0} → ◌≡◌ {A = Bool} false true → A
false-true e = let bad : ◌≡◌ {A = ℕ} 0 1 = cc in absurd (omega arith)

pub none-some : {L A : Type 0} {l : L} → ◌≡◌ {A = Option L} none (some l) → A
none-some e = let bad : ◌≡◌ {A = ℕ} 0 1 = cc in absurd (omega arith)

-- Two tests that hold

pub both_true : (a b : Bool) → (a && b) ≡ true → (a ≡ true) × (b ≡ true)
both_true true b e = (refl, e)
both_true false b e = false-true e

pub and_left : (a b : Bool) → (a && b) ≡ true → a ≡ true
and_left a b e = (both_true a b e).0

pub and_right : (a b : Bool) → (a && b) ≡ true → b ≡ true
and_right a b e = (both_true a b e).1

pub both_of : (a b : Bool) → a ≡ true → b ≡ true → (a && b) ≡ true
both_of a b p q = rw p q

-- Tests one after the other, as code makes them: the first fails and the second is left out, or the answer is the second's

module _ (x y : Bool) where
  pub and-stop : x ≡ false → false ≡ (x && y)
  and-stop e = rw e

  pub and_then : (r : Bool) → x ≡ true → r ≡ y → r ≡ (x && y)
  and_then r e f = rw e f
