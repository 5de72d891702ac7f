-- A capacity is at most the largest one, and so many rows with their heads fit.
use Prim.Native.Nat.{ℕ, ◌*◌, ◌/◌, ◌<◌, ◌≤◌}
use mathlib.Core.Path.{◌≡◌, refl}
use mathlib.Core.Bool.{Bool, true, false, cond}
use native.Mathlib.Omega.{arith}
use lib.Dec.{ltb}
use borrow.Author.Tests.{ltb-true, ltb-false}
use Rattle.tables.specs.Table.{max_rows, capacity_of}

pub record Room (words cap : ℕ) : Type 0 where
  pub most : cap ≤ max_rows
  pub fits : cap * 8 ≤ words

pub room-is : (words : ℕ) → Room words (capacity_of words)
unfolding capacity_of
room-is words = go (ltb (words / 8) max_rows) refl
  where
    go : (x : Bool) → ltb (words / 8) max_rows ≡ x → Room words (cond x (words / 8) max_rows)
    go true e = let h : words / 8 < max_rows = ltb-true _ _ e in record { most = omega arith; fits = omega arith }
    go false e = let h : max_rows ≤ words / 8 = ltb-false _ _ e in record { most = omega arith; fits = omega arith }

pub cap_most : (words : ℕ) → capacity_of words ≤ max_rows
cap_most words = (room-is words).most
