-- The capacity of a string section is at most the largest one, and so many bytes fit.
use Prim.Native.Nat.{ℕ, ◌<◌, ◌≤◌}
use mathlib.Core.Path.{◌≡◌, refl}
use mathlib.Core.Bool.{Bool, true, false, cond}
use native.Mathlib.Omega.{arith}
use lib.Dec.{ltb}
use borrow.Author.Tests.{ltb-true, ltb-false}
use Rattle.strings.specs.Strings.{max_bytes, text_capacity_of}

pub record TextRoom (n limit : ℕ) : Type 0 where
  pub most : limit ≤ max_bytes
  pub fits : limit ≤ n

pub text-room : (n : ℕ) → TextRoom n (text_capacity_of n)
unfolding text_capacity_of
text-room n = go (ltb n max_bytes) refl
  where
    go : (x : Bool) → ltb n max_bytes ≡ x → TextRoom n (cond x n max_bytes)
    go true e = let h : n < max_bytes = ltb-true _ _ e in record { most = omega arith; fits = omega arith }
    go false e = let h : max_bytes ≤ n = ltb-false _ _ e in record { most = omega arith; fits = omega arith }
