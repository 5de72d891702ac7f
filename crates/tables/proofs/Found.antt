-- A number below n as an answer.
use Prim.Native.Nat.{ℕ, ◌<◌, ◌≤◌}
use mathlib.Core.Path.{◌≡◌, refl}
use mathlib.Core.Bool.{Bool, true, false, cond}
use native.Mathlib.Omega.{arith}
use lib.Dec.{ltb}
use borrow.Author.Tests.{lt-ltb, le-ltb, ltb-true, ltb-false}
use Rattle.std.specs.Prelude.{Some, None}
use Rattle.std.specs.Option.{unwrap_or}
use Rattle.tables.specs.Table.{found_of}

pub found_at : (n : ℕ) {i x : ℕ} → i ≡ x → i < n → Some i ≡ found_of n x
found_at n {i} e h = rw (← e, lt-ltb i n h)

pub found_none : (n : ℕ) {x : ℕ} → x ≡ n → None ≡ found_of n x
found_none n e = rw (e, le-ltb n n (let p : n ≤ n = omega arith in p))

pub record Below (n x k : ℕ) : Type 0 where
  pub is : k ≡ x
  pub below : k < n

pub some_found : (n x k : ℕ) → Some k ≡ found_of n x → Below n x k
some_found n x k = go (ltb x n) refl
  where
    go : (b : Bool) → ltb x n ≡ b → Some k ≡ cond b (Some x) None → Below n x k
    go true e f = let g : k ≡ x = cc in record { is = g; below = rw g (ltb-true x n e) }
    go false e f = cc

pub none_found : (n x : ℕ) → None ≡ found_of n x → n ≤ x
none_found n x = go (ltb x n) refl
  where
    go : (b : Bool) → ltb x n ≡ b → None ≡ cond b (Some x) None → n ≤ x
    go true e f = cc
    go false e f = ltb-false x n e

pub or_found : (n x : ℕ) → x ≤ n → unwrap_or (found_of n x) n ≡ x
or_found n x h = go (ltb x n) refl
  where
    go : (b : Bool) → ltb x n ≡ b → unwrap_or (cond b (Some x) None) n ≡ x
    go true e = refl
    go false e = let p : n ≤ x = ltb-false x n e in omega (arith, p)
