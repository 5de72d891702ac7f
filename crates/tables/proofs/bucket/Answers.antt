-- `bucket` meets its contract: a place below cap is its own remainder.
use Prim.Native.Nat.{ℕ, ◌+◌, ◌*◌, ◌/◌, ◌%◌, ◌<◌, ◌≤◌}
use mathlib.Core.Path.{◌≡◌, sym, ◌∙◌}
use native.Mathlib.Nat.{mod-lt, mod-eq_of_lt, mul-le-mul_right}
use native.Mathlib.Omega.{arith}
use borrow.Author.Tests.{eq-eqb, ne_eqb}
use Rattle.tables.specs.Table.{bucket_of}
use Rattle.tables.proofs.bucket.Goals as goal

-- where from 0 to m
abbrev placed : ℕ → ℕ → ℕ
placed k m = k / 512 * m / 8388608 + k % 512

none : (k m : ℕ) → m ≡ 0 → 0 ≡ bucket_of k m
unfolding bucket_of
none k m e = rw (eq-eqb m 0 e)

some : (k m : ℕ) → (m ≡ 0 → ⊥) → placed k m % m ≡ bucket_of k m
unfolding bucket_of
some k m e = rw (ne_eqb m 0 e)

below : (k m : ℕ) → (m ≡ 0 → ⊥) → placed k m < m → placed k m ≡ bucket_of k m
below k m e h = sym (mod-eq_of_lt h) ∙ some k m e

less : (k m : ℕ) → (m ≡ 0 → ⊥) → placed k m % m < m
less k m e = mod-lt (placed k m) (omega (arith, e))

-- a hash of 32 bits by a capacity of 32 bits
product : (k m : ℕ) → k < 4294967296 → m < 4294967296 → k / 512 * m ≤ 8388608 * 4294967296
product k m p q = let h : k / 512 * m ≤ 8388608 * m = mul-le-mul_right m (omega arith) in omega (arith, h)

pub returns-then-cap-eq0 : goal.returns-then-cap-eq0
returns-then-cap-eq0 c = none c.args.hash c.args.cap c.if-cap-eq0.true

pub overflow_mul-at : goal.overflow_mul-at
overflow_mul-at c = let p = product c.from-hash.result c.from-all.result (omega arith) (omega arith) in omega (arith, p)

pub overflow_add-at : goal.overflow_add-at
overflow_add-at c = let p = product c.from-hash.result c.from-all.result (omega arith) (omega arith) in omega (arith, p)

pub returns-then-at-all : goal.returns-then-at-all
returns-then-at-all c =
    let h : c.from-hash.result ≡ c.args.hash = c.from-hash.ensures in
    let m : c.from-all.result ≡ c.args.cap = c.from-all.ensures in
    rw (h, m) (below c.args.hash c.args.cap c.if-cap-eq0.false (rw (← h, ← m) c.if-at-all.true))

pub overflow_cast-result-2 : goal.overflow_cast-result-2
overflow_cast-result-2 c =
    let p = less c.from-hash.result c.from-all.result (let n = c.if-cap-eq0.false in λ e. omega (arith, n)) in
    omega (arith, p)

pub returns : goal.returns
returns c =
    let h : c.from-hash.result ≡ c.args.hash = c.from-hash.ensures in
    let m : c.from-all.result ≡ c.args.cap = c.from-all.ensures in
    rw (h, m) (some c.args.hash c.args.cap c.if-cap-eq0.false)
