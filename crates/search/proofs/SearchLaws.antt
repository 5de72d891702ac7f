-- The search: it does not depend on its bound, and ends among the starts, whatever these are. What the functions of src/ cite.
use Prim.Native.Nat.{ℕ, zero, suc, ◌+◌, ◌*◌, ◌/◌, ◌-◌, ◌≤◌, ◌<◌}
use mathlib.Core.Path.{◌≡◌, refl, sym, ◌∙◌}
use mathlib.Core.List.{List}
use mathlib.Core.Bool.{Bool, true, false, cond, ◌&&◌}
use mathlib.Core.Logic.{◌⊎◌, inl, inr, ⊎_elim}
use native.Mathlib.Nat.{mul-le-mul_left}
use native.Mathlib.Numerals.{add-one}
use native.Mathlib.Omega.{arith}
use lib.Dec.{leb}
use lib.ListN.{length}
use borrow.Author.Tests.{lt-ltb, le-ltb, le-leb, lt-leb, leb-true}
use Rattle.slices.proofs.Cases.{lt-or_ge, both_true}
use Rattle.raw.specs.Rows.{max32}
use Rattle.search.specs.Search.{start_at, ascending_from, ascending, count_in_lem, half_in, quarters_in, search_in, found_among, usable, found_in}

-- ── Starts that ascend ──

-- one turn of the test
pub ascending-more : (f : ℕ → ℕ) (last i n : ℕ) → i < n → last < f i → ascending_from f (f i) (i + 1) (n - (i + 1)) ≡ ascending_from f last i (n - i)
unfolding ascending_from
ascending-more f last i n h l =
    let e : n - i ≡ suc (n - (i + 1)) = omega arith in
    rw (e, lt-ltb last (f i) l, add-one i)

pub ascending-stops : (f : ℕ → ℕ) (last i n : ℕ) → i < n → f i ≤ last → ascending_from f last i (n - i) ≡ false
unfolding ascending_from
ascending-stops f last i n h l =
    let e : n - i ≡ suc (n - (i + 1)) = omega arith in
    rw (e, le-ltb last (f i) l)

pub ascending-ends : (f : ℕ → ℕ) (last i n : ℕ) → n ≤ i → true ≡ ascending_from f last i (n - i)
unfolding ascending_from
ascending-ends f last i n h = let e : n - i ≡ zero = omega arith in rw e

pub ascending-begins : (f : ℕ → ℕ) (n : ℕ) → 0 < n → ascending_from f (f 0) 1 (n - 1) ≡ ascending f n
unfolding ascending
ascending-begins f zero h = absurd (omega arith)
ascending-begins f (suc n) h = let e : suc n - 1 ≡ n = omega arith in rw e

-- what `ascend` cites
pub ruleset ascend_cases = (ascending-begins, ascending-more, ascending-stops, ascending-ends)

-- ── The count ──

module _ (f : ℕ → ℕ) (a : ℕ) where
  pub at-most-or-above : (i : ℕ) → (f i ≤ a) ⊎ (a < f i)
  at-most-or-above i = ⊎_elim inr inl (lt-or_ge a (f i))

  -- one turn, its end
  pub count_turn : (b i n : ℕ) → i < n → cond (leb (f (b + i)) a) 1 0 + count_in_lem f a (b + (i + 1)) (n - (i + 1)) ≡ count_in_lem f a (b + i) (n - i)
  unfolding count_in_lem
  count_turn b i n h =
      let e : n - i ≡ suc (n - (i + 1)) = omega arith in
      let d : b + (i + 1) ≡ suc (b + i) = omega arith in
      rw (e, d)

  pub count-done : (b i n : ℕ) → n ≤ i → count_in_lem f a (b + i) (n - i) ≡ 0
  unfolding count_in_lem
  count-done b i n h = let e : n - i ≡ zero = omega arith in rw e

  -- a count is at most what is counted
  pub count_most : (n i : ℕ) → count_in_lem f a i n ≤ n
  unfolding count_in_lem
  count_most zero i = omega arith
  count_most (suc n) i =
      ⊎_elim (λ t. rw (le-leb (f i) a t) (omega (arith, count_most n (suc i)))) (λ t. rw (lt-leb (f i) a t) (omega (arith, count_most n (suc i)))) (at-most-or-above i)

-- what `count` cites
pub ruleset count_cases = (count_turn, count-done)

-- ── The turns ──

module _ (f : ℕ → ℕ) (a : ℕ) where
  -- the last few are counted
  abbrev pub few : ℕ → ℕ → ℕ
  few b n = b + count_in_lem f a (b + 1) (n - 1)

  pub search_done : (k b n : ℕ) → n ≤ 8 → search_in f a k b n ≡ few b n
  unfolding search_in
  search_done zero b n h = refl
  search_done (suc k) b n h = rw (le-leb n 8 h)

  search_stops : (b n : ℕ) → search_in f a zero b n ≡ few b n
  unfolding search_in
  search_stops b n = refl

  -- the starts that lie q, 2 q, .. after index b
  abbrev pub spaced : ℕ → ℕ → ℕ → ℕ
  spaced b q i = f (b + q * i)

  -- where a turn leads that looks at k of them: past those at most the address
  abbrev pub led : ℕ → ℕ → ℕ → ℕ
  led b q k = b + q * count_in_lem (spaced b q) a 1 k

  pub led-most : (b q k : ℕ) → led b q k ≤ b + q * k
  led-most b q k = omega (arith, mul-le-mul_left q (count_most (spaced b q) a k 1))

  -- quartering looks at three, halving at one
  quarters_counted : (b q : ℕ) → quarters_in f a b q ≡ count_in_lem (spaced b q) a 1 3
  unfolding quarters_in count_in_lem
  quarters_counted b q =
      let e : q * 1 ≡ q = omega arith in
      let g : q * 2 ≡ 2 * q = omega arith in
      let h : q * 3 ≡ 3 * q = omega arith in
      rw (e, g, h) (omega arith)

  half-counted : (b q : ℕ) → half_in f a b q ≡ q * count_in_lem (spaced b q) a 1 1
  unfolding half_in count_in_lem
  half-counted b q = let e : q * 1 ≡ q = omega arith in rw e (omega arith)

  -- a turn of the search for the address among n starts from index b on: it looks at so many starts, so far apart
  pub record Turn (b n : ℕ) : Type 0 where
    pub looks : ℕ
    pub apart : ℕ
    pub wide : 0 < apart
    pub past : 0 < apart * looks
    pub fits : apart * looks + apart ≤ n
    pub leads : (k : ℕ) → search_in f a (suc k) b n ≡ search_in f a k (led b apart looks) (n - apart * looks)

  quarter-leads : (b n : ℕ) → 8 < n → n ≤ 1024 → (k : ℕ) → search_in f a (suc k) b n ≡ search_in f a k (led b (n / 4) 3) (n - n / 4 * 3)
  unfolding search_in
  quarter-leads b n h l k =
      let e : n / 4 * 3 ≡ 3 * (n / 4) = omega arith in
      rw (lt-leb n 8 h, le-leb n 1024 l, e, quarters_counted b (n / 4))

  half-leads : (b n : ℕ) → 1024 < n → (k : ℕ) → search_in f a (suc k) b n ≡ search_in f a k (led b (n / 2) 1) (n - n / 2 * 1)
  unfolding search_in
  half-leads b n h k =
      let e : n / 2 * 1 ≡ n / 2 = omega arith in
      rw (lt-leb n 8 (omega arith), lt-leb n 1024 h, e, half-counted b (n / 2))

  abbrev quarter : (b n : ℕ) → 8 < n → n ≤ 1024 → Turn b n
  quarter b n h l = record { looks = 3; apart = n / 4; wide = omega arith; past = omega arith; fits = omega arith; leads = quarter-leads b n h l }

  abbrev half : (b n : ℕ) → 1024 < n → Turn b n
  half b n h = record { looks = 1; apart = n / 2; wide = omega arith; past = omega arith; fits = omega arith; leads = half-leads b n h }

  pub turn : (b n : ℕ) → 8 < n → Turn b n
  turn b n h = ⊎_elim (λ l. half b n l) (λ l. quarter b n h l) (lt-or_ge 1024 n)

  -- as many turns as there are starts are enough
  pub search_enough : (k m b n : ℕ) → n ≤ k → n ≤ m → search_in f a k b n ≡ search_in f a m b n
  search_enough zero m b n h g = search_done zero b n (omega arith) ∙ sym (search_done m b n (omega arith))
  search_enough (suc k) zero b n h g = search_done (suc k) b n (omega arith) ∙ sym (search_done zero b n (omega arith))
  search_enough (suc k) (suc m) b n h g =
      ⊎_elim
      (λ l. let t = turn b n l in
      t.leads k ∙ (search_enough k m (led b t.apart t.looks) (n - t.apart * t.looks) (omega (arith, t.past)) (omega (arith, t.past)) ∙ sym (t.leads m)))
      (λ l. search_done (suc k) b n l ∙ sym (search_done (suc m) b n l))
      (lt-or_ge 8 n)

  -- one turn of a loop
  turn-made : (b n : ℕ) (t : Turn b n) → search_in f a (n - t.apart * t.looks) (led b t.apart t.looks) (n - t.apart * t.looks) ≡ search_in f a n b n
  turn-made b zero t = absurd (omega (arith, t.wide, t.fits))
  turn-made b (suc n) t =
      sym (t.leads n ∙ search_enough n (suc n - t.apart * t.looks) (led b t.apart t.looks) (suc n - t.apart * t.looks) (omega (arith, t.past)) (omega arith))

  pub quarter-turn : (b n : ℕ) → 8 < n → n ≤ 1024 → search_in f a (n - 3 * (n / 4)) (b + n / 4 * quarters_in f a b (n / 4)) (n - 3 * (n / 4)) ≡ search_in f a n b n
  quarter-turn b n h l =
      let e : 3 * (n / 4) ≡ n / 4 * 3 = omega arith in
      rw (e, quarters_counted b (n / 4)) (turn-made b n (quarter b n h l))

  pub half-turn : (b n : ℕ) → 1024 < n → search_in f a (n - n / 2) (b + half_in f a b (n / 2)) (n - n / 2) ≡ search_in f a n b n
  half-turn b n h =
      let e : n - n / 2 ≡ n - n / 2 * 1 = omega arith in
      rw (e, half-counted b (n / 2)) (turn-made b n (half b n h))

  -- the search ends among the starts
  few-inside : (b n : ℕ) → 0 < n → few b n < b + n
  few-inside b n p = omega (arith, count_most f a (n - 1) (b + 1))

  pub search_inside : (k b n : ℕ) → 0 < n → search_in f a k b n < b + n
  search_inside zero b n p = rw (search_stops b n) (few-inside b n p)
  search_inside (suc k) b n p =
      ⊎_elim
      (λ z. let t = turn b n z in
      let h : 0 < n - t.apart * t.looks = omega (arith, t.wide, t.fits) in
      rw (t.leads k) (omega (arith, search_inside k (led b t.apart t.looks) (n - t.apart * t.looks) h, led-most b t.apart t.looks, t.fits)))
      (λ z. rw (search_done (suc k) b n z) (few-inside b n p))
      (lt-or_ge 8 n)

-- what `halves` and `search` cite
pub ruleset turn_cases = (half-turn, quarter-turn, search_done)

-- ── What `find` gives ──

-- an address above MAX
pub found-far : (s : List ℕ) (locations m ranges n a : ℕ) → max32 < a → max32 ≡ found_in s locations m ranges n a
unfolding found_in
found-far s locations m ranges n a h = rw (lt-leb a max32 h) (go (usable (length s) locations m ranges n))
  where
    go : (u : Bool) → max32 ≡ cond (u && false) (found_among (start_at s ranges) m n a) max32
    go true = refl
    go false = refl

-- what `usable` tests
pub record Usable (bytes locations m ranges n : ℕ) : Type 0 where
  pub fewer : n ≤ m
  pub starts : ranges + 4 * n ≤ bytes
  pub rows : locations + 16 * m ≤ bytes

pub usable-has : (bytes locations m ranges n : ℕ) → usable bytes locations m ranges n ≡ true → Usable bytes locations m ranges n
unfolding usable
usable-has bytes locations m ranges n e =
    let (x, y) = both_true (leb n m) (leb (ranges + 4 * n) bytes && leb (locations + 16 * m) bytes) e in
    let (z, w) = both_true (leb (ranges + 4 * n) bytes) (leb (locations + 16 * m) bytes) y in
    record { fewer = leb-true n m x; starts = leb-true (ranges + 4 * n) bytes z; rows = leb-true (locations + 16 * m) bytes w }

-- what `find` cites
pub ruleset find_cases = (search_inside, usable-has)
