-- On ascending starts the search ends at the greatest start at most the address.
use Prim.Native.Nat.{ℕ, zero, suc, ◌+◌, ◌*◌, ◌-◌, ◌≤◌, ◌<◌}
use mathlib.Core.Path.{◌≡◌, refl, ◌∙◌}
use mathlib.Core.Bool.{true, cond}
use mathlib.Core.Logic.{◌⊎◌, inl, inr, ⊎_elim}
use native.Mathlib.Nat.{mul-suc, mul-le-mul_left, mul-lt-mul_of_pos_left}
use native.Mathlib.Omega.{arith}
use lib.Dec.{ltb, leb, eqb}
use borrow.Author.Tests.{le-leb, lt-leb, ltb-true, eq-eqb, ne_eqb}
use Rattle.slices.proofs.Cases.{lt-or_ge, both_true}
use Rattle.raw.specs.Rows.{max32}
use Rattle.search.specs.Search.{ascending_from, ascending, count_in_lem, search_in, found_among}
use Rattle.search.proofs.SearchLaws.{at-most-or-above, few, spaced, led, turn, search_done}

-- cases
meets : (i j : ℕ) → i ≤ j → (i ≡ j) ⊎ (i < j)
meets i j h = ⊎_elim inr (λ l. inl (omega arith)) (lt-or_ge i j)

zero-or-more : (n : ℕ) → (n ≡ 0) ⊎ (0 < n)
zero-or-more zero = inl refl
zero-or-more (suc n) = inr (omega arith)

three : (r i : ℕ) → (r < i → r ≡ i) → (i < r → r ≡ i) → r ≡ i
three r i x y = ⊎_elim x (λ l. ⊎_elim y (λ g. omega arith) (lt-or_ge i r)) (lt-or_ge r i)

-- the first m numbers climb
abbrev Climbs : (ℕ → ℕ) → ℕ → Type 0
Climbs f m = (i j : ℕ) → i < j → j < m → f i < f j

-- ── The count ──

module _ (f : ℕ → ℕ) (a : ℕ) where
  -- k of the n starts from index i on are at most the address, and they come first
  pub record Counted (i n k : ℕ) : Type 0 where
    pub most : k ≤ n
    pub low : (j : ℕ) → i ≤ j → j < i + k → f j ≤ a
    pub above : (j : ℕ) → i + k ≤ j → j < i + n → a < f j

  count_up : (n i : ℕ) → f i ≤ a → count_in_lem f a i (suc n) ≡ suc (count_in_lem f a (suc i) n)
  unfolding count_in_lem
  count_up n i t = rw (le-leb (f i) a t) (omega arith)

  count_down : (n i : ℕ) → a < f i → count_in_lem f a i (suc n) ≡ count_in_lem f a (suc i) n
  unfolding count_in_lem
  count_down n i t = rw (lt-leb (f i) a t) (omega arith)

  no_count : (i : ℕ) → count_in_lem f a i zero ≡ 0
  unfolding count_in_lem
  no_count i = refl

  count_none : (n i : ℕ) → ((j : ℕ) → i ≤ j → j < i + n → a < f j) → count_in_lem f a i n ≡ 0
  count_none zero i h = no_count i
  count_none (suc n) i h = count_down n i (h i (omega arith) (omega arith)) ∙ count_none n (suc i) (λ j x y. h j (omega arith) (omega arith))

  counted_up : (n i k : ℕ) → f i ≤ a → Counted (suc i) n k → Counted i (suc n) (suc k)
  counted_up n i k t C = record {
    most = omega (arith, C.most);
    low = λ j x y. ⊎_elim (λ z. rw (← z) t) (λ z. C.low j z (omega arith)) (meets i j x);
    above = λ j x y. C.above j (omega arith) (omega arith);
  }

  counted_none : (n i : ℕ) → ((j : ℕ) → i ≤ j → j < i + n → a < f j) → Counted i n 0
  counted_none n i h = record { most = omega arith; low = λ j x y. absurd (omega arith); above = λ j x y. h j (omega arith) y }

  module _ (m : ℕ) (climbs : Climbs f m) where
    -- after a start above the address come only such
    later : (p j : ℕ) → a < f p → p ≤ j → j < m → a < f j
    later p j t x y = ⊎_elim (λ z. rw (← z) t) (λ z. let w = climbs p j z y in omega arith) (meets p j x)

    counts : (n i : ℕ) → i + n ≤ m → Counted i n (count_in_lem f a i n)
    counts zero i h = rw (no_count i) (counted_none zero i (λ j x y. absurd (omega arith)))
    counts (suc n) i h =
        ⊎_elim (λ t. rw (count_up n i t) (counted_up n i (count_in_lem f a (suc i) n) t (counts n (suc i) (omega arith))))
        (λ t. let all : (j : ℕ) → i ≤ j → j < i + suc n → a < f j = λ j x y. later i j t x (omega arith) in
        rw (count_none (suc n) i all) (counted_none (suc n) i all))
        (at-most-or-above f a i)

-- ── Where the search ends ──

module _ (f : ℕ → ℕ) (a : ℕ) where
  -- among the starts, at one at most the address or at the first, and every start after it lies above the address
  pub record Ended (m r : ℕ) : Type 0 where
    pub inside : r < m
    pub low : (f r ≤ a) ⊎ (r ≡ 0)
    pub above : (j : ℕ) → r < j → j < m → a < f j

  module _ (m : ℕ) (climbs : Climbs f m) where
    -- what is known of a search among n starts from index b on
    record Among (b n : ℕ) : Type 0 where
      some : 0 < n
      inside : b + n ≤ m
      low : (f b ≤ a) ⊎ (b ≡ 0)
      above : (j : ℕ) → b + n ≤ j → j < m → a < f j

    few-ends : (b n : ℕ) → Among b n → Ended m (few f a b n)
    few-ends b n A = go (count_in_lem f a (b + 1) (n - 1)) (counts f a m climbs (n - 1) (b + 1) (omega (arith, A.some, A.inside)))
      where
        go : (k : ℕ) → Counted f a (b + 1) (n - 1) k → Ended m (b + k)
        go k C = record {
          inside = omega (arith, C.most, A.some, A.inside);
          low = ⊎_elim (λ z. let e : b + k ≡ b = omega arith in rw e A.low) (λ z. inl (C.low (b + k) (omega arith) (omega arith))) (zero-or-more k);
          above = λ j x y. ⊎_elim (λ z. C.above j (omega arith) (omega (arith, A.some))) (λ z. A.above j z y) (lt-or_ge j (b + n));
        }

    -- a turn that looks at k starts, q apart, leads to what the search is then among
    module _ (b n q k : ℕ) (wide : 0 < q) (fits : q * k + q ≤ n) (A : Among b n) where
      spaced-climbs : Climbs (spaced f a b q) (suc k)
      spaced-climbs i j x y =
          climbs (b + q * i) (b + q * j) (omega (arith, mul-lt-mul_of_pos_left x wide)) (let l : j ≤ k = omega arith in omega (arith, mul-le-mul_left q l, A.inside))

      turned : (c : ℕ) → Counted (spaced f a b q) a 1 k c → Among (b + q * c) (n - q * k)
      turned c C = record {
        some = omega arith;
        inside = omega (arith, mul-le-mul_left q C.most, A.inside);
        low = ⊎_elim (λ z. let e : b + q * c ≡ b = rw z (omega arith) in rw e A.low) (λ z. inl (C.low c z (omega arith))) (zero-or-more c);
        above = λ j x y. ⊎_elim
            (λ z. let e : q * c ≡ q * k = rw z in A.above j (omega arith) y)
            (λ z. later f a m climbs (b + q * suc c) j (C.above (suc c) (omega arith) (omega arith)) (omega (arith, mul-suc q c)) y)
            (meets c k C.most);
      }

      turn-leads : Among (led f a b q k) (n - q * k)
      turn-leads = turned (count_in_lem (spaced f a b q) a 1 k) (counts (spaced f a b q) a (suc k) spaced-climbs k 1 (omega arith))

    ends : (k b n : ℕ) → n ≤ k → Among b n → Ended m (search_in f a k b n)
    ends zero b n h A = absurd (omega (arith, A.some))
    ends (suc k) b n h A =
        ⊎_elim
        (λ z. let t = turn f a b n z in
        rw (t.leads k) (ends k (led f a b t.apart t.looks) (n - t.apart * t.looks) (omega (arith, t.past)) (turn-leads b n t.apart t.looks t.wide t.fits A)))
        (λ z. rw (search_done f a (suc k) b n z) (few-ends b n A))
        (lt-or_ge 8 n)

    pub search_ends : 0 < m → Ended m (search_in f a m 0 m)
    search_ends p = ends m 0 m (omega arith) (record { some = p; inside = omega arith; low = inr refl; above = λ j x y. absurd (omega arith) })

    -- so it ends at the greatest start at most the address, where there is one
    pub search_greatest : (i : ℕ) → i < m → f i ≤ a → ((j : ℕ) → i < j → j < m → a < f j) → search_in f a m 0 m ≡ i
    search_greatest i h l g = go (search_in f a m 0 m) (search_ends (omega arith))
      where
        go : (r : ℕ) → Ended m r → r ≡ i
        go r e = three r i (λ z. absurd (let w = e.above i z h in omega arith)) (λ z. absurd (⊎_elim (λ y. let w = g r z e.inside in omega arith) (λ y. omega arith) e.low))

-- ── Starts that ascend ──

above-last : (f : ℕ → ℕ) (n last i : ℕ) → ascending_from f last i n ≡ true → (j : ℕ) → i ≤ j → j < i + n → last < f j
unfolding ascending_from
above-last f zero last i e j x y = absurd (omega arith)
above-last f (suc n) last i e j x y =
    let (t, r) = both_true (ltb last (f i)) (ascending_from f (f i) (suc i) n) e in
    let l : last < f i = ltb-true last (f i) t in
    ⊎_elim (λ z. rw (← z) l) (λ z. let w = above-last f n (f i) (suc i) r j z (omega arith) in omega arith) (meets i j x)

pairs : (f : ℕ → ℕ) (n last i : ℕ) → ascending_from f last i n ≡ true → (j k : ℕ) → i ≤ j → j < k → k < i + n → f j < f k
unfolding ascending_from
pairs f zero last i e j k x y z = absurd (omega arith)
pairs f (suc n) last i e j k x y z =
    let (t, r) = both_true (ltb last (f i)) (ascending_from f (f i) (suc i) n) e in
    ⊎_elim (λ w. rw (← w) (above-last f n (f i) (suc i) r k (omega arith) (omega arith))) (λ w. pairs f n (f i) (suc i) r j k w y (omega arith)) (meets i j x)

-- what the test of 12 shows
pub ascending-climbs : (f : ℕ → ℕ) (n : ℕ) → ascending f n ≡ true → (i j : ℕ) → i < j → j < n → f i < f j
unfolding ascending
ascending-climbs f zero e i j x y = absurd (omega arith)
ascending-climbs f (suc n) e zero j x y = above-last f n (f 0) 1 e j x (omega arith)
ascending-climbs f (suc n) e (suc i) j x y = pairs f n (f 0) 1 e (suc i) j (omega arith) x (omega arith)

-- ── What `find` gives ──

-- the location of the greatest start at most the address
pub found_greatest : (f : ℕ → ℕ) (m n a i : ℕ) → ascending f n ≡ true → i < n → f i ≤ a → ((j : ℕ) → i < j → j < n → a < f j) → found_among f m n a ≡ (m - n) + i
unfolding found_among
found_greatest f m n a i e h l g =
    let r = search_greatest f a n (ascending-climbs f n e) i h l g in
    rw (ne_eqb n 0 (λ z. omega arith), r, le-leb (f i) a l)

-- MAX where every start lies above it
pub found_none : (f : ℕ → ℕ) (m n a : ℕ) → ascending f n ≡ true → ((j : ℕ) → j < n → a < f j) → found_among f m n a ≡ max32
unfolding found_among
found_none f m n a e g = go (zero-or-more n)
  where
    go : (n ≡ 0) ⊎ (0 < n) → cond (eqb n 0) max32 (cond (leb (f (search_in f a n 0 n)) a) ((m - n) + search_in f a n 0 n) max32) ≡ max32
    go (inl z) = rw (eq-eqb n 0 z)
    go (inr z) =
        let s = search_ends f a n (ascending-climbs f n e) z in
        rw (ne_eqb n 0 (λ w. omega arith), lt-leb (f (search_in f a n 0 n)) a (g (search_in f a n 0 n) s.inside))
