-- The search among the starts of a file's ranges: document 01 "Lookup"; v9/lookup.rs.
use Rattle.std.specs.Prelude.{ℕ, zero, suc, ◌+◌, ◌*◌, ◌/◌, ◌-◌, ◌≤◌, ◌<◌, ◌≡◌, List, Bool, true, cond, ◌&&◌, eqb, ltb, leb, length}
use Rattle.raw.specs.Rows.{max32, range_at_lem}

-- ── The starts ──

-- the start of range i
abbrev pub start_at : List ℕ → ℕ → ℕ → ℕ
start_at s ranges i = (range_at_lem s (ranges + 4 * i)).0

-- each of the n numbers from index i on lies above the one before it, the first above `last`
unfoldable pub ascending_from : (ℕ → ℕ) → ℕ → ℕ → ℕ → Bool
ascending_from f last i zero = true
ascending_from f last i (suc n) = ltb last (f i) && ascending_from f (f i) (suc i) n

unfoldable pub ascending : (ℕ → ℕ) → ℕ → Bool
ascending f zero = true
ascending f (suc n) = ascending_from f (f 0) 1 n

-- n starts that lie in the bytes and ascend
unfoldable pub ordered : List ℕ → ℕ → ℕ → Bool
ordered s ranges n = leb (ranges + 4 * n) (length s) && ascending (start_at s ranges) n

-- ── The search ──

-- how many of the n starts from index i on are at most the address
unfoldable pub count_in_lem : (ℕ → ℕ) → ℕ → ℕ → ℕ → ℕ
count_in_lem f a i zero = 0
count_in_lem f a i (suc n) = cond (leb (f i) a) 1 0 + count_in_lem f a (suc i) n

-- how many starts to pass over: `h` where the start that many after index `b` is at most the address, else none
unfoldable pub half_in : (ℕ → ℕ) → ℕ → ℕ → ℕ → ℕ
half_in f a b h = h * cond (leb (f (b + h)) a) 1 0

-- how many of the three starts between the quarters, of `q` starts each, from index `b` on are at most the address
unfoldable pub quarters_in : (ℕ → ℕ) → ℕ → ℕ → ℕ → ℕ
quarters_in f a b q = cond (leb (f (b + q)) a) 1 0 + cond (leb (f (b + 2 * q)) a) 1 0 + cond (leb (f (b + 3 * q)) a) 1 0

-- a search for `a` among `n` starts from index `b` on: halved as long as more than 1,024 are left, quartered as long as more than 8 are, which are counted;
-- `k` bounds the number of turns
unfoldable pub search_in : (ℕ → ℕ) → ℕ → ℕ → ℕ → ℕ → ℕ
search_in f a zero b n = b + count_in_lem f a (b + 1) (n - 1)
search_in f a (suc k) b n =
    cond (leb n 8) (b + count_in_lem f a (b + 1) (n - 1))
    (cond (leb n 1024) (search_in f a k (b + n / 4 * quarters_in f a b (n / 4)) (n - 3 * (n / 4))) (search_in f a k (b + half_in f a b (n / 2)) (n - n / 2)))

-- r is the count v, which is at most n
pub record Count (v n r : ℕ) : Type 0 where
  pub is : r ≡ v
  pub most : r ≤ n

-- r is the index v, which is one of n
pub record Index (v n r : ℕ) : Type 0 where
  pub is : r ≡ v
  pub inside : r < n

-- what halving leaves of a search among n starts: up to 1,024 of them, `size` from index `base` on, whose search ends where that of all does
pub record Halved (f : ℕ → ℕ) (a n base size : ℕ) : Type 0 where
  pub some : 1 ≤ size
  pub few : size ≤ 1024
  pub inside : base + size ≤ n
  pub same : search_in f a size base size ≡ search_in f a n 0 n

-- the location of the start that the search ends at, among `n` starts that belong to the last `n` of `m` locations; MAX where that start lies above the address
unfoldable pub found_among : (ℕ → ℕ) → ℕ → ℕ → ℕ → ℕ
found_among f m n a =
    cond (eqb n 0) max32
    (cond (leb (f (search_in f a n 0 n)) a) ((m - n) + search_in f a n 0 n) max32)

-- whether `n` ranges and `m` locations, of which there are no fewer, lie in so many bytes from where they are said to begin
unfoldable pub usable : ℕ → ℕ → ℕ → ℕ → ℕ → Bool
usable bytes locations m ranges n = leb n m && (leb (ranges + 4 * n) bytes && leb (locations + 16 * m) bytes)

-- the index of the location that an address belongs to, or MAX
unfoldable pub found_in : List ℕ → ℕ → ℕ → ℕ → ℕ → ℕ → ℕ
found_in s locations m ranges n a =
    cond (usable (length s) locations m ranges n && leb a max32) (found_among (start_at s ranges) m n a) max32
