-- Laws of the rows of a table: equality of rows, a row overwritten, a row appended, and the list of the first rows.
use Prim.Native.Nat.{ℕ, zero, suc, ◌+◌, ◌*◌, ◌<◌, ◌≤◌}
use mathlib.Core.Path.{◌≡◌, refl, ◌∙◌, ap, ap₂}
use mathlib.Core.List.{List, [], ◌∷◌, ◌++◌}
use mathlib.Core.Bool.{Bool, true, false, ◌&&◌}
use native.Mathlib.Omega.{arith}
use native.Mathlib.Numerals.{add-one}
use native.Mathlib.Nat.{add-zero, add-suc, suc-add}
use lib.Dec.{eqb, ltb}
use lib.ListN.{length, get_or, set, length-set}
use lib.Seq.{sets, length-sets, get_or-set_same, get_or-set_other}
use borrow.Author.Tests.{eq-eqb, ltb-true, ltb-false}
use Rattle.slices.proofs.Runs.{sets-low, sets-high}
use Rattle.tables.specs.Table.{words_at, row_words, row_of, row_at, rows_from, link_at, head_at, set_row, append_of, same_words, same_row, key_of}
use Rattle.tables.specs.Ranges.{start_row_lem}
use Rattle.table_laws.specs.Plain.{same_key}
use Rattle.tables.specs.declared.Row.{Row}
use Rattle.tables.proofs.Words.{words-eq}

-- ---- sameRow is equality
pub same-eq : (x y : Row) → same_row x y ≡ true → x ≡ y
unfolding same_row
same-eq x y e = ap row_of (words-eq (row_words x) (row_words y) e)

pub words-refl : (xs : List ℕ) → same_words xs xs ≡ true
words-refl [] = refl
words-refl (x ∷ xs) = rw (eq-eqb x x refl) (words-refl xs)

-- by the first word alone
pub key_one : (x : Row) → key_of 1 x ≡ start_row_lem x.a
unfolding key_of
key_one x = refl

pub same-one : (x q : Row) → same_key 1 x q ≡ eqb x.a q.a
unfolding same_row
same-one x q = rw (key_one x, key_one q) (go (eqb x.a q.a))
  where
    go : (b : Bool) → b && true ≡ b
    go true = refl
    go false = refl

-- ---- words of any width
pub sets-at : (vs t : List ℕ) (k : ℕ) → k + length vs ≤ length t → words_at (sets t k vs) k (length vs) ≡ vs
sets-at [] t k h = refl
sets-at (v ∷ vs) t k h =
    ap₂ (λ (x : ℕ) (l : List ℕ). x ∷ l)
    (sets-low vs (set t k v) (suc k) k (omega arith) ∙ get_or-set_same t k v 0 (omega arith))
    (rw (add-one k) (sets-at vs (set t k v) (suc k) (rw (length-set t k v) (omega arith))))

words_same : (t t' : List ℕ) (k n : ℕ) → ((j : ℕ) → k ≤ j → j < k + n → get_or t' j 0 ≡ get_or t j 0) → words_at t' k n ≡ words_at t k n
words_same t t' k zero h = refl
words_same t t' k (suc n) h = ap₂ (λ (x : ℕ) (l : List ℕ). x ∷ l) (h k (omega arith) (omega arith)) (words_same t t' (k + 1) n (λ j p q. h j (omega arith) (omega arith)))

-- ---- a row overwritten
module _ (t : List ℕ) (n : ℕ) (q : Row) where
  pub length_set_row : length (set_row t n q) ≡ length t
  unfolding set_row
  length_set_row = length-sets t (n * 7) (row_words q)

  pub set-row-other : (i : ℕ) → (i ≡ n → ⊥) → row_at (set_row t n q) i ≡ row_at t i
  unfolding row_at set_row
  set-row-other i h = ap row_of (words_same t (sets t (n * 7) (row_words q)) (i * 7) 6 (λ j p r. go j p r (ltb i n) refl))
    where
      go : (j : ℕ) → i * 7 ≤ j → j < i * 7 + 6 → (b : Bool) → ltb i n ≡ b → get_or (sets t (n * 7) (row_words q)) j 0 ≡ get_or t j 0
      go j p r true e = sets-low (row_words q) t (n * 7) j (let g : i < n = ltb-true i n e in omega arith)
      go j p r false e = sets-high (row_words q) t (n * 7) j (let g : n ≤ i = ltb-false i n e in omega arith)

  pub set-row_link : (i : ℕ) → link_at (set_row t n q) i ≡ link_at t i
  unfolding link_at set_row
  set-row_link i = go (ltb i n) refl
    where
      go : (b : Bool) → ltb i n ≡ b → get_or (sets t (n * 7) (row_words q)) (i * 7 + 6) 0 ≡ get_or t (i * 7 + 6) 0
      go true e = sets-low (row_words q) t (n * 7) (i * 7 + 6) (let g : i < n = ltb-true i n e in omega arith)
      go false e = sets-high (row_words q) t (n * 7) (i * 7 + 6) (let g : n ≤ i = ltb-false i n e in omega arith)

  pub set-row-head : (m : ℕ) → n < m → (i : ℕ) → head_at m (set_row t n q) i ≡ head_at m t i
  unfolding head_at set_row
  set-row-head m b i = sets-high (row_words q) t (n * 7) (m * 7 + i) (omega arith)

  pub set-row-same : n * 7 + 7 ≤ length t → row_at (set_row t n q) n ≡ q
  unfolding row_at set_row
  set-row-same h = ap row_of (sets-at (row_words q) t (n * 7) (omega arith))

-- ---- a row appended
module _ (m : ℕ) (t : List ℕ) (n : ℕ) (q : Row) (l h : ℕ) where
  abbrev u : List ℕ
  u = set_row t n q

  abbrev v : List ℕ
  v = set u (n * 7 + 6) l

  pub length-append : length (append_of m t n q l h) ≡ length t
  unfolding append_of
  length-append = length-set v (m * 7 + h) (n + 1) ∙ length-set u (n * 7 + 6) l ∙ length_set_row t n q

  append-row : (i : ℕ) → i < m → row_at (append_of m t n q l h) i ≡ row_at u i
  unfolding row_at append_of
  append-row i b = ap row_of (words_same u (set v (m * 7 + h) (n + 1)) (i * 7) 6 (λ j p r.
      get_or-set_other v (m * 7 + h) j (n + 1) 0 (omega arith) ∙ get_or-set_other u (n * 7 + 6) j l 0 (omega arith)))

  pub append-low : n < m → (i : ℕ) → i < n → row_at (append_of m t n q l h) i ≡ row_at t i
  append-low b i p = append-row i (omega arith) ∙ set-row-other t n q i (omega arith)

  pub append-top : n < m → n * 7 + 7 ≤ length t → row_at (append_of m t n q l h) n ≡ q
  append-top b r = append-row n b ∙ set-row-same t n q r

  pub append_link : n < m → (i : ℕ) → i < n → link_at (append_of m t n q l h) i ≡ link_at t i
  unfolding link_at append_of
  append_link b i p = (get_or-set_other v (m * 7 + h) (i * 7 + 6) (n + 1) 0 (omega arith) ∙ get_or-set_other u (n * 7 + 6) (i * 7 + 6) l 0 (omega arith)) ∙ set-row_link t n q i

  pub append_link_top : n < m → n * 7 + 7 ≤ length t → link_at (append_of m t n q l h) n ≡ l
  unfolding link_at append_of
  append_link_top b r = get_or-set_other v (m * 7 + h) (n * 7 + 6) (n + 1) 0 (omega arith) ∙ get_or-set_same u (n * 7 + 6) l 0 (rw (length_set_row t n q) (omega arith))

  pub append-head : m * 7 + h < length t → head_at m (append_of m t n q l h) h ≡ n + 1
  unfolding head_at append_of
  append-head r = get_or-set_same v (m * 7 + h) (n + 1) 0 (rw (length-set u (n * 7 + 6) l, length_set_row t n q) (omega arith))

  pub append-head-other : n < m → (i : ℕ) → (i ≡ h → ⊥) → head_at m (append_of m t n q l h) i ≡ head_at m t i
  unfolding head_at append_of
  append-head-other b i p = (get_or-set_other v (m * 7 + h) (m * 7 + i) (n + 1) 0 (omega arith) ∙ get_or-set_other u (n * 7 + 6) (m * 7 + i) l 0 (omega arith)) ∙ set-row-head t n q m b i

-- ---- rows_from
pub rows-length : (t : List ℕ) (k n : ℕ) → length (rows_from t k n) ≡ n
unfolding rows_from
rows-length t k zero = refl
rows-length t k (suc n) = ap suc (rows-length t (suc k) n)

pub rows_more : (t : List ℕ) (k n : ℕ) → rows_from t k (suc n) ≡ rows_from t k n ++ (row_at t (k + n) ∷ [])
unfolding rows_from
rows_more t k zero = rw (add-zero k)
rows_more t k (suc n) = ap (λ (l : List Row). row_at t k ∷ l) (rw (add-suc k n, ← suc-add k n) (rows_more t (suc k) n))

pub rows_same : (t t' : List ℕ) (k n : ℕ) → ((i : ℕ) → k ≤ i → i < k + n → row_at t' i ≡ row_at t i) → rows_from t' k n ≡ rows_from t k n
unfolding rows_from
rows_same t t' k zero h = refl
rows_same t t' k (suc n) h = ap₂ (λ (r : Row) (l : List Row). r ∷ l) (h k (omega arith) (omega arith)) (rows_same t t' (suc k) n (λ i p s. h i (omega arith) (omega arith)))

pub rows_get_d : (t : List ℕ) (k n i : ℕ) (d : Row) → i < n → get_or (rows_from t k n) i d ≡ row_at t (k + i)
unfolding rows_from
rows_get_d t k zero i d h = absurd (omega arith)
rows_get_d t k (suc n) zero d h = rw (add-zero k)
rows_get_d t k (suc n) (suc i) d h = rw (add-suc k i, ← suc-add k i) (rows_get_d t (suc k) n i d (omega arith))

-- a row overwritten, in the list
pub rows-set : (t t' : List ℕ) (q : Row) (k n i : ℕ) → i < n → row_at t' (k + i) ≡ q → ((j : ℕ) → (j ≡ k + i → ⊥) → row_at t' j ≡ row_at t j) → rows_from t' k n ≡ set (rows_from t k n) i q
unfolding rows_from
rows-set t t' q k zero i p f g = absurd (omega arith)
rows-set t t' q k (suc n) zero p f g =
    ap₂ (λ (r : Row) (l : List Row). r ∷ l) (rw (add-zero k) at f) (rows_same t t' (suc k) n (λ j a b. g j (omega arith)))
rows-set t t' q k (suc n) (suc i) p f g =
    ap₂ (λ (r : Row) (l : List Row). r ∷ l) (g k (omega arith))
    (rows-set t t' q (suc k) n i (omega arith) (rw (add-suc k i, ← suc-add k i) at f) (λ j r. g j (omega arith)))
