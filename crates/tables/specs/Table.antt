-- What the functions on a table do to its words, for any content and any count. A table stands in place of the Rust's `IndexSet` and `BTreeMap` (document 01,
-- "Forms that Rattle cannot carry"): eight words for each row that there is room for. Row i has six words at 7 i and its link at 7 i + 6; after the last row
-- stand the heads of the buckets, as many as rows. A head, and a link, is a row number + 1, or 0 for none.
use Rattle.std.specs.Prelude.{ℕ, zero, suc, ◌+◌, ◌*◌, ◌/◌, ◌%◌, List, [], ◌∷◌, Bool, true, false, cond, ◌&&◌, ltb, eqb, length, get_or, set}
use Rattle.std.specs.Prelude.{Option, Some, None}
use Rattle.std.proofs.lemmas.List.Edits.{sets}
use Rattle.tables.specs.declared.Row.{Row}
use Rattle.tables.specs.declared.keys.Key.{Key}
use Rattle.tables.specs.declared.keys.Key.TheVariants.{First, Whole}
use Rattle.tables.specs.declared.Inserted.{Inserted}

-- ── Rows ───────────────────────────────────────────────────────────────────────────────────────────────────────────────

-- "A table's capacity is its lent length, at most 16,777,216 rows": the rows that fit in so many words
abbrev pub max_rows : ℕ
max_rows = 16777216

unfoldable pub capacity_of : ℕ → ℕ
capacity_of words = cond (ltb (words / 8) max_rows) (words / 8) max_rows

-- n words from k on
abbrev pub words_at : List ℕ → ℕ → ℕ → List ℕ
words_at t k zero = []
words_at t k (suc n) = get_or t k 0 ∷ words_at t (k + 1) n

-- a row's six words, and back
abbrev pub row_words : Row → List ℕ
row_words r = r.a ∷ r.b ∷ r.c ∷ r.d ∷ r.e ∷ r.f ∷ []

abbrev pub row_of : List ℕ → Row
row_of w = record { a = get_or w 0 0; b = get_or w 1 0; c = get_or w 2 0; d = get_or w 3 0; e = get_or w 4 0; f = get_or w 5 0 }

-- row i, its link, and the head of bucket h in a table of cap rows
unfoldable pub row_at : List ℕ → ℕ → Row
row_at t i = row_of (words_at t (i * 7) 6)

unfoldable pub link_at : List ℕ → ℕ → ℕ
link_at t i = get_or t (i * 7 + 6) 0

unfoldable pub head_at : ℕ → List ℕ → ℕ → ℕ
head_at cap t h = get_or t (cap * 7 + h) 0

-- n rows of the table, from row k on; the first n rows
unfoldable pub rows_from : List ℕ → ℕ → ℕ → List Row
rows_from t k zero = []
rows_from t k (suc n) = row_at t k ∷ rows_from t (suc k) n

abbrev pub rows_of : List ℕ → ℕ → List Row
rows_of t n = rows_from t 0 n

-- row i becomes r
unfoldable pub set_row : List ℕ → ℕ → Row → List ℕ
set_row t i r = sets t (i * 7) (row_words r)

-- row n with its link, at the head of bucket h: nothing else moves
unfoldable pub append_of : ℕ → List ℕ → ℕ → Row → ℕ → ℕ → List ℕ
append_of cap t n q l h = set (set (set_row t n q) (n * 7 + 6) l) (cap * 7 + h) (n + 1)

-- a count after what there was no room for: above the capacity, and there it stays
unfoldable pub over_of : ℕ → ℕ → ℕ
over_of n cap = cond (ltb cap n) n (cap + 1)

-- ── Chains ─────────────────────────────────────────────────────────────────────────────────────────────────────────────

-- the bucket of a hash among as many as cap; 0 where there is none. All but the last nine bits of the hash say where from 0 to cap, and those are added
unfoldable pub bucket_of : ℕ → ℕ → ℕ
bucket_of hash cap = cond (eqb cap 0) 0 ((hash / 512 * cap / 8388608 + hash % 512) % cap)

-- the head of the bucket of a hash
abbrev pub head_of : List ℕ → ℕ → ℕ
head_of t hash = head_at (capacity_of (length t)) t (bucket_of hash (capacity_of (length t)))

-- the newest row below a bound that is hit, along the chain from link l; d where there is none. The rows are passed from the bound down, so
-- it ends on any content; at row i the chain goes on if the link is i + 1. It knows nothing of rows: index sets, ranges and strings use it
unfoldable pub walk : (ℕ → ℕ) → (ℕ → Bool) → ℕ → ℕ → ℕ → ℕ
walk link hit d zero l = d
walk link hit d (suc i) l = cond (eqb l (suc i)) (cond (hit i) i (walk link hit d i (link i))) (walk link hit d i l)

-- ── Rows found by their words ──────────────────────────────────────────────────────────────────────────────────────────

-- how many words of a row are compared
abbrev pub width_of : Key → ℕ
width_of First = 1
width_of Whole = 6

-- what of a row is compared: its first word alone where the width is 1 (ranges), else all of it (index sets)
unfoldable pub key_of : ℕ → Row → Row
key_of w r = cond (eqb w 1) (record { a = r.a; b = 0; c = 0; d = 0; e = 0; f = 0 }) r

abbrev pub same_words : List ℕ → List ℕ → Bool
same_words [] [] = true
same_words [] (y ∷ ys) = false
same_words (x ∷ xs) [] = false
same_words (x ∷ xs) (y ∷ ys) = eqb x y && same_words xs ys

unfoldable pub same_row : Row → Row → Bool
same_row x y = same_words (row_words x) (row_words y)

-- any arithmetic would do. Every word counts, and 4,294,966,769 is prime: starts that are multiples of a large power of two are spread like others. Of the
-- first word the block of 4,096 is spread, by the golden section of the prime, and its place there is added by sixteens: near starts have near buckets, and
-- blocks hardly overlap
unfoldable pub hash_of : Row → ℕ
hash_of k =
    (k.a / 4096 * 2654435443 + k.b * 378551279 + k.c * 511286833 + k.d * 296414521 + k.e * 347229887 + k.f * 467201681) % 4294966769 / 512 * 512
    + k.a % 4096 / 16

-- row i has the key k
unfoldable pub hit_at : List ℕ → ℕ → Row → ℕ → Bool
hit_at t w k i = same_row (key_of w (row_at t i)) k

-- the bucket of q's key
abbrev pub bucket_in : ℕ → List ℕ → Row → ℕ
bucket_in w t q = bucket_of (hash_of (key_of w q)) (capacity_of (length t))

-- the newest row in the bucket of q's key, as a link
unfoldable pub newest_of : ℕ → List ℕ → Row → ℕ
newest_of w t q = head_at (capacity_of (length t)) t (bucket_in w t q)

-- the number of the row with q's key among the first n; n where there is none
unfoldable pub lookup_of : ℕ → List ℕ → ℕ → Row → ℕ
lookup_of w t n q = walk (link_at t) (hit_at t w (key_of w q)) n n (newest_of w t q)

-- such a number as an answer: none where it is n
abbrev pub found_of : ℕ → ℕ → Option ℕ
found_of n i = cond (ltb i n) (Some i) None

-- ── Inserting ──────────────────────────────────────────────────────────────────────────────────────────────────────────

-- what a function answers, and the table that it leaves
pub record Left (A : Type 0) : Type 0 where
  pub got : A
  pub table : List ℕ

abbrev pub left : {A : Type 0} → A → List ℕ → Left A
left g t = record { got = g; table = t }

abbrev pub inserted : ℕ → ℕ → Inserted
inserted i n = record { index = i; count = n }

-- row n at the head of its hash's bucket, where there is room, and the count after it
unfoldable pub push_of : List ℕ → ℕ → Row → ℕ → Left ℕ
push_of t n q hash =
    cond (ltb n (capacity_of (length t)))
    (left (n + 1) (append_of (capacity_of (length t)) t n q (head_of t hash) (bucket_of hash (capacity_of (length t)))))
    (left (over_of n (capacity_of (length t))) t)

-- with the capacity, the bucket, its head and the row found at hand
unfoldable pub insert_at : List ℕ → ℕ → Row → ℕ → ℕ → ℕ → ℕ → Left Inserted
insert_at t n q cap h l i =
    cond (ltb i n) (left (inserted i n) t)
    (cond (ltb n cap) (left (inserted i (n + 1)) (append_of cap t n q l h)) (left (inserted i (over_of n cap)) t))

-- `IndexSet::insert_full`: the number of the row with q's key, which is appended where there is none
unfoldable pub insert_of : ℕ → List ℕ → ℕ → Row → Left Inserted
insert_of w t n q = insert_at t n q (capacity_of (length t)) (bucket_in w t q) (newest_of w t q) (lookup_of w t n q)
