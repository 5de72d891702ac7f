-- The same over plain lists: an index set of any items, and a map from starts to locations; and when a table is the plain list.
use Rattle.std.specs.Prelude.{ℕ, zero, suc, ◌<◌, ◌≤◌, ◌≡◌, List, [], ◌∷◌, Bool, false, cond, eqb, length, Option, Some}
use Rattle.tables.specs.Table.{row_at, rows_of, link_at, head_at, key_of, same_row, hash_of, bucket_of, capacity_of, Left, left, inserted, insert_of}
use Rattle.tables.specs.Ranges.{put_of, change, range_row_lem}
use Rattle.tables.specs.declared.Row.{Row}
use Rattle.tables.specs.declared.Inserted.{Inserted}
use Rattle.raw.specs.declared.SourceLocation.{SourceLocation}
use Rattle.tables.specs.declared.ranges.Was.{Was}
use Rattle.tables.specs.declared.ranges.Was.TheVariants.{Vacant, Same, Changed}
use Rattle.tables.specs.declared.ranges.Change.{Change}

-- ── IndexSet ───────────────────────────────────────────────────────────────────────────────────────────────────────────

pub record PlainInterned (A : Type 0) : Type 0 where
  pub index : ℕ
  pub table : List A

module _ {A : Type 0} where
  -- `IndexSet::insert_full`: the place of the first item equal to a, or a at the end
  unfoldable pub row_intern : (A → A → Bool) → List A → A → PlainInterned A
  row_intern eq [] a = record { index = 0; table = a ∷ [] }
  row_intern eq (x ∷ xs) a =
      cond (eq x a) (record { index = 0; table = x ∷ xs })
      (record { index = suc (row_intern eq xs a).index; table = x ∷ (row_intern eq xs a).table })

  -- the list after a list of calls, and the indices that they answer
  unfoldable pub intern_all : (A → A → Bool) → List A → List A → List A
  intern_all eq xs [] = xs
  intern_all eq xs (a ∷ bs) = intern_all eq (row_intern eq xs a).table bs

  unfoldable pub indices_in : (A → A → Bool) → List A → List A → List ℕ
  indices_in eq xs [] = []
  indices_in eq xs (a ∷ bs) = (row_intern eq xs a).index ∷ indices_in eq (row_intern eq xs a).table bs

-- x has q's key
abbrev pub same_key : ℕ → Row → Row → Bool
same_key w x q = same_row (key_of w x) (key_of w q)

-- the same of a table, each call on what the one before left
unfoldable pub insert_all : ℕ → List ℕ → ℕ → List Row → Left Inserted
insert_all w t n [] = left (inserted n n) t
insert_all w t n (q ∷ qs) = insert_all w (insert_of w t n q).table (insert_of w t n q).got.count qs

unfoldable pub indices_of : ℕ → List ℕ → ℕ → List Row → List ℕ
indices_of w t n [] = []
indices_of w t n (q ∷ qs) = (insert_of w t n q).got.index ∷ indices_of w (insert_of w t n q).table (insert_of w t n q).got.count qs

-- ── BTreeMap by exact key ──────────────────────────────────────────────────────────────────────────────────────────────

-- the row with q's start becomes q, or q is appended
unfoldable pub put_rows : List Row → Row → List Row
put_rows [] q = q ∷ []
put_rows (x ∷ xs) q = cond (eqb x.a q.a) (q ∷ xs) (x ∷ put_rows xs q)

-- what q's start held
unfoldable pub was_in : List Row → Row → Was
was_in [] q = Vacant
was_in (x ∷ xs) q = cond (eqb x.a q.a) (cond (same_row x q) Same Changed) (was_in xs q)

pub record Pair : Type 0 where
  pub start : ℕ
  pub loc : SourceLocation

abbrev pub pair_row : Pair → Row
pair_row p = range_row_lem p.start p.loc

unfoldable pub put_all : List ℕ → ℕ → List Pair → Left Change
put_all t n [] = left (change n n Vacant) t
put_all t n (p ∷ ps) = put_all (put_of t n (pair_row p)).table (put_of t n (pair_row p)).got.count ps

unfoldable pub put_all_rows : List Row → List Pair → List Row
put_all_rows rows [] = rows
put_all_rows rows (p ∷ ps) = put_all_rows (put_rows rows (pair_row p)) ps

-- the last location put at a start
unfoldable pub last_put_lem : Option SourceLocation → List Pair → ℕ → Option SourceLocation
last_put_lem f [] s = f
last_put_lem f (p ∷ ps) s = last_put_lem (cond (eqb p.start s) (Some p.loc) f) ps s

-- ── When a table is the plain list ─────────────────────────────────────────────────────────────────────────────────────

-- the number + 1 of the newest row below i whose bucket is h; 0 where there is none
unfoldable pub last_with : (ℕ → ℕ) → ℕ → ℕ → ℕ
last_with bucket h zero = 0
last_with bucket h (suc i) = cond (eqb (bucket i) h) (suc i) (last_with bucket h i)

-- the bucket of row i, by a hash of rows
abbrev pub bucket_at : (Row → ℕ) → ℕ → List ℕ → ℕ → ℕ
bucket_at hash cap t i = bucket_of (hash (row_at t i)) cap

-- each bucket's chain has its rows, the newest first
pub record Chained (hash : Row → ℕ) (cap n : ℕ) (t : List ℕ) : Type 0 where
  pub heads : (h : ℕ) → head_at cap t h ≡ last_with (bucket_at hash cap t) h n
  pub links : (i : ℕ) → i < n → link_at t i ≡ last_with (bucket_at hash cap t) (bucket_at hash cap t i) i

abbrev pub key_hash : ℕ → Row → ℕ
key_hash w r = hash_of (key_of w r)

pub record Holds (w : ℕ) (t : List ℕ) (n : ℕ) (rows : List Row) : Type 0 where
  pub same : rows_of t n ≡ rows
  pub room : n ≤ capacity_of (length t)
  pub apart : (i j : ℕ) → i < j → j < n → same_key w (row_at t i) (row_at t j) ≡ false
  pub chained : Chained (key_hash w) (capacity_of (length t)) n t
