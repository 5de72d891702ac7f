-- A table as the Rust's `BTreeMap<u32, SourceLocation>`, used by exact key alone: a row's first word, its start, is its key.
use Rattle.std.specs.Prelude.{ℕ, List, cond, ltb, length, Option, Some, None}
use Rattle.raw.specs.declared.SourceLocation.{SourceLocation}
use Rattle.tables.specs.Table.{row_at, set_row, same_row, capacity_of, lookup_of, insert_of, Left, left}
pub use Rattle.tables.specs.Kinds.{range_row_lem, location_of_lem, start_row_lem}
use Rattle.tables.specs.declared.Row.{Row}
use Rattle.tables.specs.declared.Inserted.{Inserted}
use Rattle.tables.specs.declared.ranges.Was.{Was}
use Rattle.tables.specs.declared.ranges.Was.TheVariants.{Vacant, Same, Changed}
use Rattle.tables.specs.declared.ranges.Change.{Change}

-- `BTreeMap::get`
unfoldable pub get_of : List ℕ → ℕ → ℕ → Option SourceLocation
get_of t n s = cond (ltb (lookup_of 1 t n (start_row_lem s)) n) (Some (location_of_lem (row_at t (lookup_of 1 t n (start_row_lem s))))) None

-- row i becomes q
unfoldable pub replace_of : List ℕ → ℕ → Row → Left Was
replace_of t i q = cond (same_row (row_at t i) q) (left Same t) (left Changed (set_row t i q))

abbrev pub change : ℕ → ℕ → Was → Change
change i n w = record { index = i; count = n; was = w }

-- with what inserting q left at hand: a row that was there before is replaced
unfoldable pub put_at : ℕ → Row → Left Inserted → Left Change
put_at n q x =
    cond (ltb x.got.index n)
    (left (change x.got.index n (replace_of x.table x.got.index q).got) (replace_of x.table x.got.index q).table)
    (left (change x.got.index x.got.count Vacant) x.table)

-- `BTreeMap::insert`: the location at q's start becomes q's. A count above the capacity changes nothing
unfoldable pub put_of : List ℕ → ℕ → Row → Left Change
put_of t n q = cond (ltb (capacity_of (length t)) n) (left (change n n Vacant) t) (put_at n q (insert_of 1 t n q))
