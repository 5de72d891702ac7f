-- What taking back rests on: everything above the counts is zero, at a beginning and always. And any list of puts with a journal, and how many entries it has.
use Rattle.std.specs.Prelude.{ℕ, ◌+◌, ◌*◌, ◌<◌, ◌≤◌, ◌≡◌, List, [], ◌∷◌, length, get_or}
use Rattle.tables.specs.Table.{capacity_of}
use Rattle.journal.specs.Undo.{Journaled, put_noted_of}
use Rattle.table_laws.specs.Plain.{put_rows, was_in, Pair, pair_row}
use Rattle.tables.specs.declared.Row.{Row}
use Rattle.tables.specs.declared.ranges.Was.{Was}
use Rattle.tables.specs.declared.ranges.Was.TheVariants.{Vacant, Same, Changed}

-- everything above the first n rows is zero, up to the heads
pub record Clear (t : List ℕ) (n : ℕ) : Type 0 where
  pub zeros : (j : ℕ) → n * 7 ≤ j → j < capacity_of (length t) * 7 → get_or t j 0 ≡ 0

-- every byte from n on is zero
pub record ClearText (text : List ℕ) (n : ℕ) : Type 0 where
  pub zeros : (j : ℕ) → n ≤ j → get_or text j 0 ≡ 0

-- every word from entry m on is zero
pub record ClearJournal (j : List ℕ) (m : ℕ) : Type 0 where
  pub zeros : (p : ℕ) → m * 8 ≤ p → p < capacity_of (length j) * 8 → get_or j p 0 ≡ 0

-- any list of puts with a journal, each on what the one before left; n and m are the counts
pub record Ranges : Type 0 where
  pub table : List ℕ
  pub count : ℕ
  pub journal : List ℕ
  pub entries : ℕ

abbrev pub ranges : List ℕ → ℕ → List ℕ → ℕ → Ranges
ranges t n j m = record { table = t; count = n; journal = j; entries = m }

abbrev pub ranges_of_lem : Journaled → Ranges
ranges_of_lem x = ranges x.table x.got.change.count x.journal x.got.noted

unfoldable pub put_noted_all : Ranges → List Pair → Ranges
put_noted_all x [] = x
put_noted_all x (p ∷ ps) = put_noted_all (ranges_of_lem (put_noted_of x.table x.count x.journal x.entries (pair_row p))) ps

-- how many of the puts add a start or change its location, by the plain map
abbrev pub changed : Was → ℕ
changed Vacant = 1
changed Same = 0
changed Changed = 1

unfoldable pub changes_in : List Row → List Pair → ℕ
changes_in rows [] = 0
changes_in rows (p ∷ ps) = changed (was_in rows (pair_row p)) + changes_in (put_rows rows (pair_row p)) ps
