-- Taking back what was added since a mark, for any content and any counts. A new row goes to the head of its chain and nothing else moves, so the newest rows
-- can be taken off again in reverse order; a journal says which rows of the ranges were added and what the others held.
use Rattle.std.specs.Prelude.{ℕ, zero, suc, ◌+◌, ◌*◌, ◌-◌, List, ◌∷◌, Bool, cond, ltb, eqb, length, get_or, set, replicate}
use Rattle.std.proofs.lemmas.List.Edits.{sets}
use Rattle.tables.specs.Table.{words_at, row_words, row_of, row_at, link_at, set_row, capacity_of, bucket_of, hash_of, width_of, key_of}
use Rattle.tables.specs.Table.{over_of, lookup_of, Left, left}
use Rattle.tables.specs.Kinds.{text_of_row}
use Rattle.tables.specs.Ranges.{put_of}
use Rattle.tables.specs.declared.Row.{Row}
use Rattle.tables.specs.declared.ranges.Was.{Was}
use Rattle.tables.specs.declared.ranges.Was.TheVariants.{Vacant, Same, Changed}
use Rattle.tables.specs.declared.ranges.Change.{Change}
use Rattle.journal.specs.declared.ranges.Noted.{Noted}
use Rattle.journal.specs.declared.undo.By.{By}
use Rattle.journal.specs.declared.undo.By.TheVariants.{Key, Text}

-- ── Rows ───────────────────────────────────────────────────────────────────────────────────────────────────────────────

-- a kind of rows as the number that stands for it below: how many words of a row are compared, or 4 for the index of texts
abbrev pub width_by : By → ℕ
width_by (Key k) = width_of k
width_by Text = 4

-- the hash by which a row was put into its bucket: its text's where the width is 4 (texts), else that of its key (1: ranges; 6: index sets)
unfoldable pub row_hash_of : ℕ → Row → ℕ
row_hash_of w r = cond (eqb w 4) (text_of_row r).hash (hash_of (key_of w r))

-- row n is taken back from bucket h: its link is the head again, and its seven words are zero
unfoldable pub undo_of : ℕ → List ℕ → ℕ → ℕ → List ℕ
undo_of cap t n h = sets (set t (cap * 7 + h) (link_at t n)) (n * 7) (replicate 7 0)

-- row n is taken off, where there is room for one
unfoldable pub off_of : ℕ → List ℕ → ℕ → List ℕ
off_of w t n = cond (ltb n (capacity_of (length t))) (undo_of (capacity_of (length t)) t n (bucket_of (row_hash_of w (row_at t n)) (capacity_of (length t)))) t

-- of n rows the newest are taken off, one by one, until `to` are left
unfoldable pub undone_to : ℕ → ℕ → List ℕ → ℕ → List ℕ
undone_to w to t zero = t
undone_to w to t (suc n) = cond (ltb n to) t (undone_to w to (off_of w t n) n)

-- ── Texts ──────────────────────────────────────────────────────────────────────────────────────────────────────────────

-- of n bytes those from `to` on are zero again
unfoldable pub cut_to : ℕ → List ℕ → ℕ → List ℕ
cut_to to text n = sets text to (replicate (n - to) 0)

-- ── The journal of the ranges ──────────────────────────────────────────────────────────────────────────────────────────

abbrev pub zero_row : Row
zero_row = record { a = 0; b = 0; c = 0; d = 0; e = 0; f = 0 }

-- entry k, eight words: the number of a row, 1 where its start was vacant and 2 where its location was changed, and the row as it was
unfoldable pub set_entry : List ℕ → ℕ → ℕ → ℕ → Row → List ℕ
set_entry j k i v old = sets j (k * 8) (i ∷ v ∷ row_words old)

-- one more entry after m, where there is room; else the count is above the capacity, and there it stays
unfoldable pub note_of : List ℕ → ℕ → ℕ → ℕ → Row → Left ℕ
note_of j m i v old = cond (ltb m (capacity_of (length j))) (left (m + 1) (set_entry j m i v old)) (left (over_of m (capacity_of (length j))) j)

-- what a put to n rows did: row n was added, or row i changed, or nothing
unfoldable pub note_was : List ℕ → ℕ → Was → ℕ → ℕ → Row → Left ℕ
note_was j m Vacant n i old = note_of j m n 1 zero_row
note_was j m Same n i old = left m j
note_was j m Changed n i old = note_of j m i 2 old

-- what putting with a journal answers, and what it leaves
pub record Journaled : Type 0 where
  pub got : Noted
  pub table : List ℕ
  pub journal : List ℕ

abbrev pub journaled : Noted → List ℕ → List ℕ → Journaled
journaled g t j = record { got = g; table = t; journal = j }

abbrev pub noted : Change → ℕ → Noted
noted g m = record { change = g; noted = m }

-- the entry that putting q makes; the row that is read is the one that the put finds
unfoldable pub entry_after : List ℕ → ℕ → List ℕ → ℕ → Row → Left ℕ
entry_after t n j m q = note_was j m (put_of t n q).got.was n (lookup_of 1 t n q) (row_at t (lookup_of 1 t n q))

-- the location at q's start becomes q's, and the journal says what was there
unfoldable pub put_noted_of : List ℕ → ℕ → List ℕ → ℕ → Row → Journaled
put_noted_of t n j m q = journaled (noted (put_of t n q).got (entry_after t n j m q).got) (put_of t n q).table (entry_after t n j m q).table

-- the same, where any mark is set; without one the journal stays as it is
unfoldable pub put_marked_of : Bool → List ℕ → ℕ → List ℕ → ℕ → Row → Journaled
put_marked_of on t n j m q = cond on (put_noted_of t n j m q) (journaled (noted (put_of t n q).got m) (put_of t n q).table j)

-- ── Taking entries back ────────────────────────────────────────────────────────────────────────────────────────────────

-- row i is taken off where it was added, and is again what it was where it was changed
unfoldable pub undo_entry : List ℕ → ℕ → ℕ → Row → List ℕ
undo_entry t i v old = cond (eqb v 1) (off_of 1 t i) (cond (eqb v 2) (set_row t i old) t)

-- the ranges with entry k taken back
unfoldable pub undo_at : List ℕ → List ℕ → ℕ → List ℕ
undo_at t j k = undo_entry t (get_or j (k * 8) 0) (get_or j (k * 8 + 1) 0) (row_of (words_at j (k * 8 + 2) 6))

pub record Undone : Type 0 where
  pub table : List ℕ
  pub journal : List ℕ

abbrev pub undone : List ℕ → List ℕ → Undone
undone t j = record { table = t; journal = j }

-- of m entries the newest are taken back, one by one, until `to` are left; each becomes zero
unfoldable pub undone_ranges : ℕ → List ℕ → List ℕ → ℕ → Undone
undone_ranges to t j zero = undone t j
undone_ranges to t j (suc m) = cond (ltb m to) (undone t j) (undone_ranges to (undo_at t j m) (set_entry j m 0 0 zero_row) m)
