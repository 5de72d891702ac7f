-- Scratch memory of a tree call, in words. The public contracts say only that it is zero at the end; the functions in between go by these.
use Rattle.std.specs.Prelude.{◌≡◌, ◌⊎◌, List, [], ◌∷◌, map, ℕ, zero, suc, ◌+◌, ◌*◌, ◌-◌, ◌/◌, ◌%◌, ◌≤◌, ◌<◌, length, get_or, take}
use Rattle.std.proofs.lemmas.List.Edits.{sets}
use Rattle.model.specs.Basics.{Span}
use Rattle.model.specs.Rows.{MAX, boundaries}
use Rattle.model.specs.Machine.{Ref, LoopedM, kid_spans_m}
use Rattle.model.specs.Converter.{input, deep}
use Rattle.rows.specs.Columns.{Columns, function_rows, function_in_columns, lines_from, tree_rows_from}
use Rattle.refusals.specs.Refusals.{total}

-- ── Pairs ──────────────────────────────────────────────────────────────────────────────────────────────────────────────

-- n pairs of words, from word `at` on: spans, or call locations
unfoldable pub pairs_at : List ℕ → ℕ → ℕ → List Span
pairs_at s at zero = []
pairs_at s at (suc n) = record { from = get_or s at 0; to = get_or s (at + 1) 0 } ∷ pairs_at s (at + 2) n

abbrev pub ref_of : Span → Ref ℕ
ref_of p = record { addr = p.from; ref = p.to }

abbrev pub refs_at : List ℕ → ℕ → ℕ → List (Ref ℕ)
refs_at s at n = map ref_of (pairs_at s at n)

-- ── The call locations of each depth ───────────────────────────────────────────────────────────────────────────────────

abbrev pub two32 : ℕ
two32 = 4294967296

-- those of depth d + 1: the pair at which they begin, and how many there are
abbrev pub calls_start : List ℕ → ℕ → ℕ
calls_start s d = get_or s (d * 4) 0 + get_or s (d * 4 + 1) 0 * two32

abbrev pub len_at : List ℕ → ℕ → ℕ
len_at s d = get_or s (d * 4 + 2) 0 + get_or s (d * 4 + 3) 0 * two32

unfoldable pub set_calls : List ℕ → ℕ → ℕ → ℕ → List ℕ
set_calls s d start len = sets s (d * 4) (start % two32 ∷ start / two32 ∷ len % two32 ∷ len / two32 ∷ [])

-- the call locations for the rows at depth d, and the pair after the last of them; those of depth 0 are no pairs but a value
unfoldable pub calls_of : List ℕ → ℕ → ℕ → List (Ref ℕ)
calls_of s base zero = record { addr = 0; ref = MAX } ∷ []
calls_of s base (suc d) = refs_at s (base + calls_start s d * 2) (len_at s d)

unfoldable pub top_of : List ℕ → ℕ → ℕ
top_of s zero = 0
top_of s (suc d) = calls_start s d + len_at s d

-- ── The lines of a row ─────────────────────────────────────────────────────────────────────────────────────────────────

-- what the loop over the lines of a row leaves: the state, the call locations in place of the inlinee ranges taken, and nothing changed below them
pub record Lined {S : Type 0} (at n : ℕ) (o : LoopedM ℕ S) (s s' : List ℕ) (w : S) (m : ℕ) : Type 0 where
  pub state : w ≡ o.state
  pub calls : refs_at s' at m ≡ o.calls
  pub few : m ≤ n
  pub kept : take at s' ≡ take at s

-- ── A row ──────────────────────────────────────────────────────────────────────────────────────────────────────────────

-- the boundaries of n line rows, from row j on
abbrev pub line_spans : Columns → ℕ → ℕ → List Span
line_spans k j n = map boundaries (lines_from k j n)

-- the inlinee ranges of a function at depth d: those of the rows from i on, whose line rows begin at j
abbrev pub kid_spans : Columns → ℕ → ℕ → ℕ → List Span
kid_spans k d i j = kid_spans_m input d (map deep (tree_rows_from k i (function_rows k - i) j))

-- the line rows of each function row lie within the line rows (13 leaves no other rows)
abbrev pub LinesWithin : List ℕ → List ℕ → List ℕ → Type 0
LinesWithin f64 f32 l64 =
    (r : ℕ) → r < length f64 / 2 → total (λ (i : ℕ). (function_in_columns f64 f32 i).lines) r + (function_in_columns f64 f32 r).lines ≤ length l64 / 3

-- what a row at depth d leaves, where the call locations up to its own depth end at pair `top`: the state, the call locations of
-- the next depth from there on, and no other word changed below
pub record RowDone {S : Type 0} (base d top n : ℕ) (o : LoopedM ℕ S) (s s' : List ℕ) (w : S) : Type 0 where
  pub state : w ≡ o.state
  pub calls : calls_of s' base (suc d) ≡ o.calls
  pub start : calls_start s' d ≡ top
  pub few : len_at s' d ≤ n
  pub kept : (j : ℕ) → j < base + top * 2 → (j < d * 4) ⊎ (d * 4 + 4 ≤ j) → get_or s' j 0 ≡ get_or s j 0
