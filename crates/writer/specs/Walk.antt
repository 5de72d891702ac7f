-- What the private functions of a tree call say of each other; the public contracts cite none of it.
use Rattle.std.specs.Prelude.{◌≡◌, false, Some, None, List, [], ◌∷◌, map, ℕ, ◌+◌, ◌*◌, ◌-◌, ◌≤◌, ◌<◌, length, take}
use Rattle.model.specs.Basics.{Span, sort}
use Rattle.model.specs.Rows.{skipped}
use Rattle.model.specs.Machine.{Ref, CursorM, loop_m, row_m, convert_m, start_m}
use Rattle.model.specs.Converter.{Setup, input, deep}
use Rattle.rows.specs.Columns.{Columns, function_rows, function_struct, tree_row, lines_from, tree_rows_lem}
use Rattle.rows.specs.declared.FunctionRow.{FunctionRow as FunctionStruct}
use Rattle.refusals.specs.Refusals.{first_line_lem}
use Rattle.memory.specs.Memory.{Words}
use Rattle.steps.specs.Steps.{over_words}
use Rattle.scratch.specs.Scratch.{pairs_at, refs_at, calls_of, top_of, kid_spans, LinesWithin, Lined, RowDone}
use Rattle.writer.specs.declared.stack.Pairs.{Pairs}
use Rattle.writer.specs.declared.lines.CallLocations.{CallLocations}
use Rattle.writer.specs.declared.lines.CallLocationIter.{CallLocationIter}
use Rattle.writer.specs.declared.tree.Own.{Own}
use Rattle.writer.specs.declared.tree.InProgressFunction.{InProgressFunction}

-- ── Lines ──

-- the call locations of a function after its first: those of the pairs from number n on
abbrev pub refs_from : List ℕ → Pairs → ℕ → List (Ref ℕ)
refs_from s p n = refs_at s (p.at + n * 2) (p.len - n)

-- where the walk over them stands
abbrev pub cursor_at : List ℕ → Pairs → CallLocationIter → CursorM ℕ
cursor_at s p c = record { now = c.current_call_location; next = refs_from s p c.next_call_location }

-- what the loop over a function's lines wants: there are so many line rows, and words of scratch memory
pub record LinesReady (q : FunctionStruct) (first : ℕ) (own : CallLocations) (inlinees : Pairs) (rows size : ℕ) : Type 0 where
  pub within : first + q.lines ≤ rows
  pub room : inlinees.at + inlinees.len * 2 ≤ size
  pub apart : own.others.at + own.others.len * 2 ≤ inlinees.at

-- and what it leaves of function row i, whose first line row is `first` and whose number is `fi`
abbrev pub LinesLeft : Setup → Columns → ℕ → ℕ → ℕ → CallLocations → Pairs → List ℕ → List ℕ → Words → Words → ℕ → Type 0
LinesLeft X k i first fi own inlinees s s' w w' n =
    let lines = lines_from k first (function_struct k i).lines in
    let calls = refs_at s own.others.at own.others.len in
    let spans = pairs_at s inlinees.at inlinees.len in
    Lined inlinees.at inlinees.len (loop_m input (over_words X) (tree_row k i first) fi lines own.first calls spans 0 w) s s' w' n

-- ── Call locations ──

abbrev pub ref : ℕ → ℕ → Ref ℕ
ref a w = record { addr = a; ref = w }

-- those that a function has: the first, which counts from address a on, and the others
abbrev pub calls_of_lem : List ℕ → ℕ → CallLocations → List (Ref ℕ)
calls_of_lem s a c = ref a c.first ∷ refs_at s c.others.at c.others.len

-- what `own_calls` answers of those of depth d: the pair after the last of them, and all of them if there is one
pub record OwnCalls (s : List ℕ) (base d : ℕ) (own : Own) : Type 0 where
  pub top_is : own.top ≡ top_of s d
  pub none : own.call_locations ≡ None → calls_of s base d ≡ []
  pub first : (c : CallLocations) → own.call_locations ≡ Some c → (a : ℕ) × (calls_of s base d ≡ calls_of_lem s a c)
  pub below : (c : CallLocations) → own.call_locations ≡ Some c → c.others.at + c.others.len * 2 ≤ base + own.top * 2

-- ── A row ──

-- the inlinee ranges of function row i, whose first line row is `first`
abbrev pub row_spans : Columns → ℕ → ℕ → List Span
row_spans k i first = kid_spans k (function_struct k i).depth (i + 1) (first + (function_struct k i).lines)

-- stored in scratch from word b on and sorted, with nothing changed below
pub record Sorted (b : ℕ) (ss : List Span) (n : ℕ) (s s' : List ℕ) : Type 0 where
  pub count : n ≡ length ss
  pub sorted : pairs_at s' b (length ss) ≡ sort ss
  pub kept : take b s' ≡ take b s

-- what a row wants: `top` is the pair after the call locations up to its depth
pub record RowReady (k : Columns) (size base i first top : ℕ) : Type 0 where
  pub inside : i < function_rows k
  pub first_is : first ≡ first_line_lem k i
  pub within : LinesWithin k.functions64 k.functions32 k.lines64
  pub shallow : (function_struct k i).depth < 65536
  pub low : (function_struct k i).depth * 4 + 4 ≤ base
  pub room : base + (top + length (row_spans k i first)) * 2 ≤ size

-- what the gathering of the inlinee ranges of a function at depth d wants, from function row i and line row `first` on
pub record GatherReady (k : Columns) (size at i first d : ℕ) : Type 0 where
  pub room : at + length (kid_spans k d i first) * 2 ≤ size
  pub inside : i ≤ function_rows k
  pub shallow : d < 65536
  pub first_is : first ≡ first_line_lem k i
  pub within : LinesWithin k.functions64 k.functions32 k.lines64

-- a row that was read, before and after it is known that it is visited
pub record InProgress (k : Columns) (s : List ℕ) (base : ℕ) (r : InProgressFunction) : Type 0 where
  pub is : r.function ≡ function_struct k r.i
  pub ready : RowReady k (length s) base r.i r.first_line (top_of s (function_struct k r.i).depth)

pub record VisitReady (k : Columns) (size base : ℕ) (r : InProgressFunction) (top : ℕ) (own : CallLocations) : Type 0 where
  pub is : r.function ≡ function_struct k r.i
  pub ready : RowReady k size base r.i r.first_line top
  pub below : own.others.at + own.others.len * 2 ≤ base + top * 2
  pub visited : skipped (tree_row k r.i r.first_line) ≡ false

-- what a row leaves, where `cs` are its call locations
abbrev pub RowLeft : Setup → Columns → ℕ → ℕ → ℕ → ℕ → List (Ref ℕ) → List ℕ → List ℕ → Words → Words → Type 0
RowLeft X k base i first top cs s s' w w' =
    let spans = row_spans k i first in
    RowDone base (function_struct k i).depth top (length spans) (row_m input (over_words X) (tree_row k i first) spans cs w) s s' w'

-- with the call locations of its depth
abbrev pub RowConverted : Setup → Columns → ℕ → InProgressFunction → List ℕ → List ℕ → Words → Words → Type 0
RowConverted X k base r s s' w w' =
    let d = (function_struct k r.i).depth in
    RowLeft X k base r.i r.first_line (top_of s d) (calls_of s base d) s s' w w'

-- all rows, in preorder
abbrev pub TreeConverted : Setup → Columns → Words → Words → Type 0
TreeConverted X k w w' = w' ≡ convert_m input (over_words X) (map deep (tree_rows_lem k)) (start_m input (over_words X)) w
