-- Document 01's "Well nested" and demand 3's premises, on the rows as they are given; and the frames that demand 3 asks for at an address.
use Rattle.std.specs.Prelude.{◌≡◌, true, false, cond, ◌⊎◌, List, [], ◌∷◌, ◌++◌, map, ℕ, suc, ◌+◌, ◌≤◌, ◌<◌, ltb, leb, eqb}
use Rattle.std.proofs.Math.Option.{Option, none, some}
use Rattle.model.specs.Basics.{◌∈◌, Span, Asc, Apart, coversb, Deep}
use Rattle.model.specs.Rows.{MAX, Text, LineRow, FunctionRow, SymbolRow, Given, tree_rows, symbol_row, line_size}
use Rattle.model.specs.Converter.{Setup, function_name, line_texts, entry_of}
use Rattle.model.specs.Frames.{Frame, known, known_six}

-- "A line covers as many addresses as its size (1 where absent), from its own on"
abbrev pub reach : LineRow → Span
reach n = record { from = n.address; to = n.address + line_size n }

abbrev pub reaches : FunctionRow → List Span
reaches q = map reach q.lines

abbrev pub all_reaches : List FunctionRow → List Span
all_reaches [] = []
all_reaches (q ∷ qs) = reaches q ++ all_reaches qs

-- the inlinees of a row at depth d, of the rows after it: those one deeper, up to the first that isn't deeper
unfoldable pub inlinees : ℕ → List FunctionRow → List FunctionRow
inlinees d [] = []
inlinees d (r ∷ rs) = cond (leb r.depth d) [] (cond (eqb r.depth (suc d)) (r ∷ inlinees d rs) (inlinees d rs))

-- what 13 leaves: after a row at depth d, depths from 1 on, each at most one more than that before it
abbrev pub Legal : ℕ → List FunctionRow → Type 0
Legal d [] = Unit {0}
Legal d (r ∷ rs) = (1 ≤ r.depth) × (r.depth ≤ suc d) × Legal r.depth rs

pub record RowWell (q : FunctionRow) : Type 0 where
  pub sized : 0 < q.size
  pub low : q.address + q.size ≤ MAX
  pub ascending : Asc q.address (reaches q)  -- each covers an address; ascending, disjoint, from the row's address on
  pub inside : (n : LineRow) → n ∈ q.lines → n.address + line_size n ≤ q.address + q.size
  pub numbers : (n : LineRow) → n ∈ q.lines → n.number < 4294967296

-- there is a line, and the last one ends at e
abbrev pub LastAt : List LineRow → ℕ → Type 0
LastAt [] e = ⊥
LastAt (n ∷ []) e = n.address + line_size n ≡ e
LastAt (n ∷ n' ∷ ns) e = LastAt (n' ∷ ns) e

-- k, an inlinee of q
pub record InlineeWell (q k : FunctionRow) : Type 0 where
  pub last : LastAt k.lines (k.address + k.size)
  pub within : (n : LineRow) → n ∈ k.lines → (m : LineRow) × (m ∈ q.lines) × (m.address ≤ n.address) × (n.address + line_size n ≤ m.address + line_size m)

abbrev pub RowsWell : List FunctionRow → Type 0
RowsWell [] = Unit {0}
RowsWell (q ∷ rs) =
    RowWell q × ((k : FunctionRow) → k ∈ inlinees q.depth rs → InlineeWell q k) × Apart (all_reaches (inlinees q.depth rs)) × RowsWell rs

pub record TreeWell (q : FunctionRow) (rs : List FunctionRow) : Type 0 where
  pub first : q.depth ≡ 0
  pub legal : Legal 0 rs
  pub root : q.inline ≡ false
  pub others : (r : FunctionRow) → r ∈ rs → r.inline ≡ true
  pub rows : RowsWell (q ∷ rs)

abbrev pub WellNested : Given → Type 0
WellNested (tree_rows q rs) = TreeWell q rs
WellNested (symbol_row y) = Unit {0}

-- ── Between the calls of a list ──

abbrev pub Named : Option Text → Type 0
Named none = ⊥
Named (some t) = Unit {0}

-- "Symbols counted are named, at addresses up to MAX"
abbrev pub Counted : SymbolRow → Type 0
Counted y = Named y.name × (y.address ≤ MAX)

-- not strictly after the root's first address and before its end
abbrev pub NotIn : ℕ → FunctionRow → Type 0
NotIn k q = (k ≤ q.address) ⊎ (q.address + q.size ≤ k)

pub record SymbolClear (q : FunctionRow) (y : SymbolRow) : Type 0 where
  pub start : Counted y → NotIn y.address q
  pub end : Counted y → 0 < y.size → y.address + y.size ≤ MAX → NotIn (y.address + y.size) q

-- the extents share no address
abbrev pub RootsClear : FunctionRow → FunctionRow → Type 0
RootsClear q p = (q.address + q.size ≤ p.address) ⊎ (p.address + p.size ≤ q.address)

abbrev pub Separate : Given → Given → Type 0
Separate (tree_rows q rs) (tree_rows p ps) = RootsClear q p
Separate (tree_rows q rs) (symbol_row y) = SymbolClear q y
Separate (symbol_row y) (tree_rows q rs) = SymbolClear q y
Separate (symbol_row y) (symbol_row z) = Unit {0}

abbrev pub AllSeparate : List Given → Type 0
AllSeparate [] = Unit {0}
AllSeparate (g ∷ gs) = ((h : Given) → h ∈ gs → Separate g h) × AllSeparate gs

-- ── What demand 3 asks for ──

-- the line that covers x
unfoldable pub line_at_lem : List LineRow → ℕ → Option LineRow
line_at_lem [] x = none
line_at_lem (n ∷ ns) x = cond (coversb (reach n) x) (some n) (line_at_lem ns x)

module _ (X : Setup) where
  -- "name (undecorated where that is on), entry (for an inlinee MAX), language, the covering line's number, and six texts, absent where empty"
  abbrev pub wanted : FunctionRow → LineRow → Frame
  wanted q n = record {
    name = known (function_name X q);
    entry = entry_of q;
    language = q.language;
    number = n.number;
    file = some (known_six (line_texts q n));
  }

  -- of the rows that have a line covering x, in their order, the depth and the frame
  unfoldable pub nested_at : ℕ → List FunctionRow → List (Deep Frame)
  nested_at x [] = []
  nested_at x (q ∷ rs) = elim (line_at_lem q.lines x) [ none ↦ nested_at x rs | some n ↦ record { depth = q.depth; item = wanted q n } ∷ nested_at x rs ]

  -- the same by recursion on the tree: of the rows at depth d, up to the first that is less deep, the one that has a line covering x, below what
  -- its inlinees give
  unfoldable pub stack_of : ℕ → ℕ → List FunctionRow → List Frame
  stack_of x d [] = []
  stack_of x d (q ∷ rs) =
      cond (ltb q.depth d) []
      (cond (eqb q.depth d) (elim (line_at_lem q.lines x) [ none ↦ stack_of x d rs | some n ↦ stack_of x (suc d) rs ++ (wanted q n ∷ []) ]) (stack_of x d rs))
