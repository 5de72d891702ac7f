-- SYMBOLS AND GAPS (document 02, K13): the extents of roots and of symbols that count, what has to hold of the symbols beyond demand 3's premises, the frames
-- that are asked for, and the two facts about the starts that carry it.
use Rattle.std.specs.Prelude.{◌≡◌, ◌≢◌, List, [], ◌∷◌, ℕ, ◌+◌, ◌≤◌, ◌<◌}
use Rattle.std.proofs.Math.Option.{none, some}
use Rattle.model.specs.Basics.{◌∈◌, Span, Covers, Disjoint}
use Rattle.model.specs.Rows.{MAX, FunctionRow, SymbolRow, Given, tree_rows, symbol_row}
use Rattle.model.specs.Converter.{Setup, Location, Tables, range_at, symbol_name, converted}
use Rattle.model.specs.Frames.{Frame, known, frames_of}
use Rattle.model.specs.Premises.{Counted}

-- ── Extents ──

abbrev pub root_extent : FunctionRow → Span
root_extent q = record { from = q.address; to = q.address + q.size }

abbrev pub symbol_extent : SymbolRow → Span
symbol_extent y = record { from = y.address; to = y.address + y.size }

-- x is in a root, or in a "named symbol at an address up to MAX"; the other symbols have no addresses
abbrev pub InExtent : Given → ℕ → Type 0
InExtent (tree_rows q rs) x = Covers (root_extent q) x
InExtent (symbol_row y) x = Counted y × Covers (symbol_extent y) x

-- ── The premises, beyond demand 3's ──

-- "an extent disjoint from roots and from other such symbols". Of two roots demand 3's premises speak
abbrev pub SymbolsApart : Given → Given → Type 0
SymbolsApart (tree_rows q rs) (tree_rows p ps) = Unit {0}
SymbolsApart (tree_rows q rs) (symbol_row y) = Counted y → Disjoint (root_extent q) (symbol_extent y)
SymbolsApart (symbol_row y) (tree_rows q rs) = Counted y → Disjoint (symbol_extent y) (root_extent q)
SymbolsApart (symbol_row y) (symbol_row z) = Counted y → Counted z → Disjoint (symbol_extent y) (symbol_extent z)

-- of any two calls by their places in the list: a symbol given twice is two symbols
abbrev pub AllSymbolsApart : List Given → Type 0
AllSymbolsApart [] = Unit {0}
AllSymbolsApart (g ∷ gs) = ((h : Given) → h ∈ gs → SymbolsApart g h) × AllSymbolsApart gs

-- "every named symbol at an address up to MAX has nonzero size, an end of at most MAX, and an extent disjoint from roots and from other such symbols"
pub record SymbolsWell (gs : List Given) : Type 0 where
  pub sized : (y : SymbolRow) → symbol_row y ∈ gs → Counted y → 0 < y.size
  pub low : (y : SymbolRow) → symbol_row y ∈ gs → Counted y → y.address + y.size ≤ MAX
  pub apart : AllSymbolsApart gs

-- ── What is asked for ──

-- "exactly one frame with the symbol's name (undecorated where that is on for symbols, or the stand-in if that is empty) and entry, line 0, no file and
-- language MAX"; a name that is `none` is shown as the stand-in
abbrev pub wanted_symbol : Setup → SymbolRow → Frame
wanted_symbol X y = record { name = known (symbol_name X y); entry = y.address; language = MAX; number = 0; file = none }

-- Looked x fs says that a lookup of x gives the frames fs: of the plain tables (model), of a file by value (demand3), of it by the exported readers (c_demand3)
pub record SymbolsAndGaps (X : Setup) (gs : List Given) (Looked : ℕ → List Frame → Type 0) : Type 0 where
  -- "An address in a symbol's extent then gives exactly one frame"
  pub in_symbol : (y : SymbolRow) → symbol_row y ∈ gs → Counted y → (x : ℕ) → Covers (symbol_extent y) x → Looked x (wanted_symbol X y ∷ [])
  -- "An address in no root and no such symbol gives none"
  pub in_none : (x : ℕ) → ((g : Given) → g ∈ gs → InExtent g x → ⊥) → Looked x []

-- ── What carries it, of the plain tables ──

-- k is a start
abbrev pub IsStart : Tables → ℕ → Type 0
IsStart s k = (l : Location) × (range_at s.ranges k ≡ some l)

-- every start that holds frames lies in a counted extent
abbrev pub FramesInExtents : Setup → List Given → Type 0
FramesInExtents X gs =
    (k : ℕ) (l : Location) → range_at (converted X gs).ranges k ≡ some l → frames_of (converted X gs) l ≢ [] → (g : Given) × (g ∈ gs) × InExtent g k

-- the end of each counted extent is a start
pub record EndsAreStarts (X : Setup) (gs : List Given) : Type 0 where
  pub of_root : (q : FunctionRow) (rs : List FunctionRow) → tree_rows q rs ∈ gs → IsStart (converted X gs) (root_extent q).to
  pub of_symbol : (y : SymbolRow) → symbol_row y ∈ gs → Counted y → IsStart (converted X gs) (symbol_extent y).to
