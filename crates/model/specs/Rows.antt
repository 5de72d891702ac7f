-- What the converter is given, as document 01's "Forms" has it, and what it reads of it, with the corners of "Converter". All numbers are
-- naturals: what is cut or clamped is cut or clamped here, in the open.
use Rattle.std.specs.Prelude.{Bool, true, cond, List, ℕ, ◌+◌, ◌%◌, min, ltb, leb, eqb}
use Rattle.std.proofs.Math.Option.{Option, none, some}
use Rattle.model.specs.Basics.{Span}

abbrev pub MAX : ℕ
MAX = 4294967295

-- the low 32 bits
abbrev pub cut32 : ℕ → ℕ
cut32 n = n % 4294967296

-- a text's bytes
abbrev pub Text : Type 0
Text = List ℕ

pub record LineRow : Type 0 where
  pub address : ℕ
  pub size : Option ℕ
  pub number : ℕ
  pub name : Text  -- of the file
  pub directory : Text
  pub srcsrv_name : Option Text
  pub srcsrv_dir : Option Text
  pub revision : Option Text

pub record FunctionRow : Type 0 where
  pub depth : ℕ
  pub address : ℕ
  pub size : ℕ
  pub inline : Bool
  pub language : ℕ
  pub name : Text
  pub comp_dir : Text
  pub lines : List LineRow

pub record SymbolRow : Type 0 where
  pub address : ℕ
  pub size : ℕ
  pub name : Option Text

-- an accepted call: a tree's first row and the rows after it (there is a first one: 13), or a symbol
pub data Given : Type 0 where
  tree_rows : FunctionRow → List FunctionRow → Given
  symbol_row : SymbolRow → Given

-- ── What is read of a row ──────────────────────────────────────────────────────────────────────────────────────────────

-- "absent size counts as 1"
abbrev pub line_size : LineRow → ℕ
line_size n = elim n.size [ none ↦ 1 | some z ↦ z ]

-- `line_boundaries`: "start clamps to MAX; absent size counts as 1; end saturates at MAX"
abbrev pub boundaries : LineRow → Span
boundaries n = record { from = min n.address MAX; to = min (min n.address MAX + line_size n) MAX }

-- "Size 0 or address above MAX skips a row with its inlinees"
abbrev pub skipped : FunctionRow → Bool
skipped q = cond (eqb q.size 0) true (ltb MAX q.address)

-- "Function end is cut to 32 bits"
abbrev pub function_end : FunctionRow → ℕ
function_end q = cut32 (q.address + q.size)

-- "Symbols counted are named, at addresses up to MAX": the others are accepted and change nothing
abbrev pub symbol_skipped : SymbolRow → Bool
symbol_skipped y = elim y.name [ none ↦ true | some t ↦ ltb MAX y.address ]

-- "an end counts if size is above 0 and it is at most MAX"
abbrev pub symbol_end : SymbolRow → Option ℕ
symbol_end y = cond (eqb y.size 0) none (cond (leb (y.address + y.size) MAX) (some (y.address + y.size)) none)
