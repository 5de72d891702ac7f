-- A tree call whose line rows are one lent list of rows, for every input: what the call over number slices gives for the columns that the rows stand for.
use Rattle.std.specs.Prelude.{cond, ◌&&◌, List, ℕ, eqb, length}
use Rattle.rows.specs.Columns.{Columns}
use Rattle.refusals.specs.Refusals.{tree_refusal}
use Rattle.memory.specs.Memory.{Memory}
use Rattle.memory.specs.declared.Converter.{Converter}
use Rattle.symbol_call.specs.Calls.{Called, called}
use Rattle.writer.specs.Calls.{tree_of}
use Rattle.slices.specs.Slices.{zeros}
use Rattle.memory.specs.Record.{usable?}
use Rattle.line_rows.specs.Numbers.{unpack_room?}

-- what such a call leaves: what a tree call does, and the memory that the line rows were unpacked into
pub record LinesCalled : Type 0 where
  pub called : Called
  pub unpacked64 : List ℕ
  pub unpacked32 : List ℕ

abbrev pub lines_called : Called → List ℕ → List ℕ → LinesCalled
lines_called o u v = record { called = o; unpacked64 = u; unpacked32 = v }

-- That memory counts as scratch: 16 where it has fewer rows than there are line rows, zero after 17 and after every accepted tree, and any other
-- refusal changes none of it.
-- "Trees: 19, 13, 14, 15, 16, 17", with 25 right after 13 (K7)
unfoldable pub lines_of : Converter → Memory → List ℕ → List ℕ → List ℕ → Columns → LinesCalled
lines_of c m s u v k =
    cond (usable? c m && eqb (tree_refusal k (length s)) 0)
    (cond (unpack_room? k u v) (lines_called (tree_of c m s k) (zeros u) (zeros v)) (lines_called (called 16 c m s) u v))
    (lines_called (tree_of c m s k) u v)
