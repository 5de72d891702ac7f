-- A LIST OF CALLS AFTER A BEGINNING: document 01's "Demand 3 is a single claim about the whole list, not one for each call; a beginning starts a
-- new list, and a refused call adds nothing to what counts". Only the record and the lent tables thread through; a tree call lends its rows, their
-- text and scratch, a symbol call its text, a write its output, anew each time, of any length and content.
-- The list is one definition over what carries the record from call to call: the record itself (`by_value`), or its words in a lent slice
-- (exports' Lists). Each step is the very definition that the function's contract cites.
-- A new kind of call is a constructor of `Call`, a line of `counts`, of `Typed` and of `by_value` here, and a line of exports' `exported`.
use Rattle.std.specs.Prelude.{Bool, cond, List, [], ◌∷◌, ◌++◌, ℕ, ◌≤◌, eqb, get_or}
use Rattle.model.specs.Rows.{MAX, Given, tree_rows, symbol_row}
use Rattle.model.specs.Converter.{Setup, converted}
use Rattle.model.specs.Counts.{Capacities, plain_fits?}
use Rattle.rows.specs.Columns.{Columns, root_row, later_rows}
use Rattle.rows.specs.declared.OptionalPart.{OptionalPart}
use Rattle.rows.specs.declared.LineRow.{LineRow}
use Rattle.memory.specs.Memory.{Memory}
use Rattle.memory.specs.declared.Converter.{Converter}
use Rattle.symbol_call.specs.Calls.{Called, symbol_of}
use Rattle.writer.specs.Calls.{tree_of}
use Rattle.memory.specs.Record.{begin_of}
use Rattle.steps.specs.Symbols.{symbol_row_lem}
use Rattle.line_rows.specs.Lines.{line_columns}
use Rattle.line_calls.specs.Calls.{lines_of}
use Rattle.serialize.specs.File.{serialize_of}

-- ── A call ─────────────────────────────────────────────────────────────────────────────────────────────────────────────

pub data Call : Type 0 where
  tree : Columns → List ℕ → Call  -- the rows with their text, and the scratch
  -- the function rows in columns, the line rows as one list, their text; the scratch, and the memory that the line rows are unpacked into
  lines_tree : List ℕ → List ℕ → List LineRow → List ℕ → List ℕ → List ℕ → List ℕ → Call
  symbol : List ℕ → ℕ → ℕ → OptionalPart → Call  -- the text, then address, size, and the part that is the name
  write : List ℕ → Call  -- the output

-- what a call leaves: its number, what carries the record, and the lent tables
pub record Outcome (R : Type 0) : Type 0 where
  pub code : ℕ
  pub carrier : R
  pub memory : Memory

abbrev pub outcome : {R : Type 0} → ℕ → R → Memory → Outcome R
outcome n c m = record { code = n; carrier = c; memory = m }

-- ── What counts ────────────────────────────────────────────────────────────────────────────────────────────────────────

-- what a tree call was given, as the plain converter has it (13 leaves a root)
abbrev pub given_tree : Columns → Given
given_tree k = tree_rows (root_row k) (later_rows k)

-- "a refused call adds nothing to what counts": of the calls gs, and one given g that answered n
abbrev pub with_accepted : ℕ → Given → List Given → List Given
with_accepted n g gs = cond (eqb n 0) (gs ++ (g ∷ [])) gs

-- what counts after a call that answered n, where gs did before it
abbrev pub counts : Call → ℕ → List Given → List Given
counts (tree k s) n gs = with_accepted n (given_tree k) gs
counts (lines_tree f64 f32 ls t s u v) n gs = with_accepted n (given_tree (line_columns f64 f32 ls t)) gs
counts (symbol t address size name) n gs = with_accepted n (symbol_row (symbol_row_lem t address size name)) gs
counts (write output) n gs = gs

-- ── A list of calls ────────────────────────────────────────────────────────────────────────────────────────────────────

-- where a list stands: what carries the record, and the tables, as the call before left them; and the calls accepted since the beginning
pub record Standing (R : Type 0) : Type 0 where
  pub carrier : R
  pub memory : Memory
  pub counted : List Given

-- right after a beginning
abbrev pub none_counted : {R : Type 0} → R → Memory → Standing R
none_counted c m = record { carrier = c; memory = m; counted = [] }

-- `leaves` says of every call what it leaves, from what the call before left
module _ {R : Type 0} (leaves : Call → R → Memory → Outcome R) where
  unfoldable pub next : Call → Standing R → Standing R
  next k x =
      let o = leaves k x.carrier x.memory in
      record { carrier = o.carrier; memory = o.memory; counted = counts k o.code x.counted }

  unfoldable pub run : List Call → Standing R → Standing R
  run [] x = x
  run (k ∷ ks) x = run ks (next k x)

-- ── The calls by value: the record itself is carried ───────────────────────────────────────────────────────────────────

abbrev pub of_called : Called → Outcome Converter
of_called o = outcome o.code o.converter o.memory

-- "Writing doesn't change the converter"
abbrev pub by_value : Call → Converter → Memory → Outcome Converter
by_value (tree k s) c m = of_called (tree_of c m s k)
by_value (lines_tree f64 f32 ls t s u v) c m = of_called (lines_of c m s u v (line_columns f64 f32 ls t)).called
by_value (symbol t address size name) c m = of_called (symbol_of c m t address size name)
by_value (write output) c m = outcome (serialize_of c m output).code c m

-- a beginning: any record before it and any content of the lent tables
abbrev pub beginning : List ℕ → ℕ → Bool → Bool → Memory → Standing Converter
beginning id arch f s m = let b = begin_of id arch f s m in none_counted b.0 b.1

-- ── Of one call ────────────────────────────────────────────────────────────────────────────────────────────────────────

-- 17's condition: "a table would need more rows or bytes after this call than its capacity"; the tables are the plain converter's
abbrev pub due : Capacities → Setup → List Given → Given → ℕ
due K X gs g = cond (plain_fits? K (converted X (gs ++ (g ∷ [])))) 0 17

-- what the type of a slice of 32-bit words says, as far as it matters
abbrev pub Typed : Call → Type 0
Typed (tree k s) = (i : ℕ) → get_or k.functions32 i 0 ≤ MAX
Typed (lines_tree f64 f32 ls t s u v) = (i : ℕ) → get_or f32 i 0 ≤ MAX
Typed (symbol t address size name) = Unit {0}
Typed (write output) = Unit {0}
