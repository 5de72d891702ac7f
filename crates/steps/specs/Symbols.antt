-- A symbol's row and its steps on the lent tables: writer.rs, `process_symbolic_symbol`.
use Rattle.std.specs.Prelude.{Bool, List, ℕ}
use Rattle.std.proofs.Math.Option.{Option, none, some}
use Rattle.model.specs.Rows.{MAX, Text, SymbolRow}
use Rattle.model.specs.Machine.{unless_held, put_end}
use Rattle.model.specs.Converter.{Setup, input}
use Rattle.rows.specs.Columns.{optional_of}
use Rattle.rows.specs.declared.OptionalPart.{OptionalPart}
use Rattle.memory.specs.Memory.{Words}
use Rattle.steps.specs.Steps.{location, add_function, put_range, over_words}

-- the switches of a converter
abbrev pub switches : Bool → Bool → Setup
switches functions symbols = record { functions_on = functions; symbols_on = symbols }

-- a symbol's row; its name is a part of the lent text, where it has one
abbrev pub symbol_row_lem : List ℕ → ℕ → ℕ → OptionalPart → SymbolRow
symbol_row_lem t address size name = record { address = address; size = size; name = optional_of t name }

-- the two steps of a symbol on the ranges: the function and the location at its start, where that is vacant or holds the empty mapping
abbrev pub symbol_put : Setup → ℕ → ℕ → Words → Words
symbol_put X name address s =
    let f = add_function name address MAX s in
    unless_held input (over_words X) address (put_range address (location MAX 0 f.0 MAX) f.1) s

-- and the empty mapping at its end, if it has one
abbrev pub end_put : Setup → Option ℕ → Words → Words
end_put X end s = elim end [ none ↦ s | some e ↦ put_end input (over_words X) e s ]

abbrev pub named_row : ℕ → ℕ → Text → SymbolRow
named_row address size name = record { address = address; size = size; name = some name }
