-- A tree call, for every input: document 01 "Converter" and "Who causes which number". It gives its number, the record, and every lent slice as it
-- leaves it (symbol_call's `Called`). A symbol call is `symbol_of` of symbol_call, a beginning `begin_of` of memory.
use Rattle.std.specs.Prelude.{cond, List, map, ℕ, eqb, length}
use Rattle.model.specs.Machine.{convert_m, start_m}
use Rattle.model.specs.Converter.{input, deep}
use Rattle.rows.specs.Columns.{Columns, tree_rows_lem}
use Rattle.rows.specs.Clamped.{clamped_rows}
use Rattle.refusals.specs.Refusals.{tree_refusal}
use Rattle.memory.specs.Memory.{Memory, Words}
use Rattle.memory.specs.Record.{usable?, words_of_lem, with_clamped}
use Rattle.memory.specs.declared.Converter.{Converter}
use Rattle.steps.specs.Steps.{over_words}
use Rattle.symbol_call.specs.Calls.{Called, called, setup, finished}

-- all rows, in preorder
abbrev pub rows_converted : Converter → Memory → Columns → Words
rows_converted c m k = convert_m input (over_words (setup c)) (map deep (tree_rows_lem k)) (start_m input (over_words (setup c))) (words_of_lem c m)

-- the record with the tree's clamped line rows counted: K5, "each row once, in skipped functions as well"
abbrev pub tree_counted : Converter → Columns → Converter
tree_counted c k = with_clamped c (clamped_rows (tree_rows_lem k))

-- "Trees: 19, 13, 14, 15, 16, 17", with 25 right after 13 (K7); "Every other refusal changes no lent byte and no state"
unfoldable pub tree_of : Converter → Memory → List ℕ → Columns → Called
tree_of c m s k =
    cond (usable? c m)
    (cond (eqb (tree_refusal k (length s)) 0) (finished (tree_counted c k) s (rows_converted c m k)) (called (tree_refusal k (length s)) c m s))
    (called 19 c m s)
