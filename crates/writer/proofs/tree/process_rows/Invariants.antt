-- `process_rows` meets its contract: reading ahead leaves in scratch what nothing looks at, and the rows still to come leave what all rows leave (`Rowing`),
-- for either switch of the symbols.
use mathlib.Core.Bool.{Bool}
use lib.ListN.{length}
use Rattle.rows.specs.Columns.{columns_of}
use Rattle.memory.specs.Memory.{SameTables, words_of}
use Rattle.steps.specs.Steps.{over_words}
use Rattle.scratch.proofs.Tree.{Rowing}
use Rattle.steps.specs.Symbols.{switches}
use Rattle.writer.proofs.tree.process_rows.Given as goal

abbrev pub invariant-loop-i : goal.invariant-loop-i
invariant-loop-i l =
    SameTables l.initial.tables l.tables
    × ((Y : Bool) → Rowing (over_words (switches l.undecorate Y)) (columns_of l.functions l.lines l.text) (length l.initial.s) (words_of l.initial.tables) l.s l.i l.first_line (words_of l.tables))
