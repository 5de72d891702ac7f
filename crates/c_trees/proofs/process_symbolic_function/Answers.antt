-- `process_symbolic_function` meets its contract.
use Rattle.rows.specs.Columns.{columns_of}
use Rattle.errors.specs.Numbers.{code_of}
use Rattle.memory.specs.Memory.{memory_of}
use Rattle.c_trees.proofs.TreeLaws.{tree_law}
use Rattle.c_trees.proofs.process_symbolic_function.Goals as goal

pub returns-clause-left : goal.returns-clause-left
returns-clause-left c =
    let a = c.args in
    let call = c.process_symbolic_function-answer in
    tree_law a.«record».now (memory_of a.tables.now) a.scratch.now (columns_of a.functions a.lines a.text.now) (code_of call.result) call.new.converter
    (memory_of call.new.tables) call.new.scratch c.load-converter.ensures call.ensures.left (rw c.code_of.ensures at c.store_answer.ensures)
