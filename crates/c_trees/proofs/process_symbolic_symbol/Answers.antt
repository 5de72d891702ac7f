-- `process_symbolic_symbol` meets its contract.
use Rattle.errors.specs.Numbers.{code_of}
use Rattle.memory.specs.Memory.{memory_of}
use Rattle.c_trees.proofs.TreeLaws.{symbol_law}
use Rattle.c_trees.proofs.process_symbolic_symbol.Goals as goal

pub returns-clause-left : goal.returns-clause-left
returns-clause-left c =
    let a = c.args in
    let call = c.process_symbolic_symbol-answer in
    symbol_law a.«record».now (memory_of a.tables.now) a.text.now a.address a.size a.name (code_of call.result) call.new.converter (memory_of call.new.tables)
    c.load-converter.ensures call.ensures.left (rw c.code_of.ensures at c.store_answer.ensures)
