-- `close_function` meets its contract: `closing`.
use Rattle.memory.specs.Memory.{words_of}
use Rattle.writer.proofs.TreeLaws.{closing, end_is}
use Rattle.writer.proofs.tree.close_function.Goals as goal

pub returns-clause-closed : goal.returns-clause-closed
returns-clause-closed c =
    let a = c.args in
    λ X p ea es ei h.
    closing X p a.function_idx (words_of a.tables.now) c.function_end.result (words_of c.insert_entry.new.tables) (words_of c.insert_end.new.tables)
    (c.insert_entry.ensures.put X p ea ei h) (end_is p a.q c.function_end.ensures ea es) (c.insert_end.ensures.put X)
