-- `begin_row` meets its contract: `begin_function`'s, at the row's name and entry.
use Rattle.memory.specs.Memory.{words_of}
use Rattle.writer.proofs.TreeLaws.{begun}
use Rattle.writer.proofs.tree.begin_row.Goals as goal

pub returns-clause-begun : goal.returns-clause-begun
returns-clause-begun c =
    let a = c.args in
    begun a.undecorate a.q.language (words_of a.tables.now) c.part-name.ensures c.entry_pc.ensures c.begin_function.ensures.begun
