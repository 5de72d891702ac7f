-- `insert_range` meets its contract: `range_law`.
use Rattle.memory.specs.Memory.{words_of}
use Rattle.steps.proofs.Laws.{range_law}
use Rattle.steps.proofs.insert_range.Goals as goal

pub returns-clause-put : goal.returns-clause-put
returns-clause-put c = range_law (words_of c.args.tables.now) c.args.start c.args.l c.put-got.ensures
