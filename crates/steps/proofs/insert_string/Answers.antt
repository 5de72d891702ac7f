-- `insert_string` meets its contract: `store_law`.
use Rattle.memory.specs.Memory.{words_of}
use Rattle.steps.proofs.Laws.{store_law}
use Rattle.steps.proofs.insert_string.Goals as goal

pub returns-clause-stored : goal.returns-clause-stored
returns-clause-stored c = store_law (words_of c.args.tables.now) c.args.t.now c.insert-got.ensures
