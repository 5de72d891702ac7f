-- `insert_part` meets its contract: the text is the part.
use Rattle.memory.specs.Memory.{words_of}
use Rattle.steps.proofs.Laws.{store_same}
use Rattle.steps.proofs.insert_part.Goals as goal

pub returns-clause-stored : goal.returns-clause-stored
returns-clause-stored c = store_same (words_of c.args.tables.now) c.insert_string.ensures.stored c.part.ensures
