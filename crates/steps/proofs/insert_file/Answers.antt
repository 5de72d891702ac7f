-- `insert_file` meets its contract: `file_law`.
use Rattle.memory.specs.Memory.{words_of}
use Rattle.steps.proofs.Laws.{file_law}
use Rattle.steps.proofs.insert_file.Goals as goal

pub returns-clause-added : goal.returns-clause-added
returns-clause-added c = file_law (words_of c.args.tables.now) c.args.row c.insert_full-got.ensures
