-- `state` meets its contract: each count is its word.
use Rattle.c_words.proofs.RecordLaws.{state-read}
use Rattle.c_words.proofs.record.state.Goals as goal

pub returns : goal.returns
returns c = state-read c.args.«record».now c.word.ensures c.word-2.ensures c.word-3.ensures c.word-4.ensures c.word-5.ensures c.word-6.ensures
