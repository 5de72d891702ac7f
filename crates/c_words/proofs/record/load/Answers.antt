-- `load` meets its contract: each part is its words.
use Rattle.c_words.proofs.RecordLaws.{converter-read}
use Rattle.c_words.proofs.record.load.Goals as goal

pub returns : goal.returns
returns c = converter-read c.args.«record».now c.debug_id-debug_id.ensures c.state-state.ensures c.clamped-clamped_lines.ensures c.word.ensures c.word-2.ensures c.is_set.ensures c.word-3.ensures c.is_set-2.ensures c.word-4.ensures c.is_set-3.ensures
