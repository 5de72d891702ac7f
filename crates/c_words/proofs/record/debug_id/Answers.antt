-- `debug_id` meets its contract: eight words, four bytes each.
use Rattle.c_words.proofs.RecordLaws.{id-read}
use Rattle.c_words.proofs.record.debug_id.Goals as goal

pub returns : goal.returns
returns c = id-read c.args.«record».now c.put_word.ensures c.put_word-2.ensures c.put_word-3.ensures c.put_word-4.ensures c.put_word-5.ensures c.put_word-6.ensures c.put_word-7.ensures c.put_word-8.ensures
