-- `put_word` meets its contract: the word as four bytes.
use Rattle.c_words.proofs.RecordLaws.{word-bytes}
use Rattle.c_words.proofs.record.put_word.Goals as goal

pub returns : goal.returns
returns c =
    let a = c.args in
    word-bytes a.id.now a.k a.«record».now _ c.word.ensures c.store_u32.ensures
