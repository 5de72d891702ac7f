-- `put_id_word` meets its contract: the word that the four bytes are.
use Rattle.c_words.proofs.RecordLaws.{word_of_id}
use Rattle.c_words.proofs.record.put_id_word.Goals as goal

pub returns : goal.returns
returns c =
    let a = c.args in
    word_of_id a.«record».now a.k a.id.now c.load_u32-w.result c.load_u32-w.ensures c.put.ensures
