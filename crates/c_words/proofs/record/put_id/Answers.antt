-- `put_id` meets its contract: eight words, one after the other.
use mathlib.Core.Path.{refl}
use Rattle.c_words.specs.Record.{id_words}
use Rattle.c_reading.proofs.StoreLaws.{done, put, puts}
use Rattle.c_words.proofs.record.put_id.Goals as goal

pub returns : goal.returns
returns c =
    let a = c.args in
    puts a.«record».now 0 (id_words a.id.now) (put 1 refl c.put_id_word.ensures (put 2 refl c.put_id_word-2.ensures (put 3 refl c.put_id_word-3.ensures (put 4 refl c.put_id_word-4.ensures (put 5 refl c.put_id_word-5.ensures (put 6 refl c.put_id_word-6.ensures (put 7 refl c.put_id_word-7.ensures (put 8 refl c.put_id_word-8.ensures done))))))))
