-- `put_counts` meets its contract: six words, one after the other.
use mathlib.Core.Path.{refl}
use Rattle.c_words.specs.Record.{count_words}
use Rattle.c_reading.proofs.StoreLaws.{done, put, puts}
use Rattle.c_words.proofs.record.put_counts.Goals as goal

pub returns : goal.returns
returns c =
    let a = c.args in
    puts a.«record».now 11 (count_words a.s) (put 12 refl c.put.ensures (put 13 refl c.put-2.ensures (put 14 refl c.put-3.ensures (put 15 refl c.put-4.ensures (put 16 refl c.put-5.ensures (put 17 refl c.put-6.ensures done))))))
