-- `put_clamped` meets its contract: two words, one after the other.
use mathlib.Core.Path.{refl}
use Rattle.c_words.specs.Record.{clamped_words}
use Rattle.c_reading.proofs.StoreLaws.{done, put, puts}
use Rattle.c_words.proofs.record.put_clamped.Goals as goal

pub returns : goal.returns
returns c =
    let a = c.args in
    puts a.«record».now 17 (clamped_words a.n) (put 18 refl c.put.ensures (put 19 refl c.put-2.ensures done))
