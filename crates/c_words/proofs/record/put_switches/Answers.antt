-- `put_switches` meets its contract: three words, one after the other.
use mathlib.Core.Path.{refl, ap, ◌∙◌}
use Prim.Native.Nat.{ℕ}
use lib.ListN.{set}
use Rattle.c_words.specs.Record.{switch_words}
use Rattle.c_reading.proofs.StoreLaws.{done, put, puts}
use Rattle.c_words.proofs.record.put_switches.Goals as goal

pub returns : goal.returns
returns c =
    let a = c.args in
    puts a.«record».now 8 (switch_words a.c) (put 9 refl c.put.ensures (put 10 refl (c.put-2.ensures ∙ ap (λ (v : ℕ). set c.put.new.t 9 v) c.flag.ensures) (put 11 refl (c.put-3.ensures ∙ ap (λ (v : ℕ). set c.put-2.new.t 10 v) c.flag-2.ensures) done)))
