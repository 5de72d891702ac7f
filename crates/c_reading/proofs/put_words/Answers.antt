use Rattle.std.proofs.Common.{◌∙◌, arith}
use Rattle.c_reading.proofs.StoreLaws.{sets-turn}
use Rattle.c_reading.proofs.put_words.Goals as goal

pub loop-i-preserved : goal.loop-i-preserved
loop-i-preserved c =
    let a = c.args in
    rw c.put.ensures (sets-turn c.loop-i.row a.words.now a.k c.loop-i.i (omega arith)) ∙ c.loop-i.invariant
