-- `read_leb128` meets its contract. The invariant is `Read` of proofs/Leb128Reading.antt. Assumes nothing.
use Rattle.text.proofs.Leb128Reading.{Read}
use Rattle.text.proofs.leb128.read_leb128.Given as goal

abbrev pub invariant-loop-i : goal.invariant-loop-i
invariant-loop-i l = Read l.rest l.i l.unit l.value
