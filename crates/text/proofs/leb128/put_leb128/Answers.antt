use mathlib.Core.Path.{◌∙◌}
use native.Mathlib.Omega.{arith}
use lib.ListN.{length-set}
use Rattle.text.proofs.Leb128Laws.{put-more, length_more}
use Rattle.text.proofs.leb128.put_leb128.Goals as goal

pub loop-rest-preserved : goal.loop-rest-preserved
loop-rest-preserved c = (simp length-set (omega (arith, length_more c.loop-rest.rest c.loop-rest-test.true)), simp length-set (omega arith), put-more c.loop-rest.out c.loop-rest.i c.loop-rest.rest c.loop-rest-test.true ∙ c.loop-rest.invariant.2)
