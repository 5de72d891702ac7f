-- `write_head` meets its contract: the header stands behind magic and version.
use Rattle.serialize.proofs.Whole.{head-stored}
use Rattle.serialize.proofs.write_head.Goals as goal

pub returns : goal.returns
returns c =
    let a = c.args in
    head-stored a.converter a.converter.state.ranges a.out.now c.write.new.s c.write-2.new.s c.write.ensures c.write-2.ensures
