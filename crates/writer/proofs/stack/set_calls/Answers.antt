-- `set_calls` meets its contract: four words one after the other are `set_calls`.
use Rattle.writer.proofs.ScratchLaws.{calls-stored}
use Rattle.writer.proofs.stack.set_calls.Goals as goal

pub returns : goal.returns
returns c =
    let a = c.args in
    calls-stored a.s.now _ _ _ _ a.d a.start a.len c.put.ensures c.put-2.ensures c.put-3.ensures c.put-4.ensures
