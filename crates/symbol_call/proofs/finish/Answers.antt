-- `finish` meets its contract: by whether the tables hold what is in use.
use Rattle.memory.specs.Memory.{words_of}
use Rattle.symbol_call.proofs.CallLaws.{accepted, overfull}
use Rattle.symbol_call.proofs.finish.Goals as goal

pub returns-then-fits-clause-left : goal.returns-then-fits-clause-left
returns-then-fits-clause-left c =
    let a = c.args in
    accepted a.converter.now (words_of a.tables.now) c.lengths.ensures c.fits.ensures c.if-fits.true c.with_state.ensures

pub returns-clause-left : goal.returns-clause-left
returns-clause-left c =
    let a = c.args in
    overfull a.converter.now (words_of a.tables.now) c.lengths.ensures c.fits.ensures c.if-fits.false
    c.unused.ensures c.with_state-2.ensures c.zero.ensures.zeroed
