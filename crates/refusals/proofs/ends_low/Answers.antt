-- `refusals::ends_low` meets its contract.
use Rattle.std.proofs.Common.{rules}
use Rattle.refusals.proofs.Laws.{end_is}
use Rattle.refusals.proofs.ends_low.Goals as goal

pub returns : goal.returns
returns c = end_is c.args.q (search rules)
