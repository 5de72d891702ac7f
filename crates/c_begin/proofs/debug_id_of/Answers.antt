-- `debug_id_of` meets its contract: a header row begins with its debug id.
use Rattle.c_begin.proofs.BeginLaws.{id-bytes}
use Rattle.c_begin.proofs.debug_id_of.Goals as goal

pub returns : goal.returns
returns c = id-bytes c.args.bytes.now c.read-header.result c.read-header.ensures
