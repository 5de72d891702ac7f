-- `rows::part` meets its contract: the part where it ends within the text, and else none of it.
use Rattle.rows.proofs.Laws.{part_in, part_out}
use Rattle.rows.proofs.part.Goals as goal

pub returns-then-end-text : goal.returns-then-end-text
returns-then-end-text c = part_in _ _ _ c.if-end-text.true

pub returns : goal.returns
returns c = part_out _ _ _ c.if-end-text.false
