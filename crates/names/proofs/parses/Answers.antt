-- `parses` passes a plus over.
use mathlib.Core.Path.{sym, ◌∙◌}
use Rattle.names.proofs.Laws.{rest, stood}
use Rattle.names.proofs.Branches.{plus, no_plus}
use Rattle.names.proofs.parses.Goals as goal

pub returns-then-starts_with : goal.returns-then-starts_with
returns-then-starts_with c =
    let s = c.args.s.now in
    rw (rest 1 s) at c.number.ensures ∙ sym (plus s (stood _ _ c.starts_with.ensures.value c.if-starts_with.true))

pub returns : goal.returns
returns c = c.number-2.ensures ∙ sym (no_plus _ (stood _ _ c.starts_with.ensures.value c.if-starts_with.false))
