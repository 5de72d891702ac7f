-- `prefixed` tests for `@`, then for `_`.
use mathlib.Core.Path.{◌∙◌}
use mathlib.Core.List.{[], ◌∷◌}
use Rattle.names.specs.Names.{prefixed}
use Rattle.names.proofs.Laws.{stands, stood}
use Rattle.names.proofs.prefixed.Goals as goal

pub returns-then-starts_with : goal.returns-then-starts_with
unfolding prefixed
returns-then-starts_with c = rw (stood (64 ∷ []) c.args.name.now c.starts_with.ensures.value c.if-starts_with.true) c.if-starts_with.true

pub returns-else-starts_with : goal.returns-else-starts_with
unfolding prefixed
returns-else-starts_with c =
    rw (stood (64 ∷ []) c.args.name.now c.starts_with.ensures.value c.if-starts_with.false) (c.starts_with-else-starts_with.ensures.value ∙ stands (95 ∷ []) c.args.name.now)
