-- `shown_name` meets its contract.
use mathlib.Core.Path.{sym, ◌∙◌, ap}
use mathlib.Core.Bool.{Bool, cond}
use Rattle.names.specs.Names.{undecorated}
use Rattle.steps.proofs.shown_name.Goals as goal

pub returns-then-undecorate : goal.returns-then-undecorate
returns-then-undecorate c =
    let n = c.args.name.now in
    c.undecorate_win_symbol.ensures ∙ sym (ap (λ (b : Bool). cond b (undecorated n) n) c.if-undecorate.true)
