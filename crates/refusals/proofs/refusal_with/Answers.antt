-- `refusals::refusal_with` meets its contract: each refusal by the tests that led to it.
use mathlib.Core.Path.{sym, ◌∙◌}
use native.Mathlib.Omega.{arith}
use Rattle.refusals.proofs.Laws.{with_13, with_25, with_14_functions, with_14_lines, with_15, with_16, with_0}
use Rattle.refusals.proofs.refusal_with.Goals as goal
use Rattle.refusals.proofs.refusal_with.Goals.{then-not-functions_texts-via-then-not-functions_texts, then-not-functions_texts-via-else-not-functions_texts+then-not-line_texts}

pub returns-then-not-shaped : goal.returns-then-not-shaped
returns-then-not-shaped c =
    let a = c.args in
    with_13 a.functions.columns64.now a.functions.columns32.now a.lines a.line_texts a.text.now a.scratch (sym c.shaped.ensures ∙ c.if-not-shaped.true)

pub returns-then-not-shallow : goal.returns-then-not-shallow
returns-then-not-shallow c =
    let a = c.args in
    with_25 a.functions.columns64.now a.functions.columns32.now a.lines a.line_texts a.text.now a.scratch (sym c.shaped.ensures ∙ c.if-not-shaped.false) (sym c.shallow.ensures ∙ c.if-not-shallow.true)

pub returns-then-not-functions_texts : goal.returns-then-not-functions_texts
returns-then-not-functions_texts c =
    let a = c.args in
    elim c.then-not-functions_texts.branch [
      | then-not-functions_texts-via-then-not-functions_texts w ↦
          with_14_functions a.functions.columns64.now a.functions.columns32.now a.lines a.line_texts a.text.now a.scratch (sym c.shaped.ensures ∙ c.if-not-shaped.false) (sym c.shallow.ensures ∙ c.if-not-shallow.false) (sym c.functions_texts.ensures ∙ w.if-not-functions_texts.true)
      | then-not-functions_texts-via-else-not-functions_texts+then-not-line_texts w ↦
          with_14_lines a.functions.columns64.now a.functions.columns32.now a.lines a.line_texts a.text.now a.scratch (sym c.shaped.ensures ∙ c.if-not-shaped.false) (sym c.shallow.ensures ∙ c.if-not-shallow.false) (sym c.functions_texts.ensures ∙ w.if-not-functions_texts.false) w.if-not-line_texts.true
    ]

pub returns-then-not-ends : goal.returns-then-not-ends
returns-then-not-ends c =
    let a = c.args in
    with_15 a.functions.columns64.now a.functions.columns32.now a.lines a.line_texts a.text.now a.scratch (sym c.shaped.ensures ∙ c.if-not-shaped.false) (sym c.shallow.ensures ∙ c.if-not-shallow.false) (sym c.functions_texts.ensures ∙ c.if-not-functions_texts.false) c.if-not-line_texts.false (sym c.ends.ensures ∙ c.if-not-ends.true)

pub returns-then-scratch-saturating_add : goal.returns-then-scratch-saturating_add
returns-then-scratch-saturating_add c =
    let a = c.args in
    with_16 a.functions.columns64.now a.functions.columns32.now a.lines a.line_texts a.text.now a.scratch (sym c.shaped.ensures ∙ c.if-not-shaped.false) (sym c.shallow.ensures ∙ c.if-not-shallow.false) (sym c.functions_texts.ensures ∙ c.if-not-functions_texts.false) c.if-not-line_texts.false (sym c.ends.ensures ∙ c.if-not-ends.false) (omega (arith, c.if-scratch-saturating_add.true))

pub returns : goal.returns
returns c =
    let a = c.args in
    with_0 a.functions.columns64.now a.functions.columns32.now a.lines a.line_texts a.text.now a.scratch (sym c.shaped.ensures ∙ c.if-not-shaped.false) (sym c.shallow.ensures ∙ c.if-not-shallow.false) (sym c.functions_texts.ensures ∙ c.if-not-functions_texts.false) c.if-not-line_texts.false (sym c.ends.ensures ∙ c.if-not-ends.false) (omega (arith, c.if-scratch-saturating_add.false))
