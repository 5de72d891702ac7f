-- `refusals::refusal` meets its contract: the line rows' lengths, then the tests of `refusal_with`.
use mathlib.Core.Path.{sym, ◌∙◌}
use Rattle.rows.specs.Columns.{columns}
use Rattle.refusals.specs.Refusals.{refusal_with}
use Rattle.refusals.proofs.Laws.{refusal-columns, refusal-lengths}
use Rattle.refusals.proofs.refusal.Goals as goal

pub returns-then-not-line_lengths : goal.returns-then-not-line_lengths
returns-then-not-line_lengths c =
    let a = c.args in
    let k = columns a.functions.columns64.now a.functions.columns32.now a.lines.columns64.now a.lines.columns32.now a.text.now in
    refusal-lengths k a.scratch (sym c.line_lengths.ensures ∙ c.if-not-line_lengths.true)

pub returns : goal.returns
returns c =
    let a = c.args in
    let f64 = a.functions.columns64.now in
    let f32 = a.functions.columns32.now in
    let k = columns f64 f32 a.lines.columns64.now a.lines.columns32.now a.text.now in
    c.refusal_with.ensures
    ∙ (λ i. refusal_with f64 f32 (c.len.ensures i) (c.lines_texts.ensures i) a.text.now a.scratch)
    ∙ refusal-columns k a.scratch (sym c.line_lengths.ensures ∙ c.if-not-line_lengths.false)
