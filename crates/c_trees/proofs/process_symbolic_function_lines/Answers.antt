-- `process_symbolic_function_lines` meets its contract: what its calls give, with a name for each.
use Rattle.std.proofs.Common.{◌≡◌, refl, ◌∙◌, Result, Err, rules}
use Rattle.errors.specs.declared.Refusal.{Refusal}
use Rattle.errors.proofs.Laws.{number-not_0}
use Rattle.memory.specs.Memory.{memory_of}
use Rattle.c_trees.proofs.LinesLaws.{unpacked_refused, lines-made}
use Rattle.c_trees.proofs.process_symbolic_function_lines.Goals as goal

pub returns-in_err-refused-clause-left : goal.returns-in_err-refused-clause-left
returns-in_err-refused-clause-left c =
    let a = c.args in
    let m = memory_of a.tables.now in
    let e : c.from_residual.result ≡ Err c.in_err-refused.field-0.0 = search rules in
    lines-made a.«record».now m a.scratch.now a.unpacked64.now a.unpacked32.now a.functions.columns64.now a.functions.columns32.now a.lines.now a.text.now
    c.lines_texts.ensures (c.code_of.ensures ∙ rw c.lengths.ensures at c.lines_refusal-refused.ensures) refl c.unpack.ensures.0 c.unpack.ensures.1
    (rw (e, c.code_of.ensures, c.in_err-refused.was) (unpacked_refused _ _ a.«record».now m a.scratch.now _ _ a.functions.columns64.now a.functions.columns32.now a.text.now (number-not_0 _)))

pub returns-clause-left : goal.returns-clause-left
returns-clause-left c =
    let a = c.args in
    lines-made a.«record».now (memory_of a.tables.now) a.scratch.now a.unpacked64.now a.unpacked32.now a.functions.columns64.now a.functions.columns32.now a.lines.now a.text.now
    c.lines_texts.ensures (c.code_of.ensures ∙ rw c.lengths.ensures at c.lines_refusal-refused.ensures) refl c.unpack.ensures.0 c.unpack.ensures.1
    (rw (c.code_of.ensures, c.in_ok-refused.was) c.convert_unpacked.ensures.left)
