-- `process_symbolic_function` meets its contract: by its two tests.
use Rattle.std.proofs.Common.{◌≡◌, refl, ap, ◌∙◌, Result, Err, rules}
use Rattle.errors.specs.declared.Refusal.{Refusal}
use Rattle.errors.specs.Numbers.{code_of}
use Rattle.errors.proofs.Laws.{number-not_0}
use Rattle.memory.specs.Memory.{memory_of}
use Rattle.rows.specs.Columns.{columns_of}
use Rattle.symbol_call.specs.Calls.{called}
use Rattle.writer.proofs.CallLaws.{tree-taken, tree-refused, tree-closed}
use Rattle.writer.proofs.calls.process_symbolic_function.Goals as goal

pub returns-then-not-is_usable-clause-left : goal.returns-then-not-is_usable-clause-left
returns-then-not-is_usable-clause-left c =
    let a = c.args in
    tree-closed a.converter.now (memory_of a.tables.now) a.scratch.now (columns_of a.functions a.lines a.text.now) c.lengths.ensures c.is_usable.ensures c.if-not-is_usable.true

pub returns-in_err-refusal-clause-left : goal.returns-in_err-refusal-clause-left
returns-in_err-refusal-clause-left c =
    let a = c.args in
    let m = memory_of a.tables.now in
    let e : c.from_residual.result ≡ Err c.in_err-refusal.field-0.0 = search rules in
    ap (λ (n : Result (Unit {0}) Refusal). called (code_of n) a.converter.now m a.scratch.now) e
    ∙ tree-refused a.converter.now m a.scratch.now (columns_of a.functions a.lines a.text.now) c.lengths.ensures c.is_usable.ensures c.if-not-is_usable.false
    c.in_err-refusal.ensures (number-not_0 _)

pub returns-clause-left : goal.returns-clause-left
returns-clause-left c =
    let a = c.args in
    tree-taken a.converter.now (memory_of a.tables.now) a.scratch.now (columns_of a.functions a.lines a.text.now) c.lengths.ensures c.is_usable.ensures c.if-not-is_usable.false
    c.in_ok-refusal.ensures refl (c.process_rows.ensures.converted a.converter.now.undecorate_symbols) c.process_rows.new.s c.process_rows.auto.s c.zero.ensures
    c.clamped.ensures c.with_clamped.ensures (c.finish-answer.ensures.left a.scratch.now)
