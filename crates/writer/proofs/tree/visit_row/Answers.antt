-- `visit_row` meets its contract: `row_walked`, from what its five calls ensure.
use mathlib.Core.Path.{◌≡◌, sym, ap, subst, ◌∙◌}
use Prim.Native.Nat.{◌≤◌}
use lib.ListN.{length}
use Rattle.model.specs.Rows.{MAX}
use Rattle.rows.specs.declared.FunctionRow.{FunctionRow as FunctionStruct}
use Rattle.rows.specs.Columns.{columns_of, tree_row}
use Rattle.rows.proofs.RowLaws.{tree_row-address, tree_row-size, tree_row-inline}
use Rattle.memory.specs.Memory.{words_of}
use Rattle.steps.proofs.RowTexts.{address_below}
use Rattle.steps.specs.Symbols.{switches}
use Rattle.writer.proofs.TreeLaws.{gather_ready, lines-ready, row_walked}
use Rattle.writer.proofs.tree.visit_row.Goals as goal

pub sorted_ranges-len-requires : goal.sorted_ranges-len-requires
sorted_ranges-len-requires c =
    let a = c.args in
    gather_ready a.functions.columns64.now a.functions.columns32.now a.lines.columns64.now a.lines.columns32.now a.text.now a.base a.row.i a.row.first_line (length a.s.now) a.top c.requires.ready a.row.function c.requires.is

pub process_lines-callee_call_locations-requires : goal.process_lines-callee_call_locations-requires
process_lines-callee_call_locations-requires c =
    let a = c.args in
    lines-ready a.functions.columns64.now a.functions.columns32.now a.lines.columns64.now a.lines.columns32.now a.text.now a.base a.row.i a.row.first_line (length a.s.now) a.top c.requires.ready a.row.function c.requires.is
    a.own c.sorted_ranges-len.result c.requires.below a.s.now c.sorted_ranges-len.new.s c.sorted_ranges-len.auto.s c.sorted_ranges-len.ensures

pub returns-clause-left : goal.returns-clause-left
returns-clause-left c =
    let a = c.args in
    let q = a.row.function in
    let i = a.row.i in
    let first = a.row.first_line in
    let k = columns_of a.functions a.lines a.text.now in
    let address : (tree_row k i first).address ≡ q.address = tree_row-address k i first ∙ ap (λ (x : FunctionStruct). x.address) (sym c.requires.is) in
    let size : (tree_row k i first).size ≡ q.size = tree_row-size k i first ∙ ap (λ (x : FunctionStruct). x.size) (sym c.requires.is) in
    let inline : (tree_row k i first).inline ≡ q.inline = tree_row-inline k i first ∙ ap (λ (x : FunctionStruct). x.inline) (sym c.requires.is) in
    let low : q.address ≤ MAX = subst (λ (x : FunctionStruct). x.address ≤ MAX) (sym c.requires.is) (address_below k i first c.requires.visited) in
    let lines = c.process_lines-callee_call_locations in
    λ Y n.
    let X = switches a.undecorate Y in
    row_walked a.functions.columns64.now a.functions.columns32.now a.lines.columns64.now a.lines.columns32.now a.text.now a.base i first (length a.s.now) a.top c.requires.ready q c.requires.is
    a.own c.sorted_ranges-len.result c.requires.below X c.begin_row-function_idx.result lines.result a.s.now c.sorted_ranges-len.new.s lines.new.s c.set_calls.new.s
    (words_of a.tables.now) (words_of c.begin_row-function_idx.new.tables) (words_of lines.new.tables) (words_of c.close_function.new.tables)
    c.requires.visited c.sorted_ranges-len.ensures (lines.auto.s ∙ c.sorted_ranges-len.auto.s) c.begin_row-function_idx.ensures.begun
    (lines.ensures.left X a.functions.columns64.now a.functions.columns32.now i c.requires.is)
    (c.close_function.ensures.closed X (tree_row k i first) address size inline low) c.set_calls.ensures n
