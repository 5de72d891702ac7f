use mathlib.Core.Path.{◌≡◌, refl, ◌∙◌}
use mathlib.Core.Bool.{true}
use Prim.Native.Nat.{ℕ}
use native.Mathlib.Omega.{arith}
use lib.ListN.{length}
use Rattle.rows.specs.Columns.{Columns, columns_of}
use Rattle.refusals.specs.Refusals.{tree_refusal}
use Rattle.refusals.proofs.Accepted.{accepted}
use Rattle.memory.specs.Memory.{words_of}
use Rattle.memory.proofs.Same.{same_refl, same_trans}
use Rattle.steps.specs.Steps.{over_words}
use Rattle.scratch.proofs.Tree.{starts, ends}
use Rattle.steps.specs.Symbols.{switches}
use Rattle.writer.proofs.TreeLaws.{row-ready, first-low, row-after}
use Rattle.writer.proofs.tree.process_rows.Goals as goal

as_long : (k : Columns) {m n : ℕ} → m ≡ n → tree_refusal k n ≡ 0 → tree_refusal k m ≡ 0
as_long k e p = rw e p

pub loop-i-init : goal.loop-i-init
loop-i-init c =
    let a = c.args in
    let k = columns_of a.functions a.lines a.text.now in
    let s = c.read_ahead.new.s in (
      same_refl a.tables.now,
      λ Y. starts (over_words (switches a.undecorate Y)) k (length s) (words_of a.tables.now) (accepted k (length s) (as_long k c.read_ahead.auto.s c.requires)) refl s refl,
    )

pub process_row-requires : goal.process_row-requires
process_row-requires c =
    let a = c.args in
    let k = columns_of a.functions a.lines a.text.now in
    let n = length c.read_ahead.new.s in
    let l = c.loop-i in
    record {
      is = c.row-function.ensures;
      ready = rw c.len-base.ensures (row-ready k n (switches a.undecorate true) (words_of a.tables.now) (accepted k n (as_long k c.read_ahead.auto.s c.requires)) l.s l.i l.first_line (words_of l.tables) (l.invariant.1 true) (rw c.len-i-end.ensures at c.loop-i-test.true));
    }

pub loop-i-preserved : goal.loop-i-preserved
loop-i-preserved c =
    let a = c.args in
    let k = columns_of a.functions a.lines a.text.now in
    let n = length c.read_ahead.new.s in
    let l = c.loop-i in (
      same_trans a.tables.now l.tables c.process_row.new.tables l.invariant.0 c.process_row.ensures.same,
      λ Y.
          row-after k n (switches a.undecorate Y) (words_of a.tables.now) (accepted k n (as_long k c.read_ahead.auto.s c.requires)) l.s l.i l.first_line (words_of l.tables) (l.invariant.1 Y) (rw c.len-i-end.ensures at c.loop-i-test.true)
          c.row-function.result c.row-function.ensures c.process_row.new.s (words_of c.process_row.new.tables) (rw c.len-base.ensures at c.process_row.ensures.left Y) c.process_row.auto.s,
    )

pub returns-clause-converted : goal.returns-clause-converted
returns-clause-converted c =
    let a = c.args in
    let k = columns_of a.functions a.lines a.text.now in
    let n = length c.read_ahead.new.s in
    let l = c.loop-i in
    λ Y. ends (over_words (switches a.undecorate Y)) k n (words_of a.tables.now) (accepted k n (as_long k c.read_ahead.auto.s c.requires)) l.s l.i l.first_line (words_of l.tables) (l.invariant.1 Y) (rw c.len-i-end.ensures at c.loop-i-test.false)

-- the line rows up to the next row lie within the line rows
pub overflow_add-first_line : goal.overflow_add-first_line
overflow_add-first_line c =
    let a = c.args in
    let l = c.loop-i in
    let k = columns_of a.functions a.lines a.text.now in
    let n = length c.read_ahead.new.s in
    omega (
      arith,
      first-low k n (switches a.undecorate true) (words_of a.tables.now) (accepted k n (as_long k c.read_ahead.auto.s c.requires)) l.s l.i l.first_line (words_of l.tables) (l.invariant.1 true) (rw c.len-i-end.ensures at c.loop-i-test.true)
          c.row-function.result c.row-function.ensures,
    )
