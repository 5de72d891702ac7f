use Prim.Native.Nat.{◌-◌}
use mathlib.Core.Path.{sym, ap, ◌∙◌}
use Rattle.tables.proofs.Rows.{zero_is}
use Rattle.journal.specs.Undo.{set_entry}
use Rattle.journal.proofs.Undone.{ranges-done, ranges-turn}
use borrow.Author.Rules.{rules}
use Rattle.journal.proofs.ranges.undo_ranges.Goals as goal

pub loop-m-preserved : goal.loop-m-preserved
loop-m-preserved c =
    let a = c.args in (
      search rules,
      search rules,
      ranges-turn a.to c.loop-m.t c.loop-m.journal c.loop-m.m c.loop-m-test.true c.undo_at.ensures
          (c.set_entry.ensures ∙ ap (λ r. set_entry c.loop-m.journal (c.loop-m.m - 1) 0 0 r) (zero_is c.default.ensures)) c.loop-m.invariant.2,
    )

pub returns : goal.returns
returns c = let a = c.args in sym (ranges-done a.to c.loop-m.t c.loop-m.journal c.loop-m.m c.loop-m-test.false) ∙ c.loop-m.invariant.2
