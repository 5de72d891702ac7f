use Prim.Native.Nat.{ℕ}
use mathlib.Core.Path.{◌≡◌, ap, ◌∙◌}
use mathlib.Core.List.{List}
use Rattle.tables.specs.Table.{row_at, lookup_of, Left, left}
use Rattle.std.specs.Option.{unwrap_or}
use Rattle.tables.proofs.Found.{or_found}
use Rattle.tables.proofs.Walk.{lookup_most}
use Rattle.tables.specs.Kinds.{range_row_lem}
use Rattle.tables.specs.Ranges.{put_of}
use Rattle.journal.specs.Undo.{note_was, entry_after, put_noted_of, journaled, noted}
use Rattle.tables.specs.declared.Row.{Row}
use Rattle.tables.specs.declared.ranges.Change.{Change}
use Rattle.journal.proofs.ranges.put_noted.Goals as goal

law : (t : List ℕ) (n : ℕ) (j : List ℕ) (m : ℕ) (q : Row) {row : Row} {i : ℕ} {old : Row} {x : Left Change} {y : Left ℕ}
    → row ≡ q → i ≡ lookup_of 1 t n row → old ≡ row_at t i → x ≡ put_of t n q → y ≡ note_was j m x.got.was n i old
    → journaled (noted x.got y.got) x.table y.table ≡ put_noted_of t n j m q
unfolding put_noted_of entry_after
law t n j m q {row} {i} e0 e1 e2 e3 e4 = let e : i ≡ lookup_of 1 t n q = rw e0 at e1 in rw (← e3, ← e, ← e2, ← e4)

pub returns : goal.returns
returns c =
    let a = c.args in
    law a.t.now a.count a.journal.now a.entries (range_row_lem a.start a.loc) {x = left c.put-change.result c.put-change.new.t} {y = left c.note_was-noted.result c.note_was-noted.new.journal}
    c.from-row.ensures (c.unwrap_or-i.ensures ∙ ap (λ x. unwrap_or x a.count) c.find.ensures ∙ or_found a.count (lookup_of 1 a.t.now a.count c.from-row.result) (lookup_most 1 a.t.now a.count c.from-row.result)) c.row_at-old.ensures c.put-change.ensures c.note_was-noted.ensures
