use borrow.Author.Tests.{lt-ltb, le-ltb}
use Rattle.strings.specs.Strings.{find_text, insert_text_at, insert_text_of}
use Rattle.tables.proofs.Found.{some_found, none_found}
use Rattle.strings.proofs.insert.Goals as goal

pub returns-then-is_empty : goal.returns-then-is_empty
unfolding insert_text_of
returns-then-is_empty c = rw (← c.if-is_empty.ensures)

pub returns-in-Some : goal.returns-in-Some
unfolding insert_text_of insert_text_at
returns-in-Some c =
    let k = some_found c.args.count (find_text c.args.text.now c.args.strings.now c.args.count c.args.t.now) c.in-Some.i c.in-Some.ensures in
    rw (← c.if-is_empty.ensures, ← k.is, lt-ltb _ _ k.below, c.from-found.ensures, c.row_at.ensures)

pub returns : goal.returns
unfolding insert_text_of insert_text_at
returns c =
    rw (← c.if-is_empty.ensures, le-ltb _ _ (none_found c.args.count (find_text c.args.text.now c.args.strings.now c.args.count c.args.t.now) c.in_default.ensures)) c.store.ensures
