-- `insert_entry` meets its contract.
use mathlib.Core.Path.{◌∙◌}
use Prim.Native.Nat.{◌%◌}
use Rattle.memory.specs.Memory.{words_of}
use Rattle.writer.proofs.TreeLaws.{entry-inline, entry-own, address_is}
use Rattle.writer.proofs.tree.insert_entry.Goals as goal

pub returns-then-q-clause-put : goal.returns-then-q-clause-put
returns-then-q-clause-put c =
    let a = c.args in
    λ X p ea ei h. entry-inline X p a.function_idx (words_of a.tables.now) (ei ∙ c.if-q.true)

pub returns-clause-put : goal.returns-clause-put
returns-clause-put c =
    let a = c.args in
    λ X p ea ei h.
    entry-own X p a.function_idx (words_of a.tables.now) (a.q.address % 4294967296) (words_of c.insert_source_location.new.tables)
    (ei ∙ c.if-q.false) (address_is p a.q ea h) (c.insert_source_location.ensures.put X)
