use Prim.Native.Nat.{ℕ}
use mathlib.Core.Path.{ap, ◌∙◌}
use Rattle.std.specs.Prelude.{Option}
use Rattle.std.specs.Option.{unwrap_or}
use Rattle.tables.specs.Table.{width_of, lookup_of}
use Rattle.tables.proofs.Found.{or_found}
use Rattle.tables.proofs.Walk.{lookup_most, lookup_same}
use Rattle.tables.proofs.lookup.Goals as goal

pub returns : goal.returns
returns c =
    let a = c.args in
    let w = width_of c.by.result in
    c.unwrap_or.ensures ∙ ap (λ (x : Option ℕ). unwrap_or x a.n) c.find.ensures
    ∙ or_found a.n (lookup_of w a.t.now a.n a.row) (lookup_most w a.t.now a.n a.row) ∙ lookup_same w a.width c.by.ensures a.t.now a.n a.row
