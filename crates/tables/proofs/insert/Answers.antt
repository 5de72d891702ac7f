use native.Mathlib.Omega.{arith}
use Rattle.std.proofs.lemmas.Grind.{common_steps}
use Rattle.tables.specs.Table.{lookup_of, newest_of, insert_at, insert_of}
use Rattle.tables.proofs.Found.{some_found, none_found}
use Rattle.tables.proofs.Walk.{walk_most}
use Rattle.tables.proofs.insert.Goals as goal

pub returns-in-Some : goal.returns-in-Some
unfolding insert_of insert_at lookup_of newest_of
returns-in-Some c = grind (arith, common_steps, some_found, none_found, walk_most)

pub returns-then-n-cap : goal.returns-then-n-cap
unfolding insert_of insert_at lookup_of newest_of
returns-then-n-cap c = grind (arith, common_steps, some_found, none_found, walk_most)

pub returns : goal.returns
unfolding insert_of insert_at lookup_of newest_of
returns c = grind (arith, common_steps, some_found, none_found, walk_most)
