use mathlib.Core.Path.{◌≡◌}
use lib.ListN.{length}
use Rattle.journal.specs.Undo.{undone_ranges}
use Rattle.journal.proofs.ranges.undo_ranges.Given as goal

abbrev pub invariant-loop-m : goal.invariant-loop-m
invariant-loop-m l = (length l.t ≡ length l.initial.t) × (length l.journal ≡ length l.initial.journal) × (undone_ranges l.to l.t l.journal l.m ≡ undone_ranges l.to l.initial.t l.initial.journal l.entries)
