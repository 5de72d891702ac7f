-- The place in the piece stays within it.
use Rattle.std.proofs.Common.{◌≤◌, length}
use Rattle.lister.proofs.list_piece.Given as goal

abbrev pub invariant-loop : goal.invariant-loop
invariant-loop g l = l.place.from ≤ length l.piece
