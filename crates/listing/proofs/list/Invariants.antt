-- The invariant: what the calls from here on leave is what those from the first print on leave.
use Prim.Native.Nat.{◌-◌}
use mathlib.Core.Path.{◌≡◌}
use lib.ListN.{length, drop}
use Rattle.listing.specs.Pieces.{printed_out, list_from}
use Rattle.listing.proofs.list.Given as goal

abbrev pub invariant-loop-used : goal.invariant-loop-used
invariant-loop-used l =
    (length l.out ≡ length l.initial.out)
    × (list_from l.file l.cache l.input (printed_out l.printed.waiting l.printed.at l.out) l.used (drop l.used l.piece)
    ≡ list_from l.file l.cache l.initial.input (printed_out l.initial.printed.waiting l.initial.printed.at l.initial.out) l.initial.used (drop l.initial.used l.piece))

abbrev pub decreases-loop-used : goal.decreases-loop-used
decreases-loop-used l = length l.piece - l.used
