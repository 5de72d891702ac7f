-- The invariant: printing from here on is printing from the start.
use Prim.Native.Nat.{◌-◌}
use mathlib.Core.Path.{◌≡◌}
use lib.ListN.{length}
use Rattle.listing.specs.declared.Waiting.TheVariants as waiting
use Rattle.listing.specs.Pieces.{print_of}
use Rattle.listing.proofs.print_frames.Given as goal

abbrev pub invariant-frames : goal.invariant-frames
invariant-frames l = (length l.out ≡ length l.initial.out) × (print_of l.file (waiting.Frames l.address l.walk) l.out l.at ≡ print_of l.file (waiting.Frames l.address l.initial.walk) l.initial.out l.at-2)

abbrev pub decreases-frames : goal.decreases-frames
decreases-frames l = length l.out - l.at
