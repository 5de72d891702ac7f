-- `find_call_location` meets its contract: from where the loop stands the cursor gets to where it got from the start.
use Prim.Native.Nat.{◌+◌, ◌*◌, ◌-◌}
use mathlib.Core.Path.{◌≡◌}
use Rattle.model.specs.Machine.{advance_m}
use Rattle.scratch.specs.Scratch.{refs_at}
use Rattle.writer.proofs.lines.find_call_location.Given as goal

abbrev pub invariant-loop-next_call_location : goal.invariant-loop-next_call_location
invariant-loop-next_call_location l =
    advance_m l.line_range_start l.initial.current_call_location (refs_at l.s (l.at + l.initial.next_call_location * 2) (l.len - l.initial.next_call_location))
    ≡ advance_m l.line_range_start l.current_call_location (refs_at l.s (l.at + l.next_call_location * 2) (l.len - l.next_call_location))
