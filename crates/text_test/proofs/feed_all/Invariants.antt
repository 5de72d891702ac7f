-- The loop keeps what `Line` says of the digit that waits, `high`, its second field.
use Prim.Native.Nat.{◌<◌}
use Rattle.std.specs.Option.{ForSome}
use Rattle.text_test.proofs.feed_all.Given as goal

abbrev pub invariant-loop-b : goal.invariant-loop-b
invariant-loop-b g l = ForSome l.now.1.0 (λ d. d < 16)
