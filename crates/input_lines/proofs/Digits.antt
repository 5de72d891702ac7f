-- `digit_of` by the library's value of a digit.
use Rattle.std.proofs.Common.{◌≡◌, ℕ, ◌+◌, ◌%◌, ◌<◌, min, Bool, true, false, not, cond, leb, ltb, Option, Some, None, unwrap_or, sym, arith, tests}
use Rattle.std.specs.Char.{digit_value}
use Rattle.std.specs.Option.{SomeIff, is_some}
use borrow.Author.Tests.{lt-leb}
use Rattle.slices.proofs.Cases.{false-true}
use Rattle.input_lines.specs.Line.{digit_of}

below : (b : ℕ) → digit_value b < 16 → digit_of b ≡ digit_value b
unfolding digit_of
below b h = grind (arith, tests)

above : (b : ℕ) → (digit_value b < 16 → ⊥) → digit_of b ≡ 16
unfolding digit_of
above b h = grind (arith, tests)

-- a digit as it was read: its value, 0 where there is none, and whether there is none
pub digit_read : (b : ℕ) (o : Option ℕ) → SomeIff o (digit_value b < 16) (digit_value b) → unwrap_or o 0 ≡ digit_of b % 16
digit_read b None h = rw (above b h)
digit_read b (Some d) h = let e = below b h.0 in omega (arith, e, h.0, h.1)

pub digit-none : (b : ℕ) (o : Option ℕ) (r : Bool) → SomeIff o (digit_value b < 16) (digit_value b) → is_some o ≡ not r → r ≡ leb 16 (digit_of b)
digit-none b None true h e = rw (above b h)
digit-none b None false h e = false-true e
digit-none b (Some d) true h e = false-true (sym e)
digit-none b (Some d) false h e = sym (lt-leb 16 (digit_of b) (rw (below b h.0) h.0))

-- one byte more, up to 17
pub one_more : (d m n : ℕ) → m ≡ min (d + 1) 4294967295 → n ≡ min m 17 → n ≡ cond (ltb d 17) (d + 1) 17
one_more d m n e f = grind (arith, tests)
